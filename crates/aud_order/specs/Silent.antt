-- Transactions that no other transaction can see.
use Rattle.std.specs.Prelude.{ℕ, Bool, true, not, if◌then◌else◌, Option, Some, None}
use Rattle.std.specs.List.{list_all}
use Rattle.aud_event.specs.declared.fact.Event.{Event}
use Rattle.aud_event.specs.declared.fact.Event.TheVariants.{Inv}
use Rattle.aud_event.specs.Objects.{is_observing}
use Rattle.aud_history.specs.Histories.{History, events_of, is_in}
use Rattle.aud_history.specs.Table.{RowOf}
use Rattle.aud_witness.specs.declared.decision.Fate.{Fate}
use Rattle.aud_witness.specs.declared.decision.Fate.TheVariants.{C, A}
use Rattle.aud_witness.specs.Orders.{is_allowed}
use Rattle.aud_witness.specs.Configurations.{status_allows}

-- an event that invokes no operation but an observing one
abbrev pub leaves_objects : Event → Bool
leaves_objects (Inv _ op) = is_observing op
leaves_objects _ = true

-- the silent fate, by whether the transaction may commit and whether all its operations are observing
abbrev pub silent_by : Bool → Bool → Option Fate
silent_by may_commit observes = if not may_commit then Some A else (if observes then Some C else None)

-- the silent fate of T in H: A where every completion aborts T, C where T may commit and all its operations are observing
abbrev pub silent_fate : History → ℕ → Option Fate
silent_fate h t = if is_in h t then silent_by (is_allowed h t C) (list_all leaves_objects (events_of t h)) else None

-- the same of a row of the table
abbrev pub silent_row : RowOf → Option Fate
silent_row r = silent_by (status_allows r.status C) (list_all (λ x. is_observing x.op) r.block.executions)

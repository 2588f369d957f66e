-- A cursor over the good prefixes.
use Rattle.std.specs.Prelude.{◌≡◌, ℕ, ◌<◌, ◌-◌, Bool, true, false, List, [], ◌∷◌, ◌++◌, length, take, Option, Some, None, Ok, slice_index_or}
use Rattle.aud_history.specs.WellFormed.{IsWellFormed}
use Rattle.aud_history.specs.FirstFault.{IsWithinLimits}
use Rattle.aud_history.specs.Table.{RowOf, table_of, transactions}
use Rattle.aud_witness.specs.declared.decision.Decision.{Decision}
use Rattle.aud_witness.specs.declared.fault.OrderFault.{OrderFault}
use Rattle.aud_witness.specs.declared.fault.OrderFault.TheVariants.{UnknownTx, Twice, FateNotAllowed, RealTime, Illegal, Missing}
use Rattle.aud_witness.specs.OrderFaults.{is_good_next, place_fault}
use Rattle.aud_witness.specs.Orders.{IsGood, IsGoodNext}
use Rattle.aud_witness.specs.Configurations.{Configuration, first_configuration, stepped}
use Rattle.aud_witness.specs.Placings.{PlacingOf}
use Rattle.aud_order.specs.declared.pushed.Pushed.{Pushed}
use Rattle.aud_order.specs.declared.pushed.Pushed.TheVariants as reported
use Rattle.aud_order.specs.Shapes.{ShapeOf, plan_of, objects_of, history_of}

-- how contracts see a cursor
pub record CursorOf : Type 0 where
  pub shape : ShapeOf
  pub path : List Decision

-- a cursor at the prefix, which is good; or none, and it is not
abbrev pub IsCursorAfter : ShapeOf → List Decision → Option CursorOf → Type 0
IsCursorAfter shape p None = IsGood (objects_of shape) (history_of shape) p → ⊥
IsCursorAfter shape p (Some c) = (c ≡ record { shape = shape; path = p }) × IsGood (objects_of shape) (history_of shape) p

-- the decision is good after those of the cursor
abbrev pub IsGoodAt : CursorOf → Decision → Type 0
IsGoodAt c d = IsGoodNext (objects_of c.shape) (history_of c.shape) c.path d

-- the same as a test
abbrev pub is_good_at : CursorOf → Decision → Bool
is_good_at c d = is_good_next (objects_of c.shape) (history_of c.shape) c.path d

-- the cursor one decision further
abbrev pub cursor_with : CursorOf → Decision → CursorOf
cursor_with c d = record { shape = c.shape; path = c.path ++ d ∷ [] }

-- the cursor without its last decision, if it has one
abbrev pub cursor_back : CursorOf → CursorOf
cursor_back c = record { shape = c.shape; path = take (length c.path - 1) c.path }

-- the transaction of the row at the place
abbrev pub transaction_at : CursorOf → ℕ → ℕ
transaction_at c place = slice_index_or (transactions (history_of c.shape)) place 0

-- what a cursor says of a decision in which something is wrong
abbrev pub pushed_by_fault : OrderFault → Pushed
pushed_by_fault (UnknownTx _) = reported.NotAChoice
pushed_by_fault (Twice _) = reported.NotAChoice
pushed_by_fault (FateNotAllowed _) = reported.NotAChoice
pushed_by_fault (RealTime _) = reported.NotEnabled
pushed_by_fault (Illegal _) = reported.Illegal
pushed_by_fault (Missing _) = reported.NotAChoice

-- what a cursor says of a decision, by what is wrong with it
abbrev pub pushed_by : Option OrderFault → Pushed
pushed_by None = reported.Good
pushed_by (Some fault) = pushed_by_fault fault

-- what a cursor says of a decision
abbrev pub pushed_at : CursorOf → Decision → Pushed
pushed_at c d = pushed_by (place_fault (objects_of c.shape) (history_of c.shape) c.path d)

-- the decisions lead from the first configuration to a configuration, over the configurations after it, the last one first
abbrev pub Leads : List RowOf → Configuration → List Decision → Configuration → List Configuration → Type 0
Leads rows root path s [] = (path ≡ []) × (s ≡ root)
Leads rows root path s (t ∷ past) =
    (p : List Decision) × ((d : Decision) × ((path ≡ p ++ d ∷ []) × (stepped rows t d ≡ Ok s) × Leads rows root p t past))

-- the rows up to a place are placed
abbrev pub ArePlaced : List Bool → ℕ → Type 0
ArePlaced placed count = (k : ℕ) → k < count → slice_index_or placed k false ≡ true

-- a cursor over the shape stands where its decisions led
pub record IsAt (shape : ShapeOf) (p : PlacingOf) (first_open : ℕ) : Type 0 where
  pub fine : IsWellFormed (history_of shape)
  pub fits : IsWithinLimits (plan_of shape) (history_of shape)
  pub rows : p.agenda.rows ≡ table_of (history_of shape)
  pub leads : Leads (table_of (history_of shape)) (first_configuration (table_of (history_of shape)) (objects_of shape)) p.path p.configuration p.past
  pub opens : ArePlaced p.configuration.placed first_open

-- What sums are in each order that shows a history.
use Rattle.std.specs.Prelude.{◌≡◌, ℕ, ℤ, true, [], Some, slice_get}
use Rattle.aud_event.specs.Meanings.{Declared}
use Rattle.aud_kinds.specs.Objects.{counter, set_of, opening_of}
use Rattle.judge_clauses.specs.Clauses.{KnownFactsOf, Always}
use Rattle.search_model.specs.declared.quantity.Quantity.{Quantity}
use Rattle.aud_history.specs.Histories.{is_in}
use Rattle.aud_history.specs.Table.{row_of}
use Rattle.search_model.specs.Quantities.{net_of, asked}
use Rattle.judge_sums.specs.Sums.{total}

-- in each order that shows the history those before R come to this number
abbrev pub ComesTo : KnownFactsOf → Quantity → ℕ → ℤ → Type 0
ComesTo f quantity r n = Always f (λ p. total f.history (net_of f.history quantity) p r ≡ n)

-- the object is a counter that opens at the number
abbrev pub CountsFrom : KnownFactsOf → ℕ → ℤ → Type 0
CountsFrom f x v = (d : Declared) × ((slice_get f.plan.objects x ≡ Some d) × (opening_of d ≡ counter v))

-- the object is a set, which opens empty
abbrev pub IsSet : KnownFactsOf → ℕ → Type 0
IsSet f x = (d : Declared) × ((slice_get f.plan.objects x ≡ Some d) × (opening_of d ≡ set_of []))

-- R in H has to find the number, by its own answers
abbrev pub IsAskedBy : KnownFactsOf → ℕ → Quantity → ℤ → Type 0
IsAskedBy f r quantity n = (is_in f.history r ≡ true) × (asked quantity (row_of f.history r).block.executions ≡ Some n)

-- What is known of queues where a clause does not hold.
use Rattle.std.specs.Prelude.{◌≡◌, ℕ, ◌<◌, ℤ, true, false, List, [], Some, slice_get}
use Rattle.aud_event.specs.declared.object.Answer.{Answer}
use Rattle.aud_event.specs.declared.object.Answer.TheVariants.{Int}
use Rattle.aud_event.specs.Meanings.{Declared}
use Rattle.aud_object.specs.declared.execution.Execution.{Execution}
use Rattle.aud_kinds.specs.Objects.{queue, opening_of}
use Rattle.aud_history.specs.Histories.{is_in}
use Rattle.aud_history.specs.Table.{RowOf, row_of, table_of}
use Rattle.aud_witness.specs.Orders.{stands_before}
use Rattle.judge_clauses.specs.declared.clause.Atom.TheVariants.{Item}
use Rattle.judge_clauses.specs.declared.clause.Literal.{Literal}
use Rattle.judge_clauses.specs.declared.clause.Take.{Take}
use Rattle.judge_clauses.specs.Clauses.{KnownFactsOf, is_kept_in, says, Always, Unless}
use Rattle.search_model.specs.Blocks.{added, added_of, takes_value, Asks}

-- the object is a queue, which opens empty
abbrev pub IsQueue : KnownFactsOf → ℕ → Type 0
IsQueue f x = (d : Declared) × ((slice_get f.plan.objects x ≡ Some d) × (opening_of d ≡ queue []))

-- T is in the history, and after so many takes and so many additions it asks the queue for an item, and gets the answer
abbrev pub AsksIn : KnownFactsOf → ℕ → ℕ → ℕ → ℕ → Answer → Type 0
AsksIn f t x takes adds answer = (is_in f.history t ≡ true) × Asks x (row_of f.history t).block.executions takes adds answer

-- the take is there, of this value, after so many own additions
abbrev pub IsTaken : KnownFactsOf → Take → ℤ → ℕ → Type 0
IsTaken f take v adds = AsksIn f take.taker take.object take.number adds (Int v)

-- none of the first additions of the value among the executions, so many, is what is taken
abbrev pub NoItem : KnownFactsOf → List Literal → Take → ℕ → ℤ → ℕ → List Execution → Type 0
NoItem f c take a v limit es = (i : ℕ) → i < limit → slice_get (added take.object es) i ≡ Some v → Unless f c (λ p. says f.history p (Item take a i) ≡ false)

-- where the row commits and stands before the taker, none of its additions of the value is what is taken
abbrev pub IsNoAdder : KnownFactsOf → List Literal → Take → ℤ → RowOf → Type 0
IsNoAdder f c take v row =
    (i : ℕ) → slice_get (added take.object row.block.executions) i ≡ Some v →
    Unless f c (λ p. is_kept_in p row.tx ≡ true → stands_before p row.tx take.taker ≡ true → says f.history p (Item take row.tx i) ≡ false)

-- of each row that commits and stands before the taker, none of its additions of the value is what is taken
abbrev pub AreNoAdders : KnownFactsOf → List Literal → Take → ℤ → Type 0
AreNoAdders f c take v = (k : ℕ) (row : RowOf) → slice_get (table_of f.history) k ≡ Some row → IsNoAdder f c take v row

-- a transaction does not commit, or does not stand before the other one
abbrev pub NeverAdds : KnownFactsOf → ℕ → ℕ → Type 0
NeverAdds f a t = Always f (λ p. is_kept_in p a ≡ true → stands_before p a t ≡ true → ⊥)

-- the row does not take the value and stand before T and commit
abbrev pub IsNoTaker : KnownFactsOf → List Literal → ℕ → ℤ → ℕ → RowOf → Type 0
IsNoTaker f c x v t row = takes_value x v row.block.executions ≡ true → Unless f c (λ p. is_kept_in p row.tx ≡ true → stands_before p row.tx t ≡ true → ⊥)

-- no row takes the value and stands before T and commits
abbrev pub AreNoTakers : KnownFactsOf → List Literal → ℕ → ℤ → ℕ → Type 0
AreNoTakers f c x v t = (k : ℕ) (row : RowOf) → slice_get (table_of f.history) k ≡ Some row → IsNoTaker f c x v t row

-- an item of B of the value stood in front of those of A, and neither T nor any before T takes it
pub record IsStuck (f : KnownFactsOf) (c : List Literal) (x : ℕ) (v : ℤ) (t a b : ℕ) : Type 0 where
  pub adds : (i : ℕ) × (slice_get (added_of f.history x b) i ≡ Some v)
  pub not_own : takes_value x v (row_of f.history t).block.executions ≡ false
  pub front : Unless f c (λ p. stands_before p b a ≡ true)
  pub kept : Unless f c (λ p. is_kept_in p b ≡ true)
  pub others : AreNoTakers f c x v t

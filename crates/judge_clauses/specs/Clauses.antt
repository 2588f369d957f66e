-- Clauses of literals, and what they say of the orders that show a history.
use Rattle.std.specs.Prelude.{◌≡◌, ℕ, ◌+◌, ◌<◌, Bool, true, false, not, ◌&&◌, if◌then◌else◌, nat_eq, List, Option, Some, None, slice_index_or, []}
use Rattle.std.specs.List.{list_any, list_all}
use Rattle.aud_event.specs.Meanings.{PlanOf}
use Rattle.aud_history.specs.Histories.{History}
use Rattle.aud_witness.specs.declared.decision.Decision.{Decision}
use Rattle.aud_witness.specs.Orders.{is_kept, stands_before, Shows}
use Rattle.judge_clauses.specs.declared.clause.Atom.{Atom}
use Rattle.judge_clauses.specs.declared.clause.Atom.TheVariants.{Before, Commits, Source, Opening, Item}
use Rattle.judge_clauses.specs.declared.clause.Literal.{Literal}
use Rattle.judge_clauses.specs.declared.clause.Read.{Read}
use Rattle.judge_clauses.specs.declared.clause.Take.{Take}
use Rattle.search_model.specs.Cells.{changes, last_of}
use Rattle.search_model.specs.Queues.{taken_before, adder}

-- # Atoms

-- T has fate C in p
abbrev pub is_kept_in : List Decision → ℕ → Bool
is_kept_in p t = list_any (λ d. nat_eq d.tx t && is_kept d) p

abbrev pub is_just : Option ℕ → ℕ → Bool
is_just None w = false
is_just (Some v) w = nat_eq v w

abbrev pub is_nothing : Option ℕ → Bool
is_nothing None = true
is_nothing (Some _) = false

abbrev pub is_addition_of : Option (ℕ × ℕ) → ℕ → ℕ → Bool
is_addition_of None a i = false
is_addition_of (Some found) a i = nat_eq found.0 a && nat_eq found.1 i

-- the last with fate C before the reader that changes the cell
abbrev pub source_of : History → List Decision → Read → Option ℕ
source_of h p read = last_of (changes h read.cell read.object) p read.reader None

-- who added what is taken, and which of its additions that is
abbrev pub item_of : History → List Decision → Take → Option (ℕ × ℕ)
item_of h p take = adder h take.object p take.taker (taken_before h take.object p take.taker + take.number)

-- what the atom says of p
abbrev pub says : History → List Decision → Atom → Bool
says h p (Before t u) = stands_before p t u
says h p (Commits t) = is_kept_in p t
says h p (Source read w) = is_just (source_of h p read) w
says h p (Opening read) = is_nothing (source_of h p read)
says h p (Item take a i) = is_addition_of (item_of h p take) a i

-- the atom of the number
abbrev pub atom_at : List Atom → ℕ → Atom
atom_at atoms k = slice_index_or atoms k (Before 0 0)

-- # Clauses, where each number has a value

abbrev pub is_true : (ℕ → Bool) → Literal → Bool
is_true v l = if l.holds then v l.atom else not (v l.atom)

abbrev pub are_true : (ℕ → Bool) → List Literal → Bool
are_true v ls = list_all (is_true v) ls

-- some literal of the clause is true
abbrev pub holds : (ℕ → Bool) → List Literal → Bool
holds v c = list_any (is_true v) c

-- the clause of the place; past the end one without literals
abbrev pub clause_at : List (List Literal) → ℕ → List Literal
clause_at clauses k = slice_index_or clauses k []

-- where the first clauses, so many, hold, this one does
abbrev pub Follows : List (List Literal) → ℕ → List Literal → Type 0
Follows clauses count c = (v : ℕ → Bool) → ((k : ℕ) → k < count → holds v (clause_at clauses k) ≡ true) → holds v c ≡ true

-- # Clauses of a history

-- how contracts see what steps are checked against
pub record KnownFactsOf : Type 0 where
  pub plan : PlanOf
  pub history : History
  pub atoms : List Atom

-- what numbers mean in p
abbrev pub meaning : KnownFactsOf → List Decision → ℕ → Bool
meaning f p k = says f.history p (atom_at f.atoms k)

-- in each order that shows the history something is so
abbrev pub Always : KnownFactsOf → (List Decision → Type 0) → Type 0
Always f so = (p : List Decision) → Shows f.plan.objects f.history p → so p

-- in each order that shows the history, and where the clause does not hold, something is so
abbrev pub Unless : KnownFactsOf → List Literal → (List Decision → Type 0) → Type 0
Unless f c so = (p : List Decision) → Shows f.plan.objects f.history p → holds (meaning f p) c ≡ false → so p

-- in each order that shows the history, and where the literal does not hold, something is so
abbrev pub UnlessOne : KnownFactsOf → Literal → (List Decision → Type 0) → Type 0
UnlessOne f l so = (p : List Decision) → Shows f.plan.objects f.history p → is_true (meaning f p) l ≡ false → so p

-- in each order that shows the history the clause holds
abbrev pub IsValid : KnownFactsOf → List Literal → Type 0
IsValid f c = Always f (λ p. holds (meaning f p) c ≡ true)

-- the first clauses, so many, hold in each of them
abbrev pub AreValid : KnownFactsOf → List (List Literal) → ℕ → Type 0
AreValid f clauses count = (k : ℕ) → k < count → IsValid f (clause_at clauses k)

-- T stands before U in p, or is U
abbrev pub IsUpTo : List Decision → ℕ → ℕ → Type 0
IsUpTo p t u = (nat_eq t u ≡ false) → stands_before p t u ≡ true

-- What one and the same atom of each row is.
use Rattle.std.specs.Prelude.{◌≡◌, ℕ, Bool, List, Option, Some, slice_get}
use Rattle.aud_history.specs.Table.{RowOf, table_of}
use Rattle.judge_clauses.specs.declared.clause.Atom.{Atom}
use Rattle.judge_clauses.specs.declared.clause.Atom.TheVariants.{Before, Commits, Source}
use Rattle.judge_clauses.specs.declared.clause.Literal.{Literal}
use Rattle.judge_clauses.specs.declared.question.Question.{Question}
use Rattle.judge_clauses.specs.declared.question.Question.TheVariants.{StandsBefore, DoesCommit, IsSource}
use Rattle.judge_clauses.specs.Clauses.{says, KnownFactsOf, Unless, UnlessOne}

-- what is asked of T
abbrev pub atom_of : Question → ℕ → Atom
atom_of (StandsBefore u) t = Before t u
atom_of DoesCommit t = Commits t
atom_of (IsSource read) t = Source read t

-- what stands at a row's place is the value of the row's atom where the clause does not hold
abbrev pub AreValues : KnownFactsOf → List Literal → (ℕ → Atom) → List (Option Bool) → Type 0
AreValues f c about values =
    (k : ℕ) (row : RowOf) (b : Bool) → slice_get (table_of f.history) k ≡ Some row → slice_get values k ≡ Some (Some b) → Unless f c (λ p. says f.history p (about row.tx) ≡ b)

-- the value is that of the atom of the row at the place, where the literal does not hold
abbrev pub HasValueAt : KnownFactsOf → Literal → (ℕ → Atom) → ℕ → Bool → Type 0
HasValueAt f l about k b = (row : RowOf) → slice_get (table_of f.history) k ≡ Some row → UnlessOne f l (λ p. says f.history p (about row.tx) ≡ b)

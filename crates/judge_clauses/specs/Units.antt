-- What a clause leaves where literals are taken to hold.
use Rattle.std.specs.Prelude.{◌≡◌, ℕ, ◌<◌, Bool, true, false, List}
use Rattle.judge_clauses.specs.declared.clause.Literal.{Literal}
use Rattle.judge_clauses.specs.declared.units.Left.{Left}
use Rattle.judge_clauses.specs.declared.units.Left.TheVariants.{Nothing, One, Many}
use Rattle.judge_clauses.specs.Clauses.{is_true, are_true, holds, clause_at}

-- whether what is left may be true
abbrev pub may_hold : (ℕ → Bool) → Left → Bool
may_hold v Nothing = false
may_hold v (One l) = is_true v l
may_hold v Many = true

-- where the literals are true and the clause holds, so does what it leaves
abbrev pub Leaves : List Literal → List Literal → Left → Type 0
Leaves trail clause left = (v : ℕ → Bool) → are_true v trail ≡ true → holds v clause ≡ true → may_hold v left ≡ true

-- where the clause does not hold, the literals are true
abbrev pub AssumesUnless : List Literal → List Literal → Type 0
AssumesUnless clause trail = (v : ℕ → Bool) → holds v clause ≡ false → are_true v trail ≡ true

-- where the first clauses hold and the clause does not, the literals are true
abbrev pub Assumes : List (List Literal) → ℕ → List Literal → List Literal → Type 0
Assumes clauses count clause trail =
    (v : ℕ → Bool) → ((k : ℕ) → k < count → holds v (clause_at clauses k) ≡ true) → holds v clause ≡ false → are_true v trail ≡ true

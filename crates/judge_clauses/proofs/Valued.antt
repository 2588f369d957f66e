-- Tables of values, by the places of rows.
use Rattle.std.specs.Prelude.{◌≡◌, ℕ, zero, suc, ◌+◌, Bool, List, [], ◌∷◌, ◌++◌, length, Option, Some, None, IfSome, slice_get, slice_set, refl, ◌⊎◌}
use Rattle.std.proofs.Common.{sym, ◌∙◌, ap, subst, inl, inr, arith, length-append}
use Rattle.aud_history.specs.Table.{RowOf, table_of}
use Rattle.aud_witness.specs.declared.decision.Decision.{Decision}
use Rattle.judge_clauses.specs.declared.clause.Atom.{Atom}
use Rattle.judge_clauses.specs.declared.clause.Literal.{Literal}
use Rattle.judge_clauses.specs.Clauses.{says, KnownFactsOf, Always}
use Rattle.judge_clauses.specs.Values.{AreValues, HasValueAt}
use Rattle.judge_clauses.proofs.Knowing.{valued-in}

-- what stands in a list after a write
pub set-get : {X : Type 0} (xs : List X) (k j : ℕ) (v w : X) → slice_get (slice_set xs k v) j ≡ Some w → ((k ≡ j) × (v ≡ w)) ⊎ (slice_get xs j ≡ Some w)
set-get [] k j v w at = inr at
set-get (x ∷ xs) zero zero v w at = let same : v ≡ w = cc in inl (refl, same)
set-get (x ∷ xs) zero (suc j) v w at = inr at
set-get (x ∷ xs) (suc k) zero v w at = inr at
set-get (x ∷ xs) (suc k) (suc j) v w at =
    elim (set-get xs k j v w at) [
      | inl here ↦ inl (ap suc here.0, here.1)
      | inr other ↦ inr other
    ]

-- what stands in a list after a push
pub push-get : {X : Type 0} (xs : List X) (j : ℕ) (v w : X) → slice_get (xs ++ v ∷ []) j ≡ Some w → ((j ≡ length xs) × (v ≡ w)) ⊎ (slice_get xs j ≡ Some w)
push-get [] zero v w at = let same : v ≡ w = cc in inl (refl, same)
push-get [] (suc j) v w at = absurd (cc)
push-get (x ∷ xs) zero v w at = inr at
push-get (x ∷ xs) (suc j) v w at =
    elim (push-get xs j v w at) [
      | inl here ↦ inl (ap suc here.0, here.1)
      | inr other ↦ inr other
    ]

-- what is known of an atom, by its other name
pub sure-as : (f : KnownFactsOf) (o : Option Bool) (a named : Atom) → IfSome o (λ b. Always f (λ p. says f.history p a ≡ b)) → a ≡ named → (b : Bool) → o ≡ Some b → Always f (λ p. says f.history p named ≡ b)
sure-as f None a named known same b is = absurd (cc)
sure-as f (Some d) a named known same b is = λ p shown. ap (says f.history p) (sym same) ∙ known p shown ∙ (let e : d ≡ b = cc in e)

pub length-push : {X : Type 0} (xs : List X) (v : X) (n : ℕ) → length xs ≡ n → length (xs ++ v ∷ []) ≡ n + 1
length-push xs v n is = omega (arith, length-append xs (v ∷ []), is)

module _ (f : KnownFactsOf) (c : List Literal) (about : ℕ → Atom) (values : List (Option Bool)) where
  -- one more row
  pub valued-push : (row : RowOf) (v : Option Bool) → slice_get (table_of f.history) (length values) ≡ Some row → ((b : Bool) → v ≡ Some b → Always f (λ p. says f.history p (about row.tx) ≡ b)) →
      AreValues f c about values → AreValues f c about (values ++ v ∷ [])
  valued-push row v at sure valued k other b at_k value p shown broken =
      elim (push-get values k v (Some b) value) [
        | inl here ↦
            let same : row ≡ other = let e : slice_get (table_of f.history) (length values) ≡ Some other = subst (λ n. slice_get (table_of f.history) n ≡ Some other) here.0 at_k in cc in
            subst (λ (r : RowOf). says f.history p (about r.tx) ≡ b) same (sure b here.1 p shown)
        | inr before ↦ valued k other b at_k before p shown broken
      ]

  -- what a literal tells
  pub valued-set : (j k : ℕ) (l : Literal) (v : Bool) → slice_get c j ≡ Some l → HasValueAt f l about k v → AreValues f c about values → AreValues f c about (slice_set values k (Some v))
  valued-set j k l v at tells valued i row b at_i value p shown broken =
      elim (set-get values k i (Some v) (Some b) value) [
        | inl here ↦
            let same : v ≡ b = let e = here.1 in cc in
            let at_k : slice_get (table_of f.history) k ≡ Some row = subst (λ n. slice_get (table_of f.history) n ≡ Some row) (sym here.0) at_i in
            valued-in f c j l (λ (q : List Decision). says f.history q (about row.tx) ≡ v) at (tells row at_k) p shown broken ∙ same
        | inr before ↦ valued i row b at_i before p shown broken
      ]

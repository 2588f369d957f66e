-- What atoms are in each order that shows, and where a clause does not hold.
use Rattle.std.specs.Prelude.{◌≡◌, ℕ, Bool, true, false, not, nat_eq, List, Some, slice_get, refl}
use Rattle.std.proofs.Common.{sym, ◌∙◌, ap, subst, inl, inr, cond}
use Rattle.base_values.proofs.Bools.{is_false}
use Rattle.aud_history.specs.Histories.{is_in, is_before}
use Rattle.aud_witness.specs.declared.decision.Decision.{Decision}
use Rattle.aud_witness.specs.declared.decision.Fate.TheVariants.{C, A}
use Rattle.aud_witness.specs.Orders.{is_allowed, stands_before}
use Rattle.aud_witness.proofs.Blocks.{stands_before-total}
use Rattle.judge_clauses.specs.declared.clause.Atom.{Atom}
use Rattle.judge_clauses.specs.declared.clause.Literal.{Literal}
use Rattle.judge_clauses.specs.Clauses.{is_kept_in, says, atom_at, is_true, holds, meaning, KnownFactsOf, Always, Unless, UnlessOne}
use Rattle.judge_clauses.proofs.Holding.{holds-from}
use Rattle.judge_clauses.proofs.Standing.{stands_before-apart, stands_before-itself}
use Rattle.judge_clauses.proofs.Validity.{kept-allowed, must-keep}

-- an atom whose literal is not true
off-literal : (h a : Bool) → cond h a (not a) ≡ false → a ≡ not h
off-literal true true is = absurd (cc)
off-literal true false is = refl
off-literal false true is = refl
off-literal false false is = absurd (cc)

not-not : (b : Bool) → not (not b) ≡ b
not-not true = refl
not-not false = refl

opposites : (a b : Bool) → (a ≡ true → b ≡ true → ⊥) → (b ≡ false → a ≡ true) → a ≡ not b
opposites true true apart one = absurd (apart refl refl)
opposites true false apart one = refl
opposites false true apart one = refl
opposites false false apart one = absurd (let is : false ≡ true = one refl in cc)

module _ (f : KnownFactsOf) where
  pub always-itself : (t u : ℕ) → t ≡ u → Always f (λ p. stands_before p t u ≡ false)
  always-itself t u same p shown = is_false (stands_before p t u) (λ front. stands_before-itself p t shown.full.once (subst (λ n. stands_before p t n ≡ true) (sym same) front))

  pub always-before : (t u : ℕ) → is_before f.history t u ≡ true → Always f (λ p. stands_before p t u ≡ true)
  always-before t u before p shown = shown.real_time t u before

  pub always-behind : (t u : ℕ) → is_before f.history u t ≡ true → Always f (λ p. stands_before p t u ≡ false)
  always-behind t u before p shown = is_false (stands_before p t u) (λ front. stands_before-apart p t u shown.full.once front (shown.real_time u t before))

  pub always-kept : (t : ℕ) → is_in f.history t ≡ true → is_allowed f.history t A ≡ false → Always f (λ p. is_kept_in p t ≡ true)
  always-kept t there never p shown = must-keep f.plan.objects f.history p t shown there never

  pub always-unkept : (t : ℕ) → is_allowed f.history t C ≡ false → Always f (λ p. is_kept_in p t ≡ false)
  always-unkept t never p shown = is_false (is_kept_in p t) (λ kept. let may : is_allowed f.history t C ≡ true = kept-allowed f.plan.objects f.history p t shown kept in cc)

  pub always-two : (t u : ℕ) → nat_eq t u ≡ false → is_in f.history t ≡ true → is_in f.history u ≡ true → Always f (λ p. stands_before p t u ≡ not (stands_before p u t))
  always-two t u differ there_t there_u p shown =
      opposites (stands_before p t u) (stands_before p u t) (stands_before-apart p t u shown.full.once)
      (λ behind. elim (stands_before-total p t u (shown.full.same t ∙ there_t) (shown.full.same u ∙ there_u) differ) [ inl first ↦ first | inr second ↦ absurd (cc) ])

  -- an atom of a literal that does not hold
  pub valued-itself : (l : Literal) (a : Atom) → atom_at f.atoms l.atom ≡ a → UnlessOne f l (λ p. says f.history p a ≡ not l.holds)
  valued-itself l a named p shown off = sym (ap (says f.history p) named) ∙ off-literal l.holds (says f.history p (atom_at f.atoms l.atom)) off

  pub valued-turned : (l : Literal) (a b : Atom) → atom_at f.atoms l.atom ≡ a → Always f (λ p. says f.history p b ≡ not (says f.history p a)) → UnlessOne f l (λ p. says f.history p b ≡ l.holds)
  valued-turned l a b named turned p shown off = turned p shown ∙ ap not (valued-itself l a named p shown off) ∙ not-not l.holds

  -- what a literal of a clause says where it does not hold
  pub valued-in : (c : List Literal) (k : ℕ) (l : Literal) (so : List Decision → Type 0) → slice_get c k ≡ Some l → UnlessOne f l so → Unless f c so
  valued-in c k l so at tells p shown broken =
      tells p shown (is_false (is_true (meaning f p) l) (λ true_. let whole : holds (meaning f p) c ≡ true = holds-from (meaning f p) c k l at true_ in cc))

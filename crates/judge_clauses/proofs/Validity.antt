-- Which clauses hold in each order that shows a history.
use Rattle.std.specs.Prelude.{◌≡◌, ℕ, ◌+◌, length, true, false, ◌&&◌, nat_eq, List, [], ◌∷◌, ◌++◌, refl, ◌⊎◌}
use Rattle.std.specs.List.{list_all}
use Rattle.std.proofs.Common.{sym, ◌∙◌, ap, subst, inl, inr, arith, below_more}
use Rattle.aud_event.specs.Meanings.{Declared}
use Rattle.base_values.proofs.Bools.{or_true, and_true, true_and, true_or, or_right, split, nat_eq-refl, nat_eq-is}
use Rattle.aud_history.specs.Histories.{History, is_in}
use Rattle.aud_witness.specs.declared.decision.Decision.{Decision}
use Rattle.aud_witness.specs.declared.decision.Fate.{Fate}
use Rattle.aud_witness.specs.declared.decision.Fate.TheVariants.{C, A}
use Rattle.aud_witness.specs.Orders.{is_kept, is_allowed, Shows}
use Rattle.aud_witness.proofs.Beginnings.{allowed_at}
use Rattle.aud_witness.proofs.Good.{place_of}
use Rattle.judge_clauses.specs.declared.clause.Literal.{Literal}
use Rattle.judge_clauses.specs.Clauses.{is_kept_in, holds, meaning, Unless, KnownFactsOf, IsValid, clause_at, Follows, AreValid, IsUpTo}
use Rattle.judge_clauses.proofs.Standing.{stands_before-turn, stands_before-itself}
use Rattle.aud_witness.specs.Orders.{stands_before}

-- what follows from valid clauses is valid
pub valid-follows : (f : KnownFactsOf) (clauses : List (List Literal)) (count : ℕ) (c : List Literal) → AreValid f clauses count → Follows clauses count c → IsValid f c
valid-follows f clauses count c valid follows p shown = follows (meaning f p) (λ k low. valid k low p shown)

-- a valid clause without literals refutes
pub valid-nothing : (f : KnownFactsOf) → IsValid f [] → (p : List Decision) → Shows f.plan.objects f.history p → ⊥
valid-nothing f valid p shown = absurd (let wrong : false ≡ true = valid p shown in cc)

-- one more valid clause
pub valid-more : (f : KnownFactsOf) (clauses : List (List Literal)) (count : ℕ) → AreValid f clauses count → IsValid f (clause_at clauses count) → AreValid f clauses (count + 1)
valid-more f clauses count valid next = below_more (λ k. IsValid f (clause_at clauses k)) count valid next

-- a valid clause of length 0
pub valid-empty : (f : KnownFactsOf) (c : List Literal) → length c ≡ 0 → IsValid f c → IsValid f []
valid-empty f [] none valid = valid
valid-empty f (l ∷ c) none valid = absurd (omega arith)

-- a clause that cannot but hold is valid
pub valid-unless : (f : KnownFactsOf) (c : List Literal) → Unless f c (λ p. ⊥) → IsValid f c
valid-unless f c never p shown =
    elim (split (holds (meaning f p) c)) [
      | inl is_so ↦ is_so
      | inr not_so ↦ absurd (never p shown not_so)
    ]

-- # Circles

up-to-next : (f : KnownFactsOf) (p : List Decision) (t u v : ℕ) → Shows f.plan.objects f.history p → IsUpTo p t u → stands_before p u v ≡ true → stands_before p t v ≡ true
up-to-next f p t u v shown up next =
    elim (split (nat_eq t u)) [
      | inl same ↦ subst (λ n. stands_before p n v ≡ true) (sym (nat_eq-is t u same)) next
      | inr other ↦ stands_before-turn p t u v shown.full.once (up other) next
    ]

module _ (f : KnownFactsOf) (c : List Literal) where
  pub unless-itself : (t : ℕ) → Unless f c (λ p. IsUpTo p t t)
  unless-itself t p shown broken other = absurd (let same : nat_eq t t ≡ true = nat_eq-refl t in cc)

  pub unless-next : (t u v : ℕ) → Unless f c (λ p. IsUpTo p t u) → Unless f c (λ p. stands_before p u v ≡ true) → Unless f c (λ p. IsUpTo p t v)
  unless-next t u v up next p shown broken other = up-to-next f p t u v shown (up p shown broken) (next p shown broken)

  -- a circle cannot be
  pub valid-circle : (t u : ℕ) → Unless f c (λ p. IsUpTo p t u) → Unless f c (λ p. stands_before p u t ≡ true) → IsValid f c
  valid-circle t u up back =
      valid-unless f c (λ p shown broken. stands_before-itself p t shown.full.once (up-to-next f p t u t shown (up p shown broken) (back p shown broken)))

-- # Fates

-- a kept decision stands somewhere
kept-place : (p : List Decision) (t : ℕ) → is_kept_in p t ≡ true → (a : List Decision) × ((d : Decision) × ((b : List Decision) × ((p ≡ a ++ d ∷ b) × (d.tx ≡ t) × (is_kept d ≡ true))))
kept-place [] t kept = absurd (cc)
kept-place (x ∷ p) t kept =
    elim (or_true (nat_eq x.tx t && is_kept x) (is_kept_in p t) kept) [
      | inl here ↦ ([], (x, (p, (refl, nat_eq-is x.tx t (and_true (nat_eq x.tx t) (is_kept x) here).0, (and_true (nat_eq x.tx t) (is_kept x) here).1))))
      | inr later ↦
          let (a, (d, (b, (whole, is_t, is)))) = kept-place p t later in
          (x ∷ a, (d, (b, (ap (λ l. x ∷ l) whole, is_t, is))))
    ]

kept-at : (a : List Decision) (d : Decision) (b : List Decision) → is_kept d ≡ true → is_kept_in (a ++ d ∷ b) d.tx ≡ true
kept-at [] d b is = true_or (nat_eq d.tx d.tx && is_kept d) (is_kept_in b d.tx) (true_and (nat_eq d.tx d.tx) (is_kept d) (nat_eq-refl d.tx) is)
kept-at (x ∷ a) d b is = or_right (nat_eq x.tx d.tx && is_kept x) (is_kept_in (a ++ d ∷ b) d.tx) (kept-at a d b is)

kept-fate : (f : Fate) → (elim f [ C ↦ true | A ↦ false ]) ≡ true → f ≡ C
kept-fate C is = refl
kept-fate A is = absurd (cc)

fate-or : (f : Fate) → (f ≡ C) ⊎ (f ≡ A)
fate-or C = inl refl
fate-or A = inr refl

-- what is kept may be
pub kept-allowed : (objects : List Declared) (h : History) (p : List Decision) (t : ℕ) → Shows objects h p → is_kept_in p t ≡ true → is_allowed h t C ≡ true
kept-allowed objects h p t shown kept =
    let (a, (d, (b, (whole, is_t, is)))) = kept-place p t kept in
    let allowed : is_allowed h d.tx d.fate ≡ true = allowed_at h a d b (subst (λ l. list_all (λ x. is_allowed h x.tx x.fate) l ≡ true) whole shown.full.allowed) in
    subst (λ n. is_allowed h n C ≡ true) is_t (subst (λ f. is_allowed h d.tx f ≡ true) (kept-fate d.fate is) allowed)

-- what cannot be otherwise is kept
pub must-keep : (objects : List Declared) (h : History) (p : List Decision) (t : ℕ) → Shows objects h p → is_in h t ≡ true → is_allowed h t A ≡ false → is_kept_in p t ≡ true
must-keep objects h p t shown there never =
    let (a, (d, (b, (whole, is_t, _)))) = place_of p t (shown.full.same t ∙ there) in
    let allowed : is_allowed h d.tx d.fate ≡ true = allowed_at h a d b (subst (λ l. list_all (λ x. is_allowed h x.tx x.fate) l ≡ true) whole shown.full.allowed) in
    elim (fate-or d.fate) [
      | inl commits ↦
          let kept : is_kept d ≡ true = ap (λ f. elim f [ C ↦ true | A ↦ false ]) commits in
          ap (λ l. is_kept_in l t) whole ∙ ap (is_kept_in (a ++ d ∷ b)) (sym is_t) ∙ kept-at a d b kept
      | inr aborts ↦ absurd (let wrong : is_allowed h t A ≡ true = subst (λ n. is_allowed h n A ≡ true) is_t (subst (λ f. is_allowed h d.tx f ≡ true) aborts allowed) in cc)
    ]

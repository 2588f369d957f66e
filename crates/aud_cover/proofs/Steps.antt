-- Whether a prefix is closed, by its mark and its kids.
use Rattle.std.specs.Prelude.{◌≡◌, ◌≢◌, ◌↔◌, ℕ, ◌+◌, ◌-◌, ◌<◌, ◌≤◌, Bool, true, false, IsTrue, List, [], ◌∷◌, ◌++◌, length, refl}
use Rattle.std.specs.List.{Contains}
use Rattle.std.proofs.Common.{sym, ◌∙◌, ap, subst, inl, inr, arith, get_or, take}
use Rattle.std.proofs.lemmas.List.{take_more, take_all}
use Rattle.std.proofs.lemmas.List.Elements.{Contains-push_cases, Contains-get_or}
use Rattle.aud_event.specs.Meanings.{Declared}
use Rattle.base_values.proofs.Bools.{split}
use Rattle.aud_history.specs.Histories.{History}
use Rattle.aud_witness.specs.declared.decision.Fate.TheVariants.{C}
use Rattle.aud_witness.specs.declared.decision.Decision.{Decision}
use Rattle.aud_witness.specs.Orders.{IsFull, IsGood, IsGoodNext}
use Rattle.aud_witness.proofs.Good.{IsGood-push, IsGood-last}
use Rattle.aud_order.specs.Shapes.{objects_of, history_of}
use Rattle.aud_order.specs.Cursors.{CursorOf}
use Rattle.aud_order.specs.Kids.{AreKids}
use Rattle.aud_order.proofs.Lists.{length-push, take-push}
use Rattle.aud_cover.specs.Closings.{IsCovered, IsInside, IsClosed, covered, bad, by_kids}

abbrev pub no_decision : Decision
no_decision = record { tx = 0; fate = C }

-- the cursor one decision further, and at some decisions
abbrev pub cursor_with : CursorOf → Decision → CursorOf
cursor_with c d = record { shape = c.shape; path = c.path ++ d ∷ [] }

abbrev pub cursor_at : CursorOf → List Decision → CursorOf
cursor_at c p = record { shape = c.shape; path = p }

module _ (objects : List Declared) (h : History) (cover : List (List Decision)) where
  -- a good prefix that is not covered is closed only by its kids
  only_by_kids : (p : List Decision) → IsGood objects h p → (IsCovered cover p → ⊥) → IsClosed objects h cover p →
      (IsFull h p → ⊥) × (IsInside cover p × ((d : Decision) → IsGood objects h (p ++ d ∷ []) → IsClosed objects h cover (p ++ d ∷ [])))
  only_by_kids p good apart (covered there) = absurd (apart there)
  only_by_kids p good apart (bad none) = absurd (none good)
  only_by_kids p good apart (by_kids unfull inside kids) = (unfull, (inside, kids))

  pub at-covered : (p : List Decision) → IsCovered cover p → IsTrue true ↔ IsClosed objects h cover p
  at-covered p there = ((λ _. covered there), λ _. refl)

  pub at-bad : (p : List Decision) → (IsGood objects h p → ⊥) → IsTrue true ↔ IsClosed objects h cover p
  at-bad p none = ((λ _. bad none), λ _. refl)

  pub at-outside : (p : List Decision) → IsGood objects h p → (IsCovered cover p → ⊥) × (IsInside cover p → ⊥) → IsTrue false ↔ IsClosed objects h cover p
  at-outside p good none = ((λ e. absurd (cc)), λ closed. absurd (none.1 (only_by_kids p good none.0 closed).1.0))

  pub at-full : (p : List Decision) → IsGood objects h p → (IsCovered cover p → ⊥) × IsInside cover p → IsFull h p → IsTrue false ↔ IsClosed objects h cover p
  at-full p good inner full = ((λ e. absurd (cc)), λ closed. absurd ((only_by_kids p good inner.0 closed).0 full))

  -- one kid is not closed
  pub at-open_kid : (p : List Decision) (d : Decision) (b : Bool) → IsGood objects h p → (IsCovered cover p → ⊥) × IsInside cover p → IsGoodNext objects h p d →
      (IsTrue b ↔ IsClosed objects h cover (p ++ d ∷ [])) → b ≡ false → IsTrue false ↔ IsClosed objects h cover p
  at-open_kid p d b good inner next reported fails = (
    (λ e. absurd (cc)),
    λ closed. let clash : b ≡ true = reported.1 ((only_by_kids p good inner.0 closed).1.1 d (IsGood-push objects h p d good next)) in absurd (cc),
  )

  -- all kids are closed
  pub at-kids : (p : List Decision) (ks : List Decision) (n : ℕ) → (IsCovered cover p → ⊥) × IsInside cover p → (IsFull h p → ⊥) → AreKids objects h p ks → length ks ≤ n →
      ((d : Decision) → Contains (take n ks) d → IsClosed objects h cover (p ++ d ∷ [])) → IsTrue true ↔ IsClosed objects h cover p
  at-kids p ks n inner unfull kids past all = (
    (λ _. by_kids unfull inner.1 (λ d good. all d (subst (λ l. Contains l d) (sym (take_all n ks past)) ((kids.each d).1 (IsGood-last objects h p d good))))),
    λ _. refl,
  )

  pub closed-more : (p ks : List Decision) (n : ℕ) (b : Bool) → n < length ks → ((e : Decision) → Contains (take n ks) e → IsClosed objects h cover (p ++ e ∷ [])) →
      (IsTrue b ↔ IsClosed objects h cover (p ++ get_or ks n no_decision ∷ [])) → b ≡ true →
      (e : Decision) → Contains (take (n + 1) ks) e → IsClosed objects h cover (p ++ e ∷ [])
  closed-more p ks n b inside before reported holds e member =
      elim (Contains-push_cases (take n ks) (get_or ks n no_decision) e (subst (λ (l : List Decision). Contains l e) (take_more ks n no_decision inside) member)) [
        | inl old ↦ before e old
        | inr same ↦ subst (λ (x : Decision). IsClosed objects h cover (p ++ x ∷ [])) same (reported.0 holds)
      ]

-- # With a cursor

abbrev pub IsGoodAt : CursorOf → Decision → Type 0
IsGoodAt c d = IsGoodNext (objects_of c.shape) (history_of c.shape) c.path d

abbrev pub IsClosedAt : List (List Decision) → CursorOf → Type 0
IsClosedAt cover c = IsClosed (objects_of c.shape) (history_of c.shape) cover c.path

-- a kid at its place is good
pub kid-good : (start cur : CursorOf) (kids ks : List Decision) (n : ℕ) → AreKids (objects_of start.shape) (history_of start.shape) start.path kids → ks ≡ kids → n < length ks → cur ≡ start →
    IsGoodAt cur (get_or ks n no_decision)
kid-good start cur kids ks n are same inside is =
    subst (λ (c : CursorOf). IsGoodAt c (get_or ks n no_decision)) (sym is)
    ((are.each (get_or ks n no_decision)).0 (subst (λ (l : List Decision). Contains l (get_or ks n no_decision)) same (Contains-get_or ks n no_decision inside)))

-- a step and the step back
pub cursor-back : (start old pushed again new : CursorOf) (d : Decision) (r : Bool) → old ≡ start → pushed ≡ cursor_with old d → again ≡ pushed →
    (r ≡ false → (again.path ≡ []) × (new ≡ again)) → (r ≡ true → (again.path ≢ []) × (new ≡ cursor_at again (take (length again.path - 1) again.path))) → new ≡ start
cursor-back start old pushed again new d r is grown same root back =
    elim (split r) [
      | inl holds ↦
          (back holds).1 ∙ (λ i. cursor_at (there i) (take (length (there i).path - 1) (there i).path))
          ∙ ap (λ l. cursor_at old l) (take-push old.path d) ∙ is
      | inr fails ↦
          let none : old.path ++ d ∷ [] ≡ [] = ap (λ (c : CursorOf). c.path) (sym there) ∙ (root fails).0 in
          let long : length (old.path ++ d ∷ []) ≡ 0 = ap length none in
          let more : length (old.path ++ d ∷ []) ≡ length old.path + 1 = length-push old.path d in
          absurd (omega arith)
    ]
  where
    there : again ≡ cursor_with old d
    there = same ∙ grown

-- what is reported of a kid
pub kid-reported : (cover : List (List Decision)) (start cur pushed : CursorOf) (d : Decision) (b : Bool) → cur ≡ start → pushed ≡ cursor_with cur d →
    (IsTrue b ↔ IsClosedAt cover pushed) → IsTrue b ↔ IsClosedAt cover (cursor_with start d)
kid-reported cover start cur pushed d b is grown reported =
    subst (λ (c : CursorOf). IsTrue b ↔ IsClosedAt cover c) (grown ∙ ap (λ (c : CursorOf). cursor_with c d) is) reported

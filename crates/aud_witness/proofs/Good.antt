-- Good prefixes, step by step, and full good ones.
use Rattle.std.proofs.Common.{◌≡◌, ℕ, true, false, not, ◌&&◌, ◌||◌, nat_eq, ◌⊎◌, inl, inr, List, [], ◌∷◌, ◌++◌, refl, sym, ◌∙◌, ap, subst, append_assoc}
use Rattle.aud_event.specs.Meanings.{Declared}
use Rattle.aud_witness.specs.declared.decision.Decision.{Decision}
use Rattle.aud_history.specs.Histories.{History, is_in, is_before, is_completed, from_first}
use Rattle.aud_kinds.specs.Objects.{IsLegal}
use Rattle.aud_witness.specs.Orders.{is_named, stands_before, visible, IsFull, Shows, IsGoodNext, IsGood}
use Rattle.base_values.proofs.Bools.{or_true, and_true, true_and, true_or, or_right, split, nat_eq-refl, nat_eq-is}
use Rattle.aud_witness.proofs.Beginnings.{is_named-append, visible_at}

not_empty : {X : Type 0} (xs : List X) (x : X) (ys : List X) → [] ≡ xs ++ x ∷ ys → ⊥
not_empty [] x ys e = cc
not_empty (y ∷ xs) x ys e = cc

-- a place in a list with one more at its end is that end, or a place of the list
place_in_push : (p : List Decision) (d : Decision) (before : List Decision) (e : Decision) (rest : List Decision) →
    p ++ d ∷ [] ≡ before ++ e ∷ rest → ((p ≡ before) × (d ≡ e)) ⊎ ((r : List Decision) × (p ≡ before ++ e ∷ r))
place_in_push [] d [] e rest eq = inl (refl, cc)
place_in_push [] d (x ∷ before) e rest eq =
    let tail : [] ≡ before ++ e ∷ rest = cc in absurd (not_empty before e rest tail)
place_in_push (y ∷ p) d [] e rest eq = let same : y ≡ e = cc in inr (p, ap (λ z. z ∷ p) same)
place_in_push (y ∷ p) d (x ∷ before) e rest eq =
    let head : y ≡ x = cc in
    let tail : p ++ d ∷ [] ≡ before ++ e ∷ rest = cc in
    elim (place_in_push p d before e rest tail) [
      | inl (here, same) ↦ let both : y ∷ p ≡ x ∷ before = cc in inl (both, same)
      | inr (r, inside) ↦ let both : y ∷ p ≡ x ∷ (before ++ e ∷ r) = cc in inr (r, both)
    ]

-- the empty prefix is good
pub IsGood-empty : (objects : List Declared) (h : History) → IsGood objects h []
IsGood-empty objects h before d rest e = absurd (not_empty before d rest e)

-- a good prefix and a decision that is good after it
pub IsGood-push : (objects : List Declared) (h : History) (p : List Decision) (d : Decision) → IsGood objects h p → IsGoodNext objects h p d → IsGood objects h (p ++ d ∷ [])
IsGood-push objects h p d good next before e rest eq =
    elim (place_in_push p d before e rest eq) [
      | inl (here, same) ↦ subst (λ x. IsGoodNext objects h before x) same (subst (λ b. IsGoodNext objects h b d) here next)
      | inr (r, inside) ↦ good before e r inside
    ]

pub IsGood-last : (objects : List Declared) (h : History) (p : List Decision) (d : Decision) → IsGood objects h (p ++ d ∷ []) → IsGoodNext objects h p d
IsGood-last objects h p d good = good p d [] refl

pub IsGood-beginning : (objects : List Declared) (h : History) (p q : List Decision) → IsGood objects h (p ++ q) → IsGood objects h p
IsGood-beginning objects h p q good before d rest e =
    good before d (rest ++ q) (ap (λ l. l ++ q) e ∙ append_assoc before (d ∷ rest) q)

-- where a transaction is first named
pub place_of : (p : List Decision) (t : ℕ) → is_named p t ≡ true →
    (before : List Decision) × ((d : Decision) × ((rest : List Decision) × ((p ≡ before ++ d ∷ rest) × (d.tx ≡ t) × (is_named before t ≡ false))))
place_of [] t h = absurd (cc)
place_of (x ∷ p) t h =
    elim (split (nat_eq x.tx t)) [
      | inl same ↦ ([], (x, (p, (refl, nat_eq-is x.tx t same, refl))))
      | inr other ↦
          let behind : is_named p t ≡ true = sym (ap (λ b. b || is_named p t) other) ∙ h in
          let (before, (d, (rest, (e, is_t, new)))) = place_of p t behind in
          (x ∷ before, (d, (rest, (ap (λ l. x ∷ l) e, is_t, ap (λ b. b || is_named before t) other ∙ new))))
    ]

pub stands_at : (p : List Decision) (d : Decision) (q : List Decision) (t : ℕ) → is_named p t ≡ true → stands_before (p ++ d ∷ q) t d.tx ≡ true
stands_at [] d q t h = absurd (cc)
stands_at (x ∷ p) d q t h =
    elim (or_true (nat_eq x.tx t) (is_named p t) h) [
      | inl l ↦ true_or (nat_eq x.tx t && is_named (p ++ d ∷ q) d.tx) (stands_before (p ++ d ∷ q) t d.tx)
          (true_and (nat_eq x.tx t) (is_named (p ++ d ∷ q) d.tx) l
          (is_named-append p (d ∷ q) d.tx ∙ or_right (is_named p d.tx) (is_named (d ∷ q) d.tx) (true_or (nat_eq d.tx d.tx) (is_named q d.tx) (nat_eq-refl d.tx))))
      | inr r ↦ or_right (nat_eq x.tx t && is_named (p ++ d ∷ q) d.tx) (stands_before (p ++ d ∷ q) t d.tx) (stands_at p d q t r)
    ]

-- a full good prefix shows
pub Shows-from_IsGood : (objects : List Declared) (h : History) (p : List Decision) → IsFull h p → IsGood objects h p → Shows objects h p
Shows-from_IsGood objects h p full good = record {
  full = full;
  real_time = λ t u before.
      let there : is_in h u ≡ true = (and_true (is_completed h t) (is_in h u) ((and_true (is_completed h t && is_in h u) (not (is_in (from_first u h) t)) before).0)).1 in
      let (a, (d, (b, (e, is_u, new)))) = place_of p u (full.same u ∙ there) in
      let earlier : is_named a t ≡ true = (good a d b e).enabled t (subst (λ x. is_before h t x ≡ true) (sym is_u) before) in
      subst (λ l. stands_before l t u ≡ true) (sym e) (subst (λ x. stands_before (a ++ d ∷ b) t x ≡ true) is_u (stands_at a d b t earlier));
  legal = λ t named.
      let (a, (d, (b, (e, is_t, new)))) = place_of p t named in
      let new_d : is_named a d.tx ≡ false = subst (λ x. is_named a x ≡ false) (sym is_t) new in
      let seen : IsLegal objects (visible h (a ++ d ∷ b) d.tx) = subst (λ es. IsLegal objects es) (sym (visible_at h a d b new_d)) (good a d b e).legal in
      subst (λ l. IsLegal objects (visible h l t)) (sym e) (subst (λ x. IsLegal objects (visible h (a ++ d ∷ b) x)) is_t seen);
}

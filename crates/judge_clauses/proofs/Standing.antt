-- Standing before in an order that names each transaction once.
use Rattle.std.specs.Prelude.{◌≡◌, ℕ, true, ◌&&◌, nat_eq, List, [], ◌∷◌, ◌++◌}
use Rattle.std.proofs.Common.{sym, ◌∙◌, ap, subst, inl, inr, append_assoc}
use Rattle.base_values.proofs.Bools.{or_true, and_true, true_and, true_or, or_right, nat_eq-refl}
use Rattle.aud_witness.specs.declared.decision.Decision.{Decision}
use Rattle.aud_witness.specs.Orders.{is_named, are_named_once, stands_before}
use Rattle.aud_witness.proofs.Beginnings.{is_named-append, second_is_named, first_is_named}
use Rattle.aud_witness.proofs.Good.{place_of, stands_at}

-- what is named after one stands after it
pub stands-behind : (m : List Decision) (d : Decision) (b : List Decision) (n : ℕ) → is_named b n ≡ true → stands_before (m ++ d ∷ b) d.tx n ≡ true
stands-behind [] d b n named = true_or (nat_eq d.tx d.tx && is_named b n) (stands_before b d.tx n) (true_and (nat_eq d.tx d.tx) (is_named b n) (nat_eq-refl d.tx) named)
stands-behind (x ∷ m) d b n named = or_right (nat_eq x.tx d.tx && is_named (m ++ d ∷ b) n) (stands_before (m ++ d ∷ b) d.tx n) (stands-behind m d b n named)

-- of two that stand one before the other the first is named in front of the second
pub stands-in_front : (p a : List Decision) (d : Decision) (b : List Decision) (u t : ℕ) → are_named_once p ≡ true → p ≡ a ++ d ∷ b → d.tx ≡ t → stands_before p u t ≡ true → is_named a u ≡ true
stands-in_front p a d b u t once whole is_t before =
    let once_at : are_named_once (a ++ d ∷ b) ≡ true = subst (λ l. are_named_once l ≡ true) whole once in
    let before_at : stands_before (a ++ d ∷ b) u d.tx ≡ true = subst (λ l. stands_before l u d.tx ≡ true) whole (subst (λ n. stands_before p u n ≡ true) (sym is_t) before) in
    first_is_named a d b u once_at before_at

-- the first of two that stand one before the other is named
pub first-named : (p : List Decision) (t u : ℕ) → stands_before p t u ≡ true → is_named p t ≡ true
first-named [] t u h = absurd (cc)
first-named (x ∷ p) t u h =
    elim (or_true (nat_eq x.tx t && is_named p u) (stands_before p t u) h) [
      | inl l ↦ true_or (nat_eq x.tx t) (is_named p t) (and_true (nat_eq x.tx t) (is_named p u) l).0
      | inr r ↦ or_right (nat_eq x.tx t) (is_named p t) (first-named p t u r)
    ]

pub stands_before-turn : (p : List Decision) (u v t : ℕ) → are_named_once p ≡ true → stands_before p u v ≡ true → stands_before p v t ≡ true → stands_before p u t ≡ true
stands_before-turn p u v t once first second =
    let (a, (d, (b, (whole, is_t, _)))) = place_of p t (second_is_named p v t second) in
    let early : is_named a v ≡ true = stands-in_front p a d b v t once whole is_t second in
    let (m, (e, (r, (front, is_v, _)))) = place_of a v early in
    let all : p ≡ m ++ e ∷ (r ++ d ∷ b) = whole ∙ ap (λ l. l ++ d ∷ b) front ∙ append_assoc m (e ∷ r) (d ∷ b) in
    let earlier : is_named m u ≡ true = stands-in_front p m e (r ++ d ∷ b) u v once all is_v first in
    let named : is_named a u ≡ true = ap (λ l. is_named l u) front ∙ is_named-append m (e ∷ r) u ∙ true_or (is_named m u) (is_named (e ∷ r) u) earlier in
    subst (λ l. stands_before l u t ≡ true) (sym whole) (subst (λ n. stands_before (a ++ d ∷ b) u n ≡ true) is_t (stands_at a d b u named))

pub stands_before-itself : (p : List Decision) (t : ℕ) → are_named_once p ≡ true → stands_before p t t ≡ true → ⊥
stands_before-itself p t once before =
    let (a, (d, (b, (whole, is_t, fresh)))) = place_of p t (second_is_named p t t before) in
    let early : is_named a t ≡ true = stands-in_front p a d b t t once whole is_t before in
    cc

pub stands_before-apart : (p : List Decision) (u t : ℕ) → are_named_once p ≡ true → stands_before p u t ≡ true → stands_before p t u ≡ true → ⊥
stands_before-apart p u t once first second = stands_before-itself p u once (stands_before-turn p u t u once first second)

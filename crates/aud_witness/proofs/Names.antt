-- The names of transactions do not matter.
use Rattle.std.proofs.Common.{◌≡◌, ℕ, true, false, cond, not, ◌&&◌, ◌||◌, nat_eq, inl, inr, List, [], ◌∷◌, ◌++◌, refl, sym, ◌∙◌, ap, subst}
use Rattle.std.specs.List.{list_any, list_all}
use Rattle.aud_event.specs.Meanings.{Declared}
use Rattle.aud_witness.specs.declared.decision.Decision.{Decision}
use Rattle.aud_history.specs.Histories.{History, events_of, is_in, is_commit, is_abort, is_completed, is_before, from_first}
use Rattle.aud_kinds.specs.Objects.{IsLegal}
use Rattle.aud_witness.specs.Orders.{is_allowed, block, is_kept, is_named, are_named_once, stands_before, visible, Shows}
use Rattle.aud_witness.specs.Sameness.{renamed, renamed_order}
use Rattle.base_values.proofs.Bools.{split, nat_eq-refl, nat_eq-is}
use Rattle.aud_witness.proofs.Interleavings.{is_allowed-same, block-same}

-- r tells numbers apart as they are
abbrev Keeps : (ℕ → ℕ) → Type 0
Keeps r = (a b : ℕ) → nat_eq (r a) (r b) ≡ nat_eq a b

Keeps-from_inverse : (r q : ℕ → ℕ) → ((t : ℕ) → q (r t) ≡ t) → Keeps r
Keeps-from_inverse r q back a b =
    elim (split (nat_eq a b)) [
      | inl is_b ↦ ap (λ n. nat_eq (r n) (r b)) (nat_eq-is a b is_b) ∙ nat_eq-refl (r b) ∙ sym is_b
      | inr off ↦
          elim (split (nat_eq (r a) (r b))) [
            | inl meet ↦
                let e : a ≡ b = sym (back a) ∙ ap q (nat_eq-is (r a) (r b) meet) ∙ back b in
                let again : nat_eq a b ≡ true = subst (λ n. nat_eq a n ≡ true) e (nat_eq-refl a) in
                absurd (cc)
            | inr apart ↦ apart ∙ sym off
          ]
    ]

events_of-renamed : (r : ℕ → ℕ) → Keeps r → (h : History) (t : ℕ) → events_of (r t) (renamed r h) ≡ events_of t h
events_of-renamed r k [] t = refl
events_of-renamed r k (e ∷ h) t =
    ap (λ b. cond b (e.1 ∷ events_of (r t) (renamed r h)) (events_of (r t) (renamed r h))) (k e.0 t) ∙ ap (λ l. cond (nat_eq e.0 t) (e.1 ∷ l) l) (events_of-renamed r k h t)

is_in-renamed : (r : ℕ → ℕ) → Keeps r → (h : History) (t : ℕ) → is_in (renamed r h) (r t) ≡ is_in h t
is_in-renamed r k [] t = refl
is_in-renamed r k (e ∷ h) t = ap (λ b. b || is_in (renamed r h) (r t)) (k e.0 t) ∙ ap (λ b. nat_eq e.0 t || b) (is_in-renamed r k h t)

from_first-renamed : (r : ℕ → ℕ) → Keeps r → (h : History) (u : ℕ) → from_first (r u) (renamed r h) ≡ renamed r (from_first u h)
from_first-renamed r k [] u = refl
from_first-renamed r k (e ∷ h) u =
    ap (λ b. cond b ((r e.0, e.1) ∷ renamed r h) (from_first (r u) (renamed r h))) (k e.0 u)
    ∙ elim (nat_eq e.0 u) as (λ b. cond b ((r e.0, e.1) ∷ renamed r h) (from_first (r u) (renamed r h)) ≡ renamed r (cond b (e ∷ h) (from_first u h))) [
      | true ↦ refl
      | false ↦ from_first-renamed r k h u
    ]

is_before-renamed : (r : ℕ → ℕ) → Keeps r → (h : History) (t u : ℕ) → is_before (renamed r h) (r t) (r u) ≡ is_before h t u
is_before-renamed r k h t u =
    ap (λ es. ((list_any is_commit es || list_any is_abort es) && is_in (renamed r h) (r u)) && not (is_in (from_first (r u) (renamed r h)) (r t))) (events_of-renamed r k h t)
    ∙ ap (λ b. (is_completed h t && b) && not (is_in (from_first (r u) (renamed r h)) (r t))) (is_in-renamed r k h u)
    ∙ ap (λ l. (is_completed h t && is_in h u) && not (is_in l (r t))) (from_first-renamed r k h u)
    ∙ ap (λ b. (is_completed h t && is_in h u) && not b) (is_in-renamed r k (from_first u h) t)

is_named-renamed : (r : ℕ → ℕ) → Keeps r → (p : List Decision) (t : ℕ) → is_named (renamed_order r p) (r t) ≡ is_named p t
is_named-renamed r k [] t = refl
is_named-renamed r k (d ∷ p) t = ap (λ b. b || is_named (renamed_order r p) (r t)) (k d.tx t) ∙ ap (λ b. nat_eq d.tx t || b) (is_named-renamed r k p t)

once-renamed : (r : ℕ → ℕ) → Keeps r → (p : List Decision) → are_named_once (renamed_order r p) ≡ are_named_once p
once-renamed r k [] = refl
once-renamed r k (d ∷ p) =
    ap (λ b. not b && are_named_once (renamed_order r p)) (is_named-renamed r k p d.tx) ∙ ap (λ b. not (is_named p d.tx) && b) (once-renamed r k p)

stands_before-renamed : (r : ℕ → ℕ) → Keeps r → (p : List Decision) (t u : ℕ) → stands_before (renamed_order r p) (r t) (r u) ≡ stands_before p t u
stands_before-renamed r k [] t u = refl
stands_before-renamed r k (d ∷ p) t u =
    ap (λ b. (b && is_named (renamed_order r p) (r u)) || stands_before (renamed_order r p) (r t) (r u)) (k d.tx t)
    ∙ ap (λ b. (nat_eq d.tx t && b) || stands_before (renamed_order r p) (r t) (r u)) (is_named-renamed r k p u)
    ∙ ap (λ b. (nat_eq d.tx t && is_named p u) || b) (stands_before-renamed r k p t u)

allowed-renamed : (r : ℕ → ℕ) → Keeps r → (h : History) (p : List Decision) →
    list_all (λ d. is_allowed (renamed r h) d.tx d.fate) (renamed_order r p) ≡ list_all (λ d. is_allowed h d.tx d.fate) p
allowed-renamed r k h [] = refl
allowed-renamed r k h (d ∷ p) =
    ap (λ b. b && list_all (λ x. is_allowed (renamed r h) x.tx x.fate) (renamed_order r p)) (is_allowed-same (renamed r h) h (r d.tx) d.tx d.fate (events_of-renamed r k h d.tx))
    ∙ ap (λ b. is_allowed h d.tx d.fate && b) (allowed-renamed r k h p)

visible-renamed : (r : ℕ → ℕ) → Keeps r → (h : History) (p : List Decision) (t : ℕ) → visible (renamed r h) (renamed_order r p) (r t) ≡ visible h p t
visible-renamed r k h [] t = refl
visible-renamed r k h (d ∷ p) t =
    ap (λ b. cond b (block (renamed r h) (record { tx = r d.tx; fate = d.fate })) (cond (is_kept d) (block (renamed r h) (record { tx = r d.tx; fate = d.fate }) ++ visible (renamed r h) (renamed_order r p) (r t)) (visible (renamed r h) (renamed_order r p) (r t)))) (k d.tx t)
    ∙ ap (λ l. cond (nat_eq d.tx t) l (cond (is_kept d) (l ++ visible (renamed r h) (renamed_order r p) (r t)) (visible (renamed r h) (renamed_order r p) (r t))))
    (block-same (renamed r h) h (r d.tx) d.tx d.fate (events_of-renamed r k h d.tx))
    ∙ ap (λ l. cond (nat_eq d.tx t) (block h d) (cond (is_kept d) (block h d ++ l) l)) (visible-renamed r k h p t)

Shows-renamed : (objects : List Declared) (h : History) (p : List Decision) (r q : ℕ → ℕ) → ((t : ℕ) → q (r t) ≡ t) → ((t : ℕ) → r (q t) ≡ t) →
    Shows objects h p → Shows objects (renamed r h) (renamed_order r p)
Shows-renamed objects h p r q back forth s =
    let k : Keeps r = Keeps-from_inverse r q back in
    record {
      full = record {
        once = once-renamed r k p ∙ s.full.once;
        same = λ t. subst (λ n. is_named (renamed_order r p) n ≡ is_in (renamed r h) n) (forth t)
            (is_named-renamed r k p (q t) ∙ s.full.same (q t) ∙ sym (is_in-renamed r k h (q t)));
        allowed = allowed-renamed r k h p ∙ s.full.allowed;
      };
      real_time = λ t u.
          subst (λ n. is_before (renamed r h) n u ≡ true → stands_before (renamed_order r p) n u ≡ true) (forth t)
          (subst (λ m. is_before (renamed r h) (r (q t)) m ≡ true → stands_before (renamed_order r p) (r (q t)) m ≡ true) (forth u)
          (λ before. stands_before-renamed r k p (q t) (q u) ∙ s.real_time (q t) (q u) (sym (is_before-renamed r k h (q t) (q u)) ∙ before)));
      legal = λ t.
          subst (λ n. is_named (renamed_order r p) n ≡ true → IsLegal objects (visible (renamed r h) (renamed_order r p) n)) (forth t)
          (λ named. subst (λ l. IsLegal objects l) (sym (visible-renamed r k h p (q t))) (s.legal (q t) (sym (is_named-renamed r k p (q t)) ∙ named)));
    }

renamed-back : (r q : ℕ → ℕ) → ((t : ℕ) → q (r t) ≡ t) → (h : History) → renamed q (renamed r h) ≡ h
renamed-back r q back [] = refl
renamed-back r q back (e ∷ h) = ap (λ n. (n, e.1) ∷ renamed q (renamed r h)) (back e.0) ∙ ap (λ l. e ∷ l) (renamed-back r q back h)

renamed_order-back : (r q : ℕ → ℕ) → ((t : ℕ) → q (r t) ≡ t) → (p : List Decision) → renamed_order q (renamed_order r p) ≡ p
renamed_order-back r q back [] = refl
renamed_order-back r q back (d ∷ p) =
    ap (λ n. record { tx = n; fate = d.fate } ∷ renamed_order q (renamed_order r p)) (back d.tx) ∙ ap (λ l. d ∷ l) (renamed_order-back r q back p)

-- the same orders show, by the new names
pub Shows-same_names : (objects : List Declared) (h : History) (p : List Decision) (r q : ℕ → ℕ) → ((t : ℕ) → q (r t) ≡ t) → ((t : ℕ) → r (q t) ≡ t) →
    (Shows objects h p → Shows objects (renamed r h) (renamed_order r p)) × (Shows objects (renamed r h) (renamed_order r p) → Shows objects h p)
Shows-same_names objects h p r q back forth = (
  Shows-renamed objects h p r q back forth,
  λ s. subst (λ l. Shows objects l p) (renamed-back r q back h)
      (subst (λ l. Shows objects (renamed q (renamed r h)) l) (renamed_order-back r q back p)
      (Shows-renamed objects (renamed r h) (renamed_order r p) q r forth back s)),
)

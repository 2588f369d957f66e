-- Beginnings of orders that show a history.
use Rattle.std.proofs.Common.{◌≡◌, ℕ, Bool, true, false, cond, not, ◌&&◌, ◌||◌, nat_eq, inl, inr, List, [], ◌∷◌, ◌++◌, refl, sym, ◌∙◌, ap, subst, append_assoc}
use Rattle.std.specs.List.{list_all}
use Rattle.std.proofs.lemmas.List.Folds.{list_any-append, list_all-append}
use Rattle.aud_event.specs.Meanings.{Declared}
use Rattle.aud_witness.specs.declared.decision.Decision.{Decision}
use Rattle.aud_history.specs.Histories.{History}
use Rattle.aud_kinds.specs.Objects.{IsLegal}
use Rattle.aud_witness.specs.Orders.{is_allowed, block, is_kept, is_named, are_named_once, stands_before, kept, visible, Shows, Refuted, IsGoodNext, IsGood}
use Rattle.base_values.proofs.Bools.{or_true, or_false, and_true, true_or, or_right, not_true, nat_eq-refl, nat_eq-sym}

pub is_named-append : (p q : List Decision) (t : ℕ) → is_named (p ++ q) t ≡ (is_named p t || is_named q t)
is_named-append p q t = list_any-append (λ d. nat_eq d.tx t) p q

-- where each is named once, one is not named before its place
pub new_at : (p : List Decision) (d : Decision) (q : List Decision) → are_named_once (p ++ d ∷ q) ≡ true → is_named p d.tx ≡ false
new_at [] d q h = refl
new_at (x ∷ p) d q h =
    let both : (not (is_named (p ++ d ∷ q) x.tx) ≡ true) × (are_named_once (p ++ d ∷ q) ≡ true) = and_true (not (is_named (p ++ d ∷ q) x.tx)) (are_named_once (p ++ d ∷ q)) h in
    let not_there : (is_named p x.tx || is_named (d ∷ q) x.tx) ≡ false = sym (is_named-append p (d ∷ q) x.tx) ∙ not_true (is_named (p ++ d ∷ q) x.tx) both.0 in
    let differs : nat_eq d.tx x.tx ≡ false = (or_false (nat_eq d.tx x.tx) (is_named q x.tx) ((or_false (is_named p x.tx) (is_named (d ∷ q) x.tx) not_there).1)).0 in
    let other : nat_eq x.tx d.tx ≡ false = nat_eq-sym x.tx d.tx ∙ differs in
    let rest : is_named p d.tx ≡ false = new_at p d q both.1 in
    ap (λ b. b || is_named p d.tx) other ∙ rest

-- nor after it
pub new_after : (p : List Decision) (d : Decision) (q : List Decision) → are_named_once (p ++ d ∷ q) ≡ true → is_named q d.tx ≡ false
new_after [] d q h = not_true (is_named q d.tx) ((and_true (not (is_named q d.tx)) (are_named_once q) h).0)
new_after (x ∷ p) d q h = new_after p d q ((and_true (not (is_named (p ++ d ∷ q) x.tx)) (are_named_once (p ++ d ∷ q)) h).1)

pub second_is_named : (p : List Decision) (t u : ℕ) → stands_before p t u ≡ true → is_named p u ≡ true
second_is_named [] t u h = absurd (cc)
second_is_named (x ∷ p) t u h =
    elim (or_true (nat_eq x.tx t && is_named p u) (stands_before p t u) h) [
      | inl l ↦ or_right (nat_eq x.tx u) (is_named p u) ((and_true (nat_eq x.tx t) (is_named p u) l).1)
      | inr r ↦ or_right (nat_eq x.tx u) (is_named p u) (second_is_named p t u r)
    ]

-- what stands before the one at a place is named in front of the place
pub first_is_named : (p : List Decision) (d : Decision) (q : List Decision) (t : ℕ) → are_named_once (p ++ d ∷ q) ≡ true → stands_before (p ++ d ∷ q) t d.tx ≡ true → is_named p t ≡ true
first_is_named [] d q t once h =
    let behind : is_named q d.tx ≡ false = new_after [] d q once in
    elim (or_true (nat_eq d.tx t && is_named q d.tx) (stands_before q t d.tx) h) [
      | inl l ↦ let yes : is_named q d.tx ≡ true = (and_true (nat_eq d.tx t) (is_named q d.tx) l).1 in absurd (cc)
      | inr r ↦ let yes : is_named q d.tx ≡ true = second_is_named q t d.tx r in absurd (cc)
    ]
first_is_named (x ∷ p) d q t once h =
    elim (or_true (nat_eq x.tx t && is_named (p ++ d ∷ q) d.tx) (stands_before (p ++ d ∷ q) t d.tx) h) [
      | inl l ↦ true_or (nat_eq x.tx t) (is_named p t) ((and_true (nat_eq x.tx t) (is_named (p ++ d ∷ q) d.tx) l).0)
      | inr r ↦ or_right (nat_eq x.tx t) (is_named p t) (first_is_named p d q t ((and_true (not (is_named (p ++ d ∷ q) x.tx)) (are_named_once (p ++ d ∷ q)) once).1) r)
    ]

-- what the one at a place sees
pub visible_at : (h : History) (p : List Decision) (d : Decision) (q : List Decision) → is_named p d.tx ≡ false → visible h (p ++ d ∷ q) d.tx ≡ kept h p ++ block h d
visible_at h [] d q new = rw (nat_eq-refl d.tx) refl
visible_at h (x ∷ p) d q new =
    let both : (nat_eq x.tx d.tx ≡ false) × (is_named p d.tx ≡ false) = or_false (nat_eq x.tx d.tx) (is_named p d.tx) new in
    let seen : visible h (p ++ d ∷ q) d.tx ≡ kept h p ++ block h d = visible_at h p d q both.1 in
    rw (both.0, seen)
    (elim (is_kept x) as (λ k. cond k (block h x ++ (kept h p ++ block h d)) (kept h p ++ block h d) ≡ cond k (block h x ++ kept h p) (kept h p) ++ block h d) [
      | true ↦ sym (append_assoc (block h x) (kept h p) (block h d))
      | false ↦ refl
    ])

pub named_at : (p : List Decision) (d : Decision) (q : List Decision) → is_named (p ++ d ∷ q) d.tx ≡ true
named_at p d q =
    is_named-append p (d ∷ q) d.tx
    ∙ or_right (is_named p d.tx) (is_named (d ∷ q) d.tx) (true_or (nat_eq d.tx d.tx) (is_named q d.tx) (nat_eq-refl d.tx))

pub allowed_at : (h : History) (p : List Decision) (d : Decision) (q : List Decision) → list_all (λ x. is_allowed h x.tx x.fate) (p ++ d ∷ q) ≡ true → is_allowed h d.tx d.fate ≡ true
allowed_at h p d q all =
    let test : Decision → Bool = λ x. is_allowed h x.tx x.fate in
    let both : (list_all test p && list_all test (d ∷ q)) ≡ true = sym (list_all-append test p (d ∷ q)) ∙ all in
    (and_true (test d) (list_all test q) ((and_true (list_all test p) (list_all test (d ∷ q)) both).1)).0

-- each decision of an order that shows is good at its place
pub IsGoodNext-from_Shows : (objects : List Declared) (h : History) (p : List Decision) (d : Decision) (q : List Decision) → Shows objects h (p ++ d ∷ q) → IsGoodNext objects h p d
IsGoodNext-from_Shows objects h p d q s =
    let new : is_named p d.tx ≡ false = new_at p d q s.full.once in
    let named : is_named (p ++ d ∷ q) d.tx ≡ true = named_at p d q in
    let fits : is_allowed h d.tx d.fate ≡ true = allowed_at h p d q s.full.allowed in
    record {
      in_history = sym (s.full.same d.tx) ∙ named;
      new = new;
      allowed = fits;
      enabled = λ t before. first_is_named p d q t s.full.once (s.real_time t d.tx before);
      legal = subst (λ es. IsLegal objects es) (visible_at h p d q new) (s.legal d.tx named);
    }

-- a beginning of an order that shows is good
pub IsGood-from_Shows : (objects : List Declared) (h : History) (p q : List Decision) → Shows objects h (p ++ q) → IsGood objects h p
IsGood-from_Shows objects h p q s before d rest e =
    let whole : p ++ q ≡ before ++ d ∷ (rest ++ q) = ap (λ l. l ++ q) e ∙ append_assoc before (d ∷ rest) q in
    IsGoodNext-from_Shows objects h before d (rest ++ q) (subst (λ l. Shows objects h l) whole s)

-- no order that begins with a prefix that is not good shows
pub Refuted-from_bad : (objects : List Declared) (h : History) (p : List Decision) → (IsGood objects h p → ⊥) → Refuted objects h p
Refuted-from_bad objects h p not_good rest s = not_good (IsGood-from_Shows objects h p rest s)

-- a prefix that begins with a refuted one is refuted
pub Refuted-append : (objects : List Declared) (h : History) (p q : List Decision) → Refuted objects h p → Refuted objects h (p ++ q)
Refuted-append objects h p q refuted rest s = refuted (q ++ rest) (subst (λ l. Shows objects h l) (append_assoc p q rest) s)

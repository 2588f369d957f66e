-- The enumeration of orders has each order that shows.
use Rattle.std.proofs.Common.{◌≡◌, ℕ, Bool, true, false, cond, not, ◌&&◌, ◌||◌, nat_eq, inl, inr, List, [], ◌∷◌, ◌++◌, map, refl, sym, ◌∙◌, ap, subst}
use Rattle.std.specs.List.{list_any, list_all, flat_map, filter}
use Rattle.aud_event.specs.Meanings.{Declared}
use Rattle.aud_witness.specs.declared.decision.Fate.{Fate}
use Rattle.aud_witness.specs.declared.decision.Fate.TheVariants.{C, A}
use Rattle.aud_witness.specs.declared.decision.Decision.{Decision}
use Rattle.aud_history.specs.Histories.{History, is_in}
use Rattle.aud_witness.specs.Orders.{is_allowed, is_named, are_named_once, IsFull, Shows, Opaque}
use Rattle.aud_history.specs.Table.{transactions}
use Rattle.aud_witness.specs.Enumeration.{at_each_place, permutations, with_fates, all_orders, witnesses, shows}
use Rattle.base_values.proofs.Bools.{and_true, true_and, true_or, or_right, not_true, not_false, split, nat_eq-refl, nat_eq-is, nat_eq-sym, and_no, and_yes}
use Rattle.aud_witness.proofs.Tested.{test-from_Shows}

pub data IsMember {X : Type 0} (x : X) : List X → Type 0 where
  here : {xs : List X} → IsMember x (x ∷ xs)
  there : {y : X} {xs : List X} → IsMember x xs → IsMember x (y ∷ xs)

member_left : {X : Type 0} {x : X} (xs ys : List X) → IsMember x xs → IsMember x (xs ++ ys)
member_left [] ys m = elim m [ ]
member_left (y ∷ xs) ys here = here
member_left (y ∷ xs) ys (there m) = there (member_left xs ys m)

member_right : {X : Type 0} {x : X} (xs ys : List X) → IsMember x ys → IsMember x (xs ++ ys)
member_right [] ys m = m
member_right (y ∷ xs) ys m = there (member_right xs ys m)

member_map : {X Y : Type 0} {x : X} (f : X → Y) (xs : List X) → IsMember x xs → IsMember (f x) (map f xs)
member_map f [] m = elim m [ ]
member_map f (y ∷ xs) here = here
member_map f (y ∷ xs) (there m) = there (member_map f xs m)

member_flat_map : {X Y : Type 0} {x : X} {y : Y} (f : X → List Y) (xs : List X) → IsMember x xs → IsMember y (f x) → IsMember y (flat_map f xs)
member_flat_map f [] k m = elim k [ ]
member_flat_map f (z ∷ xs) here m = member_left (f z) (flat_map f xs) m
member_flat_map f (z ∷ xs) (there k) m = member_right (f z) (flat_map f xs) (member_flat_map f xs k m)

member_filter : {X : Type 0} {x : X} (test : X → Bool) (xs : List X) → IsMember x xs → test x ≡ true → IsMember x (filter test xs)
member_filter test [] m t = elim m [ ]
member_filter {X} {x} test (y ∷ xs) here t = subst (λ k. IsMember x (cond k (x ∷ filter test xs) (filter test xs))) (sym t) here
member_filter {X} {x} test (y ∷ xs) (there m) t =
    elim (test y) as (λ k. IsMember x (cond k (y ∷ filter test xs) (filter test xs))) [
      | true ↦ there (member_filter test xs m t)
      | false ↦ member_filter test xs m t
    ]

member_if : {X : Type 0} {x : X} (b : Bool) (xs : List X) → b ≡ true → IsMember x xs → IsMember x (cond b xs [])
member_if true xs e m = m
member_if false xs e m = absurd (cc)

-- numbers in a list, each once
abbrev pub has : List ℕ → ℕ → Bool
has xs t = list_any (λ n. nat_eq n t) xs

abbrev once : List ℕ → Bool
once [] = true
once (x ∷ xs) = not (has xs x) && once xs

at_each : (x : ℕ) (a b : List ℕ) → IsMember (a ++ x ∷ b) (at_each_place x (a ++ b))
at_each x [] [] = here
at_each x [] (y ∷ b) = here
at_each x (y ∷ a) b = there (member_map (λ zs. y ∷ zs) (at_each_place x (a ++ b)) (at_each x a b))

-- a list cut at the first place of a number
cut_at : (ys : List ℕ) (x : ℕ) → has ys x ≡ true → (a : List ℕ) × ((b : List ℕ) × (ys ≡ a ++ x ∷ b))
cut_at [] x h = absurd (cc)
cut_at (y ∷ ys) x h =
    elim (split (nat_eq y x)) [
      | inl same ↦ ([], (ys, ap (λ n. n ∷ ys) (nat_eq-is y x same)))
      | inr other ↦
          let (a, (b, e)) = cut_at ys x (sym (ap (λ k. k || has ys x) other) ∙ h) in
          (y ∷ a, (b, ap (λ l. y ∷ l) e))
    ]

has-middle : (a : List ℕ) (x : ℕ) (b : List ℕ) (t : ℕ) → nat_eq x t ≡ false → has (a ++ x ∷ b) t ≡ has (a ++ b) t
has-middle [] x b t other = ap (λ k. k || has b t) other
has-middle (y ∷ a) x b t other = ap (λ k. nat_eq y t || k) (has-middle a x b t other)

has-there : (a : List ℕ) (x : ℕ) (b : List ℕ) → has (a ++ x ∷ b) x ≡ true
has-there [] x b = true_or (nat_eq x x) (has b x) (nat_eq-refl x)
has-there (y ∷ a) x b = or_right (nat_eq y x) (has (a ++ x ∷ b) x) (has-there a x b)

-- without one of its numbers a list has the others once, and no longer that one
once-middle : (a : List ℕ) (x : ℕ) (b : List ℕ) → once (a ++ x ∷ b) ≡ true → (once (a ++ b) ≡ true) × (has (a ++ b) x ≡ false)
once-middle [] x b h = ((and_true (not (has b x)) (once b) h).1, not_true (has b x) ((and_true (not (has b x)) (once b) h).0))
once-middle (y ∷ a) x b h =
    let both : (not (has (a ++ x ∷ b) y) ≡ true) × (once (a ++ x ∷ b) ≡ true) = and_true (not (has (a ++ x ∷ b) y)) (once (a ++ x ∷ b)) h in
    let rest : (once (a ++ b) ≡ true) × (has (a ++ b) x ≡ false) = once-middle a x b both.1 in
    let unlike : nat_eq x y ≡ false =
    elim (split (nat_eq x y)) [
      | inl same ↦
          let is : x ≡ y = nat_eq-is x y same in
          let yes : has (a ++ x ∷ b) y ≡ true = subst (λ n. has (a ++ x ∷ b) n ≡ true) is (has-there a x b) in
          let not_so : has (a ++ x ∷ b) y ≡ false = not_true (has (a ++ x ∷ b) y) both.0 in
          absurd (cc)
      | inr other ↦ other
    ] in (
      true_and (not (has (a ++ b) y)) (once (a ++ b)) (not_false (has (a ++ b) y) (sym (has-middle a x b y unlike) ∙ not_true (has (a ++ x ∷ b) y) both.0)) rest.0,
      ap (λ k. k || has (a ++ b) x) (nat_eq-sym y x ∙ unlike) ∙ rest.1,
    )

-- every order of the same numbers is a permutation
all_permutations : (xs ys : List ℕ) → once xs ≡ true → once ys ≡ true → ((t : ℕ) → has xs t ≡ has ys t) → IsMember ys (permutations xs)
all_permutations [] [] o p same = here
all_permutations [] (y ∷ ys) o p same =
    let yes : has (y ∷ ys) y ≡ true = true_or (nat_eq y y) (has ys y) (nat_eq-refl y) in
    let none : false ≡ has (y ∷ ys) y = same y in
    absurd (cc)
all_permutations (x ∷ xs) ys o p same =
    let first : has ys x ≡ true = sym (same x) ∙ true_or (nat_eq x x) (has xs x) (nat_eq-refl x) in
    let (a, (b, e)) = cut_at ys x first in
    let left : (once (a ++ b) ≡ true) × (has (a ++ b) x ≡ false) = once-middle a x b (subst (λ l. once l ≡ true) e p) in
    let both : (not (has xs x) ≡ true) × (once xs ≡ true) = and_true (not (has xs x)) (once xs) o in
    let alike : (t : ℕ) → has xs t ≡ has (a ++ b) t = λ t.
    elim (split (nat_eq x t)) [
      | inl is ↦ subst (λ n. has xs n ≡ has (a ++ b) n) (nat_eq-is x t is) (not_true (has xs x) both.0 ∙ sym left.1)
      | inr other ↦ sym (ap (λ k. k || has xs t) other) ∙ same t ∙ subst (λ l. has ys t ≡ has l t) e refl ∙ has-middle a x b t other
    ] in
    subst (λ l. IsMember l (permutations (x ∷ xs))) (sym e)
    (member_flat_map (at_each_place x) (permutations xs) (all_permutations xs (a ++ b) both.1 left.0 alike) (at_each x a b))

-- the transactions of H, each once
has-filter : (f : ℕ → Bool) (xs : List ℕ) (t : ℕ) → has (filter f xs) t ≡ (has xs t && f t)
has-filter f [] t = refl
has-filter f (y ∷ xs) t =
    elim (f y) as (λ k. f y ≡ k → has (cond k (y ∷ filter f xs) (filter f xs)) t ≡ ((nat_eq y t || has xs t) && f t)) [
      | true ↦ λ fy. elim (split (nat_eq y t)) [
        | inl same ↦ let ft : f t ≡ true = subst (λ n. f n ≡ true) (nat_eq-is y t same) fy in rw (same, ft) refl
        | inr other ↦ rw other (has-filter f xs t)
      ]
      | false ↦ λ fy. elim (split (nat_eq y t)) [
        | inl same ↦ let ft : f t ≡ false = subst (λ n. f n ≡ false) (nat_eq-is y t same) fy in has-filter f xs t ∙ rw (same, ft) (and_no (has xs t))
        | inr other ↦ rw other (has-filter f xs t)
      ]
    ] refl

once-filter : (f : ℕ → Bool) (xs : List ℕ) → once xs ≡ true → once (filter f xs) ≡ true
once-filter f [] o = refl
once-filter f (y ∷ xs) o =
    let both : (not (has xs y) ≡ true) × (once xs ≡ true) = and_true (not (has xs y)) (once xs) o in
    let rest : once (filter f xs) ≡ true = once-filter f xs both.1 in
    let gone : has (filter f xs) y ≡ false = has-filter f xs y ∙ ap (λ k. k && f y) (not_true (has xs y) both.0) in
    elim (f y) as (λ k. once (cond k (y ∷ filter f xs) (filter f xs)) ≡ true) [
      | true ↦ true_and (not (has (filter f xs) y)) (once (filter f xs)) (not_false (has (filter f xs) y) gone) rest
      | false ↦ rest
    ]

pub has-transactions : (h : History) (t : ℕ) → has (transactions h) t ≡ is_in h t
has-transactions [] t = refl
has-transactions (e ∷ h) t =
    let after : has (filter (λ n. not (nat_eq n e.0)) (transactions h)) t ≡ (is_in h t && not (nat_eq t e.0)) =
    has-filter (λ n. not (nat_eq n e.0)) (transactions h) t ∙ ap (λ k. k && not (nat_eq t e.0)) (has-transactions h t) in
    elim (split (nat_eq e.0 t)) [
      | inl same ↦ rw same refl
      | inr other ↦
          let unlike : nat_eq t e.0 ≡ false = nat_eq-sym t e.0 ∙ other in
          ap (λ k. nat_eq e.0 t || k) (after ∙ ap (λ k. is_in h t && not k) unlike ∙ and_yes (is_in h t))
    ]

once-transactions : (h : History) → once (transactions h) ≡ true
once-transactions [] = refl
once-transactions (e ∷ h) =
    let f : ℕ → Bool = λ n. not (nat_eq n e.0) in
    let gone : has (filter f (transactions h)) e.0 ≡ false =
    has-filter f (transactions h) e.0 ∙ ap (λ k. has (transactions h) e.0 && not k) (nat_eq-refl e.0) ∙ and_no (has (transactions h) e.0) in
    true_and (not (has (filter f (transactions h)) e.0)) (once (filter f (transactions h)))
    (not_false (has (filter f (transactions h)) e.0) gone) (once-filter f (transactions h) (once-transactions h))

-- an order's names and fates
abbrev names : List Decision → List ℕ
names p = map (λ d. d.tx) p

has-names : (p : List Decision) (t : ℕ) → has (names p) t ≡ is_named p t
has-names [] t = refl
has-names (d ∷ p) t = ap (λ k. nat_eq d.tx t || k) (has-names p t)

once-names : (p : List Decision) → once (names p) ≡ are_named_once p
once-names [] = refl
once-names (d ∷ p) = ap (λ k. not k && once (names p)) (has-names p d.tx) ∙ ap (λ k. not (is_named p d.tx) && k) (once-names p)

abbrev choose : ℕ → Fate → List (List Decision) → List (List Decision)
choose t fate ps = map (λ p. record { tx = t; fate = fate } ∷ p) ps

with_fate : (h : History) (t : ℕ) (fate : Fate) (p : List Decision) → is_allowed h t fate ≡ true → IsMember p (with_fates h (names p)) →
    IsMember (record { tx = t; fate = fate } ∷ p) (with_fates h (t ∷ names p))
with_fate h t C p fits m =
    member_left (cond (is_allowed h t C) (choose t C (with_fates h (names p))) []) (cond (is_allowed h t A) (choose t A (with_fates h (names p))) [])
    (member_if (is_allowed h t C) (choose t C (with_fates h (names p))) fits (member_map (λ q. record { tx = t; fate = C } ∷ q) (with_fates h (names p)) m))
with_fate h t A p fits m =
    member_right (cond (is_allowed h t C) (choose t C (with_fates h (names p))) []) (cond (is_allowed h t A) (choose t A (with_fates h (names p))) [])
    (member_if (is_allowed h t A) (choose t A (with_fates h (names p))) fits (member_map (λ q. record { tx = t; fate = A } ∷ q) (with_fates h (names p)) m))

all_fates : (h : History) (p : List Decision) → list_all (λ d. is_allowed h d.tx d.fate) p ≡ true → IsMember p (with_fates h (names p))
all_fates h [] all = here
all_fates h (d ∷ p) all =
    let both : (is_allowed h d.tx d.fate ≡ true) × (list_all (λ x. is_allowed h x.tx x.fate) p ≡ true) =
    and_true (is_allowed h d.tx d.fate) (list_all (λ x. is_allowed h x.tx x.fate) p) all in
    with_fate h d.tx d.fate p both.0 (all_fates h p both.1)

pub all_orders-has : (h : History) (p : List Decision) → IsFull h p → IsMember p (all_orders h)
all_orders-has h p full =
    let same : (t : ℕ) → has (transactions h) t ≡ has (names p) t = λ t. has-transactions h t ∙ sym (full.same t) ∙ sym (has-names p t) in
    member_flat_map (with_fates h) (permutations (transactions h))
    (all_permutations (transactions h) (names p) (once-transactions h) (once-names p ∙ full.once) same)
    (all_fates h p full.allowed)

-- each order that shows is among the witnesses
pub witnesses-has : (objects : List Declared) (h : History) (p : List Decision) → Shows objects h p → IsMember p (witnesses objects h)
witnesses-has objects h p s = member_filter (shows objects h) (all_orders h) (all_orders-has h p s.full) (test-from_Shows objects h p s)

-- without witnesses a history is not opaque
pub not_Opaque : (objects : List Declared) (h : History) → witnesses objects h ≡ [] → Opaque objects h → ⊥
not_Opaque objects h none (p, s) =
    let m : IsMember p [] = subst (λ l. IsMember p l) none (witnesses-has objects h p s) in
    elim m [ ]

-- Blocks joined in an order: what each transaction does there, which come before which, and what each sees.
use Rattle.std.proofs.Common.{◌≡◌, ℕ, Bool, true, false, cond, not, ◌&&◌, ◌||◌, nat_eq, ◌⊎◌, inl, inr, List, [], ◌∷◌, ◌++◌, map, refl, sym, ◌∙◌, ap, subst, append_assoc}
use Rattle.std.specs.List.{list_any, filter}
use Rattle.std.proofs.lemmas.List.Folds.{list_any-append}
use Rattle.aud_event.specs.declared.fact.Event.{Event}
use Rattle.aud_witness.specs.declared.decision.Decision.{Decision}
use Rattle.aud_history.specs.Histories.{History, events_of, is_in, is_commit, is_committed, is_aborted, is_completed, is_before, from_first}
use Rattle.aud_witness.specs.Orders.{is_kept, is_named, are_named_once, stands_before}
use Rattle.aud_witness.specs.Letter.{seen_by}
use Rattle.base_values.proofs.Bools.{or_true, or_false, true_and, true_or, or_right, not_false, split, nat_eq-refl, nat_eq-is, nat_eq-sym}
use Rattle.aud_history.proofs.Events.{events_of-append}
use Rattle.aud_witness.proofs.Beginnings.{is_named-append, new_at, new_after, named_at, first_is_named}
use Rattle.aud_witness.proofs.Good.{place_of}
use Rattle.aud_history.proofs.ByPlaces.{from_first-append}
use Rattle.aud_witness.proofs.Selected.{picked-block, differ}
use Rattle.std.proofs.lemmas.List.{append-nil}

-- of each element
abbrev pub Each : {X : Type 0} → (X → Type 0) → List X → Type 0
Each P [] = Unit {0}
Each P (x ∷ xs) = P x × Each P xs

pub Each-from_places : {X : Type 0} (P : X → Type 0) (xs : List X) → ((a : List X) (x : X) (b : List X) → xs ≡ a ++ x ∷ b → P x) → Each P xs
Each-from_places P [] k = tt
Each-from_places P (y ∷ xs) k = (k [] y xs refl, Each-from_places P xs (λ a x b e. k (y ∷ a) x b (ap (λ l. y ∷ l) e)))

pub Each-at : {X : Type 0} (P : X → Type 0) (a : List X) (x : X) (b : List X) → Each P (a ++ x ∷ b) → P x
Each-at P [] x b k = k.0
Each-at P (y ∷ a) x b k = Each-at P a x b k.1

pub Each-after : {X : Type 0} (P : X → Type 0) (a b : List X) → Each P (a ++ b) → Each P b
Each-after P [] b k = k
Each-after P (y ∷ a) b k = Each-after P a b k.1

abbrev pub is_filled : List Event → Bool
is_filled [] = false
is_filled (_ ∷ _) = true

-- the blocks of a prefix, joined
abbrev pub joined_by : (Decision → List Event) → List Decision → History
joined_by f [] = []
joined_by f (d ∷ p) = map (λ e. (d.tx, e)) (f d) ++ joined_by f p

-- those with fate C
abbrev pub kept_by : (Decision → List Event) → List Decision → List Event
kept_by f [] = []
kept_by f (d ∷ p) = cond (is_kept d) (f d ++ kept_by f p) (kept_by f p)

-- the order names each once, no block is empty, and a block has C exactly if its fate is C
pub record IsOrder (f : Decision → List Event) (p : List Decision) : Type 0 where
  pub once : are_named_once p ≡ true
  pub filled : Each (λ d. is_filled (f d) ≡ true) p
  pub fates : Each (λ d. list_any is_commit (f d) ≡ is_kept d) p

pub events_of-own : (t : ℕ) (es : List Event) → events_of t (map (λ e. (t, e)) es) ≡ es
events_of-own t [] = refl
events_of-own t (e ∷ es) = ap (λ k. cond k (e ∷ events_of t (map (λ x. (t, x)) es)) (events_of t (map (λ x. (t, x)) es))) (nat_eq-refl t) ∙ ap (λ l. e ∷ l) (events_of-own t es)

pub events_of-other : (t u : ℕ) (es : List Event) → nat_eq u t ≡ false → events_of t (map (λ e. (u, e)) es) ≡ []
events_of-other t u [] other = refl
events_of-other t u (e ∷ es) other = ap (λ k. cond k (e ∷ events_of t (map (λ x. (u, x)) es)) (events_of t (map (λ x. (u, x)) es))) other ∙ events_of-other t u es other

pub events_of-unnamed : (f : Decision → List Event) (p : List Decision) (t : ℕ) → is_named p t ≡ false → events_of t (joined_by f p) ≡ []
events_of-unnamed f [] t none = refl
events_of-unnamed f (d ∷ p) t none =
    let both : (nat_eq d.tx t ≡ false) × (is_named p t ≡ false) = or_false (nat_eq d.tx t) (is_named p t) none in
    events_of-append t (map (λ e. (d.tx, e)) (f d)) (joined_by f p)
    ∙ ap (λ l. l ++ events_of t (joined_by f p)) (events_of-other t d.tx (f d) both.0) ∙ events_of-unnamed f p t both.1

joined_by-append : (f : Decision → List Event) (a b : List Decision) → joined_by f (a ++ b) ≡ joined_by f a ++ joined_by f b
joined_by-append f [] b = refl
joined_by-append f (d ∷ a) b =
    ap (λ l. map (λ e. (d.tx, e)) (f d) ++ l) (joined_by-append f a b) ∙ sym (append_assoc (map (λ e. (d.tx, e)) (f d)) (joined_by f a) (joined_by f b))

-- S|T is T's block
pub events_of-block : (f : Decision → List Event) (a : List Decision) (d : Decision) (b : List Decision) → are_named_once (a ++ d ∷ b) ≡ true →
    events_of d.tx (joined_by f (a ++ d ∷ b)) ≡ f d
events_of-block f a d b once =
    let t : ℕ = d.tx in
    ap (events_of d.tx) (joined_by-append f a (d ∷ b))
    ∙ events_of-append d.tx (joined_by f a) (joined_by f (d ∷ b))
    ∙ ap (λ l. l ++ events_of d.tx (joined_by f (d ∷ b))) (events_of-unnamed f a d.tx (new_at a d b once))
    ∙ events_of-append d.tx (map (λ e. (d.tx, e)) (f d)) (joined_by f b)
    ∙ ap (λ l. l ++ events_of d.tx (joined_by f b)) (events_of-own d.tx (f d))
    ∙ ap (λ l. f d ++ l) (events_of-unnamed f b d.tx (new_after a d b once))
    ∙ append-nil (f d)

-- a transaction is in H exactly if it has events there
pub is_in-events_of : (h : History) (t : ℕ) → is_in h t ≡ is_filled (events_of t h)
is_in-events_of [] t = refl
is_in-events_of (e ∷ h) t =
    elim (nat_eq e.0 t) as (λ k. (k || is_in h t) ≡ is_filled (cond k (e.1 ∷ events_of t h) (events_of t h))) [
      | true ↦ refl
      | false ↦ is_in-events_of h t
    ]

is_in-other : (t u : ℕ) (es : List Event) → nat_eq u t ≡ false → is_in (map (λ e. (u, e)) es) t ≡ false
is_in-other t u [] other = refl
is_in-other t u (e ∷ es) other = ap (λ k. k || is_in (map (λ x. (u, x)) es) t) other ∙ is_in-other t u es other

is_in-own : (t u : ℕ) (es : List Event) → is_filled es ≡ true → is_in (map (λ e. (u, e)) es) t ≡ nat_eq u t
is_in-own t u [] fill = absurd (cc)
is_in-own t u (e ∷ es) fill =
    elim (split (nat_eq u t)) [
      | inl is_t ↦ true_or (nat_eq u t) (is_in (map (λ x. (u, x)) es) t) is_t ∙ sym is_t
      | inr no_t ↦ ap (λ k. k || is_in (map (λ x. (u, x)) es) t) no_t ∙ is_in-other t u es no_t ∙ sym no_t
    ]

pub is_in-joined_by : (f : Decision → List Event) (p : List Decision) (t : ℕ) → Each (λ d. is_filled (f d) ≡ true) p → is_in (joined_by f p) t ≡ is_named p t
is_in-joined_by f [] t fill = refl
is_in-joined_by f (d ∷ p) t fill =
    list_any-append (λ e. nat_eq e.0 t) (map (λ e. (d.tx, e)) (f d)) (joined_by f p)
    ∙ ap (λ k. k || is_in (joined_by f p) t) (is_in-own t d.tx (f d) fill.0)
    ∙ ap (λ k. nat_eq d.tx t || k) (is_in-joined_by f p t fill.1)

not_in_unnamed : (f : Decision → List Event) (p : List Decision) (t : ℕ) → is_named p t ≡ false → is_in (joined_by f p) t ≡ false
not_in_unnamed f p t none = is_in-events_of (joined_by f p) t ∙ ap is_filled (events_of-unnamed f p t none)

from_first-own : (t : ℕ) (es : List Event) (rest : History) → is_filled es ≡ true → from_first t (map (λ e. (t, e)) es ++ rest) ≡ map (λ e. (t, e)) es ++ rest
from_first-own t [] rest fill = absurd (cc)
from_first-own t (e ∷ es) rest fill =
    ap (λ k. cond k ((t, e) ∷ (map (λ x. (t, x)) es ++ rest)) (from_first t (map (λ x. (t, x)) es ++ rest))) (nat_eq-refl t)

from_first-block : (f : Decision → List Event) (a : List Decision) (d : Decision) (b : List Decision) → is_named a d.tx ≡ false → is_filled (f d) ≡ true →
    from_first d.tx (joined_by f (a ++ d ∷ b)) ≡ joined_by f (d ∷ b)
from_first-block f a d b new fill =
    ap (from_first d.tx) (joined_by-append f a (d ∷ b))
    ∙ from_first-append d.tx (joined_by f a) (joined_by f (d ∷ b)) (not_in_unnamed f a d.tx new)
    ∙ from_first-own d.tx (f d) (joined_by f b) fill

-- what stands from the first event of a block on
pub is_in-from_first : (f : Decision → List Event) (a : List Decision) (d : Decision) (b : List Decision) (t : ℕ) → IsOrder f (a ++ d ∷ b) →
    is_in (from_first d.tx (joined_by f (a ++ d ∷ b))) t ≡ is_named (d ∷ b) t
is_in-from_first f a d b t order =
    ap (λ l. is_in l t) (from_first-block f a d b (new_at a d b order.once) (Each-at (λ x. is_filled (f x) ≡ true) a d b order.filled))
    ∙ is_in-joined_by f (d ∷ b) t (Each-after (λ x. is_filled (f x) ≡ true) a (d ∷ b) order.filled)

-- what is named in front is not named after it
pub off_after : (a b : List Decision) (t : ℕ) → are_named_once (a ++ b) ≡ true → is_named a t ≡ true → is_named b t ≡ false
off_after a b t once there =
    let (a1, (x, (a2, (e, is_t, new)))) = place_of a t there in
    let whole : a ++ b ≡ a1 ++ x ∷ (a2 ++ b) = ap (λ l. l ++ b) e ∙ append_assoc a1 (x ∷ a2) b in
    let behind : is_named (a2 ++ b) x.tx ≡ false = new_after a1 x (a2 ++ b) (subst (λ l. are_named_once l ≡ true) whole once) in
    let none : is_named b x.tx ≡ false = (or_false (is_named a2 x.tx) (is_named b x.tx) (sym (is_named-append a2 b x.tx) ∙ behind)).1 in
    subst (λ n. is_named b n ≡ false) is_t none

-- before in the order, and completed, is before in S
pub is_before-blocks : (f : Decision → List Event) (p : List Decision) (t u : ℕ) → IsOrder f p → stands_before p t u ≡ true → is_completed (joined_by f p) t ≡ true →
    is_named p u ≡ true → is_before (joined_by f p) t u ≡ true
is_before-blocks f p t u order before done there =
    let s : History = joined_by f p in
    let (a, (d, (b, (e, is_u, new)))) = place_of p u there in
    let order_at : IsOrder f (a ++ d ∷ b) = subst (λ l. IsOrder f l) e order in
    let before_at : stands_before (a ++ d ∷ b) t d.tx ≡ true = subst (λ x. stands_before (a ++ d ∷ b) t x ≡ true) (sym is_u) (subst (λ l. stands_before l t u ≡ true) e before) in
    let in_front : is_named a t ≡ true = first_is_named a d b t order_at.once before_at in
    let off : is_named (d ∷ b) t ≡ false = off_after a (d ∷ b) t order_at.once in_front in
    let gone : is_in (from_first u s) t ≡ false =
    ap (λ l. is_in (from_first u (joined_by f l)) t) e
    ∙ ap (λ x. is_in (from_first x (joined_by f (a ++ d ∷ b))) t) (sym is_u)
    ∙ is_in-from_first f a d b t order_at ∙ off in
    true_and (is_completed s t && is_in s u) (not (is_in (from_first u s) t))
    (true_and (is_completed s t) (is_in s u) done (is_in-joined_by f p u order.filled ∙ there))
    (not_false (is_in (from_first u s) t) gone)

-- what is picked from the blocks by a test on transactions
abbrev picked_by : (Decision → List Event) → (ℕ → Bool) → List Decision → List Event
picked_by f g [] = []
picked_by f g (d ∷ p) = cond (g d.tx) (f d ++ picked_by f g p) (picked_by f g p)

picked_by-is : (f : Decision → List Event) (g : ℕ → Bool) (p : List Decision) → map (λ e. e.1) (filter (λ e. g e.0) (joined_by f p)) ≡ picked_by f g p
picked_by-is f g [] = refl
picked_by-is f g (d ∷ p) = picked-block g d.tx (f d) (joined_by f p) ∙ ap (λ l. cond (g d.tx) (f d ++ l) l) (picked_by-is f g p)

picked_by-none : (f : Decision → List Event) (g : ℕ → Bool) (p : List Decision) → Each (λ d. g d.tx ≡ false) p → picked_by f g p ≡ []
picked_by-none f g [] none = refl
picked_by-none f g (d ∷ p) none = ap (λ k. cond k (f d ++ picked_by f g p) (picked_by f g p)) none.0 ∙ picked_by-none f g p none.1

-- as far as the test is the fate, the kept blocks; then the one at the place; nothing after it
picked_by-place : (f : Decision → List Event) (g : ℕ → Bool) (a : List Decision) (d : Decision) (b : List Decision) →
    Each (λ x. g x.tx ≡ is_kept x) a → g d.tx ≡ true → Each (λ x. g x.tx ≡ false) b → picked_by f g (a ++ d ∷ b) ≡ kept_by f a ++ f d
picked_by-place f g [] d b front at behind =
    ap (λ k. cond k (f d ++ picked_by f g b) (picked_by f g b)) at ∙ ap (λ l. f d ++ l) (picked_by-none f g b behind) ∙ append-nil (f d)
picked_by-place f g (x ∷ a) d b front at behind =
    ap (λ k. cond k (f x ++ picked_by f g (a ++ d ∷ b)) (picked_by f g (a ++ d ∷ b))) front.0
    ∙ ap (λ l. cond (is_kept x) (f x ++ l) l) (picked_by-place f g a d b front.1 at behind)
    ∙ elim (is_kept x) as (λ k. cond k (f x ++ (kept_by f a ++ f d)) (kept_by f a ++ f d) ≡ cond k (f x ++ kept_by f a) (kept_by f a) ++ f d) [
      | true ↦ sym (append_assoc (f x) (kept_by f a) (f d))
      | false ↦ refl
    ]

-- the fate of a block is what S says of the transaction
is_committed-block : (f : Decision → List Event) (a : List Decision) (d : Decision) (b : List Decision) → IsOrder f (a ++ d ∷ b) →
    is_committed (joined_by f (a ++ d ∷ b)) d.tx ≡ is_kept d
is_committed-block f a d b order =
    ap (list_any is_commit) (events_of-block f a d b order.once) ∙ Each-at (λ x. list_any is_commit (f x) ≡ is_kept x) a d b order.fates

test_in_front : (own kept aborted there gone : Bool) → own ≡ false → there ≡ true → gone ≡ false →
    (own || (kept && (((kept || aborted) && there) && not gone))) ≡ kept
test_in_front false true aborted true false _ _ _ = refl
test_in_front false false aborted there gone _ _ _ = refl
test_in_front true kept aborted there gone own _ _ = absurd (cc)
test_in_front false true aborted false gone _ there _ = absurd (cc)
test_in_front false true aborted true true _ _ gone = absurd (cc)

test_after : (own kept rest gone : Bool) → own ≡ false → gone ≡ true → (own || (kept && (rest && not gone))) ≡ false
test_after false true true true _ _ = refl
test_after false true false gone _ _ = refl
test_after false false rest gone _ _ = refl
test_after true kept rest gone own _ = absurd (cc)
test_after false true true false _ gone = absurd (cc)

-- what T sees in S: the kept blocks in front of it and its own
pub seen_by-block : (f : Decision → List Event) (a : List Decision) (d : Decision) (b : List Decision) → IsOrder f (a ++ d ∷ b) →
    seen_by (joined_by f (a ++ d ∷ b)) d.tx ≡ kept_by f a ++ f d
seen_by-block f a d b order =
    let p : List Decision = a ++ d ∷ b in
    let s : History = joined_by f p in
    let g : ℕ → Bool = λ n. nat_eq n d.tx || (is_committed s n && is_before s n d.tx) in
    let there : is_in s d.tx ≡ true = is_in-joined_by f p d.tx order.filled ∙ named_at a d b in
    let front : Each (λ x. g x.tx ≡ is_kept x) a =
    Each-from_places (λ x. g x.tx ≡ is_kept x) a (λ a1 x a2 e.
    let here : is_named a x.tx ≡ true = subst (λ l. is_named l x.tx ≡ true) (sym e) (named_at a1 x a2) in
    let whole : p ≡ a1 ++ x ∷ (a2 ++ d ∷ b) = ap (λ l. l ++ d ∷ b) e ∙ append_assoc a1 (x ∷ a2) (d ∷ b) in
    let off : is_named (d ∷ b) x.tx ≡ false = off_after a (d ∷ b) x.tx order.once here in
    let own : nat_eq x.tx d.tx ≡ false = nat_eq-sym x.tx d.tx ∙ (or_false (nat_eq d.tx x.tx) (is_named b x.tx) off).0 in
    let gone : is_in (from_first d.tx s) x.tx ≡ false = is_in-from_first f a d b x.tx order ∙ off in
    let fate : is_committed s x.tx ≡ is_kept x =
    subst (λ l. is_committed (joined_by f l) x.tx ≡ is_kept x) (sym whole) (is_committed-block f a1 x (a2 ++ d ∷ b) (subst (λ l. IsOrder f l) whole order)) in
    test_in_front (nat_eq x.tx d.tx) (is_committed s x.tx) (is_aborted s x.tx) (is_in s d.tx) (is_in (from_first d.tx s) x.tx) own there gone ∙ fate) in
    let behind : Each (λ x. g x.tx ≡ false) b =
    Each-from_places (λ x. g x.tx ≡ false) b (λ b1 x b2 e.
    let here : is_named b x.tx ≡ true = subst (λ l. is_named l x.tx ≡ true) (sym e) (named_at b1 x b2) in
    let own : nat_eq x.tx d.tx ≡ false = nat_eq-sym x.tx d.tx ∙ differ b d.tx x.tx (new_after a d b order.once) here in
    let gone : is_in (from_first d.tx s) x.tx ≡ true = is_in-from_first f a d b x.tx order ∙ or_right (nat_eq d.tx x.tx) (is_named b x.tx) here in
    test_after (nat_eq x.tx d.tx) (is_committed s x.tx) (is_completed s x.tx && is_in s d.tx) (is_in (from_first d.tx s) x.tx) own gone) in
    picked_by-is f g p ∙ picked_by-place f g a d b front (true_or (nat_eq d.tx d.tx) (is_committed s d.tx && is_before s d.tx d.tx) (nat_eq-refl d.tx)) behind

-- of two that are named one stands before the other
pub stands_before-total : (p : List Decision) (t u : ℕ) → is_named p t ≡ true → is_named p u ≡ true → nat_eq t u ≡ false →
    (stands_before p t u ≡ true) ⊎ (stands_before p u t ≡ true)
stands_before-total [] t u there_t there_u differs = absurd (cc)
stands_before-total (x ∷ p) t u there_t there_u differs =
    elim (or_true (nat_eq x.tx t) (is_named p t) there_t) [
      | inl is_t ↦
          let not_u : nat_eq x.tx u ≡ false = subst (λ n. nat_eq n u ≡ false) (sym (nat_eq-is x.tx t is_t)) differs in
          let later : is_named p u ≡ true = sym (ap (λ k. k || is_named p u) not_u) ∙ there_u in
          inl (true_or (nat_eq x.tx t && is_named p u) (stands_before p t u) (true_and (nat_eq x.tx t) (is_named p u) is_t later))
      | inr later_t ↦
          elim (or_true (nat_eq x.tx u) (is_named p u) there_u) [
            | inl is_u ↦ inr (true_or (nat_eq x.tx u && is_named p t) (stands_before p u t) (true_and (nat_eq x.tx u) (is_named p t) is_u later_t))
            | inr later_u ↦
                elim (stands_before-total p t u later_t later_u differs) [
                  | inl l ↦ inl (or_right (nat_eq x.tx t && is_named p u) (stands_before p t u) l)
                  | inr r ↦ inr (or_right (nat_eq x.tx u && is_named p t) (stands_before p u t) r)
                ]
          ]
    ]

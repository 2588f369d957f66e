-- A history in which of two transactions one is always before the other is blocks joined.
use Rattle.std.proofs.Common.{◌≡◌, ◌≢◌, ℕ, Bool, true, false, cond, not, ◌&&◌, ◌||◌, nat_eq, ◌⊎◌, inl, inr, List, [], ◌∷◌, ◌++◌, map, refl, sym, ◌∙◌, ap, subst}
use Rattle.std.specs.List.{list_any}
use Rattle.aud_event.specs.declared.fact.Event.{Event}
use Rattle.aud_witness.specs.declared.decision.Fate.{Fate}
use Rattle.aud_witness.specs.declared.decision.Fate.TheVariants.{C, A}
use Rattle.aud_witness.specs.declared.decision.Decision.{Decision}
use Rattle.aud_history.specs.Histories.{History, events_of, is_in, is_commit, is_committed, is_completed, is_before, from_first}
use Rattle.aud_witness.specs.Orders.{is_kept, is_named, are_named_once}
use Rattle.aud_witness.specs.Letter.{IsSequential}
use Rattle.base_values.proofs.Bools.{or_false, and_true, true_and, true_or, or_right, not_true, not_false, split, nat_eq-refl, nat_eq-is, nat_eq-sym, or_again}
use Rattle.aud_history.proofs.Events.{events_of-append}
use Rattle.aud_witness.proofs.Beginnings.{named_at}
use Rattle.aud_history.proofs.ByPlaces.{not_in_rest}
use Rattle.aud_witness.proofs.Selected.{differ}
use Rattle.aud_witness.proofs.Blocks.{Each, Each-from_places, is_filled, joined_by, IsOrder, events_of-own, events_of-other, is_in-events_of}
use Rattle.std.proofs.lemmas.List.{append-nil}

abbrev Runs : Type 0
Runs = List (ℕ × List Event)

abbrev flat : Runs → History
flat [] = []
flat (b ∷ bs) = map (λ e. (b.0, e)) b.1 ++ flat bs

-- one more event in front: in the first run if it is of its transaction
abbrev add : ℕ × Event → Runs → Runs
add e [] = (e.0, e.1 ∷ []) ∷ []
add e (b ∷ bs) = cond (nat_eq b.0 e.0) ((b.0, e.1 ∷ b.1) ∷ bs) ((e.0, e.1 ∷ []) ∷ b ∷ bs)

abbrev runs : History → Runs
runs [] = []
runs (e ∷ s) = add e (runs s)

abbrev in_order : (ℕ → Fate) → Runs → List Decision
in_order g [] = []
in_order g (b ∷ bs) = record { tx = b.0; fate = g b.0 } ∷ in_order g bs

flat-add : (e : ℕ × Event) (bs : Runs) → flat (add e bs) ≡ e ∷ flat bs
flat-add e [] = refl
flat-add e (b ∷ bs) =
    elim (split (nat_eq b.0 e.0)) [
      | inl is_e ↦
          ap (λ k. flat (cond k ((b.0, e.1 ∷ b.1) ∷ bs) ((e.0, e.1 ∷ []) ∷ b ∷ bs))) is_e
          ∙ ap (λ n. (n, e.1) ∷ (map (λ x. (b.0, x)) b.1 ++ flat bs)) (nat_eq-is b.0 e.0 is_e)
      | inr other ↦ ap (λ k. flat (cond k ((b.0, e.1 ∷ b.1) ∷ bs) ((e.0, e.1 ∷ []) ∷ b ∷ bs))) other
    ]

flat-runs : (s : History) → flat (runs s) ≡ s
flat-runs [] = refl
flat-runs (e ∷ s) = flat-add e (runs s) ∙ ap (λ l. e ∷ l) (flat-runs s)

is_named-add : (g : ℕ → Fate) (e : ℕ × Event) (bs : Runs) (t : ℕ) → is_named (in_order g (add e bs)) t ≡ (nat_eq e.0 t || is_named (in_order g bs) t)
is_named-add g e [] t = refl
is_named-add g e (b ∷ bs) t =
    elim (split (nat_eq b.0 e.0)) [
      | inl is_e ↦
          ap (λ k. is_named (in_order g (cond k ((b.0, e.1 ∷ b.1) ∷ bs) ((e.0, e.1 ∷ []) ∷ b ∷ bs))) t) is_e
          ∙ or_again (nat_eq b.0 t) (is_named (in_order g bs) t)
          ∙ ap (λ n. nat_eq n t || (nat_eq b.0 t || is_named (in_order g bs) t)) (nat_eq-is b.0 e.0 is_e)
      | inr other ↦ ap (λ k. is_named (in_order g (cond k ((b.0, e.1 ∷ b.1) ∷ bs) ((e.0, e.1 ∷ []) ∷ b ∷ bs))) t) other
    ]

pub is_named-runs : (g : ℕ → Fate) (s : History) (t : ℕ) → is_named (in_order g (runs s)) t ≡ is_in s t
is_named-runs g [] t = refl
is_named-runs g (e ∷ s) t = is_named-add g e (runs s) t ∙ ap (λ k. nat_eq e.0 t || k) (is_named-runs g s t)

-- of two transactions one has no event after the first event of the other
abbrev NoReturn : History → Type 0
NoReturn s =
    (t u : ℕ) → is_in s t ≡ true → is_in s u ≡ true → nat_eq t u ≡ false → (is_in (from_first u s) t ≡ false) ⊎ (is_in (from_first t s) u ≡ false)

differ-numbers : (t u : ℕ) → nat_eq t u ≡ false → t ≢ u
differ-numbers t u no_match e = let again : nat_eq t u ≡ true = subst (λ x. nat_eq t x ≡ true) e (nat_eq-refl t) in (cc)

gone-from_before : (s : History) (t u : ℕ) → is_before s t u ≡ true → is_in (from_first u s) t ≡ false
gone-from_before s t u b = not_true (is_in (from_first u s) t) ((and_true (is_completed s t && is_in s u) (not (is_in (from_first u s) t)) b).1)

NoReturn-from_sequential : (s : History) → IsSequential s → NoReturn s
NoReturn-from_sequential s seq t u there_t there_u other =
    elim (seq t u there_t there_u (differ-numbers t u other)) [
      | inl l ↦ inl (gone-from_before s t u l)
      | inr r ↦ inr (gone-from_before s u t r)
    ]

from_first-tail : (e : ℕ × Event) (s : History) (t u : ℕ) → is_in (from_first u (e ∷ s)) t ≡ false → is_in (from_first u s) t ≡ false
from_first-tail e s t u none =
    elim (nat_eq e.0 u) as (λ k. is_in (cond k (e ∷ s) (from_first u s)) t ≡ false → is_in (from_first u s) t ≡ false) [
      | true ↦ λ n. not_in_rest u t s ((or_false (nat_eq e.0 t) (is_in s t) n).1)
      | false ↦ λ n. n
    ] none

NoReturn-tail : (e : ℕ × Event) (s : History) → NoReturn (e ∷ s) → NoReturn s
NoReturn-tail e s never t u there_t there_u other =
    elim (never t u (or_right (nat_eq e.0 t) (is_in s t) there_t) (or_right (nat_eq e.0 u) (is_in s u) there_u) other) [
      | inl l ↦ inl (from_first-tail e s t u l)
      | inr r ↦ inr (from_first-tail e s u t r)
    ]

-- where the next event is of another transaction, no later one is of this one
no_return : (e f : ℕ × Event) (s : History) → NoReturn (e ∷ f ∷ s) → nat_eq f.0 e.0 ≡ false → is_in (f ∷ s) e.0 ≡ false
no_return e f s never other =
    let off : nat_eq e.0 f.0 ≡ false = nat_eq-sym e.0 f.0 ∙ other in
    let there_e : is_in (e ∷ f ∷ s) e.0 ≡ true = true_or (nat_eq e.0 e.0) (is_in (f ∷ s) e.0) (nat_eq-refl e.0) in
    let there_f : is_in (e ∷ f ∷ s) f.0 ≡ true = or_right (nat_eq e.0 f.0) (is_in (f ∷ s) f.0) (true_or (nat_eq f.0 f.0) (is_in s f.0) (nat_eq-refl f.0)) in
    elim (never e.0 f.0 there_e there_f off) [
      | inl l ↦
          sym (ap (λ k. is_in (cond k (e ∷ f ∷ s) (cond (nat_eq f.0 f.0) (f ∷ s) (from_first f.0 s))) e.0) off
          ∙ ap (λ k. is_in (cond k (f ∷ s) (from_first f.0 s)) e.0) (nat_eq-refl f.0)) ∙ l
      | inr r ↦
          let again : is_in (e ∷ f ∷ s) f.0 ≡ false = sym (ap (λ k. is_in (cond k (e ∷ f ∷ s) (from_first e.0 (f ∷ s))) f.0) (nat_eq-refl e.0)) ∙ r in
          absurd (cc)
    ]

-- the runs of such a history are of different transactions
once-add : (g : ℕ → Fate) (e f : ℕ × Event) (s : History) → are_named_once (in_order g (runs (f ∷ s))) ≡ true →
    (nat_eq f.0 e.0 ≡ false → is_in (f ∷ s) e.0 ≡ false) → are_named_once (in_order g (add e (runs (f ∷ s)))) ≡ true
once-add g e f s once apart = go (runs s) (is_named-runs g (f ∷ s) e.0) once
  where
    other : (bs : Runs) → (b : ℕ × List Event) → nat_eq b.0 f.0 ≡ true → is_named (in_order g (b ∷ bs)) e.0 ≡ is_in (f ∷ s) e.0 → are_named_once (in_order g (b ∷ bs)) ≡ true →
        are_named_once (in_order g (add e (b ∷ bs))) ≡ true
    other bs b first named once_b =
        elim (split (nat_eq b.0 e.0)) [
          | inl is_e ↦ ap (λ k. are_named_once (in_order g (cond k ((b.0, e.1 ∷ b.1) ∷ bs) ((e.0, e.1 ∷ []) ∷ b ∷ bs)))) is_e ∙ once_b
          | inr not_e ↦
              let off : nat_eq f.0 e.0 ≡ false = subst (λ n. nat_eq n e.0 ≡ false) (nat_eq-is b.0 f.0 first) not_e in
              let new : is_named (in_order g (b ∷ bs)) e.0 ≡ false = named ∙ apart off in
              ap (λ k. are_named_once (in_order g (cond k ((b.0, e.1 ∷ b.1) ∷ bs) ((e.0, e.1 ∷ []) ∷ b ∷ bs)))) not_e
              ∙ true_and (not (is_named (in_order g (b ∷ bs)) e.0)) (are_named_once (in_order g (b ∷ bs))) (not_false (is_named (in_order g (b ∷ bs)) e.0) new) once_b
        ]

    go : (bs : Runs) → is_named (in_order g (add f bs)) e.0 ≡ is_in (f ∷ s) e.0 → are_named_once (in_order g (add f bs)) ≡ true →
        are_named_once (in_order g (add e (add f bs))) ≡ true
    go [] named once_f = other [] (f.0, f.1 ∷ []) (nat_eq-refl f.0) named once_f
    go (b ∷ bs) named once_f =
        elim (nat_eq b.0 f.0) as (λ k. nat_eq b.0 f.0 ≡ k → is_named (in_order g (cond k ((b.0, f.1 ∷ b.1) ∷ bs) ((f.0, f.1 ∷ []) ∷ b ∷ bs))) e.0 ≡ is_in (f ∷ s) e.0 →
        are_named_once (in_order g (cond k ((b.0, f.1 ∷ b.1) ∷ bs) ((f.0, f.1 ∷ []) ∷ b ∷ bs))) ≡ true →
        are_named_once (in_order g (add e (cond k ((b.0, f.1 ∷ b.1) ∷ bs) ((f.0, f.1 ∷ []) ∷ b ∷ bs)))) ≡ true) [
          | true ↦ λ is_f n o. other bs (b.0, f.1 ∷ b.1) is_f n o
          | false ↦ λ _ n o. other (b ∷ bs) (f.0, f.1 ∷ []) (nat_eq-refl f.0) n o
        ] refl named once_f

once-runs : (g : ℕ → Fate) (s : History) → NoReturn s → are_named_once (in_order g (runs s)) ≡ true
once-runs g [] never = refl
once-runs g (e ∷ []) never = refl
once-runs g (e ∷ f ∷ s) never = once-add g e f s (once-runs g (f ∷ s) (NoReturn-tail e (f ∷ s) never)) (no_return e f s never)

events_of-flat : (g : ℕ → Fate) (bs : Runs) (t : ℕ) → is_named (in_order g bs) t ≡ false → events_of t (flat bs) ≡ []
events_of-flat g [] t none = refl
events_of-flat g (b ∷ bs) t none =
    let both : (nat_eq b.0 t ≡ false) × (is_named (in_order g bs) t ≡ false) = or_false (nat_eq b.0 t) (is_named (in_order g bs) t) none in
    events_of-append t (map (λ e. (b.0, e)) b.1) (flat bs)
    ∙ ap (λ l. l ++ events_of t (flat bs)) (events_of-other t b.0 b.1 both.0) ∙ events_of-flat g bs t both.1

joined-flat : (s : History) (g : ℕ → Fate) (bs : Runs) → are_named_once (in_order g bs) ≡ true →
    ((t : ℕ) → is_named (in_order g bs) t ≡ true → events_of t s ≡ events_of t (flat bs)) → joined_by (λ d. events_of d.tx s) (in_order g bs) ≡ flat bs
joined-flat s g [] once agree = refl
joined-flat s g (b ∷ bs) once agree =
    let parts : (not (is_named (in_order g bs) b.0) ≡ true) × (are_named_once (in_order g bs) ≡ true) = and_true (not (is_named (in_order g bs) b.0)) (are_named_once (in_order g bs)) once in
    let alone : is_named (in_order g bs) b.0 ≡ false = not_true (is_named (in_order g bs) b.0) parts.0 in
    let own : events_of b.0 s ≡ b.1 =
    agree b.0 (true_or (nat_eq b.0 b.0) (is_named (in_order g bs) b.0) (nat_eq-refl b.0))
    ∙ events_of-append b.0 (map (λ e. (b.0, e)) b.1) (flat bs)
    ∙ ap (λ l. l ++ events_of b.0 (flat bs)) (events_of-own b.0 b.1)
    ∙ ap (λ l. b.1 ++ l) (events_of-flat g bs b.0 alone) ∙ append-nil b.1 in
    let tail : joined_by (λ d. events_of d.tx s) (in_order g bs) ≡ flat bs =
    joined-flat s g bs parts.1 (λ t there.
    agree t (or_right (nat_eq b.0 t) (is_named (in_order g bs) t) there)
    ∙ events_of-append t (map (λ e. (b.0, e)) b.1) (flat bs)
    ∙ ap (λ l. l ++ events_of t (flat bs)) (events_of-other t b.0 b.1 (differ (in_order g bs) b.0 t alone there))) in
    ap (λ es. map (λ e. (b.0, e)) es ++ joined_by (λ d. events_of d.tx s) (in_order g bs)) own ∙ ap (λ l. map (λ e. (b.0, e)) b.1 ++ l) tail

-- the fate that S gives a transaction
abbrev pub fate_in : History → ℕ → Fate
fate_in s t = cond (is_committed s t) C A

is_kept-fate : (t : ℕ) (k : Bool) → k ≡ is_kept (record { tx = t; fate = cond k C A })
is_kept-fate t true = refl
is_kept-fate t false = refl

Each-in_order : (P : Decision → Type 0) (g : ℕ → Fate) (bs : Runs) → ((t : ℕ) → P (record { tx = t; fate = g t })) → Each P (in_order g bs)
Each-in_order P g [] k = tt
Each-in_order P g (b ∷ bs) k = (k b.0, Each-in_order P g bs k)

-- the transactions of S in their order, each with its fate
abbrev pub order_of : History → List Decision
order_of s = in_order (fate_in s) (runs s)

pub is_named-order_of : (s : History) (t : ℕ) → is_named (order_of s) t ≡ is_in s t
is_named-order_of s t = is_named-runs (fate_in s) s t

pub fates-order_of : (P : Decision → Type 0) (s : History) → ((t : ℕ) → P (record { tx = t; fate = fate_in s t })) → Each P (order_of s)
fates-order_of P s k = Each-in_order P (fate_in s) (runs s) k

pub joined-order_of : (s : History) → IsSequential s → joined_by (λ d. events_of d.tx s) (order_of s) ≡ s
joined-order_of s seq =
    joined-flat s (fate_in s) (runs s) (once-runs (fate_in s) s (NoReturn-from_sequential s seq)) (λ t _. sym (ap (events_of t) (flat-runs s)))
    ∙ flat-runs s

pub IsOrder-order_of : (s : History) → IsSequential s → IsOrder (λ d. events_of d.tx s) (order_of s)
IsOrder-order_of s seq = record {
  once = once-runs (fate_in s) s (NoReturn-from_sequential s seq);
  filled = Each-from_places (λ d. is_filled (events_of d.tx s) ≡ true) (order_of s)
      (λ a d b e. sym (is_in-events_of s d.tx) ∙ sym (is_named-order_of s d.tx) ∙ subst (λ l. is_named l d.tx ≡ true) (sym e) (named_at a d b));
  fates = fates-order_of (λ d. list_any is_commit (events_of d.tx s) ≡ is_kept d) s (λ t. is_kept-fate t (is_committed s t));
}

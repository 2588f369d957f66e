-- What is aborted is seen by none, and what is kept is serial.
use Rattle.std.proofs.Common.{◌≡◌, ℕ, Bool, true, false, cond, not, ◌&&◌, ◌||◌, nat_eq, ◌⊎◌, inl, inr, List, [], ◌∷◌, ◌++◌, refl, sym, ◌∙◌, ap, subst, append_assoc}
use Rattle.std.specs.List.{list_any, list_all}
use Rattle.aud_event.specs.Meanings.{Declared}
use Rattle.aud_witness.specs.declared.decision.Fate.TheVariants.{C, A}
use Rattle.aud_witness.specs.declared.decision.Decision.{Decision}
use Rattle.aud_history.specs.Histories.{History, events_of, is_in, is_commit, is_abort, is_completed, is_before, from_first}
use Rattle.aud_kinds.specs.Objects.{IsLegal}
use Rattle.aud_witness.specs.Orders.{is_allowed, block, is_kept, is_named, are_named_once, stands_before, kept, visible, Shows}
use Rattle.aud_witness.specs.Sameness.{without}
use Rattle.base_values.proofs.Bools.{or_false, and_true, true_and, not_true, not_false, split, nat_eq-is, nat_eq-sym}
use Rattle.aud_witness.proofs.Beginnings.{is_named-append, new_at, new_after, named_at, visible_at}
use Rattle.aud_witness.proofs.Selected.{differ}
use Rattle.aud_witness.proofs.FromLetter.{is_in-completed}
use Rattle.aud_witness.proofs.Interleavings.{is_allowed-same, block-same}
use Rattle.std.proofs.lemmas.List.{append-nil}

-- the last of the kept blocks, if there is one
record HasLast (h : History) (p : List Decision) : Type 0 where
  front : List Decision
  last : Decision
  rest : List Decision
  whole : p ≡ front ++ last ∷ rest
  kept_is : kept h p ≡ kept h front ++ block h last

last_kept : (h : History) (p : List Decision) → (kept h p ≡ []) ⊎ HasLast h p
last_kept h [] = inl refl
last_kept h (x ∷ p) =
    elim (split (is_kept x)) [
      | inl keep ↦
          elim (last_kept h p) [
            | inl none ↦ inr (record {
              front = [];
              last = x;
              rest = p;
              whole = refl;
              kept_is = ap (λ k. cond k (block h x ++ kept h p) (kept h p)) keep ∙ ap (λ l. block h x ++ l) none ∙ append-nil (block h x);
            })
            | inr k ↦ inr (record {
              front = x ∷ k.front;
              last = k.last;
              rest = k.rest;
              whole = ap (λ l. x ∷ l) k.whole;
              kept_is = ap (λ b. cond b (block h x ++ kept h p) (kept h p)) keep ∙ ap (λ l. block h x ++ l) k.kept_is
                  ∙ sym (append_assoc (block h x) (kept h k.front) (block h k.last))
                  ∙ sym (ap (λ b. cond b (block h x ++ kept h k.front) (kept h k.front) ++ block h k.last) keep);
            })
          ]
      | inr drop ↦
          elim (last_kept h p) [
            | inl none ↦ inl (ap (λ k. cond k (block h x ++ kept h p) (kept h p)) drop ∙ none)
            | inr k ↦ inr (record {
              front = x ∷ k.front;
              last = k.last;
              rest = k.rest;
              whole = ap (λ l. x ∷ l) k.whole;
              kept_is = ap (λ b. cond b (block h x ++ kept h p) (kept h p)) drop ∙ k.kept_is
                  ∙ sym (ap (λ b. cond b (block h x ++ kept h k.front) (kept h k.front) ++ block h k.last) drop);
            })
          ]
    ]

pub IsLegal-kept : (objects : List Declared) (h : History) (p : List Decision) → Shows objects h p → IsLegal objects (kept h p)
IsLegal-kept objects h p s =
    elim (last_kept h p) [
      | inl none ↦ subst (λ l. IsLegal objects l) (sym none) (λ ob d e. tt)
      | inr k ↦
          let once : are_named_once (k.front ++ k.last ∷ k.rest) ≡ true = subst (λ l. are_named_once l ≡ true) k.whole s.full.once in
          let named : is_named p k.last.tx ≡ true = subst (λ l. is_named l k.last.tx ≡ true) (sym k.whole) (named_at k.front k.last k.rest) in
          let is : visible h p k.last.tx ≡ kept h p =
          ap (λ l. visible h l k.last.tx) k.whole ∙ visible_at h k.front k.last k.rest (new_at k.front k.last k.rest once) ∙ sym k.kept_is in
          subst (λ l. IsLegal objects l) is (s.legal k.last.tx named)
    ]

-- H without x: x does nothing there, and the others what they did
events_of-without : (x : ℕ) (h : History) (t : ℕ) → nat_eq x t ≡ false → events_of t (without x h) ≡ events_of t h
events_of-without x [] t other = refl
events_of-without x (e ∷ h) t other =
    elim (split (nat_eq e.0 x)) [
      | inl is_x ↦
          let off : nat_eq e.0 t ≡ false = subst (λ n. nat_eq n t ≡ false) (sym (nat_eq-is e.0 x is_x)) other in
          ap (λ k. events_of t (cond k (without x h) (e ∷ without x h))) is_x
          ∙ events_of-without x h t other
          ∙ sym (ap (λ k. cond k (e.1 ∷ events_of t h) (events_of t h)) off)
      | inr keep ↦
          ap (λ k. events_of t (cond k (without x h) (e ∷ without x h))) keep
          ∙ ap (λ l. cond (nat_eq e.0 t) (e.1 ∷ l) l) (events_of-without x h t other)
    ]

is_in-without : (x : ℕ) (h : History) (t : ℕ) → nat_eq x t ≡ false → is_in (without x h) t ≡ is_in h t
is_in-without x [] t other = refl
is_in-without x (e ∷ h) t other =
    elim (split (nat_eq e.0 x)) [
      | inl is_x ↦
          let off : nat_eq e.0 t ≡ false = subst (λ n. nat_eq n t ≡ false) (sym (nat_eq-is e.0 x is_x)) other in
          ap (λ k. is_in (cond k (without x h) (e ∷ without x h)) t) is_x
          ∙ is_in-without x h t other
          ∙ sym (ap (λ k. k || is_in h t) off)
      | inr keep ↦ ap (λ k. is_in (cond k (without x h) (e ∷ without x h)) t) keep ∙ ap (λ k. nat_eq e.0 t || k) (is_in-without x h t other)
    ]

not_in-without : (x : ℕ) (h : History) → is_in (without x h) x ≡ false
not_in-without x [] = refl
not_in-without x (e ∷ h) =
    elim (split (nat_eq e.0 x)) [
      | inl is_x ↦ ap (λ k. is_in (cond k (without x h) (e ∷ without x h)) x) is_x ∙ not_in-without x h
      | inr keep ↦ ap (λ k. is_in (cond k (without x h) (e ∷ without x h)) x) keep ∙ ap (λ k. k || is_in (without x h) x) keep ∙ not_in-without x h
    ]

from_first-without : (x u : ℕ) (h : History) → nat_eq x u ≡ false → from_first u (without x h) ≡ without x (from_first u h)
from_first-without x u [] other = refl
from_first-without x u (e ∷ h) other =
    elim (split (nat_eq e.0 x)) [
      | inl is_x ↦
          let off : nat_eq e.0 u ≡ false = subst (λ n. nat_eq n u ≡ false) (sym (nat_eq-is e.0 x is_x)) other in
          ap (λ k. from_first u (cond k (without x h) (e ∷ without x h))) is_x
          ∙ from_first-without x u h other
          ∙ sym (ap (λ k. without x (cond k (e ∷ h) (from_first u h))) off)
      | inr keep ↦
          ap (λ k. from_first u (cond k (without x h) (e ∷ without x h))) keep
          ∙ elim (nat_eq e.0 u) as (λ k. cond k (e ∷ without x h) (from_first u (without x h)) ≡ without x (cond k (e ∷ h) (from_first u h))) [
            | true ↦ sym (ap (λ k. cond k (without x h) (e ∷ without x h)) keep)
            | false ↦ from_first-without x u h other
          ]
    ]

is_before-without : (x t u : ℕ) (h : History) → nat_eq x t ≡ false → nat_eq x u ≡ false → is_before (without x h) t u ≡ is_before h t u
is_before-without x t u h off_t off_u =
    ap (λ es. ((list_any is_commit es || list_any is_abort es) && is_in (without x h) u) && not (is_in (from_first u (without x h)) t)) (events_of-without x h t off_t)
    ∙ ap (λ k. (is_completed h t && k) && not (is_in (from_first u (without x h)) t)) (is_in-without x h u off_u)
    ∙ ap (λ l. (is_completed h t && is_in h u) && not (is_in l t)) (from_first-without x u h off_u)
    ∙ ap (λ k. (is_completed h t && is_in h u) && not k) (is_in-without x (from_first u h) t off_t)

-- an order without a place
named_without : (a : List Decision) (d : Decision) (b : List Decision) (t : ℕ) → nat_eq d.tx t ≡ false → is_named (a ++ b) t ≡ is_named (a ++ d ∷ b) t
named_without [] d b t off = sym (ap (λ k. k || is_named b t) off)
named_without (x ∷ a) d b t off = ap (λ k. nat_eq x.tx t || k) (named_without a d b t off)

named_once_without : (a : List Decision) (d : Decision) (b : List Decision) → are_named_once (a ++ d ∷ b) ≡ true → is_named (a ++ b) d.tx ≡ false
named_once_without a d b once =
    is_named-append a b d.tx ∙ ap (λ k. k || is_named b d.tx) (new_at a d b once) ∙ new_after a d b once

once_without : (a : List Decision) (d : Decision) (b : List Decision) → are_named_once (a ++ d ∷ b) ≡ true → are_named_once (a ++ b) ≡ true
once_without [] d b once = (and_true (not (is_named b d.tx)) (are_named_once b) once).1
once_without (x ∷ a) d b once =
    let parts : (not (is_named (a ++ d ∷ b) x.tx) ≡ true) × (are_named_once (a ++ d ∷ b) ≡ true) = and_true (not (is_named (a ++ d ∷ b) x.tx)) (are_named_once (a ++ d ∷ b)) once in
    let alone : is_named (a ++ d ∷ b) x.tx ≡ false = not_true (is_named (a ++ d ∷ b) x.tx) parts.0 in
    let off : nat_eq d.tx x.tx ≡ false = nat_eq-sym d.tx x.tx ∙ differ (a ++ d ∷ b) x.tx d.tx alone (named_at a d b) in
    true_and (not (is_named (a ++ b) x.tx)) (are_named_once (a ++ b)) (not_false (is_named (a ++ b) x.tx) (named_without a d b x.tx off ∙ alone)) (once_without a d b parts.1)

stands_without : (a : List Decision) (d : Decision) (b : List Decision) (t u : ℕ) → nat_eq d.tx t ≡ false → nat_eq d.tx u ≡ false → stands_before (a ++ b) t u ≡ stands_before (a ++ d ∷ b) t u
stands_without [] d b t u off_t off_u = sym (ap (λ k. (k && is_named b u) || stands_before b t u) off_t)
stands_without (x ∷ a) d b t u off_t off_u =
    ap (λ k. (nat_eq x.tx t && k) || stands_before (a ++ b) t u) (named_without a d b u off_u)
    ∙ ap (λ k. (nat_eq x.tx t && is_named (a ++ d ∷ b) u) || k) (stands_without a d b t u off_t off_u)

-- what the others see
visible_none : (x : ℕ) (h : History) (b : List Decision) (t : ℕ) → is_named b x ≡ false → visible (without x h) b t ≡ visible h b t
visible_none x h [] t none = refl
visible_none x h (d ∷ b) t none =
    let both : (nat_eq d.tx x ≡ false) × (is_named b x ≡ false) = or_false (nat_eq d.tx x) (is_named b x) none in
    ap (λ l. cond (nat_eq d.tx t) l (cond (is_kept d) (l ++ visible (without x h) b t) (visible (without x h) b t)))
    (block-same (without x h) h d.tx d.tx d.fate (events_of-without x h d.tx (nat_eq-sym x d.tx ∙ both.0)))
    ∙ ap (λ l. cond (nat_eq d.tx t) (block h d) (cond (is_kept d) (block h d ++ l) l)) (visible_none x h b t both.1)

visible_unkept : (h : History) (a : List Decision) (d : Decision) (b : List Decision) (t : ℕ) → is_kept d ≡ false → nat_eq d.tx t ≡ false → visible h (a ++ b) t ≡ visible h (a ++ d ∷ b) t
visible_unkept h [] d b t drop off =
    sym (ap (λ k. cond k (block h d) (cond (is_kept d) (block h d ++ visible h b t) (visible h b t))) off ∙ ap (λ k. cond k (block h d ++ visible h b t) (visible h b t)) drop)
visible_unkept h (x ∷ a) d b t drop off = ap (λ l. cond (nat_eq x.tx t) (block h x) (cond (is_kept x) (block h x ++ l) l)) (visible_unkept h a d b t drop off)

allowed_without : (x : ℕ) (h : History) (p : List Decision) → is_named p x ≡ false → list_all (λ d. is_allowed (without x h) d.tx d.fate) p ≡ list_all (λ d. is_allowed h d.tx d.fate) p
allowed_without x h [] none = refl
allowed_without x h (d ∷ p) none =
    let both : (nat_eq d.tx x ≡ false) × (is_named p x ≡ false) = or_false (nat_eq d.tx x) (is_named p x) none in
    ap (λ k. k && list_all (λ e. is_allowed (without x h) e.tx e.fate) p) (is_allowed-same (without x h) h d.tx d.tx d.fate (events_of-without x h d.tx (nat_eq-sym x d.tx ∙ both.0)))
    ∙ ap (λ k. is_allowed h d.tx d.fate && k) (allowed_without x h p both.1)

all_without : (f : Decision → Bool) (a : List Decision) (d : Decision) (b : List Decision) → list_all f (a ++ d ∷ b) ≡ true → list_all f (a ++ b) ≡ true
all_without f [] d b all = (and_true (f d) (list_all f b) all).1
all_without f (x ∷ a) d b all =
    let parts : (f x ≡ true) × (list_all f (a ++ d ∷ b) ≡ true) = and_true (f x) (list_all f (a ++ d ∷ b)) all in
    true_and (f x) (list_all f (a ++ b)) parts.0 (all_without f a d b parts.1)

apart : (h : History) (x t : ℕ) → is_in (without x h) t ≡ true → nat_eq x t ≡ false
apart h x t there =
    elim (split (nat_eq x t)) [
      | inl is_x ↦ let never : is_in (without x h) t ≡ false = subst (λ n. is_in (without x h) n ≡ false) (nat_eq-is x t is_x) (not_in-without x h) in absurd (cc)
      | inr off ↦ off
    ]

-- it is before none, and none before it
both_others : (h : History) (x t u : ℕ) → is_before (without x h) t u ≡ true → (nat_eq x t ≡ false) × (nat_eq x u ≡ false)
both_others h x t u before =
    let g : History = without x h in
    let outer : ((is_completed g t && is_in g u) ≡ true) × (not (is_in (from_first u g) t) ≡ true) = and_true (is_completed g t && is_in g u) (not (is_in (from_first u g) t)) before in
    let inner : (is_completed g t ≡ true) × (is_in g u ≡ true) = and_true (is_completed g t) (is_in g u) outer.0 in
    (apart h x t (is_in-completed g t inner.0), apart h x u inner.1)

pub Shows-without_aborted : (objects : List Declared) (h : History) (a : List Decision) (d : Decision) (b : List Decision) → d.fate ≡ A →
    Shows objects h (a ++ d ∷ b) → Shows objects (without d.tx h) (a ++ b)
Shows-without_aborted objects h a d b fate s =
    let x : ℕ = d.tx in
    let g : History = without d.tx h in
    let none : is_named (a ++ b) d.tx ≡ false = named_once_without a d b s.full.once in
    let drop : is_kept d ≡ false = ap (λ f. elim f as (λ _. Bool) [ C ↦ true | A ↦ false ]) fate in
    record {
      full = record {
        once = once_without a d b s.full.once;
        same = λ t. elim (split (nat_eq d.tx t)) [
          | inl is_d ↦
              subst (λ n. is_named (a ++ b) n ≡ is_in g n) (nat_eq-is d.tx t is_d) (none ∙ sym (not_in-without d.tx h))
          | inr off ↦ named_without a d b t off ∙ s.full.same t ∙ sym (is_in-without d.tx h t off)
        ];
        allowed = allowed_without d.tx h (a ++ b) none ∙ all_without (λ e. is_allowed h e.tx e.fate) a d b s.full.allowed;
      };
      real_time = λ t u before.
          let off : (nat_eq d.tx t ≡ false) × (nat_eq d.tx u ≡ false) = both_others h d.tx t u before in
          stands_without a d b t u off.0 off.1 ∙ s.real_time t u (sym (is_before-without d.tx t u h off.0 off.1) ∙ before);
      legal = λ t named.
          let off : nat_eq d.tx t ≡ false = differ (a ++ b) d.tx t none named in
          subst (λ l. IsLegal objects l) (sym (visible_none d.tx h (a ++ b) t none ∙ visible_unkept h a d b t drop off))
          (s.legal t (sym (named_without a d b t off) ∙ named));
    }

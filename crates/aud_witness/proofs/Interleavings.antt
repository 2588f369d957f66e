-- Histories in which each transaction does the same.
use Rattle.std.proofs.Common.{◌≡◌, ◌≢◌, ℕ, Bool, true, false, cond, not, ◌&&◌, ◌||◌, nat_eq, inl, inr, List, [], ◌∷◌, ◌++◌, refl, sym, ◌∙◌, ap, subst}
use Rattle.std.specs.List.{list_any, list_all}
use Rattle.aud_event.specs.declared.fact.Event.{Event}
use Rattle.aud_event.specs.Meanings.{Declared}
use Rattle.aud_witness.specs.declared.decision.Fate.{Fate}
use Rattle.aud_witness.specs.declared.decision.Fate.TheVariants.{C, A}
use Rattle.aud_witness.specs.declared.decision.Decision.{Decision}
use Rattle.aud_history.specs.Histories.{History, events_of, is_in, is_commit, is_abort, is_try_commit, is_completed, is_before, from_first, is_live}
use Rattle.aud_history.specs.WellFormed.{IsWellFormed}
use Rattle.aud_kinds.specs.Objects.{IsLegal}
use Rattle.aud_witness.specs.Orders.{is_allowed, live_ending, block, is_kept, visible, Shows, Opaque}
use Rattle.aud_history.specs.Completions.{IsInserted, nothing, same, IsEquivalent}
use Rattle.aud_witness.specs.Letter.{IsSequential, KeepsRealTime, seen_by, Letter}
use Rattle.base_values.proofs.Bools.{or_false, and_true, true_and, not_true, not_false, is_false, split, nat_eq-is, nat_eq-sym}
use Rattle.aud_witness.proofs.FromLetter.{is_in-equivalent, Opaque-from_Letter}

pub list_all-same : {X : Type 0} (f g : X → Bool) → ((x : X) → f x ≡ g x) → (xs : List X) → list_all f xs ≡ list_all g xs
list_all-same f g e [] = refl
list_all-same f g e (x ∷ xs) = ap (λ k. k && list_all f xs) (e x) ∙ ap (λ k. g x && k) (list_all-same f g e xs)

-- the fates and the block of a transaction are known by what it did
pub is_allowed-same : (g h : History) (t u : ℕ) (fate : Fate) → events_of t g ≡ events_of u h → is_allowed g t fate ≡ is_allowed h u fate
is_allowed-same g h t u C e =
    ap (λ es. list_any is_commit es || (not (list_any is_commit es || list_any is_abort es) && list_any is_try_commit es)) e
is_allowed-same g h t u A e =
    ap (λ es. list_any is_abort es || not (list_any is_commit es || list_any is_abort es)) e

pub block-same : (g h : History) (t u : ℕ) (fate : Fate) → events_of t g ≡ events_of u h → block g (record { tx = t; fate = fate }) ≡ block h (record { tx = u; fate = fate })
block-same g h t u fate e = ap (λ es. es ++ cond (not (list_any is_commit es || list_any is_abort es)) (live_ending es fate) []) e

visible-same : (g h : History) (p : List Decision) (t : ℕ) → IsEquivalent g h → visible g p t ≡ visible h p t
visible-same g h [] t e = refl
visible-same g h (d ∷ p) t e =
    ap (λ l. cond (nat_eq d.tx t) l (cond (is_kept d) (l ++ visible g p t) (visible g p t))) (block-same g h d.tx d.tx d.fate (e d.tx))
    ∙ ap (λ l. cond (nat_eq d.tx t) (block h d) (cond (is_kept d) (block h d ++ l) l)) (visible-same g h p t e)

pub Shows-equivalent : (objects : List Declared) (g h : History) (p : List Decision) → IsEquivalent g h → KeepsRealTime h g → Shows objects g p → Shows objects h p
Shows-equivalent objects g h p e keeps s = record {
  full = record {
    once = s.full.once;
    same = λ t. s.full.same t ∙ is_in-equivalent g h e t;
    allowed = list_all-same (λ d. is_allowed h d.tx d.fate) (λ d. is_allowed g d.tx d.fate) (λ d. sym (is_allowed-same g h d.tx d.tx d.fate (e d.tx))) p ∙ s.full.allowed;
  };
  real_time = λ t u before. s.real_time t u (keeps t u before);
  legal = λ t named. subst (λ l. IsLegal objects l) (visible-same g h p t e) (s.legal t named);
}

not_inserted : (h a : History) → IsInserted h a a
not_inserted h [] = nothing
not_inserted h (e ∷ a) = same (not_inserted h a)

-- a complete sequential history is its own completion and its own serial history
pub Letter-from_serial : (objects : List Declared) (h : History) → IsWellFormed h → ((t : ℕ) → is_in h t ≡ true → is_completed h t ≡ true) → IsSequential h →
    ((t : ℕ) → is_in h t ≡ true → IsLegal objects (seen_by h t)) → Letter objects h
Letter-from_serial objects h well done seq legal = record {
  complete = h;
  serial = h;
  completion = record {
    well_formed = well;
    insertion = not_inserted h h;
    ended = done;
    aborted = λ t live _.
        let parts : (is_in h t ≡ true) × (is_live h t ≡ true) = and_true (is_in h t) (is_live h t) live in
        let no_live : is_completed h t ≡ false = not_true (is_completed h t) parts.1 in
        let over : is_completed h t ≡ true = done t parts.0 in
        absurd (cc);
  };
  equivalent = λ t. refl;
  sequential = seq;
  real_time = λ t u before. before;
  legal = legal;
}

pub Opaque-from_serial : (objects : List Declared) (h : History) → IsWellFormed h → ((t : ℕ) → is_in h t ≡ true → is_completed h t ≡ true) → IsSequential h →
    ((t : ℕ) → is_in h t ≡ true → IsLegal objects (seen_by h t)) → Opaque objects h
Opaque-from_serial objects h well done seq legal = Opaque-from_Letter objects h (Letter-from_serial objects h well done seq legal)

-- two neighbours of different transactions change places
events_of-swap : (a b : History) (e f : ℕ × Event) → nat_eq e.0 f.0 ≡ false → IsEquivalent (a ++ e ∷ f ∷ b) (a ++ f ∷ e ∷ b)
events_of-swap [] b e f other t =
    elim (split (nat_eq e.0 t)) [
      | inl is_t ↦
          let off : nat_eq f.0 t ≡ false = nat_eq-sym f.0 t ∙ subst (λ n. nat_eq n f.0 ≡ false) (nat_eq-is e.0 t is_t) other in
          rw (is_t, off) refl
      | inr off ↦ rw off refl
    ]
events_of-swap (x ∷ a) b e f other t = ap (λ l. cond (nat_eq x.0 t) (x.1 ∷ l) l) (events_of-swap a b e f other t)

from_first-swap : (a b : History) (e f : ℕ × Event) (t u : ℕ) → nat_eq e.0 f.0 ≡ false → (nat_eq f.0 t ≡ true → nat_eq e.0 u ≡ true → ⊥) →
    is_in (from_first u (a ++ f ∷ e ∷ b)) t ≡ false → is_in (from_first u (a ++ e ∷ f ∷ b)) t ≡ false
from_first-swap [] b e f t u other never none =
    elim (split (nat_eq e.0 u)) [
      | inl is_u ↦
          let off : nat_eq f.0 u ≡ false = nat_eq-sym f.0 u ∙ subst (λ n. nat_eq n f.0 ≡ false) (nat_eq-is e.0 u is_u) other in
          let k : (nat_eq e.0 t || is_in b t) ≡ false = sym (rw (off, is_u) refl) ∙ none in
          let both : (nat_eq e.0 t ≡ false) × (is_in b t ≡ false) = or_false (nat_eq e.0 t) (is_in b t) k in
          elim (split (nat_eq f.0 t)) [
            | inl is_t ↦ absurd (never is_t is_u)
            | inr not_t ↦ rw (is_u, both.0, not_t) both.1
          ]
      | inr not_u ↦
          elim (split (nat_eq f.0 u)) [
            | inl is_f ↦
                let k : (nat_eq f.0 t || (nat_eq e.0 t || is_in b t)) ≡ false = sym (rw is_f refl) ∙ none in
                let both : (nat_eq f.0 t ≡ false) × ((nat_eq e.0 t || is_in b t) ≡ false) = or_false (nat_eq f.0 t) (nat_eq e.0 t || is_in b t) k in
                rw (not_u, is_f, both.0) ((or_false (nat_eq e.0 t) (is_in b t) both.1).1)
            | inr not_f ↦
                let k : is_in (from_first u b) t ≡ false = sym (rw (not_f, not_u) refl) ∙ none in
                rw (not_u, not_f) k
          ]
    ]
from_first-swap (x ∷ a) b e f t u other never none =
    elim (nat_eq x.0 u) as (λ k. is_in (cond k (x ∷ (a ++ f ∷ e ∷ b)) (from_first u (a ++ f ∷ e ∷ b))) t ≡ false → is_in (cond k (x ∷ (a ++ e ∷ f ∷ b)) (from_first u (a ++ e ∷ f ∷ b))) t ≡ false) [
      | true ↦ λ n. ap (λ k. nat_eq x.0 t || k) (is_in-equivalent (a ++ e ∷ f ∷ b) (a ++ f ∷ e ∷ b) (events_of-swap a b e f other) t) ∙ n
      | false ↦ λ n. from_first-swap a b e f t u other never n
    ] none

pub Shows-swap : (objects : List Declared) (a b : History) (e f : ℕ × Event) (p : List Decision) → e.0 ≢ f.0 → is_before (a ++ f ∷ e ∷ b) f.0 e.0 ≡ false →
    Shows objects (a ++ e ∷ f ∷ b) p → Shows objects (a ++ f ∷ e ∷ b) p
Shows-swap objects a b e f p other never =
    let g : History = a ++ e ∷ f ∷ b in
    let h : History = a ++ f ∷ e ∷ b in
    let apart : nat_eq e.0 f.0 ≡ false = is_false (nat_eq e.0 f.0) (λ k. other (nat_eq-is e.0 f.0 k)) in
    let same_events : IsEquivalent g h = events_of-swap a b e f apart in
    Shows-equivalent objects g h p same_events (λ t u before.
    let outer : ((is_completed h t && is_in h u) ≡ true) × (not (is_in (from_first u h) t) ≡ true) = and_true (is_completed h t && is_in h u) (not (is_in (from_first u h) t)) before in
    let inner : (is_completed h t ≡ true) × (is_in h u ≡ true) = and_true (is_completed h t) (is_in h u) outer.0 in
    let gone : is_in (from_first u g) t ≡ false =
    from_first-swap a b e f t u apart (λ is_t is_u.
    let again : is_before h f.0 e.0 ≡ true = subst (λ n. is_before h n e.0 ≡ true) (sym (nat_eq-is f.0 t is_t)) (subst (λ n. is_before h t n ≡ true) (sym (nat_eq-is e.0 u is_u)) before) in
    (cc)) (not_true (is_in (from_first u h) t) outer.1) in
    true_and (is_completed g t && is_in g u) (not (is_in (from_first u g) t))
    (true_and (is_completed g t) (is_in g u)
    (ap (λ es. list_any is_commit es || list_any is_abort es) (same_events t) ∙ inner.0)
    (is_in-equivalent g h same_events u ∙ inner.1))
    (not_false (is_in (from_first u g) t) gone))

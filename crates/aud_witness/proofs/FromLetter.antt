-- From a completion and a serial history to an order that shows.
use Rattle.std.proofs.Common.{◌≡◌, ℕ, Bool, true, false, cond, not, ◌&&◌, ◌||◌, inl, inr, List, [], ◌∷◌, refl, sym, ◌∙◌, ap, subst}
use Rattle.std.specs.List.{list_any, list_all}
use Rattle.aud_event.specs.declared.fact.Event.{Event}
use Rattle.aud_event.specs.Meanings.{Declared}
use Rattle.aud_witness.specs.declared.decision.Fate.TheVariants.{C, A}
use Rattle.aud_witness.specs.declared.decision.Decision.{Decision}
use Rattle.aud_history.specs.Histories.{History, events_of, is_in, is_commit, is_committed, is_aborted, is_completed, is_live, is_commit_pending, is_before, from_first}
use Rattle.aud_kinds.specs.Objects.{on_object}
use Rattle.aud_witness.specs.Orders.{is_allowed, is_named, visible, IsFull, Opaque}
use Rattle.aud_history.specs.Completions.{IsCompletion, IsEquivalent}
use Rattle.aud_witness.specs.Letter.{IsSequential, seen_by, Letter}
use Rattle.base_values.proofs.Bools.{and_true, true_and, true_or, or_right, not_false, split}
use Rattle.aud_witness.proofs.Beginnings.{named_at}
use Rattle.aud_witness.proofs.Blocks.{Each, Each-from_places, Each-at, is_filled, joined_by, IsOrder, is_in-events_of}
use Rattle.aud_witness.proofs.Runs.{fate_in, order_of, is_named-order_of, fates-order_of, joined-order_of, IsOrder-order_of}
use Rattle.aud_history.proofs.Insertions.{is_in-inserted, events_of-inserted, on_object-inserted}
use Rattle.aud_history.proofs.Ends.{has_end, not_both}
use Rattle.aud_witness.proofs.Endings.{on_object-block}
use Rattle.aud_witness.proofs.Seen.{IsLegal-same, seen_by-visible, stands_before-blocks}

pub list_all-from_Each : {X : Type 0} (test : X → Bool) (xs : List X) → Each (λ x. test x ≡ true) xs → list_all test xs ≡ true
list_all-from_Each test [] k = refl
list_all-from_Each test (x ∷ xs) k = true_and (test x) (list_all test xs) k.0 (list_all-from_Each test xs k.1)

filled-from_end : (es : List Event) → has_end es ≡ true → is_filled es ≡ true
filled-from_end [] ended = ended
filled-from_end (e ∷ es) ended = refl

-- a completed transaction is there
pub is_in-completed : (h : History) (t : ℕ) → is_completed h t ≡ true → is_in h t ≡ true
is_in-completed h t done = is_in-events_of h t ∙ filled-from_end (events_of t h) done

-- equivalent histories have the same transactions
pub is_in-equivalent : (a b : History) → IsEquivalent a b → (t : ℕ) → is_in a t ≡ is_in b t
is_in-equivalent a b same t = is_in-events_of a t ∙ ap is_filled (same t) ∙ sym (is_in-events_of b t)

-- the fate that a completion gives is allowed
fate_allowed : (h h2 : History) (t : ℕ) → IsCompletion h h2 → is_in h t ≡ true → is_allowed h t (cond (is_committed h2 t) C A) ≡ true
fate_allowed h h2 t k there =
    elim (split (is_completed h t)) [
      | inl done ↦
          let same_committed : is_committed h2 t ≡ is_committed h t = ap (list_any is_commit) (events_of-inserted k.insertion t done) in
          ap (λ c. is_allowed h t (cond c C A)) same_committed ∙ of_completed (is_committed h t) (is_aborted h t) done refl refl
      | inr open_ ↦
          let live : is_live h t ≡ true = not_false (is_completed h t) open_ in
          elim (split (is_commit_pending h t)) [
            | inl pending ↦ of_pending (is_committed h2 t) live pending
            | inr not_pending ↦
                let aborts : is_aborted h2 t ≡ true = k.aborted t (true_and (is_in h t) (is_live h t) there live) not_pending in
                ap (λ c. is_allowed h t (cond c C A)) (not_both (events_of t h2) (k.well_formed t) aborts)
                ∙ or_right (is_aborted h t) (is_live h t) live
          ]
    ]
  where
    of_completed : (c a : Bool) → (c || a) ≡ true → is_committed h t ≡ c → is_aborted h t ≡ a → is_allowed h t (cond c C A) ≡ true
    of_completed true a done is_c is_a = true_or (is_committed h t) (is_commit_pending h t) is_c
    of_completed false a done is_c is_a = true_or (is_aborted h t) (is_live h t) (is_a ∙ done)

    of_pending : (c : Bool) → is_live h t ≡ true → is_commit_pending h t ≡ true → is_allowed h t (cond c C A) ≡ true
    of_pending true live pending = or_right (is_committed h t) (is_commit_pending h t) pending
    of_pending false live pending = or_right (is_aborted h t) (is_live h t) live

IsFull-from_completion : (h h2 s : History) → IsCompletion h h2 → IsEquivalent s h2 → IsSequential s → IsFull h (order_of s)
IsFull-from_completion h h2 s k same seq =
    let order : IsOrder (λ d. events_of d.tx s) (order_of s) = IsOrder-order_of s seq in
    let names : (t : ℕ) → is_named (order_of s) t ≡ is_in h t = λ t. is_named-order_of s t ∙ is_in-equivalent s h2 same t ∙ is_in-inserted k.insertion t in
    let fates : Each (λ d. d.fate ≡ fate_in s d.tx) (order_of s) = fates-order_of (λ d. d.fate ≡ fate_in s d.tx) s (λ t. refl) in
    record {
      once = order.once;
      same = names;
      allowed = list_all-from_Each (λ d. is_allowed h d.tx d.fate) (order_of s)
          (Each-from_places (λ d. is_allowed h d.tx d.fate ≡ true) (order_of s) (λ a d b e.
          let there : is_in h d.tx ≡ true = sym (names d.tx) ∙ subst (λ l. is_named l d.tx ≡ true) (sym e) (named_at a d b) in
          let is_fate : d.fate ≡ fate_in s d.tx = Each-at (λ x. x.fate ≡ fate_in s x.tx) a d b (subst (λ l. Each (λ x. x.fate ≡ fate_in s x.tx) l) e fates) in
          ap (is_allowed h d.tx) is_fate
          ∙ ap (λ es. is_allowed h d.tx (cond (list_any is_commit es) C A)) (same d.tx)
          ∙ fate_allowed h h2 d.tx k there));
    }

pub Opaque-from_Letter : (objects : List Declared) (h : History) → Letter objects h → Opaque objects h
Opaque-from_Letter objects h k =
    let s : History = k.serial in
    let f : Decision → List Event = λ d. events_of d.tx s in
    let order : IsOrder f (order_of s) = IsOrder-order_of s k.sequential in
    let is_s : joined_by f (order_of s) ≡ s = joined-order_of s k.sequential in (
      order_of s,
      record {
        full = IsFull-from_completion h k.complete s k.completion k.equivalent k.sequential;
        real_time = λ t u before.
            let in_s : is_before s t u ≡ true = k.real_time t u before in
            let outer : ((is_completed s t && is_in s u) ≡ true) × (not (is_in (from_first u s) t) ≡ true) = and_true (is_completed s t && is_in s u) (not (is_in (from_first u s) t)) in_s in
            let inner : (is_completed s t ≡ true) × (is_in s u ≡ true) = and_true (is_completed s t) (is_in s u) outer.0 in
            stands_before-blocks f (order_of s) t u order (is_named-order_of s t ∙ is_in-completed s t inner.0) (is_named-order_of s u ∙ inner.1)
            (subst (λ l. is_before l t u ≡ true) (sym is_s) in_s);
        legal = λ t named.
            IsLegal-same objects (seen_by s t) (visible h (order_of s) t)
            (λ ob. ap (λ l. on_object ob (seen_by l t)) (sym is_s)
            ∙ seen_by-visible f h (order_of s) t order named
            (λ o d. ap (on_object o) (k.equivalent d.tx) ∙ on_object-inserted k.completion.insertion o d.tx ∙ sym (on_object-block o h d)) ob)
            (k.legal t (sym (is_named-order_of s t) ∙ named));
      },
    )

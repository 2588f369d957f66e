-- One more event: when a history stays well-formed.
use Rattle.std.proofs.Common.{◌≡◌, ℕ, false, cond, nat_eq, ◌<◌, get_or, set, take, drop, replicate, ◌≤◌, ◌+◌, inl, inr, List, [], ◌∷◌, ◌++◌, length, Result, Ok, Err, refl, sym, ◌∙◌, ap, subst, append_assoc, arith, length-set, get_or-set_same, get_or-set_other, length-take, ◌≢◌, IsOk, ◌↔◌}
use Rattle.aud_event.specs.declared.fact.Event.{Event}
use Rattle.aud_event.specs.Limits.{most_transactions}
use Rattle.aud_history.specs.declared.rule.Rule.{Rule}
use Rattle.aud_history.specs.declared.state.TxState.{TxState}
use Rattle.aud_history.specs.declared.state.TxState.TheVariants.{Idle}
use Rattle.aud_history.specs.Histories.{History, events_of}
use Rattle.aud_history.specs.WellFormed.{IsTransaction, IsWellFormed}
use Rattle.aud_history.specs.ByState.{after, run, Passes}
use Rattle.std.proofs.lemmas.List.{take_all, get_or-replicate, take-append-drop, take_more, append-nil}
use Rattle.std.proofs.lemmas.Bool.Decides.{nat_tests}
use Rattle.aud_history.specs.FirstFault.{IsFirstFault}
use Rattle.base_values.proofs.Bools.{split, nat_eq-refl, nat_eq-is}
use Rattle.aud_history.proofs.StateTable.{Continues-from_Passes, Passes-from_IsTransaction}
use Rattle.aud_history.proofs.Events.{events_of-append}

-- events that lead to a state break no rule
pub Passes-from_run : (s : TxState) (es : List Event) (t : TxState) → run s es ≡ Ok t → Passes s es
Passes-from_run s [] t h = tt
Passes-from_run s (e ∷ es) t h =
    elim (after s e) as (λ r. (elim r as (λ (_ : Result TxState Rule). Result TxState Rule) [ Ok next ↦ run next es | Err rule ↦ Err rule ]) ≡ Ok t
    → (elim r as (λ (_ : Result TxState Rule). Type 0) [ Ok next ↦ Passes next es | Err _ ↦ ⊥ ])) [
      | Ok next ↦ λ p. Passes-from_run next es t p
      | Err rule ↦ λ p. absurd (cc)
    ] h

pub not_Passes-from_run : (s : TxState) (es : List Event) (rule : Rule) → run s es ≡ Err rule → Passes s es → ⊥
not_Passes-from_run s [] rule h p = absurd (cc)
not_Passes-from_run s (e ∷ es) rule h p =
    elim (after s e) as (λ r. (elim r as (λ (_ : Result TxState Rule). Result TxState Rule) [ Ok next ↦ run next es | Err broken ↦ Err broken ]) ≡ Err rule
    → (elim r as (λ (_ : Result TxState Rule). Type 0) [ Ok next ↦ Passes next es | Err _ ↦ ⊥ ]) → ⊥) [
      | Ok next ↦ λ q k. not_Passes-from_run next es rule q k
      | Err broken ↦ λ q k. k
    ] h p

one : (r : Result TxState Rule) → (elim r as (λ (_ : Result TxState Rule). Result TxState Rule) [ Ok next ↦ Ok next | Err rule ↦ Err rule ]) ≡ r
one (Ok next) = refl
one (Err rule) = refl

-- one more event after a state
pub run-push : (s : TxState) (es : List Event) (t : TxState) (e : Event) → run s es ≡ Ok t → run s (es ++ e ∷ []) ≡ after t e
run-push s [] t e h =
    let same : s ≡ t = cc in
    subst (λ u. run s (e ∷ []) ≡ after u e) same (one (after s e))
run-push s (x ∷ es) t e h =
    elim (after s x) as (λ r. (elim r as (λ (_ : Result TxState Rule). Result TxState Rule) [ Ok next ↦ run next es | Err rule ↦ Err rule ]) ≡ Ok t
    → (elim r as (λ (_ : Result TxState Rule). Result TxState Rule) [ Ok next ↦ run next (es ++ e ∷ []) | Err rule ↦ Err rule ]) ≡ after t e) [
      | Ok next ↦ λ p. run-push next es t e p
      | Err rule ↦ λ p. absurd (cc)
    ] h

-- the events of a transaction when one more event comes
pub events_of-own : (h : History) (e : ℕ × Event) → events_of e.0 (h ++ e ∷ []) ≡ events_of e.0 h ++ e.1 ∷ []
events_of-own h e = events_of-append e.0 h (e ∷ []) ∙ ap (λ b. events_of e.0 h ++ cond b (e.1 ∷ []) []) (nat_eq-refl e.0)

pub events_of-other : (h : History) (e : ℕ × Event) (t : ℕ) → nat_eq e.0 t ≡ false → events_of t (h ++ e ∷ []) ≡ events_of t h
events_of-other h e t other =
    events_of-append t h (e ∷ []) ∙ ap (λ b. events_of t h ++ cond b (e.1 ∷ []) []) other ∙ append-nil (events_of t h)

pub IsWellFormed-empty : IsWellFormed []
IsWellFormed-empty t = Continues-from_Passes Idle [] tt

-- where the event's own transaction breaks no rule, the longer history is well-formed
pub IsWellFormed-push : (h : History) (e : ℕ × Event) (s : TxState) → IsWellFormed h → run Idle (events_of e.0 (h ++ e ∷ [])) ≡ Ok s → IsWellFormed (h ++ e ∷ [])
IsWellFormed-push h e s fine own t =
    elim (split (nat_eq e.0 t)) [
      | inl same ↦ subst (λ n. IsTransaction (events_of n (h ++ e ∷ []))) (nat_eq-is e.0 t same)
          (Continues-from_Passes Idle (events_of e.0 (h ++ e ∷ [])) (Passes-from_run Idle (events_of e.0 (h ++ e ∷ [])) s own))
      | inr other ↦ subst (λ es. IsTransaction es) (sym (events_of-other h e t other)) (fine t)
    ]

-- where it breaks one, it is not
pub not_IsWellFormed-push : (h : History) (e : ℕ × Event) (rule : Rule) → run Idle (events_of e.0 (h ++ e ∷ [])) ≡ Err rule → IsWellFormed (h ++ e ∷ []) → ⊥
not_IsWellFormed-push h e rule own fine =
    not_Passes-from_run Idle (events_of e.0 (h ++ e ∷ [])) rule own (Passes-from_IsTransaction (events_of e.0 (h ++ e ∷ [])) (fine e.0))

-- what the loop knows: the beginning is well-formed, and the state of each transaction after it
pub record Reads (h : History) (states : List TxState) : Type 0 where
  pub size : length states ≡ most_transactions
  pub fine : IsWellFormed h
  pub known : (t : ℕ) → t < most_transactions → run Idle (events_of t h) ≡ Ok (get_or states t Idle)

module _ (h : History) (states : List TxState) (i : ℕ) (d : ℕ × Event) (inside : i < length h) (small : (get_or h i d).0 < most_transactions) (reads : Reads (take i h) states) where
  own_run : run Idle (events_of (get_or h i d).0 (take i h ++ get_or h i d ∷ [])) ≡ after (get_or states (get_or h i d).0 Idle) (get_or h i d).1
  own_run =
      subst (λ es. run Idle es ≡ after (get_or states (get_or h i d).0 Idle) (get_or h i d).1) (sym (events_of-own (take i h) (get_or h i d)))
      (run-push Idle (events_of (get_or h i d).0 (take i h)) (get_or states (get_or h i d).0 Idle) (get_or h i d).1 (reads.known (get_or h i d).0 small))

  pub fault_at : (rule : Rule) → after (get_or states (get_or h i d).0 Idle) (get_or h i d).1 ≡ Err rule → IsFirstFault h i rule
  fault_at rule breaks = record {
    before = take i h;
    event = get_or h i d;
    rest = drop (i + 1) h;
    whole = sym (take-append-drop (i + 1) h) ∙ ap (λ l. l ++ drop (i + 1) h) (take_more h i d inside) ∙ append_assoc (take i h) (get_or h i d ∷ []) (drop (i + 1) h);
    place = omega (arith, length-take {A = ℕ × Event});
    fine = reads.fine;
    faulty = not_IsWellFormed-push (take i h) (get_or h i d) rule (own_run ∙ breaks);
    broken = own_run ∙ breaks;
  }

  pub read_on : (next : TxState) → after (get_or states (get_or h i d).0 Idle) (get_or h i d).1 ≡ Ok next → Reads (take (i + 1) h) (set states (get_or h i d).0 next)
  read_on next goes =
      subst (λ l. Reads l (set states (get_or h i d).0 next)) (sym (take_more h i d inside)) (record {
        size = length-set states (get_or h i d).0 next ∙ reads.size;
        fine = IsWellFormed-push (take i h) (get_or h i d) next reads.fine (own_run ∙ goes);
        known = λ t below.
            elim (split (nat_eq (get_or h i d).0 t)) [
              | inl same ↦
                  subst (λ n. run Idle (events_of n (take i h ++ get_or h i d ∷ [])) ≡ Ok (get_or (set states (get_or h i d).0 next) n Idle)) (nat_eq-is (get_or h i d).0 t same)
                  (own_run ∙ goes ∙ ap Ok (let lt : (get_or h i d).0 < length states = omega (arith, reads.size) in rw get_or-set_same refl))
              | inr other ↦
                  let differs : t ≢ (get_or h i d).0 = grind (arith, nat_tests) in
                  ap (λ es. run Idle es) (events_of-other (take i h) (get_or h i d) t other) ∙ reads.known t below ∙ ap Ok (rw get_or-set_other refl)
            ];
      })

pub all_idle : Reads [] (replicate most_transactions Idle)
all_idle = record {
  size = refl;
  fine = IsWellFormed-empty;
  known = λ t below. ap Ok (sym (get_or-replicate most_transactions t Idle Idle below));
}

pub read_all : (h : History) (states : List TxState) (i : ℕ) → length h ≤ i → Reads (take i h) states → IsWellFormed h
read_all h states i end reads = subst (λ l. IsWellFormed l) (take_all i h end) reads.fine

-- events that break no rule lead to a state
pub run-from_Passes : (s : TxState) (es : List Event) → Passes s es → (t : TxState) × (run s es ≡ Ok t)
run-from_Passes s [] h = (s, refl)
run-from_Passes s (e ∷ es) h =
    elim (after s e) as (λ r. (elim r as (λ (_ : Result TxState Rule). Type 0) [ Ok next ↦ Passes next es | Err _ ↦ ⊥ ])
    → (t : TxState) × ((elim r as (λ (_ : Result TxState Rule). Result TxState Rule) [ Ok next ↦ run next es | Err rule ↦ Err rule ]) ≡ Ok t)) [
      | Ok next ↦ λ p. run-from_Passes next es p
      | Err rule ↦ λ p. absurd p
    ] h

-- where a transaction goes on with an event, the table has a state for it
taken : (es : List Event) (e : Event) (r : Result TxState Rule) → run Idle (es ++ e ∷ []) ≡ r → IsTransaction (es ++ e ∷ []) → IsOk r
taken es e (Ok next) leads goes = refl
taken es e (Err rule) breaks goes = absurd (not_Passes-from_run Idle (es ++ e ∷ []) rule breaks (Passes-from_IsTransaction (es ++ e ∷ []) goes))

goes_on : (es : List Event) (e : Event) (r : Result TxState Rule) → run Idle (es ++ e ∷ []) ≡ r → IsOk r → IsTransaction (es ++ e ∷ [])
goes_on es e (Ok next) leads ok = Continues-from_Passes Idle (es ++ e ∷ []) (Passes-from_run Idle (es ++ e ∷ []) next leads)
goes_on es e (Err rule) breaks ok = absurd (cc)

-- after a beginning of `O F` the table is in a state, and reports a rule exactly where the next event does not fit
pub reported_rule : (es : List Event) → IsTransaction es → (s : TxState) × ((run Idle es ≡ Ok s) × ((e : Event) → IsTransaction (es ++ e ∷ []) ↔ IsOk (after s e)))
reported_rule es goes =
    let (s, leads) = run-from_Passes Idle es (Passes-from_IsTransaction es goes) in
    (s, (leads, λ e. (taken es e (after s e) (run-push Idle es s e leads), goes_on es e (after s e) (run-push Idle es s e leads))))

-- A history that has a well-formed completion is well-formed.
use Rattle.std.proofs.Common.{◌≡◌, ℕ, true, false, cond, nat_eq, inl, inr, List, [], ◌∷◌, refl, sym, subst, Result, Ok, Err}
use Rattle.std.specs.List.{list_any}
use Rattle.aud_event.specs.declared.fact.Event.{Event}
use Rattle.aud_event.specs.declared.fact.Event.TheVariants.{Inv, Ret, TryC, TryA, Commit, Abort}
use Rattle.aud_history.specs.declared.rule.Rule.{Rule}
use Rattle.aud_history.specs.declared.state.TxState.{TxState}
use Rattle.aud_history.specs.declared.state.TxState.TheVariants.{Idle, Pending, TriedCommit, TriedAbort, Ended}
use Rattle.aud_history.specs.Histories.{History, events_of, is_commit, is_abort, is_committed, is_aborted, is_completed}
use Rattle.aud_history.specs.WellFormed.{IsTransaction, IsWellFormed}
use Rattle.aud_history.specs.ByState.{after, Passes}
use Rattle.aud_history.specs.Completions.{is_completing, IsInserted, nothing, same, inserted, IsCompletion}
use Rattle.base_values.proofs.Bools.{or_false, split}
use Rattle.aud_history.proofs.StateTable.{Continues-from_Passes, Passes-from_IsTransaction}
use Rattle.aud_history.proofs.Insertions.{events_of-inserted}

-- the same of one transaction's events
data IsFilled : List Event → List Event → Type 0 where
  no_event : IsFilled [] []
  old_event : {e : Event} {es fs : List Event} → IsFilled es fs → IsFilled (e ∷ es) (e ∷ fs)
  new_event : {e : Event} {es fs : List Event} → is_completing e ≡ true → IsFilled es fs → IsFilled es (e ∷ fs)

IsFilled-from_inserted : {h a b : History} → IsInserted h a b → (t : ℕ) → IsFilled (events_of t a) (events_of t b)
IsFilled-from_inserted nothing t = no_event
IsFilled-from_inserted (same {e = e} {a = a} {b = b} i) t =
    elim (nat_eq e.0 t) as (λ k. IsFilled (cond k (e.1 ∷ events_of t a) (events_of t a)) (cond k (e.1 ∷ events_of t b) (events_of t b))) [
      | true ↦ old_event (IsFilled-from_inserted i t)
      | false ↦ IsFilled-from_inserted i t
    ]
IsFilled-from_inserted (inserted {e = e} {a = a} {b = b} live fits i) t =
    elim (nat_eq e.0 t) as (λ k. IsFilled (events_of t a) (cond k (e.1 ∷ events_of t b) (events_of t b))) [
      | true ↦ new_event fits (IsFilled-from_inserted i t)
      | false ↦ IsFilled-from_inserted i t
    ]

ended_left : {es fs : List Event} → IsFilled es fs → Passes Ended fs → es ≡ []
ended_left no_event p = refl
ended_left (old_event i) p = absurd p
ended_left (new_event fits i) p = absurd p

tried_left : {es fs : List Event} → IsFilled es fs → Passes TriedCommit fs → list_any is_commit es ≡ false → list_any is_abort es ≡ false → es ≡ []
tried_left no_event p c a = refl
tried_left (old_event {e = Inv _ _} i) p c a = absurd p
tried_left (old_event {e = Ret _ _ _} i) p c a = absurd p
tried_left (old_event {e = TryC} i) p c a = absurd p
tried_left (old_event {e = TryA} i) p c a = absurd p
tried_left (old_event {e = Commit} i) p c a = absurd (cc)
tried_left (old_event {e = Abort} i) p c a = absurd (cc)
tried_left (new_event {e = Inv _ _} fits i) p c a = absurd p
tried_left (new_event {e = Ret _ _ _} fits i) p c a = absurd p
tried_left (new_event {e = TryC} fits i) p c a = absurd p
tried_left (new_event {e = TryA} fits i) p c a = absurd p
tried_left (new_event {e = Commit} fits i) p c a = ended_left i p
tried_left (new_event {e = Abort} fits i) p c a = ended_left i p

-- after a completing event that was inserted a live transaction did nothing
new_left : (s : TxState) (e : Event) {es fs : List Event} → is_completing e ≡ true → IsFilled es fs → Passes s (e ∷ fs) →
    list_any is_commit es ≡ false → list_any is_abort es ≡ false → es ≡ []
new_left s (Inv _ _) fits i p c a = absurd (cc)
new_left s (Ret _ _ _) fits i p c a = absurd (cc)
new_left s TryA fits i p c a = absurd (cc)
new_left Idle TryC fits i p c a = tried_left i p c a
new_left Idle Commit fits i p c a = absurd p
new_left Idle Abort fits i p c a = absurd p
new_left (Pending _ _) TryC fits i p c a = absurd p
new_left (Pending _ _) Commit fits i p c a = absurd p
new_left (Pending _ _) Abort fits i p c a = ended_left i p
new_left TriedCommit TryC fits i p c a = absurd p
new_left TriedCommit Commit fits i p c a = ended_left i p
new_left TriedCommit Abort fits i p c a = ended_left i p
new_left TriedAbort TryC fits i p c a = absurd p
new_left TriedAbort Commit fits i p c a = absurd p
new_left TriedAbort Abort fits i p c a = ended_left i p
new_left Ended TryC fits i p c a = absurd p
new_left Ended Commit fits i p c a = absurd p
new_left Ended Abort fits i p c a = absurd p

Passes-removed : (s : TxState) {es fs : List Event} → IsFilled es fs → Passes s fs → list_any is_commit es ≡ false → list_any is_abort es ≡ false → Passes s es
Passes-removed s no_event p c a = tt
Passes-removed s (old_event {e = e} {es = es} {fs = fs} i) p c a =
    let no_commit : list_any is_commit es ≡ false = (or_false (is_commit e) (list_any is_commit es) c).1 in
    let no_abort : list_any is_abort es ≡ false = (or_false (is_abort e) (list_any is_abort es) a).1 in
    elim (after s e) as (λ r. (elim r as (λ (_ : Result TxState Rule). Type 0) [ Ok next ↦ Passes next fs | Err _ ↦ ⊥ ]) → (elim r as (λ (_ : Result TxState Rule). Type 0) [ Ok next ↦ Passes next es | Err _ ↦ ⊥ ])) [
      | Ok next ↦ λ q. Passes-removed next i q no_commit no_abort
      | Err rule ↦ λ q. q
    ] p
Passes-removed s (new_event {e = e} fits i) p c a = subst (λ l. Passes s l) (sym (new_left s e fits i p c a)) tt

pub IsWellFormed-from_completion : (h complete : History) → IsCompletion h complete → IsWellFormed h
IsWellFormed-from_completion h complete k t =
    elim (split (is_completed h t)) [
      | inl done ↦ subst (λ l. IsTransaction l) (events_of-inserted k.insertion t done) (k.well_formed t)
      | inr open_ ↦
          let both : (is_committed h t ≡ false) × (is_aborted h t ≡ false) = or_false (is_committed h t) (is_aborted h t) open_ in
          Continues-from_Passes Idle (events_of t h)
          (Passes-removed Idle (IsFilled-from_inserted k.insertion t) (Passes-from_IsTransaction (events_of t complete) (k.well_formed t)) both.0 both.1)
    ]

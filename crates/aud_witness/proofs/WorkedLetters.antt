-- The letter on worked histories.
use Rattle.std.proofs.Common.{◌≡◌, ◌≢◌, ℕ, pos, true, false, nat_eq, ◌⊎◌, inl, inr, [], ◌∷◌, ◌++◌, refl, sym, ◌∙◌, subst}
use Rattle.aud_event.specs.declared.object.Op.TheVariants.{Read, Write}
use Rattle.aud_event.specs.declared.object.Answer.TheVariants.{Done, Int}
use Rattle.aud_event.specs.declared.fact.Event.TheVariants.{Inv, Ret, TryC, Commit}
use Rattle.aud_event.specs.Objects.{name_of}
use Rattle.aud_history.specs.Histories.{History, events_of, is_in, is_completed, is_aborted, is_commit_pending, is_before}
use Rattle.aud_history.specs.WellFormed.{IsTransaction, committed}
use Rattle.aud_object.specs.Executions.{no_execution, execution}
use Rattle.aud_kinds.specs.Objects.{IsLegal}
use Rattle.aud_witness.specs.Orders.{Opaque}
use Rattle.aud_history.specs.Completions.{has_live, IsInserted, nothing, same, inserted}
use Rattle.aud_witness.specs.Letter.{seen_by, Letter}
use Rattle.aud_history.specs.Worked as run
use Rattle.base_values.proofs.Bools.{split, nat_eq-is}
use Rattle.aud_history.proofs.StateTable.{Passes-from_IsTransaction}
use Rattle.aud_history.proofs.Insertions.{events_of-inserted}
use Rattle.aud_witness.proofs.WorkedOrders.{c}
use Rattle.aud_witness.proofs.Tested.{Shows-from_test, IsLegal-from_test}
use Rattle.aud_witness.proofs.Enumerated.{not_Opaque}
use Rattle.aud_witness.proofs.FromLetter.{Opaque-from_Letter}

-- no completion and serial history
real_time-counts : Letter run.x_at_0 run.stale_read_after_commit → ⊥
real_time-counts k = not_Opaque run.x_at_0 run.stale_read_after_commit refl (Opaque-from_Letter run.x_at_0 run.stale_read_after_commit k)

live-is_aborted : Letter run.x_at_0 run.live_write_is_seen → ⊥
live-is_aborted k = not_Opaque run.x_at_0 run.live_write_is_seen refl (Opaque-from_Letter run.x_at_0 run.live_write_is_seen k)

aborted-counts : Letter run.x_and_y_at_0 run.torn_read_then_abort → ⊥
aborted-counts k = not_Opaque run.x_and_y_at_0 run.torn_read_then_abort refl (Opaque-from_Letter run.x_and_y_at_0 run.torn_read_then_abort k)

-- a beginning of a history that is opaque need not be
beginning-is_not : Letter run.x_at_0 (run.one_is_written ++ run.executed 2 0 Read (Int (pos 1))) → ⊥
beginning-is_not k =
    let h : History = run.one_is_written ++ run.executed 2 0 Read (Int (pos 1)) in
    not_Opaque run.x_at_0 h refl (Opaque-from_Letter run.x_at_0 h k)

-- transactions 1 and 2, and the rest
of_two : (P : ℕ → Type 0) → P 1 → P 2 → ((t : ℕ) → nat_eq 1 t ≡ false → nat_eq 2 t ≡ false → P t) → (t : ℕ) → P t
of_two P one two rest t =
    elim (split (nat_eq 1 t)) [
      | inl is_1 ↦ subst P (nat_eq-is 1 t is_1) one
      | inr not_1 ↦ elim (split (nat_eq 2 t)) [ inl is_2 ↦ subst P (nat_eq-is 2 t is_2) two | inr not_2 ↦ rest t not_1 not_2 ]
    ]

abbrev reader : History
reader = run.executed 2 0 Read (Int (pos 0)) ++ run.commits 2

-- the commit-pending writer is committed where it stands, and so is before the reader in the completion,
-- but not in H: it may stand after the reader
abbrev writer : History
writer = run.one_is_written ++ run.commits 1

commit_in_the_middle : IsInserted run.pending_commit_is_unseen run.pending_commit_is_unseen (writer ++ reader)
commit_in_the_middle = same (same (same (inserted refl refl (same (same (same (same nothing)))))))

no : false ≡ true → ⊥
no e = cc

absent : (t : ℕ) → nat_eq 1 t ≡ false → nat_eq 2 t ≡ false → events_of t (writer ++ reader) ≡ []
absent t not_1 not_2 = rw (not_1, not_2) refl

not_there : (t : ℕ) → nat_eq 1 t ≡ false → nat_eq 2 t ≡ false → is_in (reader ++ writer) t ≡ false
not_there t not_1 not_2 = rw (not_1, not_2) refl

late_writer : Letter run.x_at_0 run.pending_commit_is_unseen
late_writer = record {
  complete = writer ++ reader;
  serial = reader ++ writer;
  completion = record {
    well_formed = of_two (λ t. IsTransaction (events_of t (writer ++ reader)))
        ([], (Inv 0 (Write (pos 1)) ∷ Ret 0 (name_of (Write (pos 1))) Done ∷ [], (TryC ∷ Commit ∷ [], (execution no_execution, committed, refl))))
        ([], (Inv 0 Read ∷ Ret 0 (name_of Read) (Int (pos 0)) ∷ [], (TryC ∷ Commit ∷ [], (execution no_execution, committed, refl))))
        (λ t not_1 not_2. subst IsTransaction (sym (absent t not_1 not_2)) (TryC ∷ Commit ∷ [], ([], (TryC ∷ Commit ∷ [], (no_execution, committed, refl)))));
    insertion = commit_in_the_middle;
    ended = of_two (λ t. is_in (writer ++ reader) t ≡ true → is_completed (writer ++ reader) t ≡ true) (λ _. refl) (λ _. refl)
        (λ t not_1 not_2 there. absurd (no (sym (rw (not_1, not_2) refl) ∙ there)));
    aborted = of_two (λ t. has_live run.pending_commit_is_unseen t ≡ true → is_commit_pending run.pending_commit_is_unseen t ≡ false → is_aborted (writer ++ reader) t ≡ true)
        (λ _ pending. absurd (cc)) (λ live _. absurd (cc))
        (λ t not_1 not_2 live _. absurd (no (sym (rw (not_1, not_2) refl) ∙ live)));
  };
  equivalent = of_two (λ t. events_of t (reader ++ writer) ≡ events_of t (writer ++ reader)) refl refl (λ t not_1 not_2. rw (not_1, not_2) refl);
  sequential = of_two (λ t. (u : ℕ) → is_in (reader ++ writer) t ≡ true → is_in (reader ++ writer) u ≡ true → t ≢ u → (is_before (reader ++ writer) t u ≡ true) ⊎ (is_before (reader ++ writer) u t ≡ true))
      (of_two (λ u. is_in (reader ++ writer) 1 ≡ true → is_in (reader ++ writer) u ≡ true → 1 ≢ u → (is_before (reader ++ writer) 1 u ≡ true) ⊎ (is_before (reader ++ writer) u 1 ≡ true))
      (λ _ _ other. absurd (other refl)) (λ _ _ _. inr refl) (λ u not_1 not_2 _ there _. absurd (no (sym (not_there u not_1 not_2) ∙ there))))
      (of_two (λ u. is_in (reader ++ writer) 2 ≡ true → is_in (reader ++ writer) u ≡ true → 2 ≢ u → (is_before (reader ++ writer) 2 u ≡ true) ⊎ (is_before (reader ++ writer) u 2 ≡ true))
      (λ _ _ _. inl refl) (λ _ _ other. absurd (other refl)) (λ u not_1 not_2 _ there _. absurd (no (sym (not_there u not_1 not_2) ∙ there))))
      (λ t not_1 not_2 u there _ _. absurd (no (sym (not_there t not_1 not_2) ∙ there)));
  real_time = of_two (λ t. (u : ℕ) → is_before run.pending_commit_is_unseen t u ≡ true → is_before (reader ++ writer) t u ≡ true)
      (λ u before. absurd (no before))
      (of_two (λ u. is_before run.pending_commit_is_unseen 2 u ≡ true → is_before (reader ++ writer) 2 u ≡ true) (λ _. refl) (λ before. absurd (no before))
      (λ u not_1 not_2 before. absurd (no (sym (rw (not_1, not_2) refl) ∙ before))))
      (λ t not_1 not_2 u before. absurd (no (sym (rw (not_1, not_2) refl) ∙ before)));
  legal = of_two (λ t. is_in (reader ++ writer) t ≡ true → IsLegal run.x_at_0 (seen_by (reader ++ writer) t))
      (λ _. IsLegal-from_test run.x_at_0 (seen_by (reader ++ writer) 1) refl)
      (λ _. IsLegal-from_test run.x_at_0 (seen_by (reader ++ writer) 2) refl)
      (λ t not_1 not_2 there. absurd (no (sym (rw (not_1, not_2) refl) ∙ there)));
}

-- the law wants a well-formed history: an event C alone is opaque by orders, and has no completion that is well-formed
abbrev c_alone : History
c_alone = (1, Commit) ∷ []

c_alone-opaque : Opaque [] c_alone
c_alone-opaque = (c 1 ∷ [], Shows-from_test [] c_alone (c 1 ∷ []) refl)

c_alone-has_none : Letter [] c_alone → ⊥
c_alone-has_none k =
    let there : events_of 1 k.complete ≡ Commit ∷ [] = events_of-inserted k.completion.insertion 1 refl in
    Passes-from_IsTransaction (Commit ∷ []) (subst (λ l. IsTransaction l) there (k.completion.well_formed 1))

-- How transactions end.
use Rattle.std.proofs.Common.{◌≡◌, ℕ, Bool, true, false, ◌||◌, inl, inr, List, ◌++◌, refl, sym, ◌∙◌, ap}
use Rattle.std.specs.List.{list_any}
use Rattle.std.proofs.lemmas.List.Folds.{list_any-append}
use Rattle.aud_event.specs.declared.fact.Event.{Event}
use Rattle.aud_history.specs.Histories.{History, events_of, is_commit, is_abort, is_in, is_committed, is_completed, is_live, is_commit_pending}
use Rattle.aud_object.specs.Executions.{AreExecutions, no_execution, execution}
use Rattle.aud_history.specs.WellFormed.{IsEnding, invocation_aborted, aborted_by_itself, committed, commit_refused, IsWhole, IsTransaction}
use Rattle.aud_history.specs.Completions.{IsCompletion}
use Rattle.base_values.proofs.Bools.{or_false, true_and, true_or, or_right, not_false, split}
use Rattle.aud_history.proofs.Insertions.{events_of-inserted}

abbrev pub has_end : List Event → Bool
has_end es = list_any is_commit es || list_any is_abort es

-- executions neither commit nor abort
pub none_in_executions : {o : List Event} → AreExecutions o → (list_any is_commit o ≡ false) × (list_any is_abort o ≡ false)
none_in_executions no_execution = (refl, refl)
none_in_executions (execution are) = none_in_executions are

pub has_end-ending : {f : List Event} → IsEnding f → has_end f ≡ true
has_end-ending invocation_aborted = refl
has_end-ending aborted_by_itself = refl
has_end-ending committed = refl
has_end-ending commit_refused = refl

pub not_both-ending : {f : List Event} → IsEnding f → list_any is_abort f ≡ true → list_any is_commit f ≡ false
not_both-ending invocation_aborted a = refl
not_both-ending aborted_by_itself a = refl
not_both-ending committed a = absurd (cc)
not_both-ending commit_refused a = refl

-- what stands after executions says how the whole ends
pub after_executions : (test : Event → Bool) (o f : List Event) → list_any test o ≡ false → list_any test (o ++ f) ≡ list_any test f
after_executions test o f none = list_any-append test o f ∙ ap (λ k. k || list_any test f) none

pub has_end-whole : (es : List Event) → IsWhole es → has_end es ≡ true
has_end-whole es (o, (f, (are, ends, e))) =
    let none : (list_any is_commit o ≡ false) × (list_any is_abort o ≡ false) = none_in_executions are in
    ap has_end e
    ∙ ap (λ k. k || list_any is_abort (o ++ f)) (after_executions is_commit o f none.0)
    ∙ ap (λ k. list_any is_commit f || k) (after_executions is_abort o f none.1)
    ∙ has_end-ending ends

-- a transaction that aborts does not commit
pub not_both : (es : List Event) → IsTransaction es → list_any is_abort es ≡ true → list_any is_commit es ≡ false
not_both es (rest, (o, (f, (are, ends, e)))) aborts =
    let none : (list_any is_commit o ≡ false) × (list_any is_abort o ≡ false) = none_in_executions are in
    let all : list_any is_abort (es ++ rest) ≡ true = list_any-append is_abort es rest ∙ true_or (list_any is_abort es) (list_any is_abort rest) aborts in
    let last : list_any is_abort f ≡ true = sym (ap (list_any is_abort) e ∙ after_executions is_abort o f none.1) ∙ all in
    let never : list_any is_commit (es ++ rest) ≡ false = ap (list_any is_commit) e ∙ after_executions is_commit o f none.0 ∙ not_both-ending ends last in
    (or_false (list_any is_commit es) (list_any is_commit rest) (sym (list_any-append is_commit es rest) ∙ never)).0

-- only a transaction that is committed or commit-pending is committed in a completion
pub committed-completion : (h complete : History) → IsCompletion h complete → (t : ℕ) → is_in h t ≡ true → is_committed complete t ≡ true →
    (is_committed h t || is_commit_pending h t) ≡ true
committed-completion h complete k t there commits =
    elim (split (is_completed h t)) [
      | inl done ↦ true_or (is_committed h t) (is_commit_pending h t) (sym (ap (list_any is_commit) (events_of-inserted k.insertion t done)) ∙ commits)
      | inr open_ ↦
          elim (split (is_commit_pending h t)) [
            | inl pending ↦ or_right (is_committed h t) (is_commit_pending h t) pending
            | inr not_pending ↦
                let live : is_live h t ≡ true = not_false (is_completed h t) open_ in
                let never : is_committed complete t ≡ false =
                not_both (events_of t complete) (k.well_formed t) (k.aborted t (true_and (is_in h t) (is_live h t) there live) not_pending) in
                absurd (cc)
          ]
    ]

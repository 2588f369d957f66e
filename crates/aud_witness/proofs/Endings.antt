-- Blocks: each is whole, has C exactly where its fate is C, and does on the objects what the transaction did.
use Rattle.std.proofs.Common.{◌≡◌, ℕ, Bool, true, false, cond, ◌||◌, inl, inr, List, [], ◌∷◌, ◌++◌, refl, sym, ◌∙◌, ap, subst}
use Rattle.std.specs.List.{list_any}
use Rattle.aud_event.specs.declared.object.Op.{Op}
use Rattle.aud_event.specs.declared.object.OpName.{OpName}
use Rattle.aud_event.specs.declared.object.Answer.{Answer}
use Rattle.aud_event.specs.declared.fact.Event.{Event}
use Rattle.aud_event.specs.declared.fact.Event.TheVariants.{Inv, Ret, TryC, TryA, Commit, Abort}
use Rattle.aud_event.specs.Objects.{name_of}
use Rattle.aud_witness.specs.declared.decision.Fate.{Fate}
use Rattle.aud_witness.specs.declared.decision.Fate.TheVariants.{C, A}
use Rattle.aud_witness.specs.declared.decision.Decision.{Decision}
use Rattle.aud_history.specs.declared.state.TxState.TheVariants.{Idle}
use Rattle.aud_history.specs.Histories.{History, events_of, is_commit, is_abort, is_try_commit, is_committed, is_aborted, is_completed, is_live, is_commit_pending}
use Rattle.aud_kinds.specs.Objects.{on_object}
use Rattle.aud_object.specs.Executions.{no_execution, execution}
use Rattle.aud_history.specs.WellFormed.{IsEnding, invocation_aborted, aborted_by_itself, committed, commit_refused, IsWhole, IsTransaction, IsWellFormed}
use Rattle.aud_history.specs.ByState.{Passes, is_match}
use Rattle.aud_witness.specs.Orders.{is_allowed, live_ending, block, is_kept}
use Rattle.aud_history.specs.Completions.{is_completing}
use Rattle.base_values.proofs.Bools.{or_true, or_false, and_true, not_true, split, unnegated}
use Rattle.aud_history.proofs.StateTable.{matched_passes, matched, Passes-from_IsTransaction}
use Rattle.aud_object.proofs.Replays.{on_object-append}
use Rattle.aud_history.proofs.Ends.{has_end, not_both, has_end-whole}
use Rattle.std.proofs.lemmas.List.{append-nil}

abbrev pub keeps : Fate → Bool
keeps fate = elim fate [ C ↦ true | A ↦ false ]

-- es with its ending is whole, and committed exactly by the fate
record IsEnded (es : List Event) (fate : Fate) : Type 0 where
  whole : IsWhole (es ++ live_ending es fate)
  commits : list_any is_commit (es ++ live_ending es fate) ≡ keeps fate

-- C is given only to a transaction with tryC
abbrev IsGiven : Fate → List Event → Type 0
IsGiven fate es = keeps fate ≡ true → list_any is_try_commit es ≡ true

ended_by : (f : List Event) → IsEnding f → IsWhole f
ended_by f ends = ([], (f, (no_execution, ends, refl)))

IsEnded-more : (ob : ℕ) (op : Op) (o : ℕ) (name : OpName) (answer : Answer) (es : List Event) (fate : Fate) → (o ≡ ob) × (name ≡ name_of op) → IsEnded es fate →
    IsEnded (Inv ob op ∷ Ret o name answer ∷ es) fate
IsEnded-more ob op o name answer es fate is k =
    let (first, (f, (are, ends, e))) = k.whole in
    record {
      whole = (
        Inv ob op ∷ Ret ob (name_of op) answer ∷ first,
        (
          f,
          (
            execution are,
            ends,
            ap (λ n. Inv ob op ∷ Ret n name answer ∷ (es ++ live_ending es fate)) is.0
                ∙ ap (λ n. Inv ob op ∷ Ret ob n answer ∷ (es ++ live_ending es fate)) is.1
                ∙ ap (λ l. Inv ob op ∷ Ret ob (name_of op) answer ∷ l) e,
          ),
        ),
      );
      commits = k.commits;
    }

-- a live transaction, ended as its block is
IsEnded-from_live : (es : List Event) (fate : Fate) → Passes Idle es → list_any is_commit es ≡ false → list_any is_abort es ≡ false → IsGiven fate es → IsEnded es fate
IsEnded-from_live [] C p c a given = let yes_no : false ≡ true = given refl in absurd (cc)
IsEnded-from_live [] A p c a given = record { whole = ended_by (TryC ∷ Abort ∷ []) commit_refused; commits = refl }
IsEnded-from_live (Inv ob op ∷ []) C p c a given = let yes_no : false ≡ true = given refl in absurd (cc)
IsEnded-from_live (Inv ob op ∷ []) A p c a given = record { whole = ended_by (Inv ob op ∷ Abort ∷ []) invocation_aborted; commits = refl }
IsEnded-from_live (Inv ob op ∷ Ret o name answer ∷ es) fate p c a given =
    let m : (is_match ob op o name ≡ true) × Passes Idle es = matched_passes (is_match ob op o name) es p in
    IsEnded-more ob op o name answer es fate (matched ob op o name m.0) (IsEnded-from_live es fate m.1 c a given)
IsEnded-from_live (Inv ob op ∷ Inv _ _ ∷ es) fate p c a given = absurd p
IsEnded-from_live (Inv ob op ∷ TryC ∷ es) fate p c a given = absurd p
IsEnded-from_live (Inv ob op ∷ TryA ∷ es) fate p c a given = absurd p
IsEnded-from_live (Inv ob op ∷ Commit ∷ es) fate p c a given = absurd p
IsEnded-from_live (Inv ob op ∷ Abort ∷ es) fate p c a given = absurd (cc)
IsEnded-from_live (Ret _ _ _ ∷ es) fate p c a given = absurd p
IsEnded-from_live (TryC ∷ []) C p c a given = record { whole = ended_by (TryC ∷ Commit ∷ []) committed; commits = refl }
IsEnded-from_live (TryC ∷ []) A p c a given = record { whole = ended_by (TryC ∷ Abort ∷ []) commit_refused; commits = refl }
IsEnded-from_live (TryC ∷ Inv _ _ ∷ es) fate p c a given = absurd p
IsEnded-from_live (TryC ∷ Ret _ _ _ ∷ es) fate p c a given = absurd p
IsEnded-from_live (TryC ∷ TryC ∷ es) fate p c a given = absurd p
IsEnded-from_live (TryC ∷ TryA ∷ es) fate p c a given = absurd p
IsEnded-from_live (TryC ∷ Commit ∷ es) fate p c a given = absurd (cc)
IsEnded-from_live (TryC ∷ Abort ∷ es) fate p c a given = absurd (cc)
IsEnded-from_live (TryA ∷ []) C p c a given = let yes_no : false ≡ true = given refl in absurd (cc)
IsEnded-from_live (TryA ∷ []) A p c a given = record { whole = ended_by (TryA ∷ Abort ∷ []) aborted_by_itself; commits = refl }
IsEnded-from_live (TryA ∷ Inv _ _ ∷ es) fate p c a given = absurd p
IsEnded-from_live (TryA ∷ Ret _ _ _ ∷ es) fate p c a given = absurd p
IsEnded-from_live (TryA ∷ TryC ∷ es) fate p c a given = absurd p
IsEnded-from_live (TryA ∷ TryA ∷ es) fate p c a given = absurd p
IsEnded-from_live (TryA ∷ Commit ∷ es) fate p c a given = absurd p
IsEnded-from_live (TryA ∷ Abort ∷ es) fate p c a given = absurd (cc)
IsEnded-from_live (Commit ∷ es) fate p c a given = absurd p
IsEnded-from_live (Abort ∷ es) fate p c a given = absurd p

-- the events that end a block
abbrev pub tail_of : History → Decision → List Event
tail_of h d = cond (is_live h d.tx) (live_ending (events_of d.tx h) d.fate) []

pub record IsGoodBlock (h : History) (d : Decision) : Type 0 where
  pub is_transaction : IsTransaction (block h d)
  pub ended : has_end (block h d) ≡ true
  pub commits : list_any is_commit (block h d) ≡ is_kept d

IsTransaction-from_whole : (es : List Event) → IsWhole es → IsTransaction es
IsTransaction-from_whole es k = ([], subst (λ l. IsWhole l) (sym (append-nil es)) k)

live_block : (h : History) (t : ℕ) (fate : Fate) → IsWellFormed h → is_allowed h t fate ≡ true → is_live h t ≡ true → IsEnded (events_of t h) fate
live_block h t C well allowed live =
    let open_ : (is_committed h t ≡ false) × (is_aborted h t ≡ false) = or_false (is_committed h t) (is_aborted h t) (not_true (is_completed h t) live) in
    IsEnded-from_live (events_of t h) C (Passes-from_IsTransaction (events_of t h) (well t)) open_.0 open_.1
    (λ _. let pending : is_commit_pending h t ≡ true = sym (ap (λ k. k || is_commit_pending h t) open_.0) ∙ allowed in
    (and_true (is_live h t) (list_any is_try_commit (events_of t h)) pending).1)
live_block h t A well allowed live =
    let open_ : (is_committed h t ≡ false) × (is_aborted h t ≡ false) = or_false (is_committed h t) (is_aborted h t) (not_true (is_completed h t) live) in
    IsEnded-from_live (events_of t h) A (Passes-from_IsTransaction (events_of t h) (well t)) open_.0 open_.1 (λ y. absurd (cc))

-- the fate of a completed transaction is what it did
completed_fate : (h : History) (t : ℕ) (fate : Fate) → IsWellFormed h → is_allowed h t fate ≡ true → is_live h t ≡ false → list_any is_commit (events_of t h) ≡ keeps fate
completed_fate h t C well allowed ended =
    elim (or_true (is_committed h t) (is_commit_pending h t) allowed) [
      | inl c ↦ c
      | inr k ↦ let live : is_live h t ≡ true = (and_true (is_live h t) (list_any is_try_commit (events_of t h)) k).0 in absurd (cc)
    ]
completed_fate h t A well allowed ended =
    elim (or_true (is_aborted h t) (is_live h t) allowed) [
      | inl a ↦ not_both (events_of t h) (well t) a
      | inr live ↦ absurd (cc)
    ]

pub IsGoodBlock-from_allowed : (h : History) (d : Decision) → IsWellFormed h → is_allowed h d.tx d.fate ≡ true → IsGoodBlock h d
IsGoodBlock-from_allowed h d well allowed =
    let es : List Event = events_of d.tx h in
    elim (split (is_live h d.tx)) [
      | inl live ↦
          let e : block h d ≡ es ++ live_ending es d.fate = ap (λ k. es ++ cond k (live_ending es d.fate) []) live in
          let k : IsEnded es d.fate = live_block h d.tx d.fate well allowed live in
          record {
            is_transaction = subst (λ l. IsTransaction l) (sym e) (IsTransaction-from_whole (es ++ live_ending es d.fate) k.whole);
            ended = ap has_end e ∙ has_end-whole (es ++ live_ending es d.fate) k.whole;
            commits = ap (list_any is_commit) e ∙ k.commits;
          }
      | inr ended ↦
          let e : block h d ≡ es = ap (λ k. es ++ cond k (live_ending es d.fate) []) ended ∙ append-nil es in
          record {
            is_transaction = subst (λ l. IsTransaction l) (sym e) (well d.tx);
            ended = ap has_end e ∙ unnegated (is_completed h d.tx) ended;
            commits = ap (list_any is_commit) e ∙ completed_fate h d.tx d.fate well allowed ended;
          }
    ]

-- the ending has only completing events
abbrev pub AreCompleting : List Event → Type 0
AreCompleting [] = Unit {0}
AreCompleting (e ∷ es) = (is_completing e ≡ true) × AreCompleting es

pub AreCompleting-live_ending : (es : List Event) (fate : Fate) → AreCompleting (live_ending es fate)
AreCompleting-live_ending [] fate = (refl, (refl, tt))
AreCompleting-live_ending (Inv _ _ ∷ []) fate = (refl, tt)
AreCompleting-live_ending (Inv _ _ ∷ e ∷ es) fate = AreCompleting-live_ending (e ∷ es) fate
AreCompleting-live_ending (TryA ∷ []) fate = (refl, tt)
AreCompleting-live_ending (TryA ∷ e ∷ es) fate = AreCompleting-live_ending (e ∷ es) fate
AreCompleting-live_ending (TryC ∷ []) C = (refl, tt)
AreCompleting-live_ending (TryC ∷ []) A = (refl, tt)
AreCompleting-live_ending (TryC ∷ e ∷ es) fate = AreCompleting-live_ending (e ∷ es) fate
AreCompleting-live_ending (Ret _ _ _ ∷ es) fate = AreCompleting-live_ending es fate
AreCompleting-live_ending (Commit ∷ es) fate = AreCompleting-live_ending es fate
AreCompleting-live_ending (Abort ∷ es) fate = AreCompleting-live_ending es fate

on_object-completing : (ob : ℕ) (es : List Event) → AreCompleting es → on_object ob es ≡ []
on_object-completing ob [] k = refl
on_object-completing ob (Inv _ _ ∷ es) k = let no_one : false ≡ true = k.0 in absurd (cc)
on_object-completing ob (Ret _ _ _ ∷ es) k = let no_one : false ≡ true = k.0 in absurd (cc)
on_object-completing ob (TryC ∷ es) k = on_object-completing ob es k.1
on_object-completing ob (TryA ∷ es) k = let no_one : false ≡ true = k.0 in absurd (cc)
on_object-completing ob (Commit ∷ es) k = on_object-completing ob es k.1
on_object-completing ob (Abort ∷ es) k = on_object-completing ob es k.1

pub AreCompleting-tail_of : (h : History) (d : Decision) → AreCompleting (tail_of h d)
AreCompleting-tail_of h d =
    elim (is_live h d.tx) as (λ k. AreCompleting (cond k (live_ending (events_of d.tx h) d.fate) [])) [
      | true ↦ AreCompleting-live_ending (events_of d.tx h) d.fate
      | false ↦ tt
    ]

-- on each object a block does what the transaction did
pub on_object-block : (ob : ℕ) (h : History) (d : Decision) → on_object ob (block h d) ≡ on_object ob (events_of d.tx h)
on_object-block ob h d =
    on_object-append ob (events_of d.tx h) (tail_of h d)
    ∙ ap (λ l. on_object ob (events_of d.tx h) ++ l) (on_object-completing ob (tail_of h d) (AreCompleting-tail_of h d))
    ∙ append-nil (on_object ob (events_of d.tx h))

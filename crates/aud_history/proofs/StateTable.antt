-- The table of states agrees with the definition by `O F`.
use Rattle.std.proofs.Common.{◌≡◌, ℕ, Bool, true, false, ◌&&◌, nat_eq, List, [], ◌∷◌, ◌++◌, cond, arith, refl, sym, ◌∙◌, ap, Result, Ok, Err}
use Rattle.std.proofs.lemmas.Bool.Decides.{nat_tests}
use Rattle.aud_history.specs.declared.rule.Rule.{Rule}
use Rattle.aud_history.specs.declared.rule.Rule.TheVariants.{RetMismatch}
use Rattle.aud_event.specs.declared.object.Op.{Op}
use Rattle.aud_event.specs.declared.object.OpName.{OpName}
use Rattle.aud_event.specs.declared.object.Answer.{Answer}
use Rattle.aud_event.specs.declared.fact.Event.{Event}
use Rattle.aud_event.specs.declared.fact.Event.TheVariants.{Inv, Ret, TryC, TryA, Commit, Abort}
use Rattle.aud_event.specs.Objects.{name_of, word_of_op}
use Rattle.base_values.proofs.Bools.{and_true, true_and, nat_eq-refl}
use Rattle.aud_event.proofs.Names.{bytes_eq-refl}
use Rattle.aud_event.specs.Rows.{same-from_words}
use Rattle.std.specs.Prelude.{bytes_eq}
use Rattle.aud_object.specs.Executions.{AreExecutions, no_execution, execution}
use Rattle.aud_history.specs.WellFormed.{IsEnding, invocation_aborted, aborted_by_itself, committed, commit_refused, IsTransaction}
use Rattle.aud_history.specs.declared.state.TxState.{TxState}
use Rattle.aud_history.specs.declared.state.TxState.TheVariants.{Idle, Pending, TriedCommit, TriedAbort, Ended}
use Rattle.aud_history.specs.ByState.{is_match, after, Passes}

-- what a transaction that is in a state may still do
abbrev Continues : TxState → List Event → Type 0
Continues Idle es = IsTransaction es
Continues (Pending ob op) es = IsTransaction (Inv ob op ∷ es)
Continues TriedCommit es = IsTransaction (TryC ∷ es)
Continues TriedAbort es = IsTransaction (TryA ∷ es)
Continues Ended es = es ≡ []

whole : (o f : List Event) → AreExecutions o → IsEnding f → (rest es : List Event) → es ++ rest ≡ o ++ f → IsTransaction es
whole o f are ends rest es e = (rest, (o, (f, (are, ends, e))))

-- a further execution in front
more : (ob : ℕ) (op : Op) (answer : Answer) (es : List Event) → IsTransaction es → IsTransaction (Inv ob op ∷ Ret ob (name_of op) answer ∷ es)
more ob op answer es (rest, (o, (f, (are, ends, e)))) =
    whole (Inv ob op ∷ Ret ob (name_of op) answer ∷ o) f (execution are) ends rest
    (Inv ob op ∷ Ret ob (name_of op) answer ∷ es) (ap (λ l. Inv ob op ∷ Ret ob (name_of op) answer ∷ l) e)

pub matched_passes : (b : Bool) (es : List Event) → elim (cond b (Ok Idle) (Err RetMismatch)) as (λ (r : Result TxState Rule). Type 0) [ Ok next ↦ Passes next es | Err _ ↦ ⊥ ] → (b ≡ true) × Passes Idle es
matched_passes true es h = (refl, h)
matched_passes false es h = absurd h

passes_matched : (b : Bool) (es : List Event) → b ≡ true → Passes Idle es → elim (cond b (Ok Idle) (Err RetMismatch)) as (λ (r : Result TxState Rule). Type 0) [ Ok next ↦ Passes next es | Err _ ↦ ⊥ ]
passes_matched true es e h = h
passes_matched false es e h = absurd (cc)

pub matched : (ob : ℕ) (op : Op) (o : ℕ) (name : OpName) → is_match ob op o name ≡ true → (o ≡ ob) × (name ≡ name_of op)
matched ob op o name h =
    let e : o ≡ ob = grind (arith, nat_tests) in
    (e, same-from_words name (name_of op) (and_true (nat_eq o ob) (bytes_eq (word_of_op name) (word_of_op (name_of op))) h).1)

matched-back : (ob : ℕ) (name : OpName) → (nat_eq ob ob && bytes_eq (word_of_op name) (word_of_op name)) ≡ true
matched-back ob name = true_and (nat_eq ob ob) (bytes_eq (word_of_op name) (word_of_op name)) (nat_eq-refl ob) (bytes_eq-refl (word_of_op name))

-- a transaction whose events break no rule is a beginning of `O F`
pub Continues-from_Passes : (s : TxState) (es : List Event) → Passes s es → Continues s es
Continues-from_Passes Idle [] h = whole [] (TryA ∷ Abort ∷ []) no_execution aborted_by_itself (TryA ∷ Abort ∷ []) [] refl
Continues-from_Passes (Pending ob op) [] h = whole [] (Inv ob op ∷ Abort ∷ []) no_execution invocation_aborted (Abort ∷ []) (Inv ob op ∷ []) refl
Continues-from_Passes TriedCommit [] h = whole [] (TryC ∷ Commit ∷ []) no_execution committed (Commit ∷ []) (TryC ∷ []) refl
Continues-from_Passes TriedAbort [] h = whole [] (TryA ∷ Abort ∷ []) no_execution aborted_by_itself (Abort ∷ []) (TryA ∷ []) refl
Continues-from_Passes Ended [] h = refl
Continues-from_Passes Idle (Inv ob op ∷ es) h = Continues-from_Passes (Pending ob op) es h
Continues-from_Passes Idle (Ret _ _ _ ∷ es) h = absurd h
Continues-from_Passes Idle (TryC ∷ es) h = Continues-from_Passes TriedCommit es h
Continues-from_Passes Idle (TryA ∷ es) h = Continues-from_Passes TriedAbort es h
Continues-from_Passes Idle (Commit ∷ es) h = absurd h
Continues-from_Passes Idle (Abort ∷ es) h = absurd h
Continues-from_Passes (Pending ob op) (Inv _ _ ∷ es) h = absurd h
Continues-from_Passes (Pending ob op) (Ret o name answer ∷ es) h =
    let m : (is_match ob op o name ≡ true) × Passes Idle es = matched_passes (is_match ob op o name) es h in
    let n : (o ≡ ob) × (name ≡ name_of op) = matched ob op o name m.0 in
    rw (n.0, n.1) (more ob op answer es (Continues-from_Passes Idle es m.1))
Continues-from_Passes (Pending ob op) (TryC ∷ es) h = absurd h
Continues-from_Passes (Pending ob op) (TryA ∷ es) h = absurd h
Continues-from_Passes (Pending ob op) (Commit ∷ es) h = absurd h
Continues-from_Passes (Pending ob op) (Abort ∷ es) h =
    let e : es ≡ [] = Continues-from_Passes Ended es h in
    rw e (whole [] (Inv ob op ∷ Abort ∷ []) no_execution invocation_aborted [] (Inv ob op ∷ Abort ∷ []) refl)
Continues-from_Passes TriedCommit (Inv _ _ ∷ es) h = absurd h
Continues-from_Passes TriedCommit (Ret _ _ _ ∷ es) h = absurd h
Continues-from_Passes TriedCommit (TryC ∷ es) h = absurd h
Continues-from_Passes TriedCommit (TryA ∷ es) h = absurd h
Continues-from_Passes TriedCommit (Commit ∷ es) h =
    let e : es ≡ [] = Continues-from_Passes Ended es h in
    rw e (whole [] (TryC ∷ Commit ∷ []) no_execution committed [] (TryC ∷ Commit ∷ []) refl)
Continues-from_Passes TriedCommit (Abort ∷ es) h =
    let e : es ≡ [] = Continues-from_Passes Ended es h in
    rw e (whole [] (TryC ∷ Abort ∷ []) no_execution commit_refused [] (TryC ∷ Abort ∷ []) refl)
Continues-from_Passes TriedAbort (Inv _ _ ∷ es) h = absurd h
Continues-from_Passes TriedAbort (Ret _ _ _ ∷ es) h = absurd h
Continues-from_Passes TriedAbort (TryC ∷ es) h = absurd h
Continues-from_Passes TriedAbort (TryA ∷ es) h = absurd h
Continues-from_Passes TriedAbort (Commit ∷ es) h = absurd h
Continues-from_Passes TriedAbort (Abort ∷ es) h =
    let e : es ≡ [] = Continues-from_Passes Ended es h in
    rw e (whole [] (TryA ∷ Abort ∷ []) no_execution aborted_by_itself [] (TryA ∷ Abort ∷ []) refl)
Continues-from_Passes Ended (e ∷ es) h = absurd h

-- a beginning of events that break no rule breaks none
pub Passes-beginning : (s : TxState) (es rest : List Event) → Passes s (es ++ rest) → Passes s es
Passes-beginning s [] rest h = tt
Passes-beginning s (e ∷ es) rest h =
    elim (after s e) as (λ r. (elim r as (λ (_ : Result TxState Rule). Type 0) [ Ok next ↦ Passes next (es ++ rest) | Err _ ↦ ⊥ ]) → (elim r as (λ (_ : Result TxState Rule). Type 0) [ Ok next ↦ Passes next es | Err _ ↦ ⊥ ])) [
      | Ok next ↦ λ p. Passes-beginning next es rest p
      | Err rule ↦ λ p. p
    ] h

-- `O F` breaks no rule
Passes-whole : {o f : List Event} → AreExecutions o → IsEnding f → Passes Idle (o ++ f)
Passes-whole no_execution invocation_aborted = tt
Passes-whole no_execution aborted_by_itself = tt
Passes-whole no_execution committed = tt
Passes-whole no_execution commit_refused = tt
Passes-whole (execution {ob} {op} are) ends = passes_matched _ _ (matched-back ob (name_of op)) (Passes-whole are ends)

-- a transaction is a beginning of `O F` exactly where its events break no rule
pub Passes-from_IsTransaction : (es : List Event) → IsTransaction es → Passes Idle es
Passes-from_IsTransaction es (rest, (o, (f, (are, ends, e)))) =
    let all : Passes Idle (es ++ rest) = rw e (Passes-whole are ends) in
    Passes-beginning Idle es rest all

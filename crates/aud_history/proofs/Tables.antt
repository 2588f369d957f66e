-- The table of transactions, one event after another.
use Rattle.std.specs.Prelude.{◌≡◌, ℕ, suc, zero, ◌+◌, ◌<◌, Bool, true, false, not, ◌&&◌, ◌||◌, if◌then◌else◌, nat_eq, List, [], ◌∷◌, ◌++◌, length, map, filter, Option, Some, None, Result, Ok, Err, refl}
use Rattle.std.specs.List.{list_any, position}
use Rattle.std.proofs.Common.{sym, ◌∙◌, ap, subst, cond, set, get_or, take, drop, inl, inr, arith}
use Rattle.std.proofs.Math.ListN.{get_or-map, length-map}
use Rattle.std.proofs.lemmas.List.{take_more, take-append-drop, length-take-le}
use Rattle.std.proofs.lemmas.List.Quantifiers.{position-Some}
use Rattle.std.proofs.lemmas.List.Folds.{list_any-append}
use Rattle.aud_event.specs.declared.object.Op.{Op}
use Rattle.aud_event.specs.declared.object.Answer.{Answer}
use Rattle.aud_event.specs.declared.fact.Event.{Event}
use Rattle.aud_event.specs.declared.fact.Event.TheVariants.{Inv, Ret, TryC, TryA, Commit, Abort}
use Rattle.base_values.proofs.Bools.{or_false, and_true, true_and, true_or, or_right, not_true, not_false, split, nat_eq-refl, nat_eq-is, nat_eq-sym, or_nothing}
use Rattle.aud_object.specs.declared.execution.Execution.{Execution}
use Rattle.aud_object.specs.declared.execution.Invocation.{Invocation}
use Rattle.aud_object.specs.Blocks.{BlockOf, invoked, answered}
use Rattle.aud_history.specs.declared.rule.Rule.{Rule}
use Rattle.aud_history.specs.declared.state.TxState.{TxState}
use Rattle.aud_history.specs.declared.state.TxState.TheVariants.{Idle, Pending, TriedCommit, TriedAbort, Ended}
use Rattle.aud_history.specs.declared.status.Status.{Status}
use Rattle.aud_history.specs.declared.status.Status.TheVariants.{Committed, Aborted, CommitPending, Live}
use Rattle.aud_history.specs.Histories.{History, events_of, is_in, is_commit, is_abort, is_try_commit}
use Rattle.aud_history.specs.ByState.{is_match, after, Passes}
use Rattle.aud_history.specs.WellFormed.{IsWellFormed}
use Rattle.aud_history.specs.Table.{transactions, tx_status, block_of, first_stamp, last_stamp, RowOf, row_of, table_of, with_event, fresh_row, rows_with}
use Rattle.aud_history.proofs.StateTable.{matched_passes, Passes-from_IsTransaction}
use Rattle.aud_history.proofs.Events.{IsWellFormed-beginning}
use Rattle.aud_history.proofs.FirstFault.{events_of-own, events_of-other}

-- # Which transactions there are

any-without : (t u : ℕ) (ts : List ℕ) → nat_eq u t ≡ false → list_any (nat_eq u) (filter (λ s. not (nat_eq s t)) ts) ≡ list_any (nat_eq u) ts
any-without t u [] other = refl
any-without t u (s ∷ ts) other =
    elim (split (nat_eq s t)) [
      | inl same ↦
          let gone : nat_eq u s ≡ false = subst (λ n. nat_eq u n ≡ false) (sym (nat_eq-is s t same)) other in
          ap (λ k. list_any (nat_eq u) (cond (not k) (s ∷ filter (λ s. not (nat_eq s t)) ts) (filter (λ s. not (nat_eq s t)) ts))) same
          ∙ any-without t u ts other ∙ sym (ap (λ k. k || list_any (nat_eq u) ts) gone)
      | inr differs ↦
          ap (λ k. list_any (nat_eq u) (cond (not k) (s ∷ filter (λ s. not (nat_eq s t)) ts) (filter (λ s. not (nat_eq s t)) ts))) differs
          ∙ ap (λ k. nat_eq u s || k) (any-without t u ts other)
    ]

-- the transactions are those in the history
pub any-transactions : (h : History) (u : ℕ) → list_any (nat_eq u) (transactions h) ≡ is_in h u
any-transactions [] u = refl
any-transactions (e ∷ h) u =
    elim (split (nat_eq u e.0)) [
      | inl same ↦ true_or (nat_eq u e.0) _ same ∙ sym (true_or (nat_eq e.0 u) (is_in h u) (nat_eq-sym e.0 u ∙ same))
      | inr other ↦
          ap (λ k. k || list_any (nat_eq u) (filter (λ t. not (nat_eq t e.0)) (transactions h))) other
          ∙ any-without e.0 u (transactions h) other ∙ any-transactions h u
          ∙ sym (ap (λ k. k || is_in h u) (nat_eq-sym e.0 u ∙ other))
    ]

-- a list with one more at its end unless it is there
abbrev pub with_number : List ℕ → ℕ → List ℕ
with_number ts u = if list_any (nat_eq u) ts then ts else ts ++ u ∷ []

filter-push : (t u : ℕ) (ts : List ℕ) → nat_eq u t ≡ false → filter (λ s. not (nat_eq s t)) (ts ++ u ∷ []) ≡ filter (λ s. not (nat_eq s t)) ts ++ u ∷ []
filter-push t u [] other = ap (λ k. cond (not k) (u ∷ []) []) other
filter-push t u (s ∷ ts) other =
    elim (nat_eq s t) as (λ k. cond (not k) (s ∷ filter (λ s. not (nat_eq s t)) (ts ++ u ∷ [])) (filter (λ s. not (nat_eq s t)) (ts ++ u ∷ [])) ≡ cond (not k) (s ∷ filter (λ s. not (nat_eq s t)) ts) (filter (λ s. not (nat_eq s t)) ts) ++ u ∷ []) [
      | true ↦ filter-push t u ts other
      | false ↦ ap (λ l. s ∷ l) (filter-push t u ts other)
    ]

filter-same : (t : ℕ) (ts : List ℕ) → filter (λ s. not (nat_eq s t)) (ts ++ t ∷ []) ≡ filter (λ s. not (nat_eq s t)) ts
filter-same t [] = ap (λ k. cond (not k) (t ∷ []) []) (nat_eq-refl t)
filter-same t (s ∷ ts) =
    elim (nat_eq s t) as (λ k. cond (not k) (s ∷ filter (λ s. not (nat_eq s t)) (ts ++ t ∷ [])) (filter (λ s. not (nat_eq s t)) (ts ++ t ∷ [])) ≡ cond (not k) (s ∷ filter (λ s. not (nat_eq s t)) ts) (filter (λ s. not (nat_eq s t)) ts)) [
      | true ↦ filter-same t ts
      | false ↦ ap (λ l. s ∷ l) (filter-same t ts)
    ]

-- one more event may bring one more transaction, after the others
pub transactions-push : (h : History) (e : ℕ × Event) → transactions (h ++ e ∷ []) ≡ with_number (transactions h) e.0
transactions-push [] e = refl
transactions-push (x ∷ h) e =
    elim (split (nat_eq e.0 x.0)) [
      | inl same ↦
          let is : e.0 ≡ x.0 = nat_eq-is e.0 x.0 same in
          ap (λ l. x.0 ∷ filter (λ t. not (nat_eq t x.0)) l) (transactions-push h e)
          ∙ ap (λ l. x.0 ∷ l) (elim (list_any (nat_eq e.0) (transactions h)) as (λ k. filter (λ t. not (nat_eq t x.0)) (cond k (transactions h) (transactions h ++ e.0 ∷ [])) ≡ filter (λ t. not (nat_eq t x.0)) (transactions h)) [
            | true ↦ refl
            | false ↦ subst (λ n. filter (λ t. not (nat_eq t x.0)) (transactions h ++ n ∷ []) ≡ filter (λ t. not (nat_eq t x.0)) (transactions h)) (sym is) (filter-same x.0 (transactions h))
          ])
          ∙ sym (ap (λ k. cond k (transactions (x ∷ h)) (transactions (x ∷ h) ++ e.0 ∷ [])) (true_or (nat_eq e.0 x.0) (list_any (nat_eq e.0) (filter (λ t. not (nat_eq t x.0)) (transactions h))) same))
      | inr other ↦
          let gone : list_any (nat_eq e.0) (transactions (x ∷ h)) ≡ list_any (nat_eq e.0) (transactions h) =
          ap (λ k. k || list_any (nat_eq e.0) (filter (λ t. not (nat_eq t x.0)) (transactions h))) other ∙ any-without x.0 e.0 (transactions h) other in
          ap (λ l. x.0 ∷ filter (λ t. not (nat_eq t x.0)) l) (transactions-push h e)
          ∙ elim (list_any (nat_eq e.0) (transactions h)) as (λ k. x.0 ∷ filter (λ t. not (nat_eq t x.0)) (cond k (transactions h) (transactions h ++ e.0 ∷ [])) ≡ cond k (transactions (x ∷ h)) (transactions (x ∷ h) ++ e.0 ∷ [])) [
            | true ↦ refl
            | false ↦ ap (λ l. x.0 ∷ l) (filter-push x.0 e.0 (transactions h) other)
          ]
          ∙ sym (ap (λ k. cond k (transactions (x ∷ h)) (transactions (x ∷ h) ++ e.0 ∷ [])) gone)
    ]

-- each transaction stands once
abbrev pub are_different : List ℕ → Bool
are_different [] = true
are_different (t ∷ ts) = not (list_any (nat_eq t) ts) && are_different ts

any-filtered : (t u : ℕ) (ts : List ℕ) → list_any (nat_eq u) ts ≡ false → list_any (nat_eq u) (filter (λ s. not (nat_eq s t)) ts) ≡ false
any-filtered t u [] none = refl
any-filtered t u (s ∷ ts) none =
    let both = or_false (nat_eq u s) (list_any (nat_eq u) ts) none in
    elim (nat_eq s t) as (λ k. list_any (nat_eq u) (cond (not k) (s ∷ filter (λ s. not (nat_eq s t)) ts) (filter (λ s. not (nat_eq s t)) ts)) ≡ false) [
      | true ↦ any-filtered t u ts both.1
      | false ↦ ap (λ k. k || list_any (nat_eq u) (filter (λ s. not (nat_eq s t)) ts)) both.0 ∙ any-filtered t u ts both.1
    ]

different-filtered : (t : ℕ) (ts : List ℕ) → are_different ts ≡ true → are_different (filter (λ s. not (nat_eq s t)) ts) ≡ true
different-filtered t [] differ = refl
different-filtered t (s ∷ ts) differ =
    let both = and_true (not (list_any (nat_eq s) ts)) (are_different ts) differ in
    elim (nat_eq s t) as (λ k. are_different (cond (not k) (s ∷ filter (λ s. not (nat_eq s t)) ts) (filter (λ s. not (nat_eq s t)) ts)) ≡ true) [
      | true ↦ different-filtered t ts both.1
      | false ↦ true_and (not (list_any (nat_eq s) (filter (λ s. not (nat_eq s t)) ts))) (are_different (filter (λ s. not (nat_eq s t)) ts))
          (not_false (list_any (nat_eq s) (filter (λ s. not (nat_eq s t)) ts)) (any-filtered t s ts (not_true (list_any (nat_eq s) ts) both.0))) (different-filtered t ts both.1)
    ]

none-of_itself : (t : ℕ) (ts : List ℕ) → list_any (nat_eq t) (filter (λ s. not (nat_eq s t)) ts) ≡ false
none-of_itself t [] = refl
none-of_itself t (s ∷ ts) =
    elim (split (nat_eq s t)) [
      | inl same ↦ ap (λ k. list_any (nat_eq t) (cond (not k) (s ∷ filter (λ s. not (nat_eq s t)) ts) (filter (λ s. not (nat_eq s t)) ts))) same ∙ none-of_itself t ts
      | inr other ↦ ap (λ k. list_any (nat_eq t) (cond (not k) (s ∷ filter (λ s. not (nat_eq s t)) ts) (filter (λ s. not (nat_eq s t)) ts))) other
          ∙ ap (λ k. k || list_any (nat_eq t) (filter (λ s. not (nat_eq s t)) ts)) (nat_eq-sym t s ∙ other) ∙ none-of_itself t ts
    ]

pub different-transactions : (h : History) → are_different (transactions h) ≡ true
different-transactions [] = refl
different-transactions (e ∷ h) =
    true_and (not (list_any (nat_eq e.0) (filter (λ t. not (nat_eq t e.0)) (transactions h)))) (are_different (filter (λ t. not (nat_eq t e.0)) (transactions h)))
    (not_false (list_any (nat_eq e.0) (filter (λ t. not (nat_eq t e.0)) (transactions h))) (none-of_itself e.0 (transactions h))) (different-filtered e.0 (transactions h) (different-transactions h))

-- # Stamps

pub first_stamp-own : (h : History) (e : ℕ × Event) → first_stamp (h ++ e ∷ []) e.0 ≡ first_stamp h e.0
first_stamp-own [] e = ap (λ k. cond k 0 1) (nat_eq-refl e.0)
first_stamp-own (x ∷ h) e = ap (λ n. cond (nat_eq x.0 e.0) 0 (suc n)) (first_stamp-own h e)

pub first_stamp-there : (h : History) (e : ℕ × Event) (t : ℕ) → is_in h t ≡ true → first_stamp (h ++ e ∷ []) t ≡ first_stamp h t
first_stamp-there [] e t there = absurd (cc)
first_stamp-there (x ∷ h) e t there =
    elim (split (nat_eq x.0 t)) [
      | inl same ↦ ap (λ k. cond k 0 (suc (first_stamp (h ++ e ∷ []) t))) same ∙ sym (ap (λ k. cond k 0 (suc (first_stamp h t))) same)
      | inr other ↦ ap (λ n. cond (nat_eq x.0 t) 0 (suc n)) (first_stamp-there h e t (sym (ap (λ k. k || is_in h t) other) ∙ there))
    ]

pub first_stamp-absent : (h : History) (t : ℕ) → is_in h t ≡ false → first_stamp h t ≡ length h
first_stamp-absent [] t none = refl
first_stamp-absent (x ∷ h) t none =
    let both = or_false (nat_eq x.0 t) (is_in h t) none in
    ap (λ k. cond k 0 (suc (first_stamp h t))) both.0 ∙ ap suc (first_stamp-absent h t both.1)

pub is_in-push : (h : History) (e : ℕ × Event) (t : ℕ) → is_in (h ++ e ∷ []) t ≡ (is_in h t || nat_eq e.0 t)
is_in-push [] e t = elim (nat_eq e.0 t) as (λ k. (k || false) ≡ k) [ true ↦ refl | false ↦ refl ]
is_in-push (x ∷ h) e t =
    elim (nat_eq x.0 t) as (λ k. (k || is_in (h ++ e ∷ []) t) ≡ ((k || is_in h t) || nat_eq e.0 t)) [ true ↦ refl | false ↦ is_in-push h e t ]

pub last_stamp-own : (h : History) (e : ℕ × Event) → last_stamp (h ++ e ∷ []) e.0 ≡ length h
last_stamp-own [] e = refl
last_stamp-own (x ∷ h) e =
    ap (λ k. cond k (suc (last_stamp (h ++ e ∷ []) e.0)) 0) (is_in-push h e e.0 ∙ or_right (is_in h e.0) (nat_eq e.0 e.0) (nat_eq-refl e.0))
    ∙ ap suc (last_stamp-own h e)

pub last_stamp-other : (h : History) (e : ℕ × Event) (t : ℕ) → nat_eq e.0 t ≡ false → last_stamp (h ++ e ∷ []) t ≡ last_stamp h t
last_stamp-other [] e t other = refl
last_stamp-other (x ∷ h) e t other =
    let there : is_in (h ++ e ∷ []) t ≡ is_in h t =
    is_in-push h e t ∙ ap (λ k. is_in h t || k) other ∙ elim (is_in h t) as (λ k. (k || false) ≡ k) [ true ↦ refl | false ↦ refl ] in
    ap (λ k. cond k (suc (last_stamp (h ++ e ∷ []) t)) 0) there ∙ ap (λ n. cond (is_in h t) (suc n) 0) (last_stamp-other h e t other)

last_stamp-absent : (h : History) (t : ℕ) → is_in h t ≡ false → last_stamp h t ≡ 0
last_stamp-absent [] t none = refl
last_stamp-absent (x ∷ h) t none =
    let both = or_false (nat_eq x.0 t) (is_in h t) none in ap (λ k. cond k (suc (last_stamp h t)) 0) both.1

-- # What a transaction did

nothing_after : (es : List Event) (x : Event) → Passes Ended (es ++ x ∷ []) → ⊥
nothing_after [] x p = p
nothing_after (e ∷ es) x p = p

-- what stands before another event is no end
no_end : (s : TxState) (e : Event) (es : List Event) (x : Event) → Passes s (e ∷ (es ++ x ∷ [])) → (is_commit e ≡ false) × (is_abort e ≡ false)
no_end s (Inv _ _) es x p = (refl, refl)
no_end s (Ret _ _ _) es x p = (refl, refl)
no_end s TryC es x p = (refl, refl)
no_end s TryA es x p = (refl, refl)
no_end Idle Commit es x p = absurd p
no_end (Pending _ _) Commit es x p = absurd p
no_end TriedCommit Commit es x p = absurd (nothing_after es x p)
no_end TriedAbort Commit es x p = absurd p
no_end Ended Commit es x p = absurd p
no_end Idle Abort es x p = absurd p
no_end (Pending _ _) Abort es x p = absurd (nothing_after es x p)
no_end TriedCommit Abort es x p = absurd (nothing_after es x p)
no_end TriedAbort Abort es x p = absurd (nothing_after es x p)
no_end Ended Abort es x p = absurd p

no_end-before : (s : TxState) (es : List Event) (x : Event) → Passes s (es ++ x ∷ []) → (list_any is_commit es ≡ false) × (list_any is_abort es ≡ false)
no_end-before s [] x p = (refl, refl)
no_end-before s (e ∷ es) x p =
    let here = no_end s e es x p in
    let rest : (list_any is_commit es ≡ false) × (list_any is_abort es ≡ false) =
    elim (after s e) as (λ r. (elim r as (λ (_ : Result TxState Rule). Type 0) [ Ok next ↦ Passes next (es ++ x ∷ []) | Err _ ↦ ⊥ ]) → (list_any is_commit es ≡ false) × (list_any is_abort es ≡ false)) [
      | Ok next ↦ λ q. no_end-before next es x q
      | Err rule ↦ λ q. absurd q
    ] p in
    (ap (λ k. k || list_any is_commit es) here.0 ∙ rest.0, ap (λ k. k || list_any is_abort es) here.1 ∙ rest.1)

-- what an event makes of a status, and of a block
abbrev pub status_with : Status → Event → Status
status_with s (Inv _ _) = s
status_with s (Ret _ _ _) = s
status_with s TryC = CommitPending
status_with s TryA = s
status_with s Commit = Committed
status_with s Abort = Aborted

abbrev pub block_with : BlockOf → Event → BlockOf
block_with b (Inv ob op) = invoked b (record { object = ob; op = op })
block_with b (Ret _ _ answer) = answered b answer
block_with b TryC = b
block_with b TryA = b
block_with b Commit = b
block_with b Abort = b

abbrev by_tests : Bool → Bool → Bool → Status
by_tests c a p = if c then Committed else (if a then Aborted else (if p then CommitPending else Live))

status-parts : (es : List Event) (x : Event) →
    tx_status (es ++ x ∷ []) ≡ by_tests (list_any is_commit es || list_any is_commit (x ∷ [])) (list_any is_abort es || list_any is_abort (x ∷ [])) (list_any is_try_commit es || list_any is_try_commit (x ∷ []))
status-parts es x =
    ap (λ k. by_tests k (list_any is_abort (es ++ x ∷ [])) (list_any is_try_commit (es ++ x ∷ []))) (list_any-append is_commit es (x ∷ []))
    ∙ ap (λ k. by_tests (list_any is_commit es || list_any is_commit (x ∷ [])) k (list_any is_try_commit (es ++ x ∷ []))) (list_any-append is_abort es (x ∷ []))
    ∙ ap (λ k. by_tests (list_any is_commit es || list_any is_commit (x ∷ [])) (list_any is_abort es || list_any is_abort (x ∷ [])) k) (list_any-append is_try_commit es (x ∷ []))

same_tests : (c a p : Bool) → by_tests (c || false) (a || false) (p || false) ≡ by_tests c a p
same_tests c a p =
    ap (λ k. by_tests k (a || false) (p || false)) (or_nothing c) ∙ ap (λ k. by_tests c k (p || false)) (or_nothing a) ∙ ap (λ k. by_tests c a k) (or_nothing p)

pub status-push : (es : List Event) (x : Event) → Passes Idle (es ++ x ∷ []) → tx_status (es ++ x ∷ []) ≡ status_with (tx_status es) x
status-push es (Inv ob op) p = status-parts es (Inv ob op) ∙ same_tests (list_any is_commit es) (list_any is_abort es) (list_any is_try_commit es)
status-push es (Ret ob name answer) p = status-parts es (Ret ob name answer) ∙ same_tests (list_any is_commit es) (list_any is_abort es) (list_any is_try_commit es)
status-push es TryC p =
    let none = no_end-before Idle es TryC p in
    status-parts es TryC
    ∙ ap (λ k. by_tests (k || false) (list_any is_abort es || false) (list_any is_try_commit es || true)) none.0
    ∙ ap (λ k. by_tests false (k || false) (list_any is_try_commit es || true)) none.1
    ∙ ap (λ k. by_tests false false k) (or_right (list_any is_try_commit es) true refl)
status-push es TryA p = status-parts es TryA ∙ same_tests (list_any is_commit es) (list_any is_abort es) (list_any is_try_commit es)
status-push es Commit p =
    status-parts es Commit
    ∙ ap (λ k. by_tests k (list_any is_abort es || false) (list_any is_try_commit es || false)) (or_right (list_any is_commit es) true refl)
status-push es Abort p =
    let none = no_end-before Idle es Abort p in
    status-parts es Abort
    ∙ ap (λ k. by_tests (k || false) (list_any is_abort es || true) (list_any is_try_commit es || false)) none.0
    ∙ ap (λ k. by_tests false k (list_any is_try_commit es || false)) (or_right (list_any is_abort es) true refl)

no_invocation-tried : (es : List Event) (ob : ℕ) (op : Op) → Passes TriedCommit (es ++ Inv ob op ∷ []) → ⊥
no_invocation-tried [] ob op p = p
no_invocation-tried (Inv _ _ ∷ es) ob op p = p
no_invocation-tried (Ret _ _ _ ∷ es) ob op p = p
no_invocation-tried (TryC ∷ es) ob op p = p
no_invocation-tried (TryA ∷ es) ob op p = p
no_invocation-tried (Commit ∷ es) ob op p = nothing_after es (Inv ob op) p
no_invocation-tried (Abort ∷ es) ob op p = nothing_after es (Inv ob op) p

no_invocation-given_up : (es : List Event) (ob : ℕ) (op : Op) → Passes TriedAbort (es ++ Inv ob op ∷ []) → ⊥
no_invocation-given_up [] ob op p = p
no_invocation-given_up (Inv _ _ ∷ es) ob op p = p
no_invocation-given_up (Ret _ _ _ ∷ es) ob op p = p
no_invocation-given_up (TryC ∷ es) ob op p = p
no_invocation-given_up (TryA ∷ es) ob op p = p
no_invocation-given_up (Commit ∷ es) ob op p = p
no_invocation-given_up (Abort ∷ es) ob op p = nothing_after es (Inv ob op) p

abbrev empty_block : BlockOf
empty_block = record { executions = []; trailing = None }

abbrev in_front : Execution → BlockOf → BlockOf
in_front x b = record { executions = x ∷ b.executions; trailing = b.trailing }

answered-in_front : (x : Execution) (xs : List Execution) (o : Option Invocation) (answer : Answer) →
    in_front x (answered (record { executions = xs; trailing = o }) answer) ≡ answered (record { executions = x ∷ xs; trailing = o }) answer
answered-in_front x xs None answer = refl
answered-in_front x xs (Some i) answer = refl

block_with-in_front : (x : Execution) (b : BlockOf) (e : Event) → in_front x (block_with b e) ≡ block_with (in_front x b) e
block_with-in_front x b (Inv ob op) = refl
block_with-in_front x b (Ret _ _ answer) = answered-in_front x b.executions b.trailing answer
block_with-in_front x b TryC = refl
block_with-in_front x b TryA = refl
block_with-in_front x b Commit = refl
block_with-in_front x b Abort = refl

pub block-push : (es : List Event) (x : Event) → Passes Idle (es ++ x ∷ []) → block_of (es ++ x ∷ []) ≡ block_with (block_of es) x
block-push [] (Inv ob op) p = refl
block-push [] (Ret _ _ _) p = absurd p
block-push [] TryC p = refl
block-push [] TryA p = refl
block-push [] Commit p = refl
block-push [] Abort p = refl
block-push (Inv ob op ∷ []) (Inv _ _) p = absurd p
block-push (Inv ob op ∷ []) (Ret o name answer) p = refl
block-push (Inv ob op ∷ []) TryC p = absurd p
block-push (Inv ob op ∷ []) TryA p = absurd p
block-push (Inv ob op ∷ []) Commit p = absurd p
block-push (Inv ob op ∷ []) Abort p = refl
block-push (Inv ob op ∷ Ret o name answer ∷ es) x p =
    let q = matched_passes (is_match ob op o name) (es ++ x ∷ []) p in
    let done : Execution = record { object = ob; op = op; answer = answer } in
    ap (in_front done) (block-push es x q.1) ∙ block_with-in_front done (block_of es) x
block-push (Inv ob op ∷ Inv _ _ ∷ es) x p = absurd p
block-push (Inv ob op ∷ TryC ∷ es) x p = absurd p
block-push (Inv ob op ∷ TryA ∷ es) x p = absurd p
block-push (Inv ob op ∷ Commit ∷ es) x p = absurd p
block-push (Inv ob op ∷ Abort ∷ es) x p = absurd (nothing_after es x p)
block-push (Ret _ _ _ ∷ es) x p = absurd p
block-push (TryC ∷ es) (Inv ob op) p = absurd (no_invocation-tried es ob op p)
block-push (TryC ∷ es) (Ret _ _ _) p = refl
block-push (TryC ∷ es) TryC p = refl
block-push (TryC ∷ es) TryA p = refl
block-push (TryC ∷ es) Commit p = refl
block-push (TryC ∷ es) Abort p = refl
block-push (TryA ∷ es) (Inv ob op) p = absurd (no_invocation-given_up es ob op p)
block-push (TryA ∷ es) (Ret _ _ _) p = refl
block-push (TryA ∷ es) TryC p = refl
block-push (TryA ∷ es) TryA p = refl
block-push (TryA ∷ es) Commit p = refl
block-push (TryA ∷ es) Abort p = refl
block-push (Commit ∷ es) x p = absurd p
block-push (Abort ∷ es) x p = absurd p

-- # Rows

with_event-parts : (r : RowOf) (n : ℕ) (x : Event) →
    with_event r n x ≡ record { tx = r.tx; block = block_with r.block x; status = status_with r.status x; first = r.first; last = n }
with_event-parts r n (Inv _ _) = refl
with_event-parts r n (Ret _ _ _) = refl
with_event-parts r n TryC = refl
with_event-parts r n TryA = refl
with_event-parts r n Commit = refl
with_event-parts r n Abort = refl

-- a transaction's row with one more event of its own
pub row-own : (h : History) (e : ℕ × Event) → IsWellFormed (h ++ e ∷ []) → row_of (h ++ e ∷ []) e.0 ≡ with_event (row_of h e.0) (length h) e.1
row-own h e fine =
    let es = events_of e.0 h in
    let own : events_of e.0 (h ++ e ∷ []) ≡ es ++ e.1 ∷ [] = events_of-own h e in
    let passes : Passes Idle (es ++ e.1 ∷ []) = subst (λ l. Passes Idle l) own (Passes-from_IsTransaction (events_of e.0 (h ++ e ∷ [])) (fine e.0)) in
    let block = ap block_of own ∙ block-push es e.1 passes in
    let status = ap tx_status own ∙ status-push es e.1 passes in
    let first = first_stamp-own h e in
    let last = last_stamp-own h e in
    let parts : row_of (h ++ e ∷ []) e.0 ≡ record { tx = e.0; block = block_with (block_of es) e.1; status = status_with (tx_status es) e.1; first = first_stamp h e.0; last = length h } =
    λ i. record { tx = e.0; block = block i; status = status i; first = first i; last = last i } in
    parts ∙ sym (with_event-parts (row_of h e.0) (length h) e.1)

-- the other transactions' rows stay
pub row-other : (h : History) (e : ℕ × Event) (t : ℕ) → is_in h t ≡ true → nat_eq e.0 t ≡ false → row_of (h ++ e ∷ []) t ≡ row_of h t
row-other h e t there other =
    let same = events_of-other h e t other in
    let first = first_stamp-there h e t there in
    let last = last_stamp-other h e t other in
    λ i. record { tx = t; block = block_of (same i); status = tx_status (same i); first = first i; last = last i }

events_of-absent : (h : History) (t : ℕ) → is_in h t ≡ false → events_of t h ≡ []
events_of-absent [] t none = refl
events_of-absent (x ∷ h) t none =
    let both = or_false (nat_eq x.0 t) (is_in h t) none in
    ap (λ k. cond k (x.1 ∷ events_of t h) (events_of t h)) both.0 ∙ events_of-absent h t both.1

pub row-fresh : (h : History) (t : ℕ) → is_in h t ≡ false → fresh_row t (length h) ≡ row_of h t
row-fresh h t none =
    let nothing = sym (events_of-absent h t none) in
    let first = sym (first_stamp-absent h t none) in
    let last = sym (last_stamp-absent h t none) in
    λ i. record { tx = t; block = block_of (nothing i); status = tx_status (nothing i); first = first i; last = last i }

unchanged : (f g : ℕ → RowOf) (u : ℕ) (ts : List ℕ) → list_any (nat_eq u) ts ≡ false →
    ((t : ℕ) → list_any (nat_eq t) ts ≡ true → nat_eq u t ≡ false → g t ≡ f t) → map f ts ≡ map g ts
unchanged f g u [] none stays = refl
unchanged f g u (t ∷ ts) none stays =
    let both = or_false (nat_eq u t) (list_any (nat_eq u) ts) none in
    let here : g t ≡ f t = stays t (true_or (nat_eq t t) (list_any (nat_eq t) ts) (nat_eq-refl t)) both.0 in
    ap (λ r. r ∷ map f ts) (sym here)
    ∙ ap (λ rs. g t ∷ rs) (unchanged f g u ts both.1 (λ s there other. stays s (or_right (nat_eq s t) (list_any (nat_eq s) ts) there) other))

-- one more event of u, among rows that f gives: afterwards they are those that g gives
pub rows_with-map : (f g : ℕ → RowOf) (u n : ℕ) (x : Event) (ts : List ℕ) → ((t : ℕ) → (f t).tx ≡ t) → are_different ts ≡ true →
    g u ≡ with_event (f u) n x → (list_any (nat_eq u) ts ≡ false → fresh_row u n ≡ f u) →
    ((t : ℕ) → list_any (nat_eq t) ts ≡ true → nat_eq u t ≡ false → g t ≡ f t) → rows_with (map f ts) u n x ≡ map g (with_number ts u)
rows_with-map f g u n x [] named differ own fresh stays = ap (λ r. r ∷ []) (ap (λ r. with_event r n x) (fresh refl) ∙ sym own)
rows_with-map f g u n x (t ∷ ts) named differ own fresh stays =
    let parts = and_true (not (list_any (nat_eq t) ts)) (are_different ts) differ in
    elim (split (nat_eq u t)) [
      | inl same ↦
          let is : u ≡ t = nat_eq-is u t same in
          let here : nat_eq (f t).tx u ≡ true = ap (λ m. nat_eq m u) (named t) ∙ nat_eq-sym t u ∙ same in
          let none : list_any (nat_eq u) ts ≡ false = subst (λ m. list_any (nat_eq m) ts ≡ false) (sym is) (not_true (list_any (nat_eq t) ts) parts.0) in
          ap (λ k. cond k (with_event (f t) n x ∷ map f ts) (f t ∷ rows_with (map f ts) u n x)) here
          ∙ ap (λ r. r ∷ map f ts) (subst (λ m. with_event (f m) n x ≡ g m) is (sym own))
          ∙ ap (λ rs. g t ∷ rs) (unchanged f g u ts none (λ s there other. stays s (or_right (nat_eq s t) (list_any (nat_eq s) ts) there) other))
          ∙ sym (ap (λ k. map g (cond k (t ∷ ts) (t ∷ ts ++ u ∷ []))) (true_or (nat_eq u t) (list_any (nat_eq u) ts) same))
      | inr other ↦
          let here : nat_eq (f t).tx u ≡ false = ap (λ m. nat_eq m u) (named t) ∙ nat_eq-sym t u ∙ other in
          let kept : g t ≡ f t = stays t (true_or (nat_eq t t) (list_any (nat_eq t) ts) (nat_eq-refl t)) other in
          ap (λ k. cond k (with_event (f t) n x ∷ map f ts) (f t ∷ rows_with (map f ts) u n x)) here
          ∙ ap (λ r. r ∷ rows_with (map f ts) u n x) (sym kept)
          ∙ ap (λ rs. g t ∷ rs) (rows_with-map f g u n x ts named parts.1 own
          (λ none. fresh (ap (λ k. k || list_any (nat_eq u) ts) other ∙ none))
          (λ s there far. stays s (or_right (nat_eq s t) (list_any (nat_eq s) ts) there) far))
          ∙ elim (list_any (nat_eq u) ts) as (λ k. g t ∷ map g (cond k ts (ts ++ u ∷ [])) ≡ map g (cond k (t ∷ ts) (t ∷ ts ++ u ∷ []))) [ true ↦ refl | false ↦ refl ]
          ∙ sym (ap (λ k. map g (cond k (t ∷ ts) (t ∷ ts ++ u ∷ []))) (ap (λ k. k || list_any (nat_eq u) ts) other))
    ]

-- the table with one more event
pub table-push : (h : History) (e : ℕ × Event) → IsWellFormed (h ++ e ∷ []) → table_of (h ++ e ∷ []) ≡ rows_with (table_of h) e.0 (length h) e.1
table-push h e fine =
    ap (map (row_of (h ++ e ∷ []))) (transactions-push h e)
    ∙ sym (rows_with-map (row_of h) (row_of (h ++ e ∷ [])) e.0 (length h) e.1 (transactions h) (λ t. refl) (different-transactions h) (row-own h e fine)
    (λ none. row-fresh h e.0 (sym (any-transactions h e.0) ∙ none))
    (λ t there other. row-other h e t (sym (any-transactions h t) ∙ there) other))

-- # One row after another, by place

-- the event goes into the row at the first place of its transaction
pub rows_with-at : (rs : List RowOf) (u n : ℕ) (x : Event) (i : ℕ) (d : RowOf) → i < length rs → nat_eq u (get_or rs i d).tx ≡ true →
    ((k : ℕ) → k < i → nat_eq u (get_or rs k d).tx ≡ false) → set rs i (with_event (get_or rs i d) n x) ≡ rows_with rs u n x
rows_with-at [] u n x i d inside here before = absurd (omega arith)
rows_with-at (r ∷ rs) u n x zero d inside here before =
    sym (ap (λ k. cond k (with_event r n x ∷ rs) (r ∷ rows_with rs u n x)) (nat_eq-sym r.tx u ∙ here))
rows_with-at (r ∷ rs) u n x (suc i) d inside here before =
    ap (λ l. r ∷ l) (rows_with-at rs u n x i d (omega arith) here (λ k below. before (suc k) (omega arith)))
    ∙ sym (ap (λ k. cond k (with_event r n x ∷ rs) (r ∷ rows_with rs u n x)) (nat_eq-sym r.tx u ∙ before zero (omega arith)))

-- the event of a transaction without a row goes into one of its own
pub rows_with-new : (rs : List RowOf) (u n : ℕ) (x : Event) → list_any (nat_eq u) (map (λ r. r.tx) rs) ≡ false →
    rows_with rs u n x ≡ rs ++ with_event (fresh_row u n) n x ∷ []
rows_with-new [] u n x none = refl
rows_with-new (r ∷ rs) u n x none =
    let both = or_false (nat_eq u r.tx) (list_any (nat_eq u) (map (λ r. r.tx) rs)) none in
    ap (λ k. cond k (with_event r n x ∷ rs) (r ∷ rows_with rs u n x)) (nat_eq-sym r.tx u ∙ both.0) ∙ ap (λ l. r ∷ l) (rows_with-new rs u n x both.1)

tx-with_event : (r : RowOf) (n : ℕ) (x : Event) → (with_event r n x).tx ≡ r.tx
tx-with_event r n x = ap (λ s. s.tx) (with_event-parts r n x)

-- the transactions of the rows then
pub tx-rows_with : (rs : List RowOf) (u n : ℕ) (x : Event) → map (λ r. r.tx) (rows_with rs u n x) ≡ with_number (map (λ r. r.tx) rs) u
tx-rows_with [] u n x = ap (λ t. t ∷ []) (tx-with_event (fresh_row u n) n x)
tx-rows_with (r ∷ rs) u n x =
    elim (split (nat_eq u r.tx)) [
      | inl same ↦
          ap (λ k. map (λ r. r.tx) (cond k (with_event r n x ∷ rs) (r ∷ rows_with rs u n x))) (nat_eq-sym r.tx u ∙ same)
          ∙ ap (λ t. t ∷ map (λ r. r.tx) rs) (tx-with_event r n x)
          ∙ sym (ap (λ k. cond k (r.tx ∷ map (λ r. r.tx) rs) (r.tx ∷ map (λ r. r.tx) rs ++ u ∷ [])) (true_or (nat_eq u r.tx) (list_any (nat_eq u) (map (λ r. r.tx) rs)) same))
      | inr other ↦
          ap (λ k. map (λ r. r.tx) (cond k (with_event r n x ∷ rs) (r ∷ rows_with rs u n x))) (nat_eq-sym r.tx u ∙ other)
          ∙ ap (λ l. r.tx ∷ l) (tx-rows_with rs u n x)
          ∙ elim (list_any (nat_eq u) (map (λ r. r.tx) rs)) as (λ k. r.tx ∷ cond k (map (λ r. r.tx) rs) (map (λ r. r.tx) rs ++ u ∷ []) ≡ cond k (r.tx ∷ map (λ r. r.tx) rs) (r.tx ∷ map (λ r. r.tx) rs ++ u ∷ [])) [ true ↦ refl | false ↦ refl ]
          ∙ sym (ap (λ k. cond k (r.tx ∷ map (λ r. r.tx) rs) (r.tx ∷ map (λ r. r.tx) rs ++ u ∷ [])) (ap (λ k. k || list_any (nat_eq u) (map (λ r. r.tx) rs)) other))
    ]

-- where a look-up found the place of a transaction
pub found_at : (rs : List RowOf) (u n : ℕ) (x : Event) (i : ℕ) (d : RowOf) → position (nat_eq u) (map (λ r. r.tx) rs) ≡ Some i →
    (i < length rs) × (set rs i (with_event (get_or rs i d) n x) ≡ rows_with rs u n x)
found_at rs u n x i d found =
    let at = position-Some (nat_eq u) (map (λ r. r.tx) rs) i d.tx found in
    let inside : i < length rs = omega (arith, at.0, length-map {A = RowOf} {B = ℕ}) in (
      inside,
      rows_with-at rs u n x i d inside (subst (λ t. nat_eq u t ≡ true) (get_or-map (λ (r : RowOf). r.tx) rs i d) at.1)
          (λ k below. subst (λ t. nat_eq u t ≡ false) (get_or-map (λ (r : RowOf). r.tx) rs k d) (at.2 k below)),
    )

-- a transaction that has a row keeps the list of transactions
pub with_number-there : (ts : List ℕ) (u : ℕ) → list_any (nat_eq u) ts ≡ true → with_number ts u ≡ ts
with_number-there ts u there = ap (λ k. cond k ts (ts ++ u ∷ [])) there

pub with_number-new : (ts : List ℕ) (u : ℕ) → list_any (nat_eq u) ts ≡ false → with_number ts u ≡ ts ++ u ∷ []
with_number-new ts u none = ap (λ k. cond k ts (ts ++ u ∷ [])) none

-- the table of a beginning with the next event
pub table-step : (h : History) (i : ℕ) (d : ℕ × Event) → i < length h → IsWellFormed h →
    rows_with (table_of (take i h)) (get_or h i d).0 i (get_or h i d).1 ≡ table_of (take (i + 1) h)
table-step h i d inside fine =
    let more = take_more h i d inside in
    let whole : IsWellFormed (take (i + 1) h ++ drop (i + 1) h) = subst (λ l. IsWellFormed l) (sym (take-append-drop (i + 1) h)) fine in
    let longer : IsWellFormed (take i h ++ get_or h i d ∷ []) = subst (λ l. IsWellFormed l) more (IsWellFormed-beginning (take (i + 1) h) (drop (i + 1) h) whole) in
    let count : length (take i h) ≡ i = length-take-le i h (omega arith) in
    ap (λ n. rows_with (table_of (take i h)) (get_or h i d).0 n (get_or h i d).1) (sym count)
    ∙ sym (table-push (take i h) (get_or h i d) longer) ∙ ap table_of (sym more)

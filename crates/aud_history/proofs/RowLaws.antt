-- What the rows of the table say of the history.
use Rattle.std.specs.Prelude.{◌≡◌, ℕ, suc, true, not, ◌&&◌, nat_eq, nat_lt, List, [], ◌∷◌, refl}
use Rattle.std.proofs.Common.{sym, ◌∙◌, ap, cond, inl, inr, arith}
use Rattle.std.proofs.lemmas.Bool.Decides.{nat_tests}
use Rattle.aud_event.specs.declared.fact.Event.{Event}
use Rattle.aud_event.specs.declared.fact.Event.TheVariants.{Inv, Ret, TryC, TryA, Commit, Abort}
use Rattle.aud_event.specs.Objects.{name_of}
use Rattle.base_values.proofs.Bools.{split}
use Rattle.aud_kinds.specs.Objects.{on_object}
use Rattle.aud_object.specs.Blocks.{events_of_block}
use Rattle.aud_history.specs.declared.state.TxState.TheVariants.{Idle, Ended, TriedCommit, TriedAbort}
use Rattle.aud_history.specs.Histories.{History, is_in, is_before, is_completed, from_first}
use Rattle.aud_history.specs.ByState.{is_match, Passes}
use Rattle.aud_history.specs.Table.{block_of, first_stamp, last_stamp}
use Rattle.aud_history.proofs.StateTable.{matched_passes, matched}
use Rattle.aud_history.proofs.ByPlaces.{not_in_rest}

pub nothing_else : (es : List Event) → Passes Ended es → es ≡ []
nothing_else [] p = refl
nothing_else (e ∷ es) p = absurd p

pub off_objects-tried : (ob : ℕ) (es : List Event) → Passes TriedCommit es → on_object ob es ≡ []
off_objects-tried ob [] p = refl
off_objects-tried ob (Inv _ _ ∷ es) p = absurd p
off_objects-tried ob (Ret _ _ _ ∷ es) p = absurd p
off_objects-tried ob (TryC ∷ es) p = absurd p
off_objects-tried ob (TryA ∷ es) p = absurd p
off_objects-tried ob (Commit ∷ es) p = ap (on_object ob) (nothing_else es p)
off_objects-tried ob (Abort ∷ es) p = ap (on_object ob) (nothing_else es p)

pub off_objects-given_up : (ob : ℕ) (es : List Event) → Passes TriedAbort es → on_object ob es ≡ []
off_objects-given_up ob [] p = refl
off_objects-given_up ob (Inv _ _ ∷ es) p = absurd p
off_objects-given_up ob (Ret _ _ _ ∷ es) p = absurd p
off_objects-given_up ob (TryC ∷ es) p = absurd p
off_objects-given_up ob (TryA ∷ es) p = absurd p
off_objects-given_up ob (Commit ∷ es) p = absurd p
off_objects-given_up ob (Abort ∷ es) p = ap (on_object ob) (nothing_else es p)

-- on each object a transaction's block is what the transaction did there
pub on_object-block_of : (es : List Event) → Passes Idle es → (ob : ℕ) → on_object ob (events_of_block (block_of es)) ≡ on_object ob es
on_object-block_of [] p ob = refl
on_object-block_of (Inv o op ∷ []) p ob = refl
on_object-block_of (Inv o op ∷ Ret o' name answer ∷ es) p ob =
    let q = matched_passes (is_match o op o' name) es p in
    let m : (o' ≡ o) × (name ≡ name_of op) = matched o op o' name q.0 in
    let rest = on_object-block_of es q.1 ob in
    let here : on_object ob (Inv o op ∷ Ret o (name_of op) answer ∷ events_of_block (block_of es)) ≡ on_object ob (Inv o op ∷ Ret o (name_of op) answer ∷ es) =
    ap (λ l. cond (nat_eq o ob) (Inv o op ∷ cond (nat_eq o ob) (Ret o (name_of op) answer ∷ l) l) (cond (nat_eq o ob) (Ret o (name_of op) answer ∷ l) l)) rest in
    here ∙ ap (λ n. on_object ob (Inv o op ∷ Ret o n answer ∷ es)) (sym m.1) ∙ ap (λ n. on_object ob (Inv o op ∷ Ret n name answer ∷ es)) (sym m.0)
on_object-block_of (Inv o op ∷ Inv _ _ ∷ es) p ob = absurd p
on_object-block_of (Inv o op ∷ TryC ∷ es) p ob = absurd p
on_object-block_of (Inv o op ∷ TryA ∷ es) p ob = absurd p
on_object-block_of (Inv o op ∷ Commit ∷ es) p ob = absurd p
on_object-block_of (Inv o op ∷ Abort ∷ es) p ob =
    ap (λ l. on_object ob (Inv o op ∷ Abort ∷ l)) (sym (nothing_else es p))
on_object-block_of (Ret _ _ _ ∷ es) p ob = absurd p
on_object-block_of (TryC ∷ es) p ob = sym (off_objects-tried ob es p)
on_object-block_of (TryA ∷ es) p ob = sym (off_objects-given_up ob es p)
on_object-block_of (Commit ∷ es) p ob = absurd p
on_object-block_of (Abort ∷ es) p ob = absurd p

-- T has no event from U's first one on exactly where T's last stamp is below U's first
pub gone-by_stamps : (h : History) (t u : ℕ) → is_in h t ≡ true → not (is_in (from_first u h) t) ≡ nat_lt (last_stamp h t) (first_stamp h u)
gone-by_stamps [] t u there = absurd (cc)
gone-by_stamps (e ∷ h) t u there =
    elim (split (nat_eq e.0 u)) [
      | inl same ↦
          ap (λ k. not (is_in (cond k (e ∷ h) (from_first u h)) t)) same ∙ ap not there
          ∙ sym (ap (λ k. nat_lt (last_stamp (e ∷ h) t) (cond k 0 (suc (first_stamp h u)))) same ∙ grind (arith, nat_tests))
      | inr other ↦
          ap (λ k. not (is_in (cond k (e ∷ h) (from_first u h)) t)) other
          ∙ elim (split (is_in h t)) [
            | inl later ↦
                gone-by_stamps h t u later
                ∙ (let up : nat_lt (last_stamp h t) (first_stamp h u) ≡ nat_lt (suc (last_stamp h t)) (suc (first_stamp h u)) = grind (arith, nat_tests) in up)
                ∙ sym (ap (λ k. nat_lt (cond k (suc (last_stamp h t)) 0) (suc (first_stamp h u))) later)
            | inr last ↦
                ap not (not_in_rest u t h last)
                ∙ (let up : true ≡ nat_lt 0 (suc (first_stamp h u)) = grind (arith, nat_tests) in up)
                ∙ sym (ap (λ k. nat_lt (cond k (suc (last_stamp h t)) 0) (suc (first_stamp h u))) last)
          ]
          ∙ sym (ap (λ k. nat_lt (last_stamp (e ∷ h) t) (cond k 0 (suc (first_stamp h u)))) other)
    ]

pub is_before-by_stamps : (h : History) (t u : ℕ) → is_in h t ≡ true →
    is_before h t u ≡ (is_completed h t && is_in h u && nat_lt (last_stamp h t) (first_stamp h u))
is_before-by_stamps h t u there = ap (λ k. is_completed h t && is_in h u && k) (gone-by_stamps h t u there)

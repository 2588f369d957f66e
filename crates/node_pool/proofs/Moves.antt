-- Each move keeps the rule of the queue.
use Rattle.std.proofs.Common.{◌≡◌, ◌≢◌, ◌≤◌, ◌<◌, ℕ, zero, suc, ◌+◌, ◌-◌, Bool, true, false, true≢false, List, [], ◌∷◌, ◌++◌, length, set, sym, refl, ap, ◌∙◌, subst, ⊎_elim, append_assoc, append-nil, length-append, Option, None, Some, arith}
use Rattle.std.specs.List.Sorted.{IsPermutation}
use Rattle.std.proofs.lemmas.List.Sorted.{IsPermutation-refl, IsPermutation-sym, IsPermutation-trans, IsPermutation-append_left, length_permutation}
use mathlib.Core.Option.{some, some-ne-none, some-injective}
use lib.ListN.{get_elem?}
use lib.Seq.{set_comm}
use Rattle.crossbeam_deque.specs.Tasks.{Pushes, Takes, Finds, Forks, Merges}
use Rattle.crossbeam_deque.proofs.Lists.{at_set, at_snoc, set_else}
use Rattle.node_pool.specs.declared.rule.Tally.{Tally}
use Rattle.node_pool.specs.Rule.{tally, idle, tasks_in, MarksLast, puts, takes, Fits, Shared, after_take, after_put, either_stopped, all_parts}
use Rattle.node_pool.proofs.Views.{same, grown, kept, joined, gathered-append, parts_set, parts-append, parts_two, whole, tasks-append, marks_then_task, marks_then_mark}

module _ {T : Type 0} where
  abbrev Each : (Tally T → Type 0) → List (Tally T) → Type 0
  Each F views = (port : ℕ) (v : Tally T) → get_elem? views port ≡ some v → F v

  each_set : (F : Tally T → Type 0) (views : List (Tally T)) (port : ℕ) (w : Tally T) → F w → ((j : ℕ) (u : Tally T) → j ≢ port → get_elem? views j ≡ some u → F u) → Each F (set views port w)
  each_set F views port w mine others j u e = ⊎_elim (λ (x : (j ≡ port) × (w ≡ u)). subst F x.1 mine) (λ (x : (j ≢ port) × (get_elem? views j ≡ some u)). others j u x.0 x.1) (at_set views port j w u e)

  idle_fits : (items : List (Option T)) (u : Tally T) → u ≡ idle → Fits items u
  idle_fits items u e = subst (Fits items) (sym e) ((λ _. refl), (λ h. absurd (true≢false (sym h))), λ h. absurd (true≢false (sym h)))

  pub task_there : (x : T) (xs : List T) → x ∷ xs ≡ [] → ⊥
  task_there x xs e = let n = ap length e in omega arith

  marks_alone : (xs : List (Option T)) → tasks_in xs ≡ [] → MarksLast xs
  marks_alone [] h = tt
  marks_alone (None ∷ xs) h = h
  marks_alone (Some x ∷ xs) h = absurd (task_there x (tasks_in xs) h)

  pub begins : Shared {T = T} [] (tally all_parts true [] [] false ∷ [])
  begins = (refl, IsPermutation-refl [], tt, begin_fits) where
    begin_fits : (port : ℕ) (v : Tally T) → get_elem? (tally all_parts true [] [] false ∷ []) port ≡ some v → Fits [] v
    begin_fits zero v e = subst (Fits []) (some-injective _ v e) ((λ z. absurd (omega arith)), (λ _. (refl, refl, tt)), λ _. refl)
    begin_fits (suc port) v e = absurd (some-ne-none v (sym e))

  pub takes_one : (port : ℕ) (v : Tally T) → 0 < v.parts → Takes Shared port v 1 (λ xs w. w ≡ after_take v xs)
  takes_one port v part [] items views least most h at = absurd (omega arith)
  takes_one port v part (None ∷ []) items views least most h at =
      let w : Tally T = tally v.parts v.fresh v.put v.taken true in
      let put = kept (λ u. u.put) views port v w at refl in
      let taken = kept (λ u. u.taken) views port v w at refl in
      let mine = h.3 port v at in (
        w,
        (
          (let s = parts_set views port v w at in let t = h.0 in omega arith),
          IsPermutation-trans _ _ _ (same _ _ put) (IsPermutation-trans _ _ _ h.1 (same _ _ (ap (λ l. l ++ tasks_in items) (sym taken)))),
          marks_alone items h.2,
          each_set (Fits items) views port w ((λ z. absurd (omega arith)), (λ f. absurd (mine.1 f).2), λ _. h.2)
              (λ j u other e. ((h.3 j u e).0, (λ f. absurd ((h.3 j u e).1 f).2), (h.3 j u e).2)),
        ),
        refl,
      )
  takes_one port v part (Some x ∷ []) items views least most h at =
      let w : Tally T = tally v.parts v.fresh v.put (v.taken ++ x ∷ []) v.stopped in
      let put = kept (λ u. u.put) views port v w at refl in
      let taken = grown (λ u. u.taken) views port v w (x ∷ []) at refl in
      let mine = h.3 port v at in (
        w,
        (
          (let s = parts_set views port v w at in let t = h.0 in omega arith),
          IsPermutation-trans _ _ _ (same _ _ put) (IsPermutation-trans _ _ _ h.1 (IsPermutation-trans _ _ _ (same _ _ (sym (append_assoc (takes views) (x ∷ []) (tasks_in items)))) (IsPermutation-append_left (tasks_in items) _ _ (IsPermutation-sym _ _ taken)))),
          h.2,
          each_set (Fits items) views port w ((λ z. absurd (omega arith)), (λ f. ((mine.1 f).0, (mine.1 f).1, (mine.1 f).2)), λ s. absurd (task_there x (tasks_in items) (mine.2 s)))
              (λ j u other e. ((h.3 j u e).0, (λ f. (((h.3 j u e).1 f).0, ((h.3 j u e).1 f).1, ((h.3 j u e).1 f).2)), λ s. absurd (task_there x (tasks_in items) ((h.3 j u e).2 s)))),
        ),
        refl,
      )
  takes_one port v part (x ∷ y ∷ ys) items views least most h at = absurd (omega arith)

  -- what a take finds where a mark was taken
  pub marks_only : (v : Tally T) (xs items : List (Option T)) → Fits (xs ++ items) v → v.stopped ≡ true → tasks_in xs ≡ []
  marks_only v xs items fits s = left (tasks_in xs) (tasks_in items) (sym (tasks-append xs items) ∙ fits.2 s) where
    left : (a b : List T) → a ++ b ≡ [] → a ≡ []
    left [] b e = refl
    left (x ∷ a) b e = absurd (task_there x (a ++ b) e)

  all_idle : (items : List (Option T)) (views : List (Tally T)) → Shared items views → (j : ℕ) (u : Tally T) → get_elem? views j ≡ some u → u.parts ≡ 0 → u ≡ idle
  all_idle items views h j u e z = (h.3 j u e).0 z

  others_idle : (items : List (Option T)) (views : List (Tally T)) (port : ℕ) (v : Tally T) → Shared items views → get_elem? views port ≡ some v → v.parts ≡ all_parts → (j : ℕ) (u : Tally T) → j ≢ port → get_elem? views j ≡ some u → u ≡ idle
  others_idle items views port v h at all j u other e = let t = parts_two views port j v u at e other in let s = h.0 in (h.3 j u e).0 (omega arith)

  -- who has every part knows how many tasks are in the queue
  held : (items : List (Option T)) (views : List (Tally T)) (port : ℕ) (v : Tally T) → Shared items views → get_elem? views port ≡ some v → v.parts ≡ all_parts → length v.put ≡ length v.taken + length (tasks_in items)
  held items views port v h at all =
      let put = whole (λ u. u.put) refl views port v at (h.0 ∙ sym all) (all_idle items views h) in
      let taken = whole (λ u. u.taken) refl views port v at (h.0 ∙ sym all) (all_idle items views h) in
      ap length (sym put) ∙ sym (length_permutation _ _ h.1) ∙ length-append (takes views) (tasks_in items) ∙ ap (λ l. length l + length (tasks_in items)) taken

  fits_after : (v : Tally T) (xs : List (Option T)) → 0 < length xs → length xs < 2 → (rest : List T) → length v.put ≡ length v.taken + length (tasks_in xs ++ rest) → length (after_take v xs).taken ≤ length v.put
  fits_after v [] least most rest e = absurd (omega arith)
  fits_after v (None ∷ []) least most rest e = omega arith
  fits_after v (Some x ∷ []) least most rest e = omega (arith, length-append v.taken (x ∷ []))
  fits_after v (x ∷ y ∷ ys) least most rest e = absurd (omega arith)

  pub drains_one : (port : ℕ) (v : Tally T) → 0 < v.parts → Takes Shared port v 1 (λ xs w. (w ≡ after_take v xs) × (v.stopped ≡ true → tasks_in xs ≡ []) × (v.parts ≡ all_parts → length w.taken ≤ length v.put))
  drains_one port v part xs items views least most h at =
      let t = takes_one port v part xs items views least most h at in (
        t.0,
        t.1,
        (
          t.2,
          marks_only v xs items (h.3 port v at),
          λ all. subst (λ (w : Tally T). length w.taken ≤ length v.put) (sym t.2) (fits_after v xs least most (tasks_in items)
              (held (xs ++ items) views port v h at all ∙ ap (λ l. length v.taken + length l) (tasks-append xs items))),
        ),
      )

  pub settles : (port : ℕ) (v : Tally T) → Finds Shared port v (v.parts ≡ all_parts → IsPermutation v.put v.taken)
  settles port v views h at all =
      let put = whole (λ u. u.put) refl views port v at (h.0 ∙ sym all) (all_idle [] views h) in
      let taken = whole (λ u. u.taken) refl views port v at (h.0 ∙ sym all) (all_idle [] views h) in
      IsPermutation-trans _ _ _ (same _ _ (sym put)) (IsPermutation-trans _ _ _ h.1 (same _ _ (append-nil (takes views) ∙ taken)))

  pub put_task : (port : ℕ) (v : Tally T) (x : T) → v.fresh ≡ true → v.parts ≡ all_parts → Pushes Shared port v (Some x ∷ []) (λ w. w ≡ after_put v (Some x ∷ []))
  put_task port v x new all items views h at =
      let w : Tally T = tally v.parts v.fresh (v.put ++ x ∷ []) v.taken v.stopped in
      let put = grown (λ u. u.put) views port v w (x ∷ []) at refl in
      let taken = kept (λ u. u.taken) views port v w at refl in
      let mine = h.3 port v at in
      let marks = marks_then_task items x ((mine.1 new).2) in (
        w,
        (
          (let s = parts_set views port v w at in let t = h.0 in omega arith),
          IsPermutation-trans _ _ _ put (IsPermutation-trans _ _ _ (IsPermutation-append_left (x ∷ []) _ _ h.1)
              (same _ _ (append_assoc (takes views) (tasks_in items) (x ∷ []) ∙ ap (λ l. takes views ++ l) (sym (tasks-append items (Some x ∷ []))) ∙ ap (λ l. l ++ tasks_in (items ++ Some x ∷ [])) (sym taken)))),
          marks.0,
          each_set (Fits (items ++ Some x ∷ [])) views port w ((λ z. absurd (omega arith)), (λ f. (all, (mine.1 new).1, marks.1)), λ s. absurd (true≢false (sym s ∙ (mine.1 new).1)))
              (λ j u other e. idle_fits (items ++ Some x ∷ []) u (others_idle items views port v h at all j u other e)),
        ),
        refl,
      )

  pub put_mark : (port : ℕ) (v : Tally T) → v.parts ≡ all_parts → Pushes Shared port v (None ∷ []) (λ w. w ≡ after_put v (None ∷ []))
  put_mark port v all items views h at =
      let w : Tally T = tally v.parts false v.put v.taken v.stopped in
      let put = kept (λ u. u.put) views port v w at refl in
      let taken = kept (λ u. u.taken) views port v w at refl in
      let mine = h.3 port v at in
      let tasks : tasks_in (items ++ None ∷ []) ≡ tasks_in items = tasks-append items (None ∷ []) ∙ append-nil (tasks_in items) in (
        w,
        (
          (let s = parts_set views port v w at in let t = h.0 in omega arith),
          IsPermutation-trans _ _ _ (same _ _ put) (IsPermutation-trans _ _ _ h.1 (same _ _ (ap (λ l. takes views ++ l) (sym tasks) ∙ ap (λ l. l ++ tasks_in (items ++ None ∷ [])) (sym taken)))),
          marks_then_mark items h.2,
          each_set (Fits (items ++ None ∷ [])) views port w ((λ z. absurd (omega arith)), (λ f. absurd (true≢false (sym f))), λ s. tasks ∙ mine.2 s)
              (λ j u other e. idle_fits (items ++ None ∷ []) u (others_idle items views port v h at all j u other e)),
        ),
        refl,
      )

  pub forks : (port : ℕ) (v : Tally T) → 1 < v.parts → Forks Shared port v (tally (v.parts - 1) false v.put v.taken v.stopped) (tally 1 false [] [] false)
  forks port v more items views h at =
      let left : Tally T = tally (v.parts - 1) false v.put v.taken v.stopped in
      let right : Tally T = tally 1 false [] [] false in
      let vs : List (Tally T) = set views port left in
      let put : puts (vs ++ right ∷ []) ≡ puts views = gathered-append (λ u. u.put) vs (right ∷ []) ∙ append-nil (puts vs) ∙ kept (λ u. u.put) views port v left at refl in
      let taken : takes (vs ++ right ∷ []) ≡ takes views = gathered-append (λ u. u.taken) vs (right ∷ []) ∙ append-nil (takes vs) ∙ kept (λ u. u.taken) views port v left at refl in
      let mine = h.3 port v at in
      let old : Each (Fits items) vs = each_set (Fits items) views port left ((λ z. absurd (omega arith)), (λ f. absurd (true≢false (sym f))), mine.2) (λ j u other e. h.3 j u e) in
      let new : Fits items right = ((λ z. absurd (omega arith)), (λ f. absurd (true≢false (sym f))), λ f. absurd (true≢false (sym f))) in (
        (let s = parts_set views port v left at in let t = h.0 in let r = parts-append vs (right ∷ []) in omega arith),
        IsPermutation-trans _ _ _ (same _ _ put) (IsPermutation-trans _ _ _ h.1 (same _ _ (ap (λ l. l ++ tasks_in items) (sym taken)))),
        h.2,
        λ j u e. ⊎_elim (λ x. old j u x) (λ (is : right ≡ u). subst (Fits items) is new) (at_snoc vs right u j e),
      )

  pub merges : (port : ℕ) (v : Tally T) (other : ℕ) (u : Tally T) → 0 < v.parts → Merges Shared port v other u (tally (v.parts + u.parts) false (v.put ++ u.put) (v.taken ++ u.taken) (either_stopped v.stopped u.stopped)) idle
  merges port v other u part items views h at two at' =
      let both : Tally T = tally (v.parts + u.parts) false (v.put ++ u.put) (v.taken ++ u.taken) (either_stopped v.stopped u.stopped) in
      let was : get_elem? views other ≡ some u = sym (set_else views port other both two) ∙ at' in
      let swap = set_comm views port other both idle (λ e. two (sym e)) in
      let still : get_elem? (set views other idle) port ≡ some v = set_else views other port idle (λ e. two (sym e)) ∙ at in
      let put = joined (λ x. x.put) views port other v u both idle at was (λ e. two (sym e)) refl refl swap still in
      let taken = joined (λ x. x.taken) views port other v u both idle at was (λ e. two (sym e)) refl refl swap still in
      let mine = h.3 port v at in let theirs = h.3 other u was in
      let now : Each (Fits items) (set views port both) = each_set (Fits items) views port both ((λ z. absurd (omega arith)), (λ f. absurd (true≢false (sym f))), λ s. stops v.stopped u.stopped (tasks_in items ≡ []) mine.2 theirs.2 s) (λ j y _ e. h.3 j y e) in (
        (let s = parts_set views port v both at in let t = h.0 in let r = parts_set (set views port both) other u idle at' in omega arith),
        IsPermutation-trans _ _ _ put (IsPermutation-trans _ _ _ h.1 (IsPermutation-append_left (tasks_in items) _ _ (IsPermutation-sym _ _ taken))),
        h.2,
        each_set (Fits items) (set views port both) other idle (idle_fits items idle refl) (λ j y _ e. now j y e),
      ) where
        stops : (a b : Bool) (P : Type 0) → (a ≡ true → P) → (b ≡ true → P) → either_stopped a b ≡ true → P
        stops true b P f g s = f refl
        stops false b P f g s = g s

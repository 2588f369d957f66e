use Rattle.std.specs.Prelude.{◌++◌, ◌∷◌, [], true, false, map, Some}
use Rattle.std.proofs.Common.{sym, ◌∙◌, ap, subst}
use Rattle.search_visited.specs.Visited.{EntryOf, IsKeptAs, entry_of}
use Rattle.search_memo.specs.Memos.{MemoOf, states_reached, Names}
use Rattle.search_memo.proofs.MemoLemmas.{true-entry, true-unkept, dead-here, rows-placed}
use Rattle.search_memo.proofs.memo.Memo.keep_refuted.Goals as goal

pub invariant_of-self-then-keep : goal.invariant_of-self-then-keep
invariant_of-self-then-keep g c =
    let at = c.args.cursor.now in
    let i = c.self.inside in
    let placed = c.placed-placed.result.now in
    let entry : EntryOf = record { placed = placed; states = c.args.states } in
    let same = ap (λ (m : MemoOf _). m.shape) c.self.view_is ∙ c.requires.shape in
    let noted = subst (λ (m : MemoOf _). g.R.Recorder.noted m.recorder c.args.note at.path) (sym c.self.view_is) c.requires.noted in (
      true-entry _ _ _ _ _ _ _ i.transitions.items entry c.args.note
          (subst (λ n. IsKeptAs (map (entry_of n) i.visited) (map (entry_of n) c.keep.new.self) entry true) (rows-placed i.shape.now placed at same c.placed-placed.ensures) (rw c.if-keep.true at c.keep.ensures))
          (c.in-Ok.ensures.items ∙ ap (λ l. l ++ c.args.note ∷ []) c.reserve.ensures.items)
          (dead-here _ _ _ placed c.args.states at same c.prefix-good.ensures.good c.requires.refuted c.placed-placed.ensures
          (subst (λ (m : MemoOf _). Names m.states (Some c.args.states) (states_reached at.shape at.path)) (sym c.self.view_is) c.requires.named) noted) c.self.invariant.0,
      c.self.invariant.1,
      c.self.invariant.2,
    )

pub invariant_of-self-else-keep : goal.invariant_of-self-else-keep
invariant_of-self-else-keep g c =
    let at = c.args.cursor.now in
    let i = c.self.inside in
    let placed = c.placed-placed.result.now in
    let entry : EntryOf = record { placed = placed; states = c.args.states } in
    let same = ap (λ (m : MemoOf _). m.shape) c.self.view_is ∙ c.requires.shape in (
      true-unkept _ _ _ _ _ _ _ _ (subst (λ n. IsKeptAs (map (entry_of n) i.visited) (map (entry_of n) c.keep.new.self) entry false) (rows-placed i.shape.now placed at same c.placed-placed.ensures) (rw c.if-keep.false at c.keep.ensures)) c.reserve.ensures.items c.self.invariant.0,
      c.self.invariant.1,
      c.self.invariant.2,
    )

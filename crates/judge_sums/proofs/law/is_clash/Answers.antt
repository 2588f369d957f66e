use Rattle.std.specs.Prelude.{◌≡◌}
use Rattle.std.proofs.Common.{◌∙◌, ap, subst, rules, w64}
use Rattle.std.proofs.lemmas.Int.{to_z-of_z}
use mir.Val.{SFits}
use Rattle.aud_object.specs.Blocks.{BlockOf}
use Rattle.aud_history.specs.Table.{RowOf, row_of}
use Rattle.search_model.specs.declared.quantity.Quantity.TheVariants.{Count}
use Rattle.search_model.specs.Quantities.{Contradict}
use Rattle.judge_sums.specs.Room.{HasRoomForAll}
use Rattle.judge_sums.proofs.Lawful.{valid-clash}
use Rattle.judge_sums.proofs.law.is_clash.Goals as goal

pub returns-in-Some-row : goal.returns-in-Some-row
returns-in-Some-row g c = λ so.
    let f = c.args.facts.now in
    let x = c.args.counter in
    let v0 = c.in-Some.opening in
    let fits_v0 : SFits w64 v0 = search rules in
    let room : HasRoomForAll f x v0 = subst (HasRoomForAll f x) (to_z-of_z w64 v0 fits_v0) (c.has_room.ensures c.if-not-has_room.false) in
    let whole : c.executions.result.now ≡ (row_of f.history c.args.tx).block.executions =
    c.executions.ensures ∙ ap (λ (b : BlockOf). b.executions) c.block.ensures ∙ ap (λ (r : RowOf). r.block.executions) c.in-Some-row.ensures.0 in
    valid-clash f c.history-history.ensures.sound c.history-history.ensures.within c.args.clause.now c.args.tx x v0 c.in-Some.ensures room c.in-Some-row.ensures.1
    (subst (Contradict (Count x)) whole (c.contradict.ensures so))

use Rattle.std.proofs.Common.{◌≡◌, ◌≢◌, ◌∙◌, ◌++◌, ◌∷◌, ◌%◌, [], length, get_or, arith, rules}
use Rattle.cli_audit.proofs.Sharing.{share_more, share_same, share_whole}
use Rattle.cli_audit.proofs.crew.share_of.Goals as goal
use Rattle.cli_audit.proofs.crew.share_of.Goals.{then-place-nodes+in_ok-dup+in_ok-push, else-place-nodes}

pub loop-place-preserved : goal.loop-place-preserved
loop-place-preserved c = elim c.if-place-nodes.branch [
  | then-place-nodes+in_ok-dup+in_ok-push w ↦
      let is : c.if-place-nodes.share.items ≡ c.loop-place.share.items ++ w.in_ok-dup.field-0 ∷ [] = search rules in
      let read : w.in_ok-dup.field-0 ≡ get_or c.args.tasks.now c.loop-place.place w.in_ok-dup.field-0 = search rules in
      let mine : c.loop-place.place % c.args.nodes ≡ c.args.number = search rules in
      share_more c.args.nodes c.args.number c.args.tasks.now c.loop-place.place c.loop-place.share.items c.if-place-nodes.share.items w.in_ok-dup.field-0 c.loop-place-test.true is read mine c.loop-place.invariant
  | else-place-nodes w ↦
      let is : c.if-place-nodes.share.items ≡ c.loop-place.share.items = search rules in
      let other : c.loop-place.place % c.args.nodes ≢ c.args.number = search rules in
      share_same c.args.nodes c.args.number c.args.tasks.now c.loop-place.place c.loop-place.share.items c.if-place-nodes.share.items c.loop-place-test.true is other c.loop-place.invariant
]

pub returns : goal.returns
returns c = share_whole c.args.nodes c.args.number c.args.tasks.now c.loop-place.place c.loop-place.share.items (omega (arith, c.loop-place-test.false)) c.loop-place.invariant

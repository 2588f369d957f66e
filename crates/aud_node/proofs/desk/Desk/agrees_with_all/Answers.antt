use Rattle.std.proofs.Common.{All, refl, subst}
use Rattle.std.proofs.lemmas.List.{take_all}
use Rattle.std.proofs.lemmas.List.Elements.{All-more}
use Rattle.aud_node.specs.Logs.{written_of}
use Rattle.aud_node.specs.Meanings.{Agrees}
use Rattle.aud_node.proofs.desk.Desk.agrees_with_all.Goals as goal

pub loop-pass-preserved : goal.loop-pass-preserved
loop-pass-preserved g c =
    let Q = Agrees (written_of c.args.self.now.log.items) in
    All-more Q c.args.passes.now c.loop-pass.pass-index c.pass-item.result c.loop-pass-test.true c.loop-pass.invariant (subst Q c.pass-item.is (c.if-not-agrees.ensures.agrees refl))

pub returns : goal.returns
returns g c same =
    subst (All (Agrees (written_of c.args.self.now.log.items))) (take_all c.loop-pass.pass-index c.args.passes.now c.loop-pass-test.false) c.loop-pass.invariant

use Rattle.std.proofs.Common.{arith}
use Rattle.aud_kinds.specs.Objects.{opening_of}
use Rattle.aud_object.specs.States.{meaning}
use Rattle.aud_object.proofs.Places.{map-more}
use Rattle.aud_object.proofs.store.open_all.Goals as goal

pub loop-decl-preserved : goal.loop-decl-preserved
loop-decl-preserved g c =
    map-more meaning opening_of c.loop-decl.states.items c.push.new.self.items c.args.objects.now c.loop-decl.decl-index c.opening.result c.decl-item.result (omega arith) c.decl-item.is c.opening.ensures c.in_ok-push.ensures.items c.loop-decl.invariant

use Rattle.std.proofs.Common.{ap, ◌∙◌}
use Rattle.std.specs.Prelude.{slice_get}
use Rattle.aud_world.specs.Worlds.{WorldOf}
use Rattle.aud_world.proofs.Gaining.{looked_up}
use Rattle.aud_world.proofs.world.World.node.Goals as goal

-- who stands at the number
pub returns : goal.returns
returns g c =
    looked_up c.deref.result.now c.args.number c.get.result c.get.ensures.lookup.3 ∙ ap (λ ks. slice_get ks c.args.number) c.deref.ensures.value ∙ ap (λ (w : WorldOf). slice_get w.nodes c.args.number) c.self.view_is

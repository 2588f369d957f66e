use Rattle.std.proofs.Common.{ap}
use Rattle.aud_know.specs.Known.{Held, KnowledgeOf}
use Rattle.aud_node.specs.Logs.{atoms_in}
use Rattle.aud_node.proofs.laws.state_is_of_atoms.Goals as goal

pub returns : goal.returns
returns c plan log other to from =
    let made : Held → KnowledgeOf = λ held. record { plan = plan; held = held } in
    ap made (c.norm_is_of_set.ensures (atoms_in log) (atoms_in other) to from)

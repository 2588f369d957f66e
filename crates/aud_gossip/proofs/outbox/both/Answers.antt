use Rattle.std.proofs.Common.{◌≡◌, ◌++◌, ◌∙◌, Some, ap}
use Rattle.aud_know.specs.Known.{KnowledgeOf, Held, norm_of}
use Rattle.aud_know.specs.Norms.{atoms_of}
use Rattle.aud_gossip.proofs.outbox.both.Goals as goal

pub returns-in-Ok : goal.returns-in-Ok
returns-in-Ok c =
    let taken : KnowledgeOf = c.args.taken.now in
    let packet : Held = c.args.packet.now.known.value.held in
    let now : KnowledgeOf = c.join.new.self in
    let copied : c.in_ok-all.all.held ≡ taken.held = ap (λ (k : KnowledgeOf). k.held) c.in_ok-all.ensures in
    let plans : now.plan ≡ taken.plan = c.join.ensures.plan ∙ ap (λ (k : KnowledgeOf). k.plan) c.in_ok-all.ensures in
    let known : c.in_ok-all.all.held ≡ norm_of (atoms_of taken.held) = copied ∙ ap (λ (k : KnowledgeOf). k.held) (c.knowledge_is_norm.ensures taken c.facts-facts.ensures.is_true) in
    let held : now.held ≡ norm_of (atoms_of taken.held ++ atoms_of packet) = rw c.deref.ensures at (c.in-Ok.ensures.taken (atoms_of taken.held) known) in
    λ i. Some (record { plan = plans i; held = held i })

use Rattle.std.proofs.Common.{◌≡◌, ℕ, ◌++◌, ◌∷◌, [], OnOk, sym, subst, ◌∙◌, rules}
use Rattle.aud_facts.specs.Sets.{FactsOf}
use Rattle.aud_facts.specs.Shares.{share_of}
use Rattle.aud_know.specs.Known.{knowing_facts}
use Rattle.aud_know.specs.declared.item.Item.TheVariants as item
use Rattle.aud_node.specs.Meanings.{mine}
use Rattle.cli_audit.specs.Doings.{HasOfferedShare}
use Rattle.cli_audit.proofs.collector.offer_share.Goals.{in-Ok, in-Err-default-OutOfMemory}
use Rattle.cli_audit.proofs.collector.offer_share.Goals as goal

pub returns-clause-offered : goal.returns-clause-offered
returns-clause-offered g c = elim c.match-offer.branch [
  | in-Ok w ↦
      let offered : mine c.offer.new.pass ≡ mine c.args.pass.now ++ item.Known c.in_ok-known.known ∷ [] = search rules in
      let share : c.in_ok-share.share ≡ record { plan = c.args.facts.now.plan; facts = share_of c.args.nodes c.number.result c.args.facts.now.facts } = search rules in
      let number : c.number.result ≡ c.args.node.now.number = search rules in
      let known : c.in_ok-of_facts.field-0 ≡ knowing_facts c.in_ok-share.share = search rules in
      let shared : c.in_ok-known.known.value ≡ c.in_ok-of_facts.field-0 = search rules in
      let of_share : FactsOf → Type 0 = λ f. c.in_ok-known.known.value ≡ knowing_facts f in
      let of_number : ℕ → Type 0 = λ n. of_share (record { plan = c.args.facts.now.plan; facts = share_of c.args.nodes n c.args.facts.now.facts }) in
      let is = subst of_number number (subst of_share share (shared ∙ known)) in
      subst (λ r. OnOk r (HasOfferedShare c.args.facts.now c.args.nodes c.args.node.now.number c.args.pass.now c.offer.new.pass)) (sym w.result-is) (item.Known c.in_ok-known.known, (offered, is))
  | in-Err-default-OutOfMemory w ↦
      subst (λ r. OnOk r (HasOfferedShare c.args.facts.now c.args.nodes c.args.node.now.number c.args.pass.now c.offer.new.pass)) (sym w.result-is) tt
]

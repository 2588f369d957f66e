use Rattle.std.proofs.Common.{◌≡◌, ◌∙◌, ap, subst, set, get_or, List, rules}
use Rattle.std.proofs.lemmas.List.{get_or_default}
use Rattle.aud_node.specs.Meanings.{PassOf}
use Rattle.aud_gossip.specs.Receiving.{GoesFurther}
use Rattle.cli_audit.specs.Seats.{AreLater, CrewOf}
use Rattle.cli_audit.proofs.Seating.{set_later}
use Rattle.cli_audit.proofs.crew.Crew.post_news.Goals as goal

pub returns-clause-later : goal.returns-clause-later
returns-clause-later g c =
    subst (λ (l : List PassOf). AreLater l (set c.self.inside.passes.items 0 c.post_from-posted.new.pass)) (ap (λ (v : CrewOf). v.passes) c.self.view_is)
    (set_later c.self.inside.passes.items 0 c.post_from-posted.new.pass (λ d lt.
    let read : c.index_mut.result.now ≡ get_or c.self.inside.passes.items 0 c.index_mut.result.now = search rules in
    let is = read ∙ get_or_default c.self.inside.passes.items 0 c.index_mut.result.now d lt in
    subst (λ (p : PassOf). GoesFurther p c.post_from-posted.new.pass) is c.post_from-posted.ensures.further))

use Rattle.std.proofs.Common.{◌≡◌, ◌∙◌, false, true, true≢false, rules, sym, subst}
use Rattle.cli_audit.specs.Seats.{AreLater, CrewOf, IsCrewAt}
use Rattle.cli_audit.proofs.Seating.{crew_later}
use Rattle.cli_audit.proofs.Ending.{share_later}
use Rattle.cli_audit.proofs.crew.Crew.search.Goals as goal
use Rattle.cli_audit.proofs.crew.Crew.search.Goals.{then-self, else-self}
use Rattle.base_values.proofs.Bools.{unnegated}

pub post_news-requires : goal.post_news-requires
post_news-requires g c =
    let later : AreLater c.self.inside.passes.items c.search_share-passes.result.0.items = search rules in
    let at = subst (λ (v : CrewOf). IsCrewAt c.args.node.now v) (sym c.self.view_is) c.requires.at in
    crew_later c.args.node.now _ _ at later at.taken

pub returns-clause-ended : goal.returns-clause-ended
returns-clause-ended g c = λ kept.
    let failed : c.if-self.self ≡ false = c.post_news.ensures.failed kept in
    let ended : c.search_share-passes.result.1 ≡ true = elim c.if-self.branch [
      | then-self w ↦ absurd (true≢false (sym w.if-self.true ∙ (sym w.self-is ∙ failed)))
      | else-self w ↦ unnegated c.search_share-passes.result.1 (sym w.self-is ∙ failed)
    ] in
    share_later c.args.search.now.shape.value c.args.search.now.budget c.args.search.now.tasks.items c.args.nodes c.args.node.now.number c.search_share-passes.result.0.items c.post_news.new.self.passes
    c.post_news.ensures.later (c.search_share-passes.ensures.ended ended)

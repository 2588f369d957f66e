use Rattle.std.specs.Prelude.{◌<◌, List, ℕ, length}
use Rattle.std.proofs.Common.{sym, ◌∙◌, ap, subst}
use Rattle.search_visited.specs.Visited.{IsConfiguration}
use Rattle.search_visited.proofs.Visiting.{length-chunks, found-entry}
use Rattle.search_visited.proofs.visited_set.VisitedSet.find.Goals as goal

pub get-requires : goal.get-requires
get-requires g c =
    let i = c.self.inside in
    subst (λ n. c.in-At.place < n) (sym (length-chunks i.width i.words.items i.count) ∙ ap length c.self.view_is) c.if-place-self.true

pub returns-then-is_configuration : goal.returns-then-is_configuration
returns-then-is_configuration g c =
    let i = c.self.inside in
    let inside : c.in-At.place < length c.args.self.now = subst (λ n. c.in-At.place < n) (sym (length-chunks i.width i.words.items i.count) ∙ ap length c.self.view_is) c.if-place-self.true in
    found-entry c.args.self.now c.in-At.place c.words-words.result.now c.args.placed.now c.args.states c.args.further inside c.words-words.ensures c.requires
    (subst (λ (l : List ℕ). IsConfiguration l c.args.states c.words-words.result.now c.args.further) c.get.ensures (c.is_configuration.ensures c.if-is_configuration.true))

use Rattle.std.specs.Prelude.{◌≡◌, ◌<◌, ◌≤◌, ◌+◌, ◌*◌, [], length, take, drop}
use Rattle.std.proofs.Common.{sym, ◌∙◌, ap, subst, arith, get_or}
use Rattle.search_visited.proofs.Visiting.{length-chunks, chunk-at, room-at}
use Rattle.search_visited.proofs.visited_set.VisitedSet.get.Goals as goal

pub overflow_mul-place : goal.overflow_mul-place
overflow_mul-place g c =
    let i = c.self.inside in
    let room : c.args.place * i.width + i.width ≤ length i.words.items = room-at i.width i.words.items i.count c.args.place c.args.self.now c.self.view_is c.self.invariant.1 c.requires in
    let same : length c.deref-words.result.now ≡ length i.words.items = ap length c.deref-words.ensures.value in
    omega (arith, c.deref-words.type_inv.0)

pub part-requires : goal.part-requires
part-requires g c =
    let i = c.self.inside in
    let room : c.args.place * i.width + i.width ≤ length i.words.items = room-at i.width i.words.items i.count c.args.place c.args.self.now c.self.view_is c.self.invariant.1 c.requires in
    let same : length c.deref-words.result.now ≡ length i.words.items = ap length c.deref-words.ensures.value in
    omega arith

pub returns : goal.returns
returns g c =
    let i = c.self.inside in
    let inside : c.args.place < i.count = subst (λ n. c.args.place < n) (ap length (sym c.self.view_is) ∙ length-chunks i.width i.words.items i.count) c.requires in
    c.part.ensures ∙ ap (λ l. take i.width (drop (c.args.place * i.width) l)) c.deref-words.ensures.value
    ∙ sym (chunk-at i.width i.words.items i.count c.args.place [] inside) ∙ ap (λ l. get_or l c.args.place []) c.self.view_is

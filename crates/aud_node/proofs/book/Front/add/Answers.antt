use Rattle.std.proofs.Common.{sym, ◌∙◌, ap}
use Rattle.aud_node.specs.Meanings.{FrontOf}
use Rattle.aud_node.proofs.Adding.{adds_moves}
use Rattle.aud_node.proofs.book.Front.add.Goals as goal

pub compare_exchange-found-requires : goal.compare_exchange-found-requires
compare_exchange-found-requires c =
    let h = c.args.head.now.word_is in
    let me = c.self.inside in
    let offer = c.plain-offer.ensures in
    let pen = c.no_pen-pen.ensures in
    let book = ap (λ (f : FrontOf). f.book) c.self.view_is ∙ c.requires.book in (
      ap (λ w. w.tracked) h,
      book,
      pen.0 ∙ book,
      offer.0,
      rw (ap (λ w. w.key) h, pen.1, offer.1, offer.3) (adds_moves me.seen.log c.said-pair.result me.len (sym c.self.invariant)),
    )

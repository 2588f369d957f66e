use Rattle.std.specs.Prelude.{◌<◌, ◌/◌, Bool, true, List, length, slice_set}
use Rattle.std.proofs.Common.{sym, ◌∙◌, ap, subst, arith}
use Rattle.base_bits.proofs.Marking.{marks-set, word-inside}
use Rattle.base_bits.proofs.marks.Marks.put.Goals as goal

pub index-requires : goal.index-requires
index-requires g c =
    let i = c.self.inside in
    let inside : c.args.place / 64 < length i.words.items = word-inside i.words.items i.count c.args.place c.self.invariant.0 (subst (λ (l : List Bool). c.args.place < length l) (sym c.self.view_is) c.requires) in
    omega (arith, i.words.ok.0)

pub index_mut-requires : goal.index_mut-requires
index_mut-requires g c =
    let i = c.self.inside in
    let inside : c.args.place / 64 < length i.words.items = word-inside i.words.items i.count c.args.place c.self.invariant.0 (subst (λ (l : List Bool). c.args.place < length l) (sym c.self.view_is) c.requires) in
    omega (arith, i.words.ok.0)

pub returns : goal.returns
returns g c =
    let i = c.self.inside in
    let inside = subst (λ (l : List Bool). c.args.place < length l) (sym c.self.view_is) c.requires in
    marks-set i.words.items i.count c.args.place c.index.result.now c.with_bit.result true c.self.invariant.0 inside c.index.ensures c.with_bit.ensures
    ∙ ap (λ (l : List Bool). slice_set l c.args.place true) c.self.view_is

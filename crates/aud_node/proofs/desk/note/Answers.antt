use Rattle.std.proofs.Common.{ap, sym, ◌+◌, ◌∙◌, arith, length, ◌≡◌, slice_index, List, refl, length-set}
use Rattle.std.proofs.lemmas.List.{get_or_read_under}
use Rattle.std.specs.Arc.{arc_value}
use Rattle.aud_node.specs.Logs.{Entry, own, written_of}
use Rattle.aud_node.proofs.Own.{own_le, count_step}
use Rattle.aud_node.proofs.Written.{written_next, written_length, seated_next}
use Rattle.aud_node.proofs.desk.note.Goals as goal

pub overflow_add-index_mut : goal.overflow_add-index_mut
overflow_add-index_mut c =
    let counts = c.args.counts.now.items in
    let log = written_of c.args.log.now.items in
    let read : c.index_mut.result.now ≡ slice_index counts c.args.seat = get_or_read_under counts c.args.seat (length counts) _ 0 c.index_mut.ensures.value c.requires.seat refl in
    omega (arith, read, c.requires.counted c.args.seat c.requires.seat, own_le c.args.seat log, written_length c.args.log.now.items, c.requires.small)

pub returns-clause-counted : goal.returns-clause-counted
returns-clause-counted c k below =
    let counts = c.args.counts.now.items in
    let log = written_of c.args.log.now.items in
    let x : Entry = (c.args.seat, arc_value c.args.item) in
    let read : c.index_mut.result.now ≡ slice_index counts c.args.seat = get_or_read_under counts c.args.seat (length counts) _ 0 c.index_mut.ensures.value c.requires.seat refl in
    count_step counts log x c.index_mut.result.now c.requires.seat c.requires.counted read k below
    ∙ ap (λ (l : List Entry). length (own k l)) (sym (written_next c.args.log.now.items c.push_reserved.new.self.items c.args.seat c.args.item c.push_reserved.ensures.items))

pub returns-clause-seated : goal.returns-clause-seated
returns-clause-seated c =
    let counts = c.args.counts.now.items in
    seated_next (length counts) _ (written_of c.args.log.now.items) (written_of c.push_reserved.new.self.items) (c.args.seat, arc_value c.args.item) c.requires.seated c.requires.seat
    (length-set counts c.args.seat (c.index_mut.result.now + 1))
    (written_next c.args.log.now.items c.push_reserved.new.self.items c.args.seat c.args.item c.push_reserved.ensures.items)

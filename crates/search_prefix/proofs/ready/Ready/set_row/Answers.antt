use Rattle.std.specs.Prelude.{◌≤◌, length, refl}
use Rattle.std.proofs.Common.{subst, arith, ◌∙◌}
use Rattle.aud_witness.specs.declared.decision.Fate.TheVariants.{C, A}
use Rattle.search_prefix.specs.Readiness.{ReadyOf, IsRowMarked}
use Rattle.search_prefix.proofs.Readiness.{mark-inside, row-marked, row-past, set-long}
use Rattle.search_prefix.proofs.ready.Ready.set_row.Goals as goal

pub returns-then-row-len : goal.returns-then-row-len
returns-then-row-len g c =
    let i = c.self.inside in
    let past : length i.rows.items ≤ c.args.row = omega (arith, c.len.ensures, i.rows.ok.0, c.if-row-len.true) in
    subst (λ (v : ReadyOf). IsRowMarked v v c.args.row c.args.mark) c.self.view_is
    (row-past (record { shape = i.shape.now; choices = i.choices.now; marks = i.marks; begun = i.begun }) i.rows.items c.args.row c.args.mark c.self.invariant.1 past)

pub set_mark-requires : goal.set_mark-requires
set_mark-requires g c =
    let i = c.self.inside in
    mark-inside i.choices.now i.rows.items i.marks c.args.row c.index-places.result.now C c.self.invariant.1 c.self.invariant.2 (omega (arith, c.len.ensures, i.rows.ok.0, c.if-row-len.false)) c.index-places.ensures

pub set_mark-requires-2 : goal.set_mark-requires-2
set_mark-requires-2 g c =
    let i = c.self.inside in
    mark-inside i.choices.now i.rows.items c.set_mark.new.marks c.args.row c.index-places.result.now A c.self.invariant.1
    (set-long i.marks c.set_mark.new.marks c.index-places.result.now.commit c.args.mark c.set_mark.ensures ∙ c.self.invariant.2) (omega (arith, c.len.ensures, i.rows.ok.0, c.if-row-len.false)) c.index-places.ensures

pub returns : goal.returns
returns g c =
    let i = c.self.inside in
    subst (λ (v : ReadyOf). IsRowMarked v (record { shape = i.shape.now; choices = i.choices.now; marks = c.set_mark-2.new.marks; begun = i.begun }) c.args.row c.args.mark) c.self.view_is
    (row-marked (record { shape = i.shape.now; choices = i.choices.now; marks = i.marks; begun = i.begun }) (record { shape = i.shape.now; choices = i.choices.now; marks = c.set_mark-2.new.marks; begun = i.begun })
    i.rows.items c.index-places.result.now c.set_mark.new.marks c.args.row c.args.mark c.self.invariant.1 c.self.invariant.2 (omega (arith, c.len.ensures, i.rows.ok.0, c.if-row-len.false)) c.index-places.ensures
    c.set_mark.ensures c.set_mark-2.ensures refl refl refl)

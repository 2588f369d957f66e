use Rattle.std.proofs.Common.{subst}
use Rattle.std.proofs.lemmas.Result.{IfOk-weaker}
use Rattle.aud_order.specs.Cursors.{CursorOf}
use Rattle.search_prefix.specs.Tried.{FindsFirstGood}
use Rattle.search_prefix.specs.Frames.{IsSought}
use Rattle.search_prefix.proofs.searching.seek.Goals as goal

pub returns-clause-sought : goal.returns-clause-sought
returns-clause-sought g c =
    let cs = c.args.choices.now in
    let new = c.try_from.new.cursor in
    let from = c.in_ok-from.from in
    let p = c.in_ok-from.ensures in
    IfOk-weaker c.try_from.result (FindsFirstGood c.pass_known.new.cursor new cs from) (IsSought (g.R.Recorder.noted c.pass_known.new.memo.recorder) c.args.cursor.now new cs c.args.here.next)
    (λ found is. (from, (p.passed, p.kept, subst (λ (v : CursorOf). FindsFirstGood v new cs from found) p.stays is))) c.try_from.ensures

use Rattle.std.specs.Prelude.{◌≡◌, Some, length, slice_get, refl}
use Rattle.std.proofs.Common.{sym, subst, take}
use Rattle.std.proofs.lemmas.Option.{slice_get_read}
use Rattle.search_model.specs.Queues.{takes}
use Rattle.search_model.specs.Blocks.{Asks}
use Rattle.search_model.proofs.Deeds.{asks-there}
use Rattle.search_model.proofs.queues.asked_at.Goals as goal

pub returns : goal.returns
returns c =
    let es = c.args.executions.now in
    let e = c.in_ok-execution.execution.now in
    let own = c.asks_item.ensures c.if-not-asks_item.false in
    let lookup = c.in_ok-execution.ensures.lookup in
    let at : slice_get es c.args.place ≡ Some e = slice_get_read es (length es) c.args.place e refl (lookup.3).0 lookup.1 in
    subst (λ n. Asks c.args.queue es n c.count_additions.result e.answer) (sym c.count_takes.ensures)
    (subst (λ n. Asks c.args.queue es (takes c.args.queue (take c.args.place es)) n e.answer) (sym c.count_additions.ensures) (asks-there c.args.queue es c.args.place e at own.0 own.1))

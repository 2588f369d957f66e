use Rattle.std.specs.Prelude.{◌≡◌, []}
use Rattle.std.proofs.Common.{◌∙◌, ap}
use Rattle.search_memo.proofs.MemoLemmas.{had}
use Rattle.search_memo.proofs.memo.shared_copy.Goals as goal

pub returns : goal.returns
returns g c =
    let own = had (λ a. a.value ≡ c.in_ok-copy.copy) c.new.result c.ok-2.result c.in_ok-states.states c.ok-2.ensures.value (c.in_ok-states.was) c.new.ensures.ok in
    ap (λ s. s.now) own ∙ ap (λ s. s.now) (had (λ s. s ≡ record { now = c.args.store.now.now; past = [] }) c.present.result c.ok.result c.in_ok-copy.copy c.ok.ensures.value c.in_ok-copy.was c.present.ensures)

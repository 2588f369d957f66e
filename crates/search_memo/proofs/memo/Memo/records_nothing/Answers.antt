use Rattle.std.specs.Prelude.{List}
use Rattle.std.proofs.Common.{subst}
use Rattle.aud_witness.specs.declared.decision.Decision.{Decision}
use Rattle.search_memo.specs.Memos.{MemoOf}
use Rattle.search_memo.specs.Recorders.{HasNote}
use Rattle.search_memo.proofs.memo.Memo.records_nothing.Goals as goal

pub returns : goal.returns
returns g c = λ it. subst (λ (m : MemoOf _). (p : List Decision) → HasNote (g.R.Recorder.noted m.recorder) p) c.self.view_is (c.records_nothing.ensures it)

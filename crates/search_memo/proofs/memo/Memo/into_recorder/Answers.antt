use Rattle.std.proofs.Common.{subst}
use Rattle.search_memo.specs.Memos.{MemoOf}
use Rattle.search_memo.proofs.memo.Memo.into_recorder.Goals as goal

pub returns-clause-own : goal.returns-clause-own
returns-clause-own g c = subst (λ (m : MemoOf _). g.R.Recorder.is_for c.self.inside.recorder m.shape) c.self.view_is c.self.invariant.1

use Rattle.std.specs.Prelude.{◌≡◌, ◌-◌, length}
use Rattle.search_memo.specs.Memos.{IsReported}
use Rattle.search_memo.specs.Recorders.{HasNote, AreKept}
use Rattle.search_prefix.specs.Tried.{ArePassed}
use Rattle.search_prefix.proofs.searching.pass_known.Given as goal

abbrev pub invariant-loop-place : goal.invariant-loop-place
invariant-loop-place g l = record {
  passed : ArePassed l.fn.cursor l.choices l.fn.here.next l.from;
  kept : AreKept (HasNote (g.R.Recorder.noted l.memo.recorder)) l.fn.cursor.shape l.choices l.fn.cursor.path l.fn.here.next l.from;
  stays : l.cursor ≡ l.fn.cursor;
  reported : IsReported g.R.Recorder.grows l.fn.memo l.memo;
}

abbrev pub decreases-loop-place : goal.decreases-loop-place
decreases-loop-place g l = length l.choices - l.from

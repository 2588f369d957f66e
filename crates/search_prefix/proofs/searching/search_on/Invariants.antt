use Rattle.std.specs.Prelude.{◌≡◌, ℕ, ◌∷◌, map, reverse}
use Rattle.aud_order.specs.Shapes.{objects_of, history_of}
use Rattle.search_prefix.specs.Levels.{IsSearching}
use Rattle.search_memo.specs.Memos.{NameWay}
use Rattle.search_prefix.specs.Readiness.{IsReady}
use Rattle.search_memo.specs.Recorders.{HasNote}
use Rattle.search_prefix.specs.Tried.{Spends}
use Rattle.search_prefix.proofs.Recording.{IsHeard, AreOpen}
use Rattle.search_prefix.proofs.Steps.{weight, next_of, states_of}
use Rattle.search_prefix.proofs.searching.search_on.Given as goal

abbrev pub invariant-search : goal.invariant-search
invariant-search g l = record {
  same : l.cursor.shape ≡ l.fn.cursor.shape;
  used : ℕ;
  spends : Spends l.fn.budget used l.left;
  memo : l.memo.shape ≡ l.fn.cursor.shape;
  way : NameWay l.fn.cursor.shape l.memo.states (l.here.states ∷ reverse (map states_of l.frames.items)) l.cursor.path;
  searching : IsSearching (objects_of l.fn.cursor.shape) (history_of l.fn.cursor.shape) l.fn.cursor.path l.choices used l.cursor.path l.here.next (reverse (map next_of l.frames.items));
  heard : IsHeard (HasNote (g.R.Recorder.noted l.memo.recorder)) l.fn.cursor.shape l.choices l.cursor.path l.here.next l.here.silent;
  opens : AreOpen (HasNote (g.R.Recorder.noted l.memo.recorder)) l.fn.cursor.shape l.choices (reverse l.frames.items) l.cursor.path;
  choices : l.ready.choices ≡ l.choices;
  ready : IsReady l.ready l.cursor;
}

abbrev pub decreases-search : goal.decreases-search
decreases-search g l = weight l.fn.cursor.shape l.choices l.cursor.path l.here.next (map next_of l.frames.items)

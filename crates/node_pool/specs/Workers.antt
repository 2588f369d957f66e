-- What a worker of a pool begins and ends with.
use Rattle.std.specs.Prelude.{◌≡◌, ℕ, ◌++◌, ◌<◌, ◌≤◌, Bool, false, not, List, [], ◌∷◌, ◌⊎◌, All, MatchBool, length, slice_index_or}
use Rattle.atomic_blocks.specs.Lent.{RowsId}
use Rattle.crossbeam_deque.specs.Handles.{view, IsPassOf}
use Rattle.node_pool.specs.declared.rule.Tally.{Tally}
use Rattle.node_pool.specs.declared.worker.Member.{Member}
use Rattle.node_pool.specs.declared.worker.WorkerEnd.{WorkerEnd}
use Rattle.node_pool.specs.declared.running.Refusal.{Refusal}
use Rattle.node_pool.specs.declared.running.Refusal.TheVariants as refusal
use Rattle.node_pool.specs.Rule.{tally, either_stopped, all_parts}

-- a pool has 1 to 16 workers
abbrev pub IsCrew : ℕ → Type 0
IsCrew count = (1 ≤ count) × (count ≤ 16)

-- why a pool of so many workers does not begin; out of memory is answered only of one that might
abbrev pub IsRefusal : ℕ → Refusal → Type 0
IsRefusal count refusal.NoWorkers = count ≡ 0
IsRefusal count refusal.TooManyWorkers = 16 < count
IsRefusal count refusal.OutOfMemory = IsCrew count

module _ {T : Type 0} where
  -- P holds of each task; where the worker failed, of each or of each but the last
  abbrev pub AreWorked : (T → Type 0) → Bool → List T → Type 0
  AreWorked P failed tasks = MatchBool failed (All P tasks ⊎ ((before : List T) × (last : T) × (tasks ≡ before ++ last ∷ []) × All P before)) (All P tasks)

  -- a tally that differs from another in its parts, and is not fresh
  abbrev pub HasParts : ℕ → Tally T → Tally T → Type 0
  HasParts parts old new = (new.parts ≡ parts) × (new.put ≡ old.put) × (new.taken ≡ old.taken) × (new.stopped ≡ old.stopped)

module _ {T S A : Type 0} where
  -- a worker that has drawn nothing
  abbrev pub IsReady : RowsId × A → Member T S A → Type 0
  IsReady queue m = IsPassOf queue m.token × (view m.token ≡ tally 1 false [] [] false) × (m.drawn.items ≡ []) × (m.failed ≡ false)

  -- a worker that has drawn nothing, from whose seat tasks may be worked
  abbrev pub IsStarting : RowsId × A → (S → Type 0) → Member T S A → Type 0
  IsStarting queue may_work m = IsReady queue m × may_work m.seat

  -- the worker's token says what it drew, and that it took a mark exactly where it did not fail
  abbrev pub IsHolding : RowsId × A → Member T S A → Type 0
  IsHolding queue m = IsPassOf queue m.token × (view m.token ≡ tally 1 false [] m.drawn.items (not m.failed))

  -- a worker that took a mark, or failed, and whose tasks were worked
  abbrev pub IsDone : RowsId × A → (S → T → Type 0) → Member T S A → Type 0
  IsDone queue done m = IsHolding queue m × AreWorked (done m.seat) m.failed m.drawn.items

  -- the seat of each worker has grown
  abbrev pub SeatsHaveGrown : (S → S → Type 0) → List (Member T S A) → List (Member T S A) → Type 0
  SeatsHaveGrown grows old new = (i : ℕ) (m : Member T S A) → i < length old → grows (slice_index_or old i m).seat (slice_index_or new i m).seat

  -- the tasks that workers drew
  abbrev pub all_drawn : List (WorkerEnd T S A) → List T
  all_drawn [] = []
  all_drawn (w ∷ ws) = w.drawn.items ++ all_drawn ws

  -- some worker did not fail
  abbrev pub some_stopped : List (WorkerEnd T S A) → Bool
  some_stopped [] = false
  some_stopped (w ∷ ws) = either_stopped (not w.failed) (some_stopped ws)

  abbrev pub end_of : Member T S A → WorkerEnd T S A
  end_of m = record { seat = m.seat; drawn = m.drawn; failed = m.failed }

  -- there is a worker for each seat, in their order, and its seat has grown from that one
  abbrev pub HaveGrown : (S → S → Type 0) → List S → List (WorkerEnd T S A) → Type 0
  HaveGrown grows [] [] = Unit {0}
  HaveGrown grows [] (w ∷ ws) = ⊥
  HaveGrown grows (s ∷ ss) [] = ⊥
  HaveGrown grows (s ∷ ss) (w ∷ ws) = grows s w.seat × HaveGrown grows ss ws

module _ {T S A : Type 0} where
  -- the tally of a queue once all tokens are taken back: what was put, what the workers drew, and whether a mark was taken
  abbrev pub gathered : List T → List (WorkerEnd T S A) → Tally T
  gathered put workers = tally all_parts false put (all_drawn workers) (some_stopped workers)

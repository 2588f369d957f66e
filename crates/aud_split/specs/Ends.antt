-- What the workers of a pool leave, as lists by their numbers.
use Rattle.std.specs.Prelude.{◌≡◌, ◌≤◌, ℕ, ◌+◌, ◌++◌, ◌==◌, Bool, List, [], ◌∷◌, map, filter, cond, vec_capacity}
use Rattle.std.specs.List.{list_any}
use Rattle.node_pool.specs.declared.worker.WorkerEnd.{WorkerEnd}
use Rattle.aud_split.specs.declared.fault.PoolFault.{PoolFault}
use Rattle.aud_split.specs.declared.fault.PoolFault.TheVariants.{OutOfMemory}
use Rattle.aud_split.specs.declared.ends.Lists.{Lists}

-- the tasks of one worker
abbrev pub drawn_by : {T : Type 0} → ℕ → List (ℕ × T) → List T
drawn_by {T} w drawn = map (λ (p : ℕ × T). p.1) (filter (λ (p : ℕ × T). p.0 == w) drawn)

-- the worker is among those that met a fault
abbrev pub faulted : ℕ → List (ℕ × PoolFault) → Bool
faulted w faults = list_any (λ (f : ℕ × PoolFault). f.0 == w) faults

-- faults of workers from the number n to below the count, each at most once and in their order; each is out of memory
abbrev pub AreFaults : ℕ → ℕ → List (ℕ × PoolFault) → Type 0
AreFaults n count [] = n ≤ count
AreFaults n count (f ∷ fs) = (n ≤ f.0) × (f.1 ≡ OutOfMemory) × AreFaults (f.0 + 1) count fs

module _ {T S A : Type 0} where
  -- each task with its worker's number, where the first worker has the number n
  abbrev pub numbered : ℕ → List (WorkerEnd T S A) → List (ℕ × T)
  numbered n [] = []
  numbered n (e ∷ es) = map (λ (t : T). (n, t)) e.drawn.items ++ numbered (n + 1) es

  -- out of memory for each worker that failed, where the first worker has the number n
  abbrev pub failures : ℕ → List (WorkerEnd T S A) → List (ℕ × PoolFault)
  failures n [] = []
  failures n (e ∷ es) = cond e.failed ((n, OutOfMemory) ∷ failures (n + 1) es) (failures (n + 1) es)

-- the lists have room for so many workers and tasks
abbrev pub HaveRoom : {T S A : Type 0} → ℕ → ℕ → Lists T S A → Type 0
HaveRoom workers tasks lists = (workers ≤ vec_capacity lists.seats) × (workers ≤ vec_capacity lists.faults) × (tasks ≤ vec_capacity lists.drawn)

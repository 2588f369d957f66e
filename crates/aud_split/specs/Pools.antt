-- What a pool of searching workers does for its tasks and with its passes, and when it does not begin.
use Rattle.std.specs.Prelude.{◌≡◌, ◌≢◌, ◌⊎◌, ℕ, ◌<◌, ◌+◌, ◌++◌, List, [], ◌∷◌, length, map, All, slice_index_or, true}
use Rattle.std.specs.List.{Contains}
use Rattle.std.specs.List.Sorted.{IsPermutation}
use Rattle.std.specs.declared.alloc.Global.{Global}
use mathlib.Core.List.{IsPrefix}
use Rattle.aud_witness.specs.declared.decision.Decision.{Decision}
use Rattle.aud_order.specs.Shapes.{ShapeOf, plan_of, objects_of, history_of}
use Rattle.aud_witness.specs.Prefixes.{BeginsWith}
use Rattle.search_prefix.specs.Searches.{SpentBy}
use Rattle.aud_know.specs.Norms.{refuted, shown}
use Rattle.aud_know.specs.Known.{KnownAtom}
use Rattle.aud_know.specs.Findings.{FindingOf}
use Rattle.aud_know.specs.declared.item.Item.{Item}
use Rattle.aud_know.specs.declared.item.Item.TheVariants as item
use Rattle.aud_node.specs.Logs.{Entry, atoms_in}
use Rattle.aud_node.specs.Meanings.{NodeOf, PassOf, mine}
use Rattle.aud_node.specs.Faults.{AreAt}
use Rattle.node_pool.specs.Workers.{AreWorked, IsCrew}
use Rattle.aud_split.specs.Searched.{IsRefutedBy}
use Rattle.aud_split.specs.Ends.{drawn_by, faulted, AreFaults}
use Rattle.aud_split.specs.declared.fault.PoolFault.{PoolFault}
use Rattle.aud_split.specs.declared.fault.PoolFault.TheVariants as fault

-- # One task

-- an atom is a witness that begins with t
abbrev pub HasWitnessFrom : List KnownAtom → List Decision → Type 0
HasWitnessFrom atoms t = (q : List Decision) × (Contains atoms (shown q) × BeginsWith t q)

-- a task is settled for who has seen these offers: a beginning of it is refuted in them, or a witness begins with it, or its
-- budget was spent
abbrev pub IsSettled : ShapeOf → ℕ → List Entry → List Decision → Type 0
IsSettled s budget view t = IsRefutedBy (atoms_in view) t ⊎ (HasWitnessFrom (atoms_in view) t ⊎ SpentBy (objects_of s) (history_of s) t budget)

-- # One pass

-- the item is a finding of the shape's history
abbrev pub IsFindingOf : ShapeOf → Item Global → Type 0
IsFindingOf s (item.Fact f) = ⊥
IsFindingOf s (item.Finding g) = g.facts ≡ s.sealed.facts
IsFindingOf s (item.Known k) = ⊥

-- the same pass later: its view begins with the old one, and what it has offered since are findings of the shape's history
pub record HasSearched (s : ShapeOf) (old new : PassOf) : Type 0 where
  pub view : IsPrefix old.view new.view
  pub number : new.number ≡ old.number
  pub seat : new.seat ≡ old.seat
  pub items : List (Item Global)
  pub mine : mine new ≡ mine old ++ items
  pub offers : new.offers ≡ old.offers + length items
  pub findings : All (IsFindingOf s) items

-- # All passes

-- each pass later, in their order
abbrev pub HaveSearched : ShapeOf → List PassOf → List PassOf → Type 0
HaveSearched s [] [] = Unit {0}
HaveSearched s [] (q ∷ qs) = ⊥
HaveSearched s (p ∷ ps) [] = ⊥
HaveSearched s (p ∷ ps) (q ∷ qs) = HasSearched s p q × HaveSearched s ps qs

-- the tasks that each worker drew are settled for its pass; where the worker met a fault, all of them or all but the last
abbrev pub AreSettled : ShapeOf → ℕ → List PassOf → List (ℕ × PoolFault) → List (ℕ × List Decision) → Type 0
AreSettled s budget passes faults drawn =
    (w : ℕ) (p : PassOf) → w < length passes → AreWorked (IsSettled s budget (slice_index_or passes w p).view) (faulted w faults) (drawn_by w drawn)

-- # When a pool begins

-- 1 to 16 workers, at the node, over a shape of its plan
abbrev pub MayRun : NodeOf → List PassOf → ShapeOf → Type 0
MayRun n passes s = IsCrew (length passes) × (plan_of s ≡ n.plan) × AreAt n.number passes

-- why a pool does not begin: the first in this order; out of memory is answered only of one that might, and that a thread is
-- missing never
abbrev pub IsPoolFault : NodeOf → List PassOf → ShapeOf → PoolFault → Type 0
IsPoolFault n passes s fault.NoWorkers = length passes ≡ 0
IsPoolFault n passes s fault.TooManyWorkers = 16 < length passes
IsPoolFault n passes s fault.PlanMismatch = IsCrew (length passes) × (plan_of s ≢ n.plan)
IsPoolFault n passes s fault.WrongNode = IsCrew (length passes) × (plan_of s ≡ n.plan) × (AreAt n.number passes → ⊥)
IsPoolFault n passes s fault.OutOfMemory = MayRun n passes s
IsPoolFault n passes s fault.NoThread = ⊥

-- the numbers of the faults
abbrev pub pool_fault_number : PoolFault → ℕ
pool_fault_number fault.NoWorkers = 1
pool_fault_number fault.TooManyWorkers = 2
pool_fault_number fault.PlanMismatch = 3
pool_fault_number fault.WrongNode = 4
pool_fault_number fault.OutOfMemory = 5
pool_fault_number fault.NoThread = 6

-- # What a pool leaves

-- the tasks, the passes before, their budget; then the passes after, as many as the count says, the drawn tasks with the numbers of
-- their workers, the tasks that are left, and the faults
pub record HasRun (s : ShapeOf) (budget : ℕ) (tasks : List (List Decision)) (passes after : List PassOf) (count : ℕ) (drawn : List (ℕ × List Decision)) (left : List (List Decision)) (faults : List (ℕ × PoolFault)) : Type 0 where
  -- each task was drawn or is left
  pub all : IsPermutation tasks (map (λ d. d.1) drawn ++ left)
  -- some are left only where every worker met a fault
  pub left_so : (left ≡ []) ⊎ ((w : ℕ) → w < count → faulted w faults ≡ true)
  pub searched : HaveSearched s passes after
  pub settled : AreSettled s budget after faults drawn
  pub workers : All (λ d. d.0 < count) drawn
  pub numbered : AreFaults 0 count faults

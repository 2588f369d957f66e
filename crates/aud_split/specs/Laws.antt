-- Laws of the definitions, each the contract of a function of src/laws.rt.
use Rattle.std.specs.Prelude.{◌≡◌, ◌↔◌, ◌⊎◌, ◌<◌, ◌++◌, ℕ, true, List, [], length, map, All}
use Rattle.std.specs.List.Sorted.{IsPermutation}
use Rattle.std.specs.List.{Contains}
use Rattle.aud_event.specs.Meanings.{Declared}
use Rattle.aud_history.specs.Histories.{History}
use Rattle.aud_facts.specs.Sets.{SealedOf}
use Rattle.aud_witness.specs.declared.decision.Decision.{Decision}
use Rattle.aud_cover.specs.Closings.{IsCovered, IsClosed}
use Rattle.aud_know.specs.Known.{KnownAtom, norm_of, KnowledgeOf}
use Rattle.aud_know.specs.Verdicts.{IsVerdict}
use Rattle.aud_know.specs.declared.verdict.Verdict.{Verdict}
use Rattle.aud_split.specs.Tasks.{AreTasks}
use Rattle.aud_order.specs.Shapes.{ShapeOf, objects_of, history_of}
use Rattle.aud_node.specs.Logs.{atoms_in}
use Rattle.aud_node.specs.Meanings.{PassOf}
use Rattle.aud_split.specs.Searched.{IsRefutedBy, HasShown, HasWitness, IsEndedBy, IsSearched, Says, IsUnsealed}
use Rattle.aud_split.specs.Ends.{faulted}
use Rattle.aud_split.specs.Pools.{AreSettled}

-- a cover that has a beginning of each task below a prefix closes the prefix
abbrev pub TasksClose : Type 0
TasksClose =
    (objects : List Declared) (h : History) (cover : List (List Decision)) (p : List Decision) (depth : ℕ) (tasks : List (List Decision)) →
    AreTasks objects h p depth tasks → ((t : List Decision) → Contains tasks t → IsCovered cover t) → IsClosed objects h cover p

-- the cover of the normal form has a beginning of a prefix exactly where an atom refutes one, and there is a witness in it
-- exactly where an atom is a witness
pub record KeepsAtoms (atoms : List KnownAtom) : Type 0 where
  pub refuted : (t : List Decision) → IsRefutedBy atoms t ↔ IsCovered (norm_of atoms).cover t
  pub shown : HasShown atoms ↔ HasWitness (norm_of atoms)

abbrev pub KnownIsKept : Type 0
KnownIsKept = (atoms : List KnownAtom) → KeepsAtoms atoms

-- where the history of some of the facts was split and each task ended by what was taken, the verdict is one on facts that are
-- not sealed; or these are all facts, and it says of the history what the tasks do
abbrev pub SearchIsSaid : Type 0 → Type 0
SearchIsSaid X =
    (k : KnowledgeOf) (atoms : List KnownAtom) (s : SealedOf) (depth budget : ℕ) (tasks : List (List Decision)) (v : Verdict X) →
    IsSearched k atoms s depth budget tasks → IsVerdict k v →
    IsUnsealed v ⊎ ((k.held.facts ≡ s.facts.facts) × Says s.facts.plan.objects s.history budget tasks v)

-- where a pool with a worker met no fault, each task ended by what one of its passes has seen
abbrev pub PoolEndsAll : Type 0
PoolEndsAll =
    (s : ShapeOf) (budget : ℕ) (tasks left : List (List Decision)) (passes : List PassOf) (drawn : List (ℕ × List Decision)) → 0 < length passes →
    IsPermutation tasks (map (λ d. d.1) drawn ++ left) → (left ≡ []) ⊎ ((w : ℕ) → w < length passes → faulted w [] ≡ true) → All (λ d. d.0 < length passes) drawn → AreSettled s budget passes [] drawn →
    (t : List Decision) → Contains tasks t → (p : PassOf) × (Contains passes p × IsEndedBy (atoms_in p.view) (objects_of s) (history_of s) budget t)

-- What the ends of all tasks say together.
use Rattle.std.specs.Prelude.{◌≡◌, ◌⊎◌, ℕ, List, [], ◌++◌, Some}
use Rattle.std.specs.List.{Contains}
use Rattle.aud_event.specs.Meanings.{Declared}
use Rattle.aud_history.specs.Histories.{History}
use Rattle.aud_history.specs.WellFormed.{IsWellFormed}
use Rattle.aud_facts.specs.Order.{AreOrdered}
use Rattle.aud_facts.specs.Quiet.{AreAmong}
use Rattle.aud_facts.specs.Sets.{SealedOf, IsSealedWith}
use Rattle.aud_witness.specs.declared.decision.Decision.{Decision}
use Rattle.aud_witness.specs.Orders.{Refuted, Shows}
use Rattle.search_prefix.specs.Searches.{SpentBy}
use Rattle.aud_know.specs.Norms.{refuted, shown}
use Rattle.aud_know.specs.Known.{KnownAtom, Held, KnowledgeOf, norm_of}
use Rattle.aud_know.specs.Truth.{IsKnowledge}
use Rattle.aud_know.specs.declared.verdict.Verdict.{Verdict}
use Rattle.aud_know.specs.declared.verdict.Verdict.TheVariants as verdict
use Rattle.aud_split.specs.Tasks.{AreTasks}

-- an atom refutes a beginning of t; t itself counts
abbrev pub IsRefutedBy : List KnownAtom → List Decision → Type 0
IsRefutedBy atoms t = (q : List Decision) × ((rest : List Decision) × (Contains atoms (refuted q) × (t ≡ q ++ rest)))

-- an atom is a witness
abbrev pub HasShown : List KnownAtom → Type 0
HasShown atoms = (q : List Decision) × Contains atoms (shown q)

-- what is held has a witness
abbrev pub HasWitness : Held → Type 0
HasWitness held = (q : List Decision) × (held.witness ≡ Some q)

-- a task ended: a beginning of it was refuted, or a witness was taken, or its budget was spent
abbrev pub IsEndedBy : List KnownAtom → List Declared → History → ℕ → List Decision → Type 0
IsEndedBy atoms objects h budget t = IsRefutedBy atoms t ⊎ (HasShown atoms ⊎ SpentBy objects h t budget)

-- the history of some of the facts of a Knowledge was split, and each task ended by what was taken
pub record IsSearched (k : KnowledgeOf) (atoms : List KnownAtom) (s : SealedOf) (depth budget : ℕ) (tasks : List (List Decision)) : Type 0 where
  pub truth : IsKnowledge k.plan k.held
  pub took : k.held ≡ norm_of atoms
  pub plan : s.facts.plan ≡ k.plan
  pub part : AreAmong s.facts.facts k.held.facts
  pub ordered : AreOrdered s.facts.facts
  pub sealed : IsSealedWith s.facts s.history
  pub well_formed : IsWellFormed s.history
  pub whole_split : AreTasks s.facts.plan.objects s.history [] depth tasks
  pub ended : (t : List Decision) → Contains tasks t → IsEndedBy atoms s.facts.plan.objects s.history budget t

-- each task is refuted or spent, and one is spent
pub record AreUnfinished (objects : List Declared) (h : History) (budget : ℕ) (tasks : List (List Decision)) : Type 0 where
  pub each : (t : List Decision) → Contains tasks t → Refuted objects h t ⊎ SpentBy objects h t budget
  pub one : (t : List Decision) × (Contains tasks t × SpentBy objects h t budget)

-- what the verdict says of the history: an order shows it; no order does; or the tasks are unfinished; nothing else is said
abbrev pub Says : {X : Type 0} → List Declared → History → ℕ → List (List Decision) → Verdict X → Type 0
Says objects h budget tasks (verdict.Conflict kind log at) = ⊥
Says objects h budget tasks (verdict.Waiting log) = ⊥
Says objects h budget tasks (verdict.Gap stamp) = ⊥
Says objects h budget tasks (verdict.IllFormed stamp rule) = ⊥
Says objects h budget tasks (verdict.Opaque p) = Shows objects h p
Says objects h budget tasks verdict.NotOpaque = Refuted objects h []
Says objects h budget tasks verdict.Unfinished = AreUnfinished objects h budget tasks

-- a verdict on facts that are not sealed
abbrev pub IsUnsealed : {X : Type 0} → Verdict X → Type 0
IsUnsealed (verdict.Conflict kind log at) = Unit {0}
IsUnsealed (verdict.Waiting log) = Unit {0}
IsUnsealed (verdict.Gap stamp) = Unit {0}
IsUnsealed (verdict.IllFormed stamp rule) = ⊥
IsUnsealed (verdict.Opaque p) = ⊥
IsUnsealed verdict.NotOpaque = ⊥
IsUnsealed verdict.Unfinished = ⊥

-- Blocks of a transaction: its executions, and at most one invocation after them.
use Rattle.std.specs.Prelude.{◌<◌, List, [], ◌∷◌, ◌++◌, Option, Some, None, length}
use Rattle.aud_event.specs.declared.object.Answer.{Answer}
use Rattle.aud_event.specs.declared.fact.Event.{Event}
use Rattle.aud_event.specs.declared.fact.Event.TheVariants.{Inv, Ret}
use Rattle.aud_event.specs.Objects.{name_of}
use Rattle.aud_kinds.specs.Objects.{ObjState}
use Rattle.aud_object.specs.declared.execution.Execution.{Execution}
use Rattle.aud_object.specs.declared.execution.Invocation.{Invocation}

-- how contracts see a block
pub record BlockOf : Type 0 where
  pub executions : List Execution
  pub trailing : Option Invocation

-- each execution as its invocation and its response
abbrev pub events_of_executions : List Execution → List Event
events_of_executions [] = []
events_of_executions (x ∷ xs) = Inv x.object x.op ∷ Ret x.object (name_of x.op) x.answer ∷ events_of_executions xs

-- the invocation that still waits
abbrev pub events_of_trailing : Option Invocation → List Event
events_of_trailing None = []
events_of_trailing (Some i) = Inv i.object i.op ∷ []

-- the events of a block
abbrev pub events_of_block : BlockOf → List Event
events_of_block b = events_of_executions b.executions ++ events_of_trailing b.trailing

-- a block with one more invocation after its executions
abbrev pub invoked : BlockOf → Invocation → BlockOf
invoked b i = record { executions = b.executions; trailing = Some i }

-- a block whose waiting invocation is answered
abbrev pub answered : BlockOf → Answer → BlockOf
answered b answer = elim b.trailing [
  | None ↦ b
  | Some i ↦ record { executions = b.executions ++ record { object = i.object; op = i.op; answer = answer } ∷ []; trailing = None }
]

-- every execution is on an object that is there
abbrev pub AreThere : List ObjState → List Execution → Type 0
AreThere states [] = Unit {0}
AreThere states (x ∷ xs) = (x.object < length states) × AreThere states xs

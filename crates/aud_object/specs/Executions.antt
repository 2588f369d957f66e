-- Executions as events, and the states to which events lead.
use Rattle.std.specs.Prelude.{◌≡◌, ℕ, suc, List, [], ◌∷◌, Some, slice_get}
use Rattle.aud_event.specs.declared.object.Op.{Op}
use Rattle.aud_event.specs.declared.object.Answer.{Answer}
use Rattle.aud_event.specs.declared.fact.Event.{Event}
use Rattle.aud_event.specs.declared.fact.Event.TheVariants.{Inv, Ret}
use Rattle.aud_event.specs.Objects.{name_of}
use Rattle.aud_kinds.specs.Objects.{ObjState, after_op, on_object, IsInSeq}

-- executions, each an invocation and next to it the response of the same operation on the same object
pub data AreExecutions : List Event → Type 0 where
  no_execution : AreExecutions []
  execution : {ob : ℕ} {op : Op} {answer : Answer} {es : List Event} →
      AreExecutions es → AreExecutions (Inv ob op ∷ Ret ob (name_of op) answer ∷ es)

-- the state of one object after events on it; an invocation without response changes nothing
abbrev pub state_after : ObjState → List Event → ObjState
state_after s (Inv _ op ∷ Ret _ _ _ ∷ es) = state_after (after_op s op) es
state_after s _ = s

-- from states of which the first is of the object numbered `first`, those after the events
abbrev pub states_after_from : ℕ → List ObjState → List Event → List ObjState
states_after_from first [] es = []
states_after_from first (s ∷ ss) es = state_after s (on_object first es) ∷ states_after_from (suc first) ss es

-- the states of all objects after the events
abbrev pub states_after : List ObjState → List Event → List ObjState
states_after states es = states_after_from 0 states es

-- from these states on the events are legal: on each object they are in its Seq
abbrev pub IsLegalFrom : List ObjState → List Event → Type 0
IsLegalFrom states es = (ob : ℕ) (s : ObjState) → slice_get states ob ≡ Some s → IsInSeq s (on_object ob es)

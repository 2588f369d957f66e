-- Executions run one after another over the states of all objects.
use Rattle.std.specs.Prelude.{◌≡◌, MatchOption, ℕ, zero, suc, Bool, true, false, not, if◌then◌else◌, List, [], ◌∷◌, Option, Some, None}
use Rattle.std.specs.Ordering.{int_eq}
use Rattle.aud_event.specs.declared.object.Op.{Op}
use Rattle.aud_event.specs.declared.object.Answer.{Answer}
use Rattle.aud_event.specs.declared.object.Answer.TheVariants.{Done, Int, Flag, Empty}
use Rattle.aud_kinds.specs.Objects.{ObjState, answer_of, after_op}
use Rattle.aud_object.specs.Blocks.{BlockOf}
use Rattle.aud_object.specs.Meanings.{StoreOf}
use Rattle.aud_object.specs.declared.execution.Execution.{Execution}

-- whether two answers are one
abbrev pub same_answer : Answer → Answer → Bool
same_answer Done Done = true
same_answer (Int v) (Int w) = int_eq v w
same_answer (Flag true) (Flag b) = b
same_answer (Flag false) (Flag b) = not b
same_answer Empty Empty = true
same_answer _ _ = false

-- the states once the operation ran on one object
abbrev pub after_at : List ObjState → ℕ → Op → List ObjState
after_at [] ob op = []
after_at (s ∷ ss) zero op = after_op s op ∷ ss
after_at (s ∷ ss) (suc ob) op = s ∷ after_at ss ob op

-- what an object answers, if there is one of the number
abbrev pub answer_at : List ObjState → ℕ → Op → Option Answer
answer_at [] ob op = None
answer_at (s ∷ ss) zero op = Some (answer_of s op)
answer_at (s ∷ ss) (suc ob) op = answer_at ss ob op

-- whether there is an answer, and it is this one
abbrev pub answers : Option Answer → Answer → Bool
answers None answer = false
answers (Some found) answer = same_answer found answer

-- the states after executions, if each recorded answer is the object's
abbrev pub executed : List ObjState → List Execution → Option (List ObjState)
executed states [] = Some states
executed states (x ∷ xs) = if answers (answer_at states x.object x.op) x.answer then executed (after_at states x.object x.op) xs else None

-- the executions ran, or some recorded answer is not the object's
abbrev pub Runs : List ObjState → List Execution → Bool → List ObjState → Type 0
Runs states xs right new = MatchOption (executed states xs) (right ≡ false) (λ after. (right ≡ true) × (new ≡ after))

-- the states after a block, if each recorded answer is the object's; a trailing invocation constrains nothing
abbrev pub replayed : List ObjState → BlockOf → Option (List ObjState)
replayed states b = executed states b.executions

-- a block was replayed, and can be taken back; or some recorded answer is not the object's, and the store is as it was
abbrev pub Replays : StoreOf → BlockOf → Bool → StoreOf → Type 0
Replays old block right new =
    MatchOption (replayed old.now block) ((right ≡ false) × (new ≡ old)) (λ after. (right ≡ true) × (new ≡ record { now = after; past = old.now ∷ old.past }))

-- What a block adds to a queue, and what it takes from it.
use Rattle.std.specs.Prelude.{◌≡◌, ℕ, ℤ, Bool, true, false, ◌&&◌, if◌then◌else◌, nat_eq, List, [], ◌∷◌, ◌++◌, Option, Some, None}
use Rattle.std.specs.List.{list_any}
use Rattle.std.specs.Ordering.{int_eq}
use Rattle.aud_event.specs.declared.object.Op.{Op}
use Rattle.aud_event.specs.declared.object.Op.TheVariants.{Enq, Deq}
use Rattle.aud_event.specs.declared.object.Answer.{Answer}
use Rattle.aud_event.specs.declared.object.Answer.TheVariants.{Int}
use Rattle.aud_object.specs.declared.execution.Execution.{Execution}
use Rattle.aud_history.specs.Histories.{History}
use Rattle.aud_history.specs.Table.{row_of}
use Rattle.search_model.specs.Queues.{adds, takes}

-- what an operation adds to a queue
abbrev pub item : Op → List ℤ
item (Enq v) = v ∷ []
item _ = []

-- the item that an operation adds to a queue, and the one that it was answered
abbrev pub added_item : Op → Option ℤ
added_item (Enq v) = Some v
added_item _ = None

abbrev pub taken_item : Op → Answer → Option ℤ
taken_item Deq (Int v) = Some v
taken_item _ _ = None

-- what the executions add to the queue, in their order
abbrev pub added : ℕ → List Execution → List ℤ
added x [] = []
added x (e ∷ es) = (if nat_eq e.object x then item e.op else []) ++ added x es

abbrev pub added_of : History → ℕ → ℕ → List ℤ
added_of h x t = added x (row_of h t).block.executions

-- the operation was answered this item
abbrev pub gives : ℤ → Op → Answer → Bool
gives v Deq (Int w) = int_eq w v
gives v _ _ = false

-- the execution takes the value from the queue
abbrev pub is_take_of : ℕ → ℤ → Execution → Bool
is_take_of x v e = nat_eq e.object x && gives v e.op e.answer

-- the operation adds this item
abbrev pub brings : ℤ → Op → Bool
brings v (Enq w) = int_eq w v
brings v _ = false

-- the execution adds the value to the queue
abbrev pub is_addition_of : ℕ → ℤ → Execution → Bool
is_addition_of x v e = nat_eq e.object x && brings v e.op

-- some execution takes the value from the queue
abbrev pub takes_value : ℕ → ℤ → List Execution → Bool
takes_value x v es = list_any (is_take_of x v) es

-- after so many takes from the queue and so many additions the executions ask for an item, and get the answer
pub record Asks (x : ℕ) (es : List Execution) (takes_before adds_before : ℕ) (answer : Answer) : Type 0 where
  pub front : List Execution
  pub one : Execution
  pub back : List Execution
  pub whole : es ≡ front ++ one ∷ back
  pub on : nat_eq one.object x ≡ true
  pub asks : one.op ≡ Deq
  pub gets : one.answer ≡ answer
  pub takes : takes x front ≡ takes_before
  pub adds : adds x front ≡ adds_before

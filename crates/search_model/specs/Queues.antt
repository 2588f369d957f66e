-- Queues: who added what a transaction takes.
use Rattle.std.specs.Prelude.{ℕ, ◌+◌, ◌-◌, Bool, true, false, ◌&&◌, if◌then◌else◌, nat_eq, nat_lt, List, [], ◌∷◌, Option, Some, None}
use Rattle.aud_event.specs.declared.object.Op.{Op}
use Rattle.aud_event.specs.declared.object.Op.TheVariants.{Enq, Deq}
use Rattle.aud_event.specs.declared.object.Answer.{Answer}
use Rattle.aud_event.specs.declared.object.Answer.TheVariants.{Int}
use Rattle.aud_object.specs.declared.execution.Execution.{Execution}
use Rattle.aud_history.specs.Histories.{History}
use Rattle.aud_history.specs.Table.{row_of}
use Rattle.aud_witness.specs.declared.decision.Decision.{Decision}
use Rattle.aud_witness.specs.Orders.{is_kept}

-- an operation that adds an item, and one that was answered an item
abbrev pub is_addition : Op → Bool
is_addition (Enq v) = true
is_addition _ = false

abbrev pub is_take : Op → Answer → Bool
is_take Deq (Int v) = true
is_take _ _ = false

-- how many items the executions add to the queue, and how many they take from it
abbrev pub adds : ℕ → List Execution → ℕ
adds x [] = 0
adds x (e ∷ es) = (if nat_eq e.object x && is_addition e.op then 1 else 0) + adds x es

abbrev pub takes : ℕ → List Execution → ℕ
takes x [] = 0
takes x (e ∷ es) = (if nat_eq e.object x && is_take e.op e.answer then 1 else 0) + takes x es

-- how many items T in H adds to the queue, and how many it takes from it
abbrev pub adds_of : History → ℕ → ℕ → ℕ
adds_of h x t = adds x (row_of h t).block.executions

abbrev pub takes_of : History → ℕ → ℕ → ℕ
takes_of h x t = takes x (row_of h t).block.executions

-- how many items those with fate C before R in p take
abbrev pub taken_before : History → ℕ → List Decision → ℕ → ℕ
taken_before h x [] r = 0
taken_before h x (d ∷ p) r = if nat_eq d.tx r then 0 else (if is_kept d then takes_of h x d.tx else 0) + taken_before h x p r

-- of the items that those with fate C before R in p add, and then R itself: who added the n-th from 0, and which of its own additions that is
abbrev pub adder : History → ℕ → List Decision → ℕ → ℕ → Option (ℕ × ℕ)
adder h x [] r n = None
adder h x (d ∷ p) r n =
    if nat_eq d.tx r then Some (r, n)
    else (if is_kept d then (if nat_lt n (adds_of h x d.tx) then Some (d.tx, n) else adder h x p r (n - adds_of h x d.tx)) else adder h x p r n)

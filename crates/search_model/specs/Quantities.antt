-- What executions do to a number, and what the first that asks for it has to find.
use Rattle.std.specs.Prelude.{◌≡◌, ℕ, ℤ, pos, negsuc, ◌+◌, ◌+ℤ◌, ◌-ℤ◌, Bool, false, ◌&&◌, if◌then◌else◌, nat_eq, List, [], ◌∷◌, Option, Some, None}
use Rattle.std.specs.Ordering.{int_eq}
use Rattle.std.specs.Int.RustNames.{unsigned_abs}
use Rattle.aud_event.specs.declared.object.Op.{Op}
use Rattle.aud_event.specs.declared.object.Op.TheVariants.{Inc, Dec, Get, Plus, Add, Remove, Contains, Enq, Deq}
use Rattle.aud_event.specs.declared.object.Answer.{Answer}
use Rattle.aud_event.specs.declared.object.Answer.TheVariants.{Int, Flag}
use Rattle.aud_object.specs.declared.execution.Execution.{Execution}
use Rattle.aud_history.specs.Histories.{History}
use Rattle.aud_history.specs.Table.{row_of}
use Rattle.search_model.specs.declared.quantity.Quantity.{Quantity}
use Rattle.search_model.specs.declared.quantity.Quantity.TheVariants.{Count, Element, Takes, Additions, Shortening}

abbrev pub is_yes : Answer → Bool
is_yes (Flag b) = b
is_yes _ = false

-- by how much an operation changes a count that is far from the ends of its range
abbrev pub count_change : Op → ℤ
count_change Inc = pos 1
count_change Dec = negsuc 0
count_change (Plus k) = k
count_change _ = pos 0

-- 1 where an operation that answered so brings the element in, -1 where it takes it out
abbrev pub element_change : ℤ → Op → Answer → ℤ
element_change v (Add w) answer = if int_eq w v && is_yes answer then pos 1 else pos 0
element_change v (Remove w) answer = if int_eq w v && is_yes answer then negsuc 0 else pos 0
element_change v _ answer = pos 0

-- 1 where an operation that answered so takes an item
abbrev pub take : Op → Answer → ℤ
take Deq (Int v) = pos 1
take _ _ = pos 0

-- 1 where an operation adds an item
abbrev pub addition : Op → ℤ
addition (Enq v) = pos 1
addition _ = pos 0

-- by how much an operation that answered so changes the number
abbrev pub change : Quantity → Op → Answer → ℤ
change (Count x) op answer = count_change op
change (Element x v) op answer = element_change v op answer
change (Takes x) op answer = take op answer
change (Additions x) op answer = addition op
change (Shortening x) op answer = take op answer -ℤ addition op

-- the object that the number is about
abbrev pub object_of : Quantity → ℕ
object_of (Count x) = x
object_of (Element x v) = x
object_of (Takes x) = x
object_of (Additions x) = x
object_of (Shortening x) = x

-- by how much an execution, which may be on another object, changes the number
abbrev pub change_by : Quantity → Execution → ℤ
change_by f e = if nat_eq e.object (object_of f) then change f e.op e.answer else pos 0

-- by how much the executions change the number
abbrev pub net : Quantity → List Execution → ℤ
net f [] = pos 0
net f (e ∷ es) = change_by f e +ℤ net f es

-- by how much T in H changes the number
abbrev pub net_of : History → Quantity → ℕ → ℤ
net_of h f t = net f (row_of h t).block.executions

-- # What is asked

-- 1 where the answer says that the element is in the set, 0 where it says that it is not
abbrev pub member_seen : Answer → Option ℤ
member_seen (Flag b) = Some (if b then pos 1 else pos 0)
member_seen _ = None

-- 0 where the answer says that the element was not in the set, and came in, 1 where it says that it was in it
abbrev pub absence_seen : Answer → Option ℤ
absence_seen (Flag b) = Some (if b then pos 0 else pos 1)
absence_seen _ = None

abbrev pub element_seen : ℤ → Op → Answer → Option ℤ
element_seen v (Add w) answer = if int_eq w v then absence_seen answer else None
element_seen v (Remove w) answer = if int_eq w v then member_seen answer else None
element_seen v (Contains w) answer = if int_eq w v then member_seen answer else None
element_seen v _ answer = None

abbrev pub count_seen : Op → Answer → Option ℤ
count_seen Get (Int n) = Some n
count_seen _ _ = None

-- what an operation that answered so tells of the number as it found it
abbrev pub seen : Quantity → Op → Answer → Option ℤ
seen (Count x) op answer = count_seen op answer
seen (Element x v) op answer = element_seen v op answer
seen _ op answer = None

-- what an execution, which may be on another object, tells of the number as it found it
abbrev pub seen_by : Quantity → Execution → Option ℤ
seen_by f e = if nat_eq e.object (object_of f) then seen f e.op e.answer else None

-- so much less, where there is something
abbrev pub less : ℤ → Option ℤ → Option ℤ
less k None = None
less k (Some n) = Some (n -ℤ k)

abbrev pub first_of : Option ℤ → Option ℤ → Option ℤ
first_of None later = later
first_of (Some n) later = Some n

-- the number that the executions have to find, so that the first of them that tells it answers as it did
abbrev pub asked : Quantity → List Execution → Option ℤ
asked f [] = None
asked f (e ∷ es) = first_of (seen_by f e) (less (change_by f e) (asked f es))

-- each execution that tells the number tells it as it is, where it is n at first
abbrev pub Tell : Quantity → ℤ → List Execution → Type 0
Tell f n [] = Unit {0}
Tell f n (e ∷ es) = ((m : ℤ) → seen_by f e ≡ Some m → n ≡ m) × Tell f (n +ℤ change_by f e) es

-- there is no such number
abbrev pub Contradict : Quantity → List Execution → Type 0
Contradict f es = (n : ℤ) → Tell f n es → ⊥

-- # Room

-- how far an operation may take a count to either side
abbrev pub reach : Quantity → Op → ℕ
reach (Count x) op = unsigned_abs (count_change op)
reach _ op = 0

abbrev pub reach_by : Quantity → Execution → ℕ
reach_by f e = if nat_eq e.object (object_of f) then reach f e.op else 0

-- how far the executions may take it
abbrev pub reaches : Quantity → List Execution → ℕ
reaches f [] = 0
reaches f (e ∷ es) = reach_by f e + reaches f es

abbrev pub reach_of : History → Quantity → ℕ → ℕ
reach_of h f t = reaches f (row_of h t).block.executions

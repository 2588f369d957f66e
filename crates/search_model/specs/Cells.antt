-- Cells: what executions first need of a part of an object, what they leave there, and who changed it last.
use Rattle.std.specs.Prelude.{ℕ, ℤ, pos, Bool, true, false, not, ◌&&◌, if◌then◌else◌, nat_eq, List, [], ◌∷◌, Option, Some, None}
use Rattle.std.specs.Ordering.{int_eq}
use Rattle.aud_event.specs.declared.object.Op.{Op}
use Rattle.aud_event.specs.declared.object.Op.TheVariants as op
use Rattle.aud_event.specs.declared.object.Answer.{Answer}
use Rattle.aud_event.specs.declared.object.Answer.TheVariants.{Int, Flag, Empty}
use Rattle.aud_object.specs.declared.execution.Execution.{Execution}
use Rattle.aud_kinds.specs.Objects.{ObjState, register, set_of, map_of, has_member}
use Rattle.base_undo.specs.Entries.{value_at}
use Rattle.aud_history.specs.Histories.{History}
use Rattle.aud_history.specs.Table.{row_of}
use Rattle.aud_witness.specs.declared.decision.Decision.{Decision}
use Rattle.aud_witness.specs.Orders.{is_kept}
use Rattle.search_model.specs.declared.cell.Cell.{Cell}
use Rattle.search_model.specs.declared.cell.Cell.TheVariants.{Whole, Element, Key}
use Rattle.search_model.specs.declared.cell.Need.{Need}
use Rattle.search_model.specs.declared.cell.Need.TheVariants.{Absent, Present, Holding}
use Rattle.search_model.specs.Quantities.{is_yes}

-- the state is of the cell's kind
abbrev pub is_cell : Cell → ObjState → Bool
is_cell Whole (register v) = true
is_cell (Element e) (set_of s) = true
is_cell (Key k) (map_of m) = true
is_cell _ _ = false

-- what the cell holds in a state; a member 0
abbrev pub content : Cell → ObjState → Option ℤ
content Whole (register v) = Some v
content (Element e) (set_of s) = if has_member s e then Some (pos 0) else None
content (Key k) (map_of m) = value_at m k
content _ _ = None

-- the cell is as it is needed
abbrev pub meets : Need → Option ℤ → Bool
meets Absent None = true
meets Present (Some v) = true
meets (Holding w) (Some v) = int_eq v w
meets _ _ = false

-- the cell that an operation is of, if it is of one
abbrev pub cell_of : Op → Option Cell
cell_of op.Read = Some Whole
cell_of (op.Write v) = Some Whole
cell_of (op.Add e) = Some (Element e)
cell_of (op.Remove e) = Some (Element e)
cell_of (op.Contains e) = Some (Element e)
cell_of (op.Put k v) = Some (Key k)
cell_of (op.Look k) = Some (Key k)
cell_of (op.Del k) = Some (Key k)
cell_of _ = None

-- # An operation that was answered

-- what a flag tells of the cell
abbrev pub flagged : Need → Need → Answer → Option Need
flagged so not_so (Flag b) = Some (if b then so else not_so)
flagged so not_so _ = None

abbrev pub looked : Answer → Option Need
looked (Int v) = Some (Holding v)
looked Empty = Some Absent
looked _ = None

abbrev pub read : Answer → Option Need
read (Int v) = Some (Holding v)
read _ = None

-- what it needs of the cell
abbrev pub asks : Cell → Op → Answer → Option Need
asks Whole op.Read answer = read answer
asks (Element e) (op.Add v) answer = if int_eq e v then flagged Absent (Holding (pos 0)) answer else None
asks (Element e) (op.Remove v) answer = if int_eq e v then flagged (Holding (pos 0)) Absent answer else None
asks (Element e) (op.Contains v) answer = if int_eq e v then flagged (Holding (pos 0)) Absent answer else None
asks (Key k) (op.Look j) answer = if int_eq k j then looked answer else None
asks (Key k) (op.Del j) answer = if int_eq k j then flagged Present Absent answer else None
asks _ _ answer = None

-- what it leaves in the cell, if it changes it
abbrev pub puts : Cell → Op → Answer → Option (Option ℤ)
puts Whole (op.Write v) answer = Some (Some v)
puts (Element e) (op.Add v) answer = if int_eq e v && is_yes answer then Some (Some (pos 0)) else None
puts (Element e) (op.Remove v) answer = if int_eq e v && is_yes answer then Some None else None
puts (Key k) (op.Put j v) answer = if int_eq k j then Some (Some v) else None
puts (Key k) (op.Del j) answer = if int_eq k j && is_yes answer then Some None else None
puts _ _ answer = None

-- what an execution, which may be on another object, needs of the cell, and what it leaves there
abbrev pub asks_by : Cell → ℕ → Execution → Option Need
asks_by c x e = if nat_eq e.object x then asks c e.op e.answer else None

abbrev pub puts_by : Cell → ℕ → Execution → Option (Option ℤ)
puts_by c x e = if nat_eq e.object x then puts c e.op e.answer else None

-- # Executions one after another

abbrev pub newest : Option (Option ℤ) → Option (Option ℤ) → Option (Option ℤ)
newest None last = last
newest (Some n) last = Some n

-- what they leave in the cell, if one of them changes it, or else `last`
abbrev pub leaves : Cell → ℕ → Option (Option ℤ) → List Execution → Option (Option ℤ)
leaves c x last [] = last
leaves c x last (e ∷ es) = leaves c x (newest (puts_by c x e) last) es

abbrev pub first_of : Option Need → Option (Option ℤ) → Option Need → Option Need
first_of (Some n) put later = Some n
first_of None (Some o) later = None
first_of None None later = later

-- what they first need of the cell, before they change it
abbrev pub needs : Cell → ℕ → List Execution → Option Need
needs c x [] = None
needs c x (e ∷ es) = first_of (asks_by c x e) (puts_by c x e) (needs c x es)

-- to leave this where that was needed is no change
abbrev pub stays : Need → Option ℤ → Bool
stays Absent None = true
stays (Holding w) (Some v) = int_eq v w
stays _ _ = false

-- what is left is other than what was there, as far as the need tells
abbrev pub moves : Option Need → Option (Option ℤ) → Bool
moves need None = false
moves None (Some o) = true
moves (Some n) (Some o) = not (stays n o)

-- # The transactions of a history

-- what T in H leaves in the cell, and what it first needs of it
abbrev pub leaves_of : History → Cell → ℕ → ℕ → Option (Option ℤ)
leaves_of h c x t = leaves c x None (row_of h t).block.executions

abbrev pub needs_of : History → Cell → ℕ → ℕ → Option Need
needs_of h c x t = needs c x (row_of h t).block.executions

-- T in H changes the cell
abbrev pub changes : History → Cell → ℕ → ℕ → Bool
changes h c x t = moves (needs_of h c x t) (leaves_of h c x t)

-- the last that does something, once the decision came after `last`
abbrev pub newer_of : (ℕ → Bool) → Decision → Option ℕ → Option ℕ
newer_of m d last = if is_kept d && m d.tx then Some d.tx else last

-- of those with fate C before R in p, the last one that does it, or else `last`
abbrev pub last_of : (ℕ → Bool) → List Decision → ℕ → Option ℕ → Option ℕ
last_of m [] r last = last
last_of m (d ∷ p) r last = if nat_eq d.tx r then last else last_of m p r (newer_of m d last)

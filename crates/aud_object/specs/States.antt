-- The states in memory: what one means, how a change of it is taken back, and which is one number.
use Rattle.std.specs.Prelude.{Option, Some, None}
use Rattle.aud_kinds.specs.Objects.{ObjState, register, counter, set_of, queue, map_of}
use Rattle.base_undo.specs.Keeps.{members, entries_in, items_in, back_items, back_kept}
use Rattle.aud_object.specs.declared.number.Number.{Number}
use Rattle.aud_object.specs.declared.number.Number.TheVariants as n
use Rattle.aud_object.specs.declared.state.Change.{Change}
use Rattle.aud_object.specs.declared.state.Change.TheVariants as ch
use Rattle.aud_object.specs.declared.state.State.{State}
use Rattle.aud_object.specs.declared.state.State.TheVariants as st

-- what a state in memory means
abbrev pub meaning : {A : Type 0} → State A → ObjState
meaning (st.Register v) = register v
meaning (st.Counter v) = counter v
meaning (st.SetOf es) = set_of (members es)
meaning (st.Queue q) = queue (items_in q)
meaning (st.MapOf es) = map_of (entries_in es)

-- the state once a change is taken back; a change is taken back from a state of its own kind
abbrev pub back : {A : Type 0} → State A → Change → State A
back (st.Register v) (ch.Register old) = st.Register old
back (st.Counter v) (ch.Counter old) = st.Counter old
back (st.SetOf es) (ch.SetOf change) = st.SetOf (back_kept es change)
back (st.Queue q) (ch.Queue change) = st.Queue (back_items q change)
back (st.MapOf es) (ch.MapOf change) = st.MapOf (back_kept es change)
back s _ = s

-- the state that the number stands for
abbrev pub numbered : Number → ObjState
numbered (n.Register v) = register v
numbered (n.Counter v) = counter v

-- the number that stands for the state, if it is of a register or a counter
abbrev pub number_in : ObjState → Option Number
number_in (register v) = Some (n.Register v)
number_in (counter v) = Some (n.Counter v)
number_in (set_of s) = None
number_in (queue q) = None
number_in (map_of m) = None

-- the same of a state that may be absent
abbrev pub number_of : Option ObjState → Option Number
number_of None = None
number_of (Some s) = number_in s

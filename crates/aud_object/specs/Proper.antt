-- What holds of every state that an object comes to: the members of a set ascend, and the keys of a map.
use Rattle.std.specs.Prelude.{◌≡◌, ℤ, true, int_lt, List, [], ◌∷◌}
use Rattle.aud_kinds.specs.Objects.{ObjState, set_of, map_of}
use Rattle.base_undo.specs.Entries.{Ascend}

-- the value is below all of these
abbrev pub IsBelow : ℤ → List ℤ → Type 0
IsBelow v [] = Unit {0}
IsBelow v (x ∷ s) = (int_lt v x ≡ true) × IsBelow v s

-- the values ascend
abbrev pub MembersAscend : List ℤ → Type 0
MembersAscend [] = Unit {0}
MembersAscend (x ∷ s) = IsBelow x s × MembersAscend s

-- the members of a set ascend, and the keys of a map
abbrev pub IsProper : ObjState → Type 0
IsProper (set_of s) = MembersAscend s
IsProper (map_of m) = Ascend m
IsProper _ = Unit {0}

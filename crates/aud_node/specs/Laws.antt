-- Laws of logs, each the contract of a function of src/laws.rt.
use Rattle.std.specs.Prelude.{◌≡◌, List}
use Rattle.std.specs.List.{Contains}
use Rattle.aud_event.specs.Meanings.{PlanOf}
use Rattle.aud_know.specs.Known.{KnownAtom}
use Rattle.aud_node.specs.Logs.{Entry, atoms_in, state_of}

-- all atoms of the first log's items are atoms of the second's
abbrev pub AtomsAreIn : List Entry → List Entry → Type 0
AtomsAreIn log other = (a : KnownAtom) → Contains (atoms_in log) a → Contains (atoms_in other) a

-- logs with the same atoms leave one state
abbrev pub StateIsOfAtoms : Type 0
StateIsOfAtoms = (plan : PlanOf) (log other : List Entry) → AtomsAreIn log other → AtomsAreIn other log → state_of plan log ≡ state_of plan other

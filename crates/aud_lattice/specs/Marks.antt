-- How a list stands to a cover.
use Rattle.std.specs.Prelude.{List, if◌then◌else◌}
use Rattle.std.specs.declared.cmp.Ordering.{Ordering}
use Rattle.aud_lattice.specs.declared.mark.Mark.{Mark}
use Rattle.aud_lattice.specs.declared.mark.Mark.TheVariants.{Covered, Inner, Outside}
use Rattle.aud_lattice.specs.Covers.{covers, extends}

-- covered by a beginning of q, q itself included; else a beginning of a member; else neither
abbrev pub mark_of : {D : Type 0} → (D → D → Ordering) → List (List D) → List D → Mark
mark_of cmp ps q = if covers cmp ps q then Covered else (if extends cmp ps q then Inner else Outside)

-- Blocks that contradict themselves on a cell.
use Rattle.std.specs.Prelude.{ℕ, ℤ, Bool, true, false, not, ◌||◌, List, [], ◌∷◌, Option, Some, None}
use Rattle.std.specs.Ordering.{int_eq}
use Rattle.aud_object.specs.declared.execution.Execution.{Execution}
use Rattle.aud_history.specs.Histories.{History}
use Rattle.aud_history.specs.Table.{row_of}
use Rattle.search_model.specs.declared.cell.Cell.{Cell}
use Rattle.search_model.specs.declared.cell.Need.{Need}
use Rattle.search_model.specs.declared.cell.Need.TheVariants.{Absent, Present, Holding}
use Rattle.search_model.specs.Cells.{asks_by, puts_by}

-- no cell is as both need it
abbrev pub are_apart : Need → Need → Bool
are_apart Absent Absent = false
are_apart Absent _ = true
are_apart _ Absent = true
are_apart (Holding v) (Holding w) = not (int_eq v w)
are_apart _ _ = false

-- what is known of the cell once a need of it was met
abbrev pub learned : Option Need → Option Need → Option Need
learned None known = known
learned (Some Present) (Some known) = Some known
learned (Some need) known = Some need

-- what is known of it once it was left so, if it was changed
abbrev pub kept_known : Option (Option ℤ) → Option Need → Option Need
kept_known None known = known
kept_known (Some None) known = Some Absent
kept_known (Some (Some v)) known = Some (Holding v)

abbrev pub fails : Option Need → Option Need → Bool
fails (Some need) (Some known) = are_apart need known
fails _ _ = false

-- some execution needs of the cell other than what is known of it from those before
abbrev pub clashes : Cell → ℕ → Option Need → List Execution → Bool
clashes c x known [] = false
clashes c x known (e ∷ es) = fails (asks_by c x e) known || clashes c x (kept_known (puts_by c x e) (learned (asks_by c x e) known)) es

-- some execution of T in H needs of the cell other than what is known of it from those before
abbrev pub clashes_of : History → Cell → ℕ → ℕ → Bool
clashes_of h c x t = clashes c x None (row_of h t).block.executions

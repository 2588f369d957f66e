use Rattle.std.proofs.Common.{◌∙◌}
use Rattle.std.proofs.Math.Facts.{to_z-of_z}
use Rattle.base_undo.proofs.Keeping.{found-of}
use Rattle.base_undo.proofs.tombstone_map.TombstoneMap.slot.Goals as goal

pub returns-clause-slot : goal.returns-clause-slot
returns-clause-slot g c = found-of _ _ _ _ (c.copied.ensures ∙ c.get.ensures.value) (to_z-of_z c.ranges.key) c.self.view_is

use Rattle.std.proofs.Math.Facts.{to_z-of_z}
use Rattle.base_undo.proofs.Keeping.{removed-of}
use Rattle.base_undo.proofs.tombstone_map.TombstoneMap.forget.Goals as goal

pub returns : goal.returns
returns g c = removed-of _ _ _ _ _ c.remove-value.ensures.entries (to_z-of_z c.ranges.key) c.self.view_is

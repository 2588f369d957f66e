use Rattle.std.proofs.Math.Facts.{to_z-of_z}
use Rattle.base_undo.proofs.Keeping.{found-of, put-of}
use Rattle.base_undo.proofs.tombstone_map.TombstoneMap.insert.Goals as goal

pub returns-clause-was : goal.returns-clause-was
returns-clause-was g c = found-of _ _ _ _ c.in_ok-was.ensures.old (to_z-of_z c.ranges.key) c.self.view_is

pub returns-clause-after : goal.returns-clause-after
returns-clause-after g c = put-of _ _ _ _ _ _ c.in_ok-was.ensures.entries (to_z-of_z c.ranges.key) c.self.view_is

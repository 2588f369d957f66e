use Rattle.std.proofs.Common.{◌∙◌, ap, sym, refl}
use Rattle.std.proofs.Math.Facts.{to_z-of_z}
use Rattle.base_undo.proofs.Keeping.{found-of, written-of, with-none}
use Rattle.base_undo.proofs.tombstone_map.write_slot.Goals as goal

pub returns-in-Some-clause-was : goal.returns-in-Some-clause-was
returns-in-Some-clause-was g c = found-of _ _ _ _ c.in-Some.ensures.value (to_z-of_z c.ranges.key) refl

pub returns-in-Some-clause-after : goal.returns-in-Some-clause-after
returns-in-Some-clause-after g c = written-of _ _ _ _ _ (c.get_mut.follows.holds c.args.value).0 (to_z-of_z c.ranges.key)

pub returns-in-None-clause-was : goal.returns-in-None-clause-was
returns-in-None-clause-was g c = found-of _ _ _ _ c.in-None.ensures.value (to_z-of_z c.ranges.key) refl

pub returns-in-None-clause-after : goal.returns-in-None-clause-after
returns-in-None-clause-after g c =
    ap (λ m. m.entries) c.get_mut.follows.holds-at-none ∙ sym (with-none _ c.args.key c.args.value (sym (found-of _ _ _ _ c.in-None.ensures.value (to_z-of_z c.ranges.key) refl)))

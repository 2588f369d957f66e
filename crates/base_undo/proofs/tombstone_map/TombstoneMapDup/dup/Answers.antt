use Rattle.std.proofs.Common.{◌≡◌, ◌∙◌, sym, subst}
use Rattle.std.proofs.lemmas.Map.Entries.{entries_from_clone}
use Rattle.base_undo.specs.Entries.{Ascend}
use Rattle.base_undo.proofs.Keeping.{cloned}
use Rattle.base_undo.proofs.tombstone_map.TombstoneMapDup.dup.Goals as goal

pub invariant_of-result : goal.invariant_of-result
invariant_of-result g c =
    let same : c.in_ok-slots.slots.entries ≡ c.self.inside.slots.entries =
    entries_from_clone _ _ (λ x y e. e) (cloned _ (λ x d. d) (λ x d. d) (λ x y d. g.met.V.Value.exact x y d)) c.self.inside.slots.entries c.in_ok-slots.slots.entries c.in_ok-slots.ensures.cases in
    subst Ascend (sym same) c.self.invariant

pub returns : goal.returns
returns g c =
    let same : c.in_ok-slots.slots.entries ≡ c.self.inside.slots.entries =
    entries_from_clone _ _ (λ x y e. e) (cloned _ (λ x d. d) (λ x d. d) (λ x y d. g.met.V.Value.exact x y d)) c.self.inside.slots.entries c.in_ok-slots.slots.entries c.in_ok-slots.ensures.cases in
    same ∙ c.self.view_is

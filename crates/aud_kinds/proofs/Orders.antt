-- The order of sets, which are kept as entries.
use Rattle.std.specs.Prelude.{◌≡◌, ℤ, List, [], ◌∷◌}
use Rattle.std.proofs.Common.{refl, sym, ◌∙◌}
use Rattle.std.specs.declared.cmp.Ordering.{Ordering}
use Rattle.std.specs.declared.cmp.Ordering.TheVariants.{Less, Equal, Greater}
use Rattle.std.specs.Ordering.{int_cmp, ordering_then}
use Rattle.std.specs.Cmp.Lexicographic.{slice_cmp}
use Rattle.std.specs.Map.{keys_of}
use Rattle.base_undo.specs.Entries.{entry_cmp}
use Rattle.aud_kinds.specs.Objects.{set_of}
use Rattle.aud_kinds.specs.Orders.{state_cmp}

-- entries with nothing under their keys are ordered as their keys are
pub keys_order : (es fs : List (ℤ × Unit {0})) → slice_cmp (entry_cmp (λ _ _. Equal)) es fs ≡ slice_cmp int_cmp (keys_of es) (keys_of fs)
keys_order [] [] = refl
keys_order [] (f ∷ fs) = refl
keys_order (e ∷ es) [] = refl
keys_order (e ∷ es) (f ∷ fs) = then_same (int_cmp e.0 f.0) (keys_order es fs)
  where
    then_same : (o : Ordering) {p q : Ordering} → p ≡ q → ordering_then (ordering_then o Equal) p ≡ ordering_then o q
    then_same Less h = refl
    then_same Equal h = h
    then_same Greater h = refl

then_tied : (o : Ordering) → ordering_then o Equal ≡ o
then_tied Less = refl
then_tied Equal = refl
then_tied Greater = refl

-- sets that are kept as keys with nothing under them are ordered as those entries are
pub sets_order : (es fs : List (ℤ × Unit {0})) → slice_cmp (entry_cmp (λ _ _. Equal)) es fs ≡ state_cmp (set_of (keys_of es)) (set_of (keys_of fs))
sets_order es fs = keys_order es fs ∙ sym (then_tied (slice_cmp int_cmp (keys_of es) (keys_of fs)))

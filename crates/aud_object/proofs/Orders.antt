-- Laws of the order of states.
use Rattle.std.specs.Prelude.{◌≡◌, ℤ, [], ◌∷◌}
use Rattle.std.proofs.Common.{ap, ◌∙◌}
use Rattle.std.specs.Ordering.{int_cmp, nat_cmp, ordering_then}
use Rattle.std.specs.Cmp.{IsTotalOrder}
use Rattle.std.specs.Cmp.Lexicographic.{slice_cmp}
use Rattle.std.specs.FinMap.{IsAntisymmetric, int_cmp-IsAntisymmetric, nat_cmp-IsAntisymmetric, slice_cmp-IsAntisymmetric}
use Rattle.std.proofs.lemmas.Cmp.{int_cmp_total, nat_cmp_total, lists_total, on_total, then_total, tied_itself}
use Rattle.base_values.specs.Exact.{both_tie}
use Rattle.base_undo.specs.Entries.{entry_cmp}
use Rattle.aud_kinds.specs.Objects.{ObjState, register, counter, set_of, queue, map_of}
use Rattle.aud_kinds.specs.Orders.{place_of, numbers_of, entries_of, state_cmp}
use Rattle.aud_object.specs.Orders.{StoresAreOrdered}

entries_total : IsTotalOrder (entry_cmp int_cmp)
entries_total = then_total (on_total (λ e. e.0) int_cmp_total) (on_total (λ e. e.1) int_cmp_total)

states_total : IsTotalOrder state_cmp
states_total = then_total (on_total place_of nat_cmp_total) (then_total (on_total numbers_of (lists_total int_cmp_total)) (on_total entries_of (lists_total entries_total)))

pair_same : (d e : ℤ × ℤ) → d.0 ≡ e.0 → d.1 ≡ e.1 → d ≡ e
pair_same (a, b) (c, d) p q = ap (λ x. (x, b)) p ∙ ap (λ y. (c, y)) q

entries_exact : IsAntisymmetric (entry_cmp int_cmp)
entries_exact d e h =
    let both = both_tie (int_cmp d.0 e.0) (int_cmp d.1 e.1) h in
    pair_same d e (int_cmp-IsAntisymmetric _ _ both.0) (int_cmp-IsAntisymmetric _ _ both.1)

first_of : (v w : ℤ) → v ∷ [] ≡ w ∷ [] → v ≡ w
first_of v w h = cc

-- states of one kind, with the same numbers and entries, are the same
one_state : (s t : ObjState) → place_of s ≡ place_of t → numbers_of s ≡ numbers_of t → entries_of s ≡ entries_of t → s ≡ t
one_state (register v) (register w) p n e = ap register (first_of v w n)
one_state (counter v) (counter w) p n e = ap counter (first_of v w n)
one_state (set_of s) (set_of t) p n e = ap set_of n
one_state (queue s) (queue t) p n e = ap queue n
one_state (map_of s) (map_of t) p n e = ap map_of e
one_state _ _ p n e = cc

states_exact : IsAntisymmetric state_cmp
states_exact s t h =
    let kinds = both_tie (nat_cmp (place_of s) (place_of t)) (ordering_then (slice_cmp int_cmp (numbers_of s) (numbers_of t)) (slice_cmp (entry_cmp int_cmp) (entries_of s) (entries_of t))) h in
    let parts = both_tie (slice_cmp int_cmp (numbers_of s) (numbers_of t)) (slice_cmp (entry_cmp int_cmp) (entries_of s) (entries_of t)) kinds.1 in
    one_state s t (nat_cmp-IsAntisymmetric _ _ kinds.0) (slice_cmp-IsAntisymmetric int_cmp-IsAntisymmetric _ _ parts.0) (slice_cmp-IsAntisymmetric entries_exact _ _ parts.1)

pub stores_are_ordered : StoresAreOrdered
stores_are_ordered = (lists_total states_total, slice_cmp-IsAntisymmetric states_exact, tied_itself (lists_total states_total))

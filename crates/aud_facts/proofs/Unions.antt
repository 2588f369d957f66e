-- Unions of sorted lists.
use Rattle.std.proofs.Common.{◌||◌, sym, ap, ◌∙◌}
use Rattle.std.specs.declared.cmp.Ordering.{Ordering}
use Rattle.std.specs.Cmp.{IsTotalOrder}
use Rattle.base_values.specs.Exact.{IsExact}
use Rattle.base_sorted.specs.Sets.{has, union}
use Rattle.base_sorted.specs.Sorted.{has-union, sorted_union, same_sorted}
use Rattle.base_sorted.proofs.Pours.{union_swap}
use Rattle.aud_facts.specs.Joins.{UnionsCommute, UnionsAssociate, UnionsRepeat}
use Rattle.base_values.proofs.Bools.{or_assoc, or_same}

module _ {T : Type 0} {R : T → T → Ordering} (o : IsTotalOrder R) (ex : IsExact R) where
  pub unions_commute : UnionsCommute R
  unions_commute xs ys s t = union_swap o ex ys xs t s

  pub unions_associate : UnionsAssociate R
  unions_associate xs ys zs s t u =
      same_sorted o ex _ _ (sorted_union o (union R xs ys) zs u) (sorted_union o xs (union R ys zs) (sorted_union o ys zs u))
      (λ q. has-union o (union R xs ys) zs q
      ∙ ap (λ b. b || has R zs q) (has-union o xs ys q)
      ∙ or_assoc (has R xs q) (has R ys q) (has R zs q)
      ∙ ap (λ b. has R xs q || b) (sym (has-union o ys zs q))
      ∙ sym (has-union o xs (union R ys zs) q))

  pub unions_repeat : UnionsRepeat R
  unions_repeat xs s = same_sorted o ex _ _ (sorted_union o xs xs s) s (λ q. has-union o xs xs q ∙ or_same (has R xs q))

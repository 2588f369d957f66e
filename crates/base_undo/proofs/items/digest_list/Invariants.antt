use Rattle.std.proofs.Common.{◌≡◌, drop}
use Rattle.base_undo.specs.Digests.{digest_values}
use Rattle.base_undo.proofs.items.digest_list.Given as goal

abbrev pub invariant-loop-value : goal.invariant-loop-value
invariant-loop-value l = digest_values l.digest (drop l.value-index l.values) ≡ digest_values l.fn.start l.values

use Rattle.std.proofs.Common.{◌≡◌, ◌++◌, length, map, string_bytes}
use Rattle.cli_words.specs.Orders.{order_joined}
use Rattle.cli_words.proofs.order_text.order_joined.Given as goal

abbrev pub invariant-loop-word : goal.invariant-loop-word
invariant-loop-word l = map string_bytes l.all.items ++ order_joined (map string_bytes l.left) ≡ order_joined (map string_bytes l.fn.words)

abbrev pub decreases-loop-word : goal.decreases-loop-word
decreases-loop-word l = length l.left

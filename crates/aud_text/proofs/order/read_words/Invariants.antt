use Rattle.std.proofs.Common.{◌≡◌, length, option_map}
use Rattle.aud_text.specs.Orders.{words_of, words_left, words_read}
use Rattle.aud_text.proofs.Words.{so_far}
use Rattle.aud_text.proofs.order.read_words.Given as goal

abbrev pub invariant-loop-rest : goal.invariant-loop-rest
invariant-loop-rest g l = words_read (words_of l.fn.text) ≡ so_far l.decisions.items l.is_known (words_read (words_left (option_map (λ r. r.now) l.rest)))

abbrev pub decreases-loop-rest : goal.decreases-loop-rest
decreases-loop-rest g l = length (words_left (option_map (λ r. r.now) l.rest))

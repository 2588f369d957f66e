use Rattle.std.proofs.Common.{◌≡◌, ◌-◌, ℕ, List, take, drop, length, refl, arith}
use Rattle.std.proofs.lemmas.Grind.{common_steps}
use Rattle.aud_text.proofs.OrderText.{first_of_more, only_word}
use Rattle.aud_text.proofs.order.first_word.Goals as goal

all_left : (k : ℕ) (s : List ℕ) → take (length s - k) (drop k s) ≡ drop k s
all_left k s = grind (arith, common_steps)

pub returns-in-Some-clause-words : goal.returns-in-Some-clause-words
returns-in-Some-clause-words c = rw all_left (first_of_more c.args.text.now _ c.in-Some.end refl c.in-Some.ensures)

pub returns-in-None-clause-words : goal.returns-in-None-clause-words
returns-in-None-clause-words c = only_word c.args.text.now _ refl c.in-None.ensures

-- Prefixes as the keys of a table, and the number that each is hashed by.
use Rattle.std.specs.Prelude.{◌≡◌, ℕ, ◌+◌, ◌*◌, ◌%◌, ◌^◌, List, true}
use Rattle.std.specs.Cmp.{Equal-is}
use Rattle.std.specs.Cmp.Lexicographic.{slice_cmp}
use Rattle.std.specs.Hash.{HashWrites, u64}
use Rattle.std.specs.Int.Bits.{bit_xor}
use Rattle.std.specs.List.{fold}
use Rattle.std.specs.Ordering.{eq_by_cmp}
use Rattle.aud_witness.specs.declared.decision.Fate.{Fate}
use Rattle.aud_witness.specs.declared.decision.Fate.TheVariants.{C, A}
use Rattle.aud_witness.specs.declared.decision.Decision.{Decision}
use Rattle.aud_witness.specs.DecisionOrder.{decision_cmp, prefix_exact}

abbrev pub numbered : ℕ → Fate → ℕ
numbered tx C = tx * 2
numbered tx A = tx * 2 + 1

-- a number of its own for each decision
abbrev pub number_of : Decision → ℕ
number_of d = numbered d.tx d.fate

-- the number of a prefix, with one decision more
unfoldable pub stirred : ℕ → Decision → ℕ
stirred sum d = (bit_xor sum (number_of d) * 11400714819323198485) % 2 ^ 64

abbrev pub sum_of : List Decision → ℕ
sum_of = fold stirred 0

-- what a prefix feeds a hasher
abbrev pub sum_input : List Decision → HashWrites
sum_input ds = u64 (sum_of ds)

pub same_sum : (x y : List Decision) → eq_by_cmp (slice_cmp decision_cmp) x y ≡ true → sum_input x ≡ sum_input y
same_sum x y e i = sum_input (prefix_exact x y ((Equal-is (slice_cmp decision_cmp x y)).0 e) i)

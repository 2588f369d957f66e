-- What decisions and prefixes feed a hasher: equal prefixes the same.
use Rattle.std.specs.Prelude.{◌≡◌, List, true}
use Rattle.std.specs.Cmp.{Equal-is}
use Rattle.std.specs.Cmp.Lexicographic.{slice_cmp}
use Rattle.std.specs.Hash.{HashWrites, slice}
use Rattle.std.specs.Ordering.{eq_by_cmp}
use Rattle.aud_witness.specs.declared.decision.Decision.{Decision}
use Rattle.aud_witness.specs.contracts.decision.DecisionHash.TheImpl as decision_hash
use Rattle.aud_witness.specs.DecisionOrder.{decision_cmp, prefix_exact}

-- how many there are, and then each
abbrev pub list_input : List Decision → HashWrites
list_input = slice decision_hash.ghosts.hash_input

pub same_input : (x y : List Decision) → eq_by_cmp (slice_cmp decision_cmp) x y ≡ true → list_input x ≡ list_input y
same_input x y e i = list_input (prefix_exact x y ((Equal-is (slice_cmp decision_cmp x y)).0 e) i)

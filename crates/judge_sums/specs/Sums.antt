-- Sums over transactions.
use Rattle.std.specs.Prelude.{ℕ, ℤ, pos, ◌+ℤ◌, Bool, ◌&&◌, if◌then◌else◌, nat_eq, List, [], ◌∷◌}
use Rattle.aud_history.specs.Histories.{History}
use Rattle.aud_history.specs.Table.{transactions}
use Rattle.aud_witness.specs.declared.decision.Decision.{Decision}
use Rattle.aud_witness.specs.Orders.{is_kept, stands_before}
use Rattle.judge_clauses.specs.Clauses.{is_kept_in}

-- over those that an order names
abbrev pub sum_over : (ℕ → ℤ) → List Decision → ℤ
sum_over g [] = pos 0
sum_over g (d ∷ p) = g d.tx +ℤ sum_over g p

abbrev pub sum_of : (ℕ → ℤ) → List ℕ → ℤ
sum_of g [] = pos 0
sum_of g (t ∷ ts) = g t +ℤ sum_of g ts

-- what those with fate C before R in p come to together
abbrev pub gain : (ℕ → ℤ) → List Decision → ℕ → ℤ
gain w [] r = pos 0
gain w (d ∷ p) r = if nat_eq d.tx r then pos 0 else (if is_kept d then w d.tx else pos 0) +ℤ gain w p r

-- whether T counts for R in p: it has fate C, and stands before
abbrev pub counts : List Decision → ℕ → ℕ → Bool
counts p r t = is_kept_in p t && stands_before p t r

-- what T comes to for R in p
abbrev pub share : (ℕ → ℤ) → List Decision → ℕ → ℕ → ℤ
share w p r t = if counts p r t then w t else pos 0

-- what all transactions of H come to for R in p
abbrev pub total : History → (ℕ → ℤ) → List Decision → ℕ → ℤ
total h w p r = sum_of (share w p r) (transactions h)

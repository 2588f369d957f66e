-- Where a cursor stays that could not go to a prefix.
use Rattle.std.specs.Prelude.{◌≡◌, ◌<◌, ◌+◌, ℕ, List, length, take}
use Rattle.aud_event.specs.Meanings.{Declared}
use Rattle.aud_history.specs.Histories.{History}
use Rattle.aud_witness.specs.declared.decision.Decision.{Decision}
use Rattle.aud_witness.specs.Orders.{IsGood}

-- at a good beginning of the prefix, which is not good with the next decision
pub record StaysBefore (objects : List Declared) (h : History) (decisions path : List Decision) : Type 0 where
  pub place : ℕ
  pub inside : place < length decisions
  pub there : path ≡ take place decisions
  pub good : IsGood objects h path
  pub bad : IsGood objects h (take (place + 1) decisions) → ⊥

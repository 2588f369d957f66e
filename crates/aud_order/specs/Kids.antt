-- The good extensions of a prefix by one decision.
use Rattle.std.specs.Prelude.{◌↔◌, ℕ, List, [], ◌∷◌, filter}
use Rattle.std.specs.List.{Contains, flat_map}
use Rattle.std.specs.List.Sorted.{IsSorted, IsPermutation}
use Rattle.aud_event.specs.Meanings.{Declared}
use Rattle.aud_history.specs.Histories.{History}
use Rattle.aud_witness.specs.declared.decision.Fate.TheVariants.{C, A}
use Rattle.aud_witness.specs.declared.decision.Decision.{Decision}
use Rattle.aud_witness.specs.DecisionOrder.{decision_cmp}
use Rattle.aud_witness.specs.Orders.{IsGoodNext}
use Rattle.aud_witness.specs.OrderFaults.{is_good_next, kids}
use Rattle.aud_order.specs.Cursors.{CursorOf}
use Rattle.aud_order.specs.Shapes.{objects_of, history_of}

-- both fates of a transaction
abbrev pub both_fates : ℕ → List Decision
both_fates t = record { tx = t; fate = C } ∷ record { tx = t; fate = A } ∷ []

-- the decisions on some transactions that are good after p
abbrev pub goods : List Declared → History → List Decision → List ℕ → List Decision
goods objects h p ts = filter (is_good_next objects h p) (flat_map both_fates ts)

-- the same after the prefix of a cursor
abbrev pub goods_at : CursorOf → List ℕ → List Decision
goods_at c ts = goods (objects_of c.shape) (history_of c.shape) c.path ts

-- exactly the decisions that are good after p, each once, the least first
pub record AreKids (objects : List Declared) (h : History) (p : List Decision) (ks : List Decision) : Type 0 where
  pub each : (d : Decision) → Contains ks d ↔ IsGoodNext objects h p d
  pub once : IsPermutation (kids objects h p) ks
  pub rising : IsSorted decision_cmp ks

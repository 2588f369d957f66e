-- What may be moved in a prefix, and what decides what may follow it.
use Rattle.std.specs.Prelude.{◌≡◌, ℕ, if◌then◌else◌, nat_eq, List, [], ◌∷◌, ◌++◌, map, Some}
use Rattle.aud_event.specs.Meanings.{PlanOf}
use Rattle.aud_kinds.specs.Objects.{opening_of}
use Rattle.aud_object.specs.Executions.{states_after}
use Rattle.aud_history.specs.Histories.{History}
use Rattle.aud_history.specs.WellFormed.{IsWellFormed}
use Rattle.aud_history.specs.FirstFault.{IsWithinLimits}
use Rattle.aud_witness.specs.declared.decision.Decision.{Decision}
use Rattle.aud_witness.specs.Orders.{is_named, kept, Shows, IsGood, IsGoodNext}
use Rattle.aud_order.specs.Silent.{silent_fate}

-- the prefix without the first decision on T
abbrev pub without : ℕ → List Decision → List Decision
without t [] = []
without t (d ∷ p) = if nat_eq d.tx t then p else d ∷ without t p

-- A silent transaction that is good after p with its silent fate can be moved from any later place, whatever fate it has
-- there, to the place after p with its silent fate, and the prefix still shows.
abbrev pub SilentMovesForward : Type 0
SilentMovesForward = (plan : PlanOf) (h : History) (p q : List Decision) (d : Decision) → IsWellFormed h → IsWithinLimits plan h →
    silent_fate h d.tx ≡ Some d.fate → IsGoodNext plan.objects h p d → Shows plan.objects h (p ++ q) → Shows plan.objects h ((p ++ d ∷ []) ++ without d.tx q)

-- after two good prefixes that name the same transactions and leave the same states, the same shows
abbrev pub ConfigurationsDecide : Type 0
ConfigurationsDecide = (plan : PlanOf) (h : History) (p q rest : List Decision) → IsWellFormed h → IsWithinLimits plan h → IsGood plan.objects h p → IsGood plan.objects h q →
    ((t : ℕ) → is_named p t ≡ is_named q t) → states_after (map opening_of plan.objects) (kept h p) ≡ states_after (map opening_of plan.objects) (kept h q) →
    Shows plan.objects h (p ++ rest) → Shows plan.objects h (q ++ rest)

-- Decisions placed in turn by the rows of the table, and what that says of the prefix.
use Rattle.std.specs.Prelude.{◌≡◌, ◌↔◌, Bool, true, List, [], ◌∷◌, Option, Some, None, Ok, Err, is_some}
use Rattle.std.specs.List.{list_all}
use Rattle.aud_event.specs.Meanings.{PlanOf}
use Rattle.aud_history.specs.Histories.{History}
use Rattle.aud_history.specs.WellFormed.{IsWellFormed}
use Rattle.aud_history.specs.FirstFault.{IsWithinLimits}
use Rattle.aud_history.specs.Table.{RowOf, table_of}
use Rattle.aud_witness.specs.declared.decision.Decision.{Decision}
use Rattle.aud_witness.specs.declared.fault.OrderFault.{OrderFault}
use Rattle.aud_witness.specs.declared.fault.OrderFault.TheVariants.{Missing}
use Rattle.aud_witness.specs.OrderFaults.{least_tx}
use Rattle.aud_witness.specs.Orders.{Shows, IsGood}
use Rattle.aud_witness.specs.Configurations.{Configuration, first_configuration, stepped, unplaced}

-- where the decisions lead, if each can be placed in turn
abbrev pub walked : List RowOf → Configuration → List Decision → Option Configuration
walked rows s [] = Some s
walked rows s (d ∷ p) = elim (stepped rows s d) [ Err _ ↦ None | Ok t ↦ walked rows t p ]

-- what is wrong with the first decision that cannot be placed in turn, or with what is left out
abbrev pub walk_fault : List RowOf → Configuration → List Decision → Option OrderFault
walk_fault rows s [] = elim (least_tx (unplaced rows s.placed)) [ None ↦ None | Some t ↦ Some (Missing t) ]
walk_fault rows s (d ∷ p) = elim (stepped rows s d) [ Err fault ↦ Some fault | Ok t ↦ walk_fault rows t p ]

-- every row is placed
abbrev pub are_all_placed : Configuration → Bool
are_all_placed s = list_all (λ b. b) s.placed

-- what can be placed is what is good, and what is placed whole shows
pub record WalksSay (plan : PlanOf) (h : History) : Type 0 where
  pub good : (p : List Decision) → (is_some (walked (table_of h) (first_configuration (table_of h) plan.objects) p) ≡ true) ↔ IsGood plan.objects h p
  pub shows : (p : List Decision) →
      Shows plan.objects h p ↔ ((s : Configuration) × ((walked (table_of h) (first_configuration (table_of h) plan.objects) p ≡ Some s) × (are_all_placed s ≡ true)))

abbrev pub WalksAreGood : Type 0
WalksAreGood = (plan : PlanOf) (h : History) → IsWellFormed h → IsWithinLimits plan h → WalksSay plan h

-- Facts that conflict nowhere.
use Rattle.std.specs.Prelude.{◌≡◌, ◌↔◌, ℕ, false, List}
use Rattle.std.specs.List.{Contains}
use Rattle.aud_event.specs.Meanings.{PlanOf}
use Rattle.aud_event.specs.declared.fact.Fact.{Fact}
use Rattle.aud_facts.specs.declared.status.Kind.{Kind}
use Rattle.aud_facts.specs.declared.status.FactStatus.TheVariants.{Sealed}
use Rattle.aud_facts.specs.Clashes.{clashes}
use Rattle.aud_facts.specs.Growth.{IsConflict}
use Rattle.aud_facts.specs.Order.{AreOrdered}
use Rattle.aud_facts.specs.Sets.{AreSound}
use Rattle.aud_facts.specs.Status.{fact_status}

-- no two of the facts clash
abbrev pub AreQuiet : List Fact → Type 0
AreQuiet facts = (k : Kind) (f g : Fact) → Contains facts f → Contains facts g → clashes k f g ≡ false

-- each of the facts is among others
abbrev pub AreAmong : List Fact → List Fact → Type 0
AreAmong xs ys = (f : Fact) → Contains xs f → Contains ys f

-- facts conflict nowhere exactly where their status is no conflict
abbrev pub QuietIsNoConflict : Type 0
QuietIsNoConflict = (logs : ℕ) (facts : List Fact) → AreQuiet facts ↔ (IsConflict (fact_status logs facts) → ⊥)

-- a part of facts that conflict nowhere conflicts nowhere
abbrev pub PartsAreQuiet : Type 0
PartsAreQuiet = (xs ys : List Fact) → AreAmong xs ys → AreQuiet ys → AreQuiet xs

-- a sealed set among facts that conflict nowhere is all of them
abbrev pub SealedIsAll : Type 0
SealedIsAll =
    (plan : PlanOf) (xs ys : List Fact) → AreOrdered xs → AreOrdered ys → AreSound plan ys →
    fact_status plan.logs xs ≡ Sealed → AreAmong xs ys → AreQuiet ys → ys ≡ xs

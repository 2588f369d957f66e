-- Laws on names and numbers of objects, and on formats.
use Rattle.std.specs.Prelude.{◌≡◌, ℕ, true, List, None, Some, slice_get}
use Rattle.aud_event.specs.Meanings.{Declared}
use Rattle.aud_event.specs.Plans.{names_differ, number_of, plan_of}
use Rattle.aud_event.specs.Facts.{first_fact_fault}
use Rattle.aud_event.specs.declared.fact.Fact.{Fact}
use Rattle.aud_event.specs.declared.signature.Format.TheVariants.{One, Two}

abbrev pub NumberIsOwn : Type 0
NumberIsOwn =
    (objects : List Declared) (i : ℕ) (d : Declared) → names_differ objects ≡ true → slice_get objects i ≡ Some d →
    number_of d.name objects ≡ Some i

abbrev pub NumberedIsThere : Type 0
NumberedIsThere =
    (objects : List Declared) (name : List ℕ) (i : ℕ) → number_of name objects ≡ Some i →
    (d : Declared) × ((slice_get objects i ≡ Some d) × (d.name ≡ name))

-- a fact that fits a plan in the first format fits the same plan in the second
abbrev pub NoFormatHasMore : Type 0
NoFormatHasMore =
    (logs : ℕ) (objects : List Declared) (f : Fact) → first_fact_fault (plan_of One logs objects) f ≡ None → first_fact_fault (plan_of Two logs objects) f ≡ None

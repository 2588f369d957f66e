-- The history of a sealed set is within the limits of histories.
use Rattle.std.proofs.Common.{◌≡◌, ℕ, zero, suc, ◌<◌, ◌≤◌, inl, inr, List, [], ◌∷◌, length, replicate, refl, sym, ap, ◌∙◌, arith}
use Rattle.std.specs.Prelude.{Bool, true, false, if◌then◌else◌, Option, Some, None, All, nat_le, nat_lt, nat_eq}
use Rattle.std.specs.List.{AllByRecursion}
use Rattle.std.proofs.lemmas.Bool.{cases_lt}
use Rattle.std.proofs.lemmas.List.{length-replicate}
use Rattle.std.proofs.lemmas.List.Elements.{All-nil, All-cons, All-append}
use Rattle.aud_event.specs.declared.limits.TheConstants.{LOGS_MAX, STAMPS, PLACES}
use Rattle.aud_event.specs.Limits.{transactions}
use Rattle.aud_event.specs.declared.fact.Event.{Event}
use Rattle.aud_event.specs.declared.fact.Event.TheVariants.{TryC}
use Rattle.aud_event.specs.declared.fact.FactFault.{FactFault}
use Rattle.aud_event.specs.declared.fact.Record.{Record}
use Rattle.aud_event.specs.declared.fact.Fact.{Fact}
use Rattle.aud_event.specs.declared.fact.Fact.TheVariants.{Rec, End}
use Rattle.aud_event.specs.Facts.{first_fact_fault}
use Rattle.aud_event.specs.declared.plan.PlanFault.{PlanFault}
use Rattle.aud_event.specs.Meanings.{PlanOf}
use Rattle.aud_event.specs.Plans.{first_plan_fault}
use Rattle.aud_history.specs.FirstFault.{FitsPlan, IsWithinLimits}
use Rattle.aud_facts.specs.declared.status.FactStatus.TheVariants.{Sealed}
use Rattle.aud_facts.specs.Order.{AreOrdered}
use Rattle.aud_facts.specs.Sets.{AreSound}
use Rattle.aud_facts.specs.Status.{fact_status, hist, events_at, events_below, is_record, is_missing, count}
use Rattle.aud_facts.specs.Scans.{IsWithin, AreWithin}
use Rattle.aud_facts.proofs.Lists.{missing_beyond}
use Rattle.aud_facts.proofs.Sealing.{IsSealed, sealed_says, none_below, length-placed, placed_is}

-- a test that reported nothing failed, and what comes after it reported nothing
unreported : (b : Bool) (x : FactFault) (o : Option FactFault) → (if b then Some x else o) ≡ None → (b ≡ false) × (o ≡ None)
unreported true x o e = cc
unreported false x o e = (refl, e)

under : (a b : ℕ) → nat_le b a ≡ false → a < b
under a b e = grind (arith, e)

record_fits : (plan : PlanOf) (r : Record) → first_fact_fault plan (Rec r) ≡ None → FitsPlan plan (r.tx, r.event)
record_fits plan r e =
    let log = unreported (nat_le plan.logs r.log) _ _ e in
    let at = unreported (nat_le PLACES r.at) _ _ log.1 in
    let stamp = unreported (nat_le STAMPS r.stamp) _ _ at.1 in
    let tx = unreported (nat_le (transactions plan.format) r.tx) _ _ stamp.1 in
    (under r.tx (transactions plan.format) tx.0, tx.1)

logs_few : (plan : PlanOf) → first_plan_fault plan ≡ None → plan.logs ≤ LOGS_MAX
logs_few plan e =
    let some = reported_not (nat_eq plan.logs 0) _ _ e in
    grind (arith, reported_false (nat_lt LOGS_MAX plan.logs) _ _ some)
  where
    reported_not : (b : Bool) (x : PlanFault) (o : Option PlanFault) → (if b then Some x else o) ≡ None → o ≡ None
    reported_not true x o e = cc
    reported_not false x o e = e

    reported_false : (b : Bool) (x : PlanFault) (o : Option PlanFault) → (if b then Some x else o) ≡ None → b ≡ false
    reported_false true x o e = cc
    reported_false false x o e = refl

fact_within : (plan : PlanOf) (f : Fact) → plan.logs ≤ LOGS_MAX → first_fact_fault plan f ≡ None → IsWithin f
fact_within plan (Rec r) few e =
    let log = unreported (nat_le plan.logs r.log) _ _ e in
    let at = unreported (nat_le PLACES r.at) _ _ log.1 in
    let stamp = unreported (nat_le STAMPS r.stamp) _ _ at.1 in
    let below = under r.log plan.logs log.0 in
    (omega arith, under r.at PLACES at.0, under r.stamp STAMPS stamp.0)
fact_within plan (End g) few e =
    let log = unreported (nat_le plan.logs g.log) _ _ e in
    let count = unreported (nat_lt PLACES g.count) _ _ log.1 in
    let below = under g.log plan.logs log.0 in
    (omega arith, grind (arith, count.0))

all_within : (plan : PlanOf) (xs : List Fact) → plan.logs ≤ LOGS_MAX → AreSound plan xs → AreWithin xs
all_within plan [] few a = tt
all_within plan (x ∷ xs) few a = (fact_within plan x few a.0, all_within plan xs few a.1)

-- facts that fit a plan are within the limits
pub sound_within : (plan : PlanOf) (xs : List Fact) → first_plan_fault plan ≡ None → AreSound plan xs → AreWithin xs
sound_within plan xs e a = all_within plan xs (logs_few plan e) a

-- what holds at each place holds of each in turn
pub by_recursion : {K : Type 0} (P : K → Type 0) (xs : List K) → All P xs → AllByRecursion P xs
by_recursion P [] a = tt
by_recursion P (x ∷ xs) a = (a 0 x (omega arith), by_recursion P xs (λ k d lt. a (suc k) d (omega (arith, lt))))

one_fits : (P : ℕ × Event → Type 0) (b : Bool) (x : ℕ × Event) (es : List (ℕ × Event)) → P x → All P es → All P (if b then x ∷ es else es)
one_fits P true x es p a = All-cons P x es p a
one_fits P false x es p a = a

all_at : (plan : PlanOf) (s : ℕ) (xs : List Fact) → AreSound plan xs → All (FitsPlan plan) (events_at s xs)
all_at plan s [] a = All-nil (FitsPlan plan)
all_at plan s (Rec r ∷ xs) a = one_fits (FitsPlan plan) (nat_eq r.stamp s) (r.tx, r.event) (events_at s xs) (record_fits plan r a.0) (all_at plan s xs a.1)
all_at plan s (End g ∷ xs) a = all_at plan s xs a.1

all_below : (plan : PlanOf) (n : ℕ) (xs : List Fact) → AreSound plan xs → All (FitsPlan plan) (events_below n xs)
all_below plan zero xs a = All-nil (FitsPlan plan)
all_below plan (suc n) xs a = All-append (FitsPlan plan) (events_below n xs) (events_at n xs) (all_below plan n xs a) (all_at plan n xs a)

-- stamps are below their number, and below the limit, so there are no more than the limit
few : (logs : ℕ) (facts : List Fact) → AreWithin facts → IsSealed logs facts → count is_record facts ≤ STAMPS
few logs facts w s = elim (cases_lt STAMPS (count is_record facts)) [
  | inl over ↦ absurd (differ (sym (missing_beyond facts STAMPS w (omega arith)) ∙ none_below (is_missing facts) (count is_record facts) s.no_gap STAMPS over))
  | inr within ↦ within
]
  where
    differ : true ≡ false → ⊥
    differ e = cc

hist_long : (logs : ℕ) (facts : List Fact) → AreOrdered facts → fact_status logs facts ≡ Sealed → length (hist facts) ≡ count is_record facts
hist_long logs facts o e =
    let slots : List (ℕ × Event) = replicate (count is_record facts) (0, TryC) in
    sym (ap length (placed_is logs facts o e)) ∙ (length-placed slots facts ∙ length-replicate (count is_record facts) (0, TryC))

pub within_limits : (plan : PlanOf) (facts : List Fact) → AreOrdered facts → AreSound plan facts → AreWithin facts → fact_status plan.logs facts ≡ Sealed → IsWithinLimits plan (hist facts)
within_limits plan facts o a w e =
    let long = hist_long plan.logs facts o e in
    let most = few plan.logs facts w (sealed_says plan.logs facts e) in
    (omega (arith, long, most), all_below plan (count is_record facts) facts a)

-- A fact that is read passes the plan's check.
use Rattle.std.proofs.Common.{◌≡◌, ℕ, List, Bool, true, false, cond, Option, Some, None, Result, Ok, Err, refl, subst}
use Rattle.serde_json.specs.Data.{Data, Members}
use Rattle.serde_json.specs.Find.{as_object}
use Rattle.aud_event.specs.Meanings.{PlanOf}
use Rattle.aud_event.specs.Facts.{first_fact_fault}
use Rattle.aud_event.specs.declared.fact.Fact.{Fact}
use Rattle.aud_event.specs.declared.fact.FactFault.{FactFault}
use Rattle.aud_json.specs.declared.fault.TextFault.{TextFault}
use Rattle.aud_text.specs.Json.{json_read}
use Rattle.aud_json.specs.Keys.{has_all, has_only}
use Rattle.aud_text.specs.FactText.{fact_read, judged_json}
use Rattle.aud_json.specs.Judged.{judged_members, fact_or_word, fact_of, checked, shape_of, required, allowed, types_fit}
use Rattle.cli_input.specs.Inputs.{reported_at, fact_at}
use Rattle.aud_text.specs.Limits.{longest_line}

module _ (plan : PlanOf) (g : Fact) where
  by_check : (f : Fact) (o : Option FactFault) → first_fact_fault plan f ≡ o → checked f o ≡ Ok g → first_fact_fault plan g ≡ None
  by_check f None is e = let same : f ≡ g = cc in subst (λ x. first_fact_fault plan x ≡ None) same is
  by_check f (Some x) is e = absurd (cc)

  by_word : (o : Option Fact) → fact_or_word plan o ≡ Ok g → first_fact_fault plan g ≡ None
  by_word None e = absurd (cc)
  by_word (Some f) e = by_check f (first_fact_fault plan f) refl e

  if_so : (b : Bool) (r : Result Fact TextFault) (x : TextFault) → cond b r (Err x) ≡ Ok g → r ≡ Ok g
  if_so true r x e = e
  if_so false r x e = absurd (cc)

  by_members : (d : Data) (o : Option Members) → judged_members plan d o ≡ Ok g → first_fact_fault plan g ≡ None
  by_members d None e = absurd (cc)
  by_members d (Some ms) e =
      by_word (fact_of plan d (shape_of plan.format d)) (if_so (types_fit d) _ _ (if_so (has_only (allowed plan.format (shape_of plan.format d)) ms) _ _ (if_so (has_all (required (shape_of plan.format d)) d) _ _ e)))

  by_json : (r : Result Data TextFault) → judged_json plan r ≡ Ok g → first_fact_fault plan g ≡ None
  by_json (Err x) e = absurd (cc)
  by_json (Ok d) e = by_members d (as_object d) e

  reported : (n : ℕ) (r : Result Fact TextFault) → reported_at n r ≡ Ok g → r ≡ Ok g
  reported n (Err x) e = absurd (cc)
  reported n (Ok f) e = cc

  pub read_passes : (n : ℕ) (line : List ℕ) → fact_at plan n line ≡ Ok g → first_fact_fault plan g ≡ None
  read_passes n line e = by_json (json_read longest_line line) (reported n (fact_read plan line) e)

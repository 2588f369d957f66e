-- A line that says a fact begins no certificate: no fact has the key `cert`.
use Rattle.std.proofs.Common.{◌≡◌, ℕ, List, Bool, true, false, cond, Option, Some, None, Result, Ok, Err, Ordering, Less, Equal, Greater, codes, is_some, option_and_then, bytes_eq, refl, ap, ◌∙◌, sym}
use Rattle.std.specs.Ordering.{nat_cmp, match_ordering}
use Rattle.std.specs.Cmp.Lexicographic.{slice_cmp}
use Rattle.std.proofs.lemmas.Map.Lookups.{exact_bytes}
use Rattle.serde_json.specs.Data.{Data, null, boolean, number, string, array, object, Members, no_members, member}
use Rattle.serde_json.specs.Find.{as_object, get_member}
use Rattle.aud_event.specs.Meanings.{PlanOf}
use Rattle.aud_event.specs.Objects.{signature_of}
use Rattle.aud_event.specs.Words.{op_of_word_in}
use Rattle.aud_event.specs.declared.signature.Format.{Format}
use Rattle.aud_event.specs.declared.signature.Format.TheVariants.{One, Two}
use Rattle.aud_event.specs.declared.signature.Takes.{Takes}
use Rattle.aud_event.specs.declared.signature.Takes.TheVariants as takes
use Rattle.aud_event.specs.declared.object.OpName.{OpName}
use Rattle.aud_event.specs.declared.fact.Fact.{Fact}
use Rattle.base_values.proofs.Bools.{and_true}
use Rattle.aud_json.specs.declared.fault.TextFault.{TextFault}
use Rattle.aud_text.specs.Json.{json_read}
use Rattle.aud_json.specs.Keys.{Key, has, has_all, has_only, is_one_of, word_at}
use Rattle.aud_text.specs.FactText.{fact_read, judged_json}
use Rattle.aud_json.specs.Judged.{judged_members, judged_as, shape_of, shape_of_ev, shape_of_event, argument_keys, operation_keys, all_keys, required, allowed}
use Rattle.cli_lines.specs.Evidences.{has_key, begins}
use Rattle.cli_lines.specs.declared.evidence.Evidence.TheVariants.{Certificate}
use Rattle.aud_text.specs.Limits.{longest_line}

module _ (x : Key) (ks : List Key) (other : is_one_of ks x ≡ false) where
  -- the key of a member that is one of the keys is not that key
  by_order : (k : Key) (d : Data) (o : Option Data) → is_one_of ks k ≡ true → is_some o ≡ false
      → (r : Ordering) → slice_cmp nat_cmp x k ≡ r → is_some (match_ordering r o (Some d) o) ≡ false
  by_order k d o mine none Less is = none
  by_order k d o mine none Greater is = none
  by_order k d o mine none Equal is =
      let clash : true ≡ false = sym mine ∙ ap (is_one_of ks) (sym (exact_bytes x k is)) ∙ other in absurd (cc)

  -- what is none of the keys that may stand does not stand in an object
  absent : (ms : Members) → has_only ks ms ≡ true → is_some (get_member x ms) ≡ false
  absent no_members only = refl
  absent (member k d ms) only =
      let both = and_true (is_one_of ks k) (has_only ks ms) only in
      by_order k d (get_member x ms) both.0 (absent ms both.1) (slice_cmp nat_cmp x k) refl

-- of two values that lack a property, each lacks it
either : {X : Type 0} (p : X → Bool) (b : Bool) (x y : X) → p x ≡ false → p y ≡ false → p (cond b x y) ≡ false
either p true x y first second = first
either p false x y first second = second

-- no fact has the key `cert`
abbrev lacks : List Key → Bool
lacks ks = is_one_of ks (codes "cert")

module _ (format : Format) (d : Data) where
  of_takes : (t : Takes) → lacks (argument_keys t operation_keys) ≡ false
  of_takes takes.Nothing = refl
  of_takes takes.Number = refl
  of_takes takes.Addend = refl
  of_takes takes.Pair = refl

  of_all : (f : Format) → lacks (all_keys f) ≡ false
  of_all One = refl
  of_all Two = refl

  of_op : (o : Option OpName) → option_and_then (op_of_word_in format) (word_at (codes "op") d) ≡ o → lacks (allowed format (shape_of_event format d (codes "inv"))) ≡ false
  of_op None is = rw is (of_all format)
  of_op (Some o) is = rw is (of_takes (signature_of o).takes)

  of_event : (w : List ℕ) → lacks (allowed format (shape_of_event format d w)) ≡ false
  of_event w =
      either (λ s. lacks (allowed format s)) (bytes_eq w (codes "inv")) _ _ (of_op (option_and_then (op_of_word_in format) (word_at (codes "op") d)) refl)
      (either (λ s. lacks (allowed format s)) (bytes_eq w (codes "ret")) _ _ refl
      (either (λ s. lacks (allowed format s)) (bytes_eq w (codes "tryc")) _ _ refl
      (either (λ s. lacks (allowed format s)) (bytes_eq w (codes "trya")) _ _ refl
      (either (λ s. lacks (allowed format s)) (bytes_eq w (codes "commit")) _ _ refl
      (either (λ s. lacks (allowed format s)) (bytes_eq w (codes "abort")) _ _ refl (of_all format))))))

  of_word : (o : Option (List ℕ)) → lacks (allowed format (shape_of_ev format d o)) ≡ false
  of_word None = of_all format
  of_word (Some w) = of_event w

  not_allowed : lacks (allowed format (shape_of format d)) ≡ false
  not_allowed = either (λ s. lacks (allowed format s)) (has (codes "end") d) _ _ refl (of_word (word_at (codes "ev") d))

module _ (plan : PlanOf) (f : Fact) where
  held : (b : Bool) (r : Result Fact TextFault) (x : TextFault) → cond b r (Err x) ≡ Ok f → (b ≡ true) × (r ≡ Ok f)
  held true r x e = (refl, e)
  held false r x e = absurd (cc)

  only : (d : Data) (ms : Members) → judged_as plan d ms (shape_of plan.format d) ≡ Ok f → has_only (allowed plan.format (shape_of plan.format d)) ms ≡ true
  only d ms e = (held (has_only (allowed plan.format (shape_of plan.format d)) ms) _ _ (held (has_all (required (shape_of plan.format d)) d) _ _ e).1).0

  by_data : (d : Data) → judged_members plan d (as_object d) ≡ Ok f → has_key (codes "cert") (Ok d) ≡ false
  by_data null e = refl
  by_data (boolean b) e = refl
  by_data (number n) e = refl
  by_data (string s) e = refl
  by_data (array ds) e = refl
  by_data (object ms) e = absent (codes "cert") (allowed plan.format (shape_of plan.format (object ms))) (not_allowed plan.format (object ms)) ms (only (object ms) ms e)

  by_json : (r : Result Data TextFault) → judged_json plan r ≡ Ok f → has_key (codes "cert") r ≡ false
  by_json (Err x) e = refl
  by_json (Ok d) e = by_data d e

  pub begins_none : (line : List ℕ) → fact_read plan line ≡ Ok f → begins Certificate line ≡ false
  begins_none line e = by_json (json_read longest_line line) e

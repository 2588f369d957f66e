-- The facts of an input's lines, as far as they were read.
use Rattle.std.proofs.Common.{◌≡◌, List, [], ◌∷◌, ◌++◌, Bool, true, false, cond, Result, Ok, Err, append_assoc, append-nil, refl, ap, ◌∙◌, sym}
use Rattle.std.specs.List.{filter}
use Rattle.aud_event.specs.Meanings.{PlanOf}
use Rattle.aud_event.specs.declared.fact.Fact.{Fact}
use Rattle.aud_text.specs.Lines.{Filled}
use Rattle.cli_input.specs.Inputs.{fact_at, facts_read, with_fact}
use Rattle.cli_input.specs.declared.input.InputFault.{InputFault}

-- the facts so far before the later ones
abbrev pub onto : List Fact → Result (List Fact) InputFault → Result (List Fact) InputFault
onto fs (Err e) = Err e
onto fs (Ok gs) = Ok (fs ++ gs)

onto-with : (fs : List Fact) (f : Fact) (r : Result (List Fact) InputFault) → onto fs (with_fact (Ok f) r) ≡ onto (fs ++ f ∷ []) r
onto-with fs f (Err e) = refl
onto-with fs f (Ok gs) = ap Ok (sym (append_assoc fs (f ∷ []) gs))

module _ (plan : PlanOf) (test : Filled → Bool) where
  taken : (b : Bool) (l : Filled) (ls : List Filled) → b ≡ true → facts_read plan (cond b (l ∷ ls) ls) ≡ with_fact (fact_at plan l.number l.line) (facts_read plan ls)
  taken true l ls e = refl
  taken false l ls e = absurd (cc)

  -- one line more
  pub one_more : (fs : List Fact) (f : Fact) (ls more : List Filled) (l : Filled) → ls ≡ l ∷ more → test l ≡ true → fact_at plan l.number l.line ≡ Ok f
      → onto fs (facts_read plan (filter test ls)) ≡ onto (fs ++ f ∷ []) (facts_read plan (filter test more))
  one_more fs f ls more l is after read =
      ap (λ xs. onto fs (facts_read plan (filter test xs))) is ∙ (ap (onto fs) (taken (test l) l (filter test more) after)
      ∙ (ap (λ r. onto fs (with_fact r (facts_read plan (filter test more)))) read ∙ onto-with fs f (facts_read plan (filter test more))))

  -- a line that is refused
  pub refused : (fs : List Fact) (e : InputFault) (ls more : List Filled) (l : Filled) → ls ≡ l ∷ more → test l ≡ true → fact_at plan l.number l.line ≡ Err e
      → onto fs (facts_read plan (filter test ls)) ≡ Err e
  refused fs e ls more l is after read =
      ap (λ xs. onto fs (facts_read plan (filter test xs))) is ∙ (ap (onto fs) (taken (test l) l (filter test more) after)
      ∙ ap (λ r. onto fs (with_fact r (facts_read plan (filter test more)))) read)

  left_out : (b : Bool) (l : Filled) (ls : List Filled) → b ≡ false → facts_read plan (cond b (l ∷ ls) ls) ≡ facts_read plan ls
  left_out true l ls e = absurd (cc)
  left_out false l ls e = refl

  -- a line of the plan
  pub passed_over : (fs : List Fact) (ls more : List Filled) (l : Filled) → ls ≡ l ∷ more → test l ≡ false
      → onto fs (facts_read plan (filter test ls)) ≡ onto fs (facts_read plan (filter test more))
  passed_over fs ls more l is before =
      ap (λ xs. onto fs (facts_read plan (filter test xs))) is ∙ ap (onto fs) (left_out (test l) l (filter test more) before)

  -- no line is left
  pub all_read : (fs : List Fact) (ls : List Filled) → ls ≡ [] → onto fs (facts_read plan (filter test ls)) ≡ Ok fs
  all_read fs ls is = ap (λ xs. onto fs (facts_read plan (filter test xs))) is ∙ ap Ok (append-nil fs)

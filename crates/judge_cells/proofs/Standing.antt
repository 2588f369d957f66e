-- Where the source of what a transaction needs stands.
use Rattle.std.specs.Prelude.{◌≡◌, ℕ, Bool, true, false, nat_eq, List, Option, Some, None, refl}
use Rattle.std.proofs.Common.{sym, ◌∙◌, ap, inl, inr}
use Rattle.base_values.proofs.Bools.{nat_eq-refl}
use Rattle.aud_history.specs.Histories.{is_in}
use Rattle.aud_history.specs.Table.{row_of}
use Rattle.aud_witness.specs.declared.decision.Decision.{Decision}
use Rattle.aud_witness.specs.Orders.{stands_before, Shows}
use Rattle.judge_clauses.specs.declared.clause.Atom.TheVariants.{Source, Opening}
use Rattle.judge_clauses.specs.declared.clause.Literal.{Literal}
use Rattle.judge_clauses.specs.declared.clause.Read.{Read}
use Rattle.search_model.specs.Cells.{changes}
use Rattle.judge_clauses.specs.Clauses.{is_kept_in, is_just, is_nothing, source_of, says, holds, meaning, KnownFactsOf, Unless, IsValid}
use Rattle.judge_clauses.proofs.CellLast.{IsEarlier, last-earlier, last-source, last-opening}
use Rattle.judge_clauses.proofs.Standing.{first-named}
use Rattle.judge_clauses.proofs.Validity.{valid-unless}
use Rattle.judge_clauses.proofs.Walking.{row-there}
use Rattle.judge_cells.specs.Sources.{AreOut}

-- nothing is both
pub not-both : (b : Bool) → b ≡ true → b ≡ false → ⊥
not-both b so not_so = let wrong : true ≡ false = sym so ∙ not_so in cc

module _ (f : KnownFactsOf) (read : Read) (there : is_in f.history read.reader ≡ true) where
  -- the source stands before the reader, is kept and changes the cell
  pub sourced : (p : List Decision) (w : ℕ) → Shows f.plan.objects f.history p → says f.history p (Source read w) ≡ true → IsEarlier (changes f.history read.cell read.object) p read.reader w
  sourced p w shown is = last-earlier f.plan.objects f.history (changes f.history read.cell read.object) p shown w read.reader there is

  module _ (c : List Literal) where
    pub valid-before : (w : ℕ) → Unless f c (λ p. says f.history p (Source read w) ≡ true) → Unless f c (λ p. stands_before p w read.reader ≡ false) → IsValid f c
    valid-before w is behind = valid-unless f c (λ p shown broken. not-both (stands_before p w read.reader) (sourced p w shown (is p shown broken)).before (behind p shown broken))

    pub valid-kept : (w : ℕ) → Unless f c (λ p. says f.history p (Source read w) ≡ true) → Unless f c (λ p. is_kept_in p w ≡ false) → IsValid f c
    valid-kept w is off = valid-unless f c (λ p shown broken. not-both (is_kept_in p w) (sourced p w shown (is p shown broken)).kept (off p shown broken))

    pub valid-after_source : (w u : ℕ) → nat_eq u w ≡ false → nat_eq u read.reader ≡ false → is_in f.history u ≡ true → changes f.history read.cell read.object u ≡ true →
        Unless f c (λ p. says f.history p (Source read w) ≡ true) → Unless f c (λ p. is_kept_in p u ≡ true) → Unless f c (λ p. stands_before p read.reader u ≡ false) → Unless f c (λ p. stands_before p u w ≡ false) → IsValid f c
    valid-after_source w u not_w not_r there_u moved is kept not_behind not_front =
        valid-unless f c (λ p shown broken.
        elim (last-source f.plan.objects f.history (changes f.history read.cell read.object) p shown w u read.reader moved not_w not_r there_u there (kept p shown broken) (is p shown broken)) [
          | inl front ↦ not-both (stands_before p u w) front (not_front p shown broken)
          | inr behind ↦ not-both (stands_before p read.reader u) behind (not_behind p shown broken)
        ])

    pub valid-after_opening : (u : ℕ) → nat_eq u read.reader ≡ false → is_in f.history u ≡ true → changes f.history read.cell read.object u ≡ true →
        Unless f c (λ p. says f.history p (Opening read) ≡ true) → Unless f c (λ p. is_kept_in p u ≡ true) → Unless f c (λ p. stands_before p read.reader u ≡ false) → IsValid f c
    valid-after_opening u not_r there_u moved is kept not_behind =
        valid-unless f c (λ p shown broken.
        not-both (stands_before p read.reader u)
        (last-opening f.plan.objects f.history (changes f.history read.cell read.object) p shown u read.reader moved not_r there_u there (kept p shown broken) (is p shown broken)) (not_behind p shown broken))

    -- neither a row nor the opening
    pub valid-sources : AreOut f c read → Unless f c (λ p. says f.history p (Opening read) ≡ false) → IsValid f c
    valid-sources out opening = valid-unless f c (λ p shown broken. go p shown broken (source_of f.history p read) refl)
      where
        go : (p : List Decision) → Shows f.plan.objects f.history p → holds (meaning f p) c ≡ false → (o : Option ℕ) → source_of f.history p read ≡ o → ⊥
        go p shown broken None was = not-both (is_nothing (source_of f.history p read)) (ap is_nothing was) (opening p shown broken)
        go p shown broken (Some w) was =
            let just : is_just (source_of f.history p read) w ≡ true = ap (λ o. is_just o w) was ∙ nat_eq-refl w in
            let inside : is_in f.history w ≡ true = sym (shown.full.same w) ∙ first-named p w read.reader (sourced p w shown just).before in
            let (k, at) = row-there f.history w inside in
            not-both (is_just (source_of f.history p read) w) just (out k (row_of f.history w) at p shown broken)

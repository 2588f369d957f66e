-- What cannot be the source of what a transaction needs.
use Rattle.std.specs.Prelude.{◌≡◌, ℕ, ◌<◌, ℤ, true, false, List, Option, Some, None, slice_get, refl}
use Rattle.std.proofs.Common.{sym, ◌∙◌, ap, subst, inl, inr}
use Rattle.base_values.proofs.Bools.{is_false}
use Rattle.aud_kinds.specs.Objects.{opening_of}
use Rattle.aud_object.proofs.Proper.{proper-opening}
use Rattle.aud_history.specs.Histories.{is_in, is_before}
use Rattle.aud_history.specs.WellFormed.{IsWellFormed}
use Rattle.aud_history.specs.FirstFault.{IsWithinLimits}
use Rattle.aud_history.specs.Table.{RowOf, row_of, table_of}
use Rattle.aud_witness.specs.declared.decision.Decision.{Decision}
use Rattle.aud_witness.specs.declared.decision.Fate.TheVariants.{C}
use Rattle.aud_witness.specs.Orders.{is_allowed, stands_before, Shows}
use Rattle.aud_witness.specs.Configurations.{first_configuration}
use Rattle.aud_witness.proofs.WalkLemmas.{walks-say}
use Rattle.judge_clauses.specs.declared.clause.Atom.TheVariants.{Source, Opening}
use Rattle.judge_clauses.specs.declared.clause.Read.{Read}
use Rattle.search_model.specs.declared.cell.Need.{Need}
use Rattle.search_model.specs.Cells.{meets, content, needs, leaves, moves, leaves_of, changes}
use Rattle.judge_clauses.specs.Clauses.{is_kept_in, source_of, says, KnownFactsOf, Always}
use Rattle.judge_clauses.proofs.Celling.{over}
use Rattle.judge_clauses.proofs.CellLast.{just-is, nothing-is, writer-last}
use Rattle.judge_clauses.proofs.CellWalks.{content_after, walked-needs}
use Rattle.judge_clauses.proofs.Standing.{stands_before-apart, stands_before-itself}
use Rattle.judge_clauses.proofs.Validity.{kept-allowed, must-keep}
use Rattle.judge_clauses.proofs.Untouched.{still-untouched}
use Rattle.judge_clauses.proofs.Walking.{get-opening, own-row}
use Rattle.judge_clauses.specs.Touching.{mentions}
use Rattle.judge_cells.specs.Sources.{OpensWith, IsRead, IsHiding}
use Rattle.judge_cells.proofs.Standing.{not-both, sourced}

module _ (f : KnownFactsOf) (read : Read) where
  module _ (there : is_in f.history read.reader ≡ true) where
    out-by : (w : ℕ) → ((p : List Decision) → Shows f.plan.objects f.history p → says f.history p (Source read w) ≡ true → ⊥) → Always f (λ p. says f.history p (Source read w) ≡ false)
    out-by w never p shown = is_false (says f.history p (Source read w)) (never p shown)

    pub out-still : (w : ℕ) → changes f.history read.cell read.object w ≡ false → Always f (λ p. says f.history p (Source read w) ≡ false)
    out-still w still = out-by w (λ p shown is. not-both (changes f.history read.cell read.object w) (sourced f read there p w shown is).wrote still)

    pub out-unkept : (w : ℕ) → is_allowed f.history w C ≡ false → Always f (λ p. says f.history p (Source read w) ≡ false)
    out-unkept w never = out-by w (λ p shown is. not-both (is_allowed f.history w C) (kept-allowed f.plan.objects f.history p w shown (sourced f read there p w shown is).kept) never)

    pub out-itself : (w : ℕ) → w ≡ read.reader → Always f (λ p. says f.history p (Source read w) ≡ false)
    out-itself w same =
        out-by w (λ p shown is. stands_before-itself p w shown.full.once (subst (λ n. stands_before p w n ≡ true) (sym same) (sourced f read there p w shown is).before))

    pub out-behind : (w : ℕ) → is_before f.history read.reader w ≡ true → Always f (λ p. says f.history p (Source read w) ≡ false)
    out-behind w behind =
        out-by w (λ p shown is. stands_before-apart p w read.reader shown.full.once (sourced f read there p w shown is).before (shown.real_time read.reader w behind))

  module _ (stamp : ℕ) (hiding : IsHiding f read stamp) where
    hidden-by : (p : List Decision) (w : ℕ) → Shows f.plan.objects f.history p → is_before f.history w hiding.by ≡ true → says f.history p (Source read w) ≡ true → ⊥
    hidden-by p w shown first is =
        let kept : is_kept_in p hiding.by ≡ true = must-keep f.plan.objects f.history p hiding.by shown hiding.there hiding.committed in
        let front : stands_before p w hiding.by ≡ true = shown.real_time w hiding.by first in
        let source : source_of f.history p read ≡ Some w = just-is (source_of f.history p read) w is in
        elim (writer-last (changes f.history read.cell read.object) p read.reader hiding.by None shown.full.once hiding.changing kept (shown.real_time hiding.by read.reader hiding.before)) [
          | inl own ↦
              let same : hiding.by ≡ w = cc in
              stands_before-itself p w shown.full.once (subst (λ n. stands_before p w n ≡ true) same front)
          | inr found ↦
              let (v, (is_v, behind)) = found in
              let same : v ≡ w = cc in
              stands_before-apart p w hiding.by shown.full.once front (subst (λ n. stands_before p hiding.by n ≡ true) same behind)
        ]

    pub out-hidden : (w end : ℕ) → ((u : ℕ) → is_in f.history u ≡ true → end < (row_of f.history u).first → is_before f.history w u ≡ true) → end < stamp → Always f (λ p. says f.history p (Source read w) ≡ false)
    out-hidden w end before low p shown =
        is_false (says f.history p (Source read w))
        (hidden-by p w shown (before hiding.by hiding.there (subst (λ n. end < n) (sym hiding.first) low)))

    pub opening-hidden : Always f (λ p. says f.history p (Opening read) ≡ false)
    opening-hidden p shown =
        is_false (says f.history p (Opening read))
        (λ is.
        let kept : is_kept_in p hiding.by ≡ true = must-keep f.plan.objects f.history p hiding.by shown hiding.there hiding.committed in
        let none : source_of f.history p read ≡ None = nothing-is (source_of f.history p read) is in
        elim (writer-last (changes f.history read.cell read.object) p read.reader hiding.by None shown.full.once hiding.changing kept (shown.real_time hiding.by read.reader hiding.before)) [
          | inl own ↦ absurd (let wrong : None ≡ Some hiding.by = sym none ∙ own in cc)
          | inr found ↦ absurd (let (v, (is_v, behind)) = found in let wrong : None ≡ Some v = sym none ∙ is_v in cc)
        ])

  module _ (fine : IsWellFormed f.history) (within : IsWithinLimits f.plan f.history) (need : Need) (is : IsRead f read need) where
    -- what the reader needs is what its source left
    needed-left : (o : Option ℤ) → OpensWith f read.object read.cell o → (p : List Decision) → Shows f.plan.objects f.history p →
        meets need (content_after read.cell read.object f.history o (source_of f.history p read)) ≡ true
    needed-left o opens p shown =
        let (d, (declared, (fits, is_o))) = opens in
        let (t, (led, _)) = ((walks-say f.plan f.history fine within).shows p).0 shown in
        subst (λ (v : Option ℤ). meets need (content_after read.cell read.object f.history v (source_of f.history p read)) ≡ true) is_o
        (walked-needs read.cell read.object f.history (content read.cell (opening_of d)) p (first_configuration (table_of f.history) f.plan.objects) t None read.reader need led
        (record { state = opening_of d; there = get-opening f.plan.objects read.object d declared; proper = proper-opening d; fits = fits; holds = refl }) (shown.full.same read.reader ∙ is.there) is.needed)

    pub opening-other : (o : Option ℤ) → OpensWith f read.object read.cell o → meets need o ≡ false → Always f (λ p. says f.history p (Opening read) ≡ false)
    opening-other o opens unmet p shown =
        is_false (says f.history p (Opening read))
        (λ opened.
        let none : source_of f.history p read ≡ None = nothing-is (source_of f.history p read) opened in
        let met : meets need o ≡ true = subst (λ (w : Option ℕ). meets need (content_after read.cell read.object f.history o w) ≡ true) none (needed-left o opens p shown) in
        not-both (meets need o) met unmet)

    pub out-other : (w : ℕ) (v : Option ℤ) → leaves_of f.history read.cell read.object w ≡ Some v → meets need v ≡ false → Always f (λ p. says f.history p (Source read w) ≡ false)
    out-other w v left unmet p shown =
        is_false (says f.history p (Source read w))
        (λ sourced.
        let own : source_of f.history p read ≡ Some w = just-is (source_of f.history p read) w sourced in
        let met : meets need (over (leaves_of f.history read.cell read.object w) is.content) ≡ true =
        subst (λ (w : Option ℕ). meets need (content_after read.cell read.object f.history is.content w) ≡ true) own (needed-left is.content is.opens p shown) in
        not-both (meets need v) (sym (ap (λ l. meets need (over l is.content)) left) ∙ met) unmet)

-- a row that has no execution on the object is not the source
pub out-untouched : (f : KnownFactsOf) (read : Read) → is_in f.history read.reader ≡ true → (k : ℕ) (row : RowOf) → slice_get (table_of f.history) k ≡ Some row → mentions read.object row.block.executions ≡ false →
    Always f (λ p. says f.history p (Source read row.tx) ≡ false)
out-untouched f read there k row at none =
    let own : row ≡ row_of f.history row.tx = own-row f.history k row at in
    let still : changes f.history read.cell read.object row.tx ≡ false =
    ap (λ (r : RowOf). moves (needs read.cell read.object r.block.executions) (leaves read.cell read.object None r.block.executions)) (sym own) ∙ still-untouched read.cell read.object row.block.executions none in
    out-still f read there row.tx still

-- What is accepted is refuted.
use Rattle.std.specs.Prelude.{◌≡◌, List, [], ◌∷◌, ◌++◌, map, Bool, Result, Ok, Err, IfOk, IsTrue}
use Rattle.std.specs.List.{Contains}
use Rattle.std.proofs.Common.{sym, subst, inl, inr, arith, append_assoc}
use Rattle.std.proofs.lemmas.List.{append-nil}
use Rattle.std.proofs.lemmas.List.Elements.{Contains-push, Contains-push_cases}
use Rattle.aud_event.specs.Meanings.{PlanOf}
use Rattle.aud_history.specs.Histories.{History}
use Rattle.aud_history.specs.WellFormed.{IsWellFormed}
use Rattle.aud_history.specs.FirstFault.{IsWithinLimits}
use Rattle.aud_witness.specs.declared.decision.Decision.{Decision}
use Rattle.aud_witness.specs.Orders.{IsGood, Refuted}
use Rattle.aud_witness.specs.Laws.{ShowsIsFullAndGood}
use Rattle.aud_order.specs.Moves.{without, SilentMovesForward, ConfigurationsDecide}
use Rattle.cert_accept.proofs.Kids.{refuted-by_kids}
use Rattle.cert_accept.specs.declared.cert.CertLine.{CertLine}
use Rattle.cert_accept.specs.declared.cert.CertLine.TheVariants.{Kids, Silent, Same}
use Rattle.cert_accept.specs.Acceptance.{prefix_in, Rests, AreAccepted, IsAccepted, JudgesLines}
use Rattle.cert_accept.specs.Laws.{AcceptedIsRefuted}

module _ (goods-law : ShowsIsFullAndGood) (silent-law : SilentMovesForward) (configurations-law : ConfigurationsDecide)
    (plan : PlanOf) (h : History) (fine : IsWellFormed h) (within : IsWithinLimits plan h) where
  abbrev AreRefuted : List (List Decision) → Type 0
  AreRefuted ps = (p : List Decision) → Contains ps p → Refuted plan.objects h p

  -- the prefixes of earlier lines are good, too
  abbrev AreGood : List (List Decision) → Type 0
  AreGood ps = (p : List Decision) → Contains ps p → IsGood plan.objects h p

  rests-refuted : {X : Type 0} (earlier : List (List Decision)) (line : CertLine X) → AreGood earlier → AreRefuted earlier → IsGood plan.objects h (prefix_in line) →
      Rests plan.objects h earlier line → Refuted plan.objects h (prefix_in line)
  rests-refuted earlier (Kids p) goods dead good has =
      refuted-by_kids goods-law plan.objects h p has.unfull (λ d next. dead (p ++ d ∷ []) (has.kids d next))
  rests-refuted earlier (Silent p d) goods dead good has =
      λ q shown. dead (p ++ d ∷ []) has.line (without d.tx q) (silent-law plan h p q d fine within has.silent has.good shown)
  rests-refuted earlier (Same p q) goods dead good has =
      λ rest shown. dead q has.line rest (configurations-law plan h p q rest fine within good (goods q has.line) has.alike.placed has.alike.states shown)

  lines-refuted : {X : Type 0} (lines : List (CertLine X)) (earlier : List (List Decision)) → AreGood earlier → AreRefuted earlier → AreAccepted plan.objects h earlier lines →
      AreRefuted (earlier ++ map prefix_in lines)
  lines-refuted [] earlier goods dead all = subst AreRefuted (sym (append-nil earlier)) dead
  lines-refuted (line ∷ lines) earlier goods dead (first, more) =
      let here : Refuted plan.objects h (prefix_in line) = rests-refuted earlier line goods dead first.good first.rests in
      let good : AreGood (earlier ++ prefix_in line ∷ []) =
      λ p there. elim (Contains-push_cases earlier (prefix_in line) p there) [ inl old ↦ goods p old | inr same ↦ subst (IsGood plan.objects h) same first.good ] in
      let fallen : AreRefuted (earlier ++ prefix_in line ∷ []) =
      λ p there. elim (Contains-push_cases earlier (prefix_in line) p there) [ inl old ↦ dead p old | inr same ↦ subst (Refuted plan.objects h) same here ] in
      subst AreRefuted (append_assoc earlier (prefix_in line ∷ []) (map prefix_in lines)) (lines-refuted lines (earlier ++ prefix_in line ∷ []) good fallen more)

none-there : {X : Type 0} (x : X) → Contains [] x → ⊥
none-there x (k, inside, is) = absurd (omega arith)

pub accepted-refuted : {X : Type 0} → ShowsIsFullAndGood → SilentMovesForward → ConfigurationsDecide → AcceptedIsRefuted X
accepted-refuted goods silents configurations plan h lines fine within accepted =
    let (before, ends) = accepted.last in
    lines-refuted goods silents configurations plan h fine within lines [] (λ p there. absurd (none-there p there)) (λ p there. absurd (none-there p there)) accepted.each []
    (subst (λ (ps : List (List Decision)). Contains ps []) (sym ends) (Contains-push before []))

-- what judges the lines says true of refuted ones alone
pub refuted-if_ok : {X E : Type 0} → AcceptedIsRefuted X → (plan : PlanOf) (h : History) (lines : List (CertLine X)) (r : Result Bool E) → IsWellFormed h → IsWithinLimits plan h →
    IfOk r (JudgesLines plan.objects h lines) → IfOk r (λ good. IsTrue good → Refuted plan.objects h [])
refuted-if_ok law plan h lines (Ok good) fine within judged = λ yes. law plan h lines fine within (judged.0 yes)
refuted-if_ok law plan h lines (Err e) fine within exact = exact

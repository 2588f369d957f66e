-- What is reported of the lines of a certificate, one after the other.
use Rattle.std.specs.Prelude.{◌≡◌, ◌↔◌, ◌⊎◌, ℕ, ◌+◌, ◌<◌, ◌≤◌, Bool, true, false, List, [], ◌∷◌, ◌++◌, map, length, refl}
use Rattle.std.specs.List.{Contains}
use Rattle.std.proofs.Common.{sym, ◌∙◌, ap, subst, inl, inr, arith, get_or, drop}
use Rattle.std.proofs.lemmas.List.{drop_more, drop_all}
use Rattle.std.proofs.lemmas.List.Elements.{Contains-push, Contains-push_cases, Contains-append_left}
use Rattle.aud_event.specs.Meanings.{Declared}
use Rattle.aud_history.specs.Histories.{History}
use Rattle.aud_witness.specs.declared.decision.Decision.{Decision}
use Rattle.aud_witness.specs.Orders.{IsGood}
use Rattle.aud_order.specs.Shapes.{ShapeOf, objects_of, history_of}
use Rattle.cert_accept.specs.declared.cert.CertLine.{CertLine}
use Rattle.cert_accept.specs.declared.cert.CertLine.TheVariants.{Kids, Silent, Same}
use Rattle.cert_accept.specs.Acceptance.{prefix_in, Rests, IsAcceptedLine, AreAccepted, EndsEmpty, JudgesLine, JudgesLines}

pub good-at : (shape other : ShapeOf) (p : List Decision) → other ≡ shape → IsGood (objects_of shape) (history_of shape) p → IsGood (objects_of other) (history_of other) p
good-at shape other p same good = subst (λ (s : ShapeOf). IsGood (objects_of s) (history_of s) p) (sym same) good

-- # A line after others

module _ {X : Type 0} (objects : List Declared) (h : History) where
  rests-moved : (seen earlier : List (List Decision)) (line : CertLine X) → ((p : List Decision) → Contains seen p → Contains earlier p) → Rests objects h seen line → Rests objects h earlier line
  rests-moved seen earlier (Kids p) more has = record { unfull = has.unfull; kids = λ d next. more (p ++ d ∷ []) (has.kids d next) }
  rests-moved seen earlier (Silent p d) more has = record { silent = has.silent; good = has.good; line = more (p ++ d ∷ []) has.line }
  rests-moved seen earlier (Same p q) more has = record { line = more q has.line; alike = has.alike }

  line-moved : (seen earlier : List (List Decision)) (line : CertLine X) → ((p : List Decision) → Contains seen p → Contains earlier p) → IsAcceptedLine objects h seen line → IsAcceptedLine objects h earlier line
  line-moved seen earlier line more accepted = record { good = accepted.good; rests = rests-moved seen earlier line more accepted.rests }

  -- so many lines were accepted, and their prefixes seen
  pub record Passed (lines : List (CertLine X)) (count : ℕ) (seen : List (List Decision)) : Type 0 where
    pub earlier : List (List Decision)
    pub reports : (p : List Decision) → Contains seen p ↔ Contains earlier p
    pub good : (p : List Decision) → Contains seen p → IsGood objects h p
    pub rest : AreAccepted objects h [] lines ↔ AreAccepted objects h earlier (drop count lines)

  pub passed-none : (lines : List (CertLine X)) (seen : List (List Decision)) → seen ≡ [] → Passed lines 0 seen
  passed-none lines seen none = record {
    earlier = [];
    reports = λ p. ((λ there. subst (λ l. Contains l p) none there), λ there. subst (λ l. Contains l p) (sym none) there);
    good = λ p there. let (k, inside, is) = subst (λ l. Contains l p) none there in absurd (omega arith);
    rest = ((λ all. all), λ all. all);
  }

  pub passed-more : (lines : List (CertLine X)) (count : ℕ) (line : CertLine X) (seen new : List (List Decision)) → Passed lines count seen → count < length lines → line ≡ get_or lines count line →
      IsAcceptedLine objects h seen line → ((p : List Decision) → Contains new p ↔ (Contains seen p ⊎ (p ≡ prefix_in line))) → Passed lines (count + 1) new
  passed-more lines count line seen new was inside here accepted grown = record {
    earlier = was.earlier ++ prefix_in line ∷ [];
    reports = λ p. (
      (λ there. elim ((grown p).0 there) [
        | inl old ↦ Contains-append_left was.earlier (prefix_in line ∷ []) p ((was.reports p).0 old)
        | inr same ↦ subst (λ (l : List Decision). Contains (was.earlier ++ prefix_in line ∷ []) l) (sym same) (Contains-push was.earlier (prefix_in line))
      ]),
      λ there. elim (Contains-push_cases was.earlier (prefix_in line) p there) [
        | inl old ↦ (grown p).1 (inl ((was.reports p).1 old))
        | inr same ↦ (grown p).1 (inr (sym same))
      ],
    );
    good = λ p there. elim ((grown p).0 there) [
      | inl old ↦ was.good p old
      | inr same ↦ subst (IsGood objects h) (sym same) accepted.good
    ];
    rest = (
      (λ all. (subst (AreAccepted objects h was.earlier) left (was.rest.0 all)).1),
      λ more. was.rest.1 (subst (AreAccepted objects h was.earlier) (sym left) (line-moved seen was.earlier line (λ p there. (was.reports p).0 there) accepted, more)),
    );
  }
    where
      left : drop count lines ≡ line ∷ drop (count + 1) lines
      left = drop_more lines count line inside ∙ ap (λ (l : CertLine X). l ∷ drop (count + 1) lines) (sym here)

  pub passed-bad : (lines : List (CertLine X)) (count : ℕ) (line : CertLine X) (seen : List (List Decision)) (b : Bool) → Passed lines count seen → count < length lines → line ≡ get_or lines count line →
      JudgesLine objects h seen line b → b ≡ false → JudgesLines objects h lines false
  passed-bad lines count line seen b was inside here reported fails = (
    (λ e. absurd (cc)),
    λ accepted.
        let both = subst (AreAccepted objects h was.earlier) left (was.rest.0 accepted.each) in
        let clash : b ≡ true = reported.1 (line-moved was.earlier seen line (λ p there. (was.reports p).1 there) both.0) in absurd (cc),
  )
    where
      left : drop count lines ≡ line ∷ drop (count + 1) lines
      left = drop_more lines count line inside ∙ ap (λ (l : CertLine X). l ∷ drop (count + 1) lines) (sym here)

  pub passed-all : (lines : List (CertLine X)) (count : ℕ) (seen : List (List Decision)) → Passed lines count seen → length lines ≤ count → EndsEmpty (map prefix_in lines) → JudgesLines objects h lines true
  passed-all lines count seen was past last = (
    (λ e. record { each = was.rest.1 (subst (AreAccepted objects h was.earlier) (sym (drop_all count lines past)) tt); last = last }),
    λ accepted. refl,
  )

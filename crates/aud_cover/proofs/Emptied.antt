-- Nothing is open exactly where the empty prefix is closed.
use Rattle.std.specs.Prelude.{◌≡◌, ◌↔◌, ℕ, zero, suc, ◌+◌, ◌<◌, ◌≤◌, List, [], ◌∷◌, ◌++◌, length, refl}
use Rattle.std.specs.List.{Contains}
use Rattle.std.proofs.Common.{sym, ◌∙◌, subst, inl, arith, append_assoc, length-append}
use Rattle.std.proofs.lemmas.List.{append-nil}
use Rattle.aud_event.specs.Meanings.{Declared}
use Rattle.aud_history.specs.Histories.{History}
use Rattle.aud_history.specs.Table.{transactions}
use Rattle.aud_lattice.specs.declared.mark.Mark.TheVariants.{Covered, Inner, Outside}
use Rattle.aud_lattice.specs.Marks.{mark_of}
use Rattle.aud_lattice.proofs.Marked.{covered_is, inner_is}
use Rattle.aud_witness.specs.declared.decision.Decision.{Decision}
use Rattle.aud_witness.specs.DecisionOrder.{decision_cmp}
use Rattle.aud_witness.specs.Prefixes.{BeginsWith}
use Rattle.aud_witness.specs.Orders.{IsFull, IsGood}
use Rattle.aud_witness.proofs.Good.{IsGood-empty, IsGood-beginning}
use Rattle.aud_order.proofs.Lists.{length-push}
use Rattle.aud_order.proofs.Lengths.{length-full}
use Rattle.aud_cover.specs.Closings.{IsInside, IsClosed, covered, bad, by_kids}
use Rattle.aud_cover.specs.Openings.{IsReached, IsOpen, AreOpen, AreShortEnough}
use Rattle.aud_cover.proofs.Beginnings.{marked-covered, marked-inner, marked-outside, longest, longest-inside}
use Rattle.aud_cover.proofs.Opened.{covered-longer, begins-itself, none_there, reached-kid}

module _ (objects : List Declared) (h : History) (cover : List (List Decision)) where
  -- nothing that begins with a closed prefix is open
  closed-none : (p q rest : List Decision) → IsClosed objects h cover p → IsOpen objects h cover q → q ≡ p ++ rest → ⊥
  closed-none p q rest (covered there) it is = it.uncovered (covered-longer cover p q (rest, is) there)
  closed-none p q rest (bad none) it is = none (IsGood-beginning objects h p rest (subst (λ l. IsGood objects h l) is it.good))
  closed-none p q [] (by_kids unfull inside kids) it is = it.outside (subst (λ l. IsInside cover l) (sym (append-nil p) ∙ sym is) inside)
  closed-none p q (d ∷ rest) (by_kids unfull inside kids) it is =
      let longer : q ≡ (p ++ d ∷ []) ++ rest = is ∙ sym (append_assoc p (d ∷ []) rest) in
      closed-none (p ++ d ∷ []) q rest (kids d (IsGood-beginning objects h (p ++ d ∷ []) rest (subst (λ l. IsGood objects h l) longer it.good))) it longer

  -- a proper beginning of a member is not full
  inside-unfull : (p : List Decision) → AreShortEnough h cover → IsGood objects h p → IsInside cover p → IsFull h p → ⊥
  inside-unfull p within good (d, (rest, member)) full =
      let short : length (p ++ d ∷ rest) ≤ length (transactions h) = within (p ++ d ∷ rest) member in
      let more : length (p ++ d ∷ rest) ≡ length p + length (d ∷ rest) = length-append p (d ∷ rest) in
      let long : length p ≡ length (transactions h) = length-full objects h p good full in
      omega arith

  -- a prefix that is reached is closed where nothing that begins with it is open
  none-closed : (fuel : ℕ) (p : List Decision) → longest cover ≤ length p + fuel → AreShortEnough h cover → IsGood objects h p → IsReached objects h cover p →
      ((q : List Decision) → IsOpen objects h cover q → BeginsWith p q → ⊥) → IsClosed objects h cover p
  none-closed zero p far within good reached none =
      elim (mark_of decision_cmp cover p) as (λ m. mark_of decision_cmp cover p ≡ m → IsClosed objects h cover p) [
        | Covered ↦ λ is. covered (marked-covered cover p (mark_of decision_cmp cover p) (covered_is decision_cmp cover p) (inner_is decision_cmp cover p) is)
        | Inner ↦ λ is.
            let inner = marked-inner cover p (mark_of decision_cmp cover p) (covered_is decision_cmp cover p) (inner_is decision_cmp cover p) is in
            let short : length p < longest cover = longest-inside cover p inner.1 in
            absurd (omega arith)
        | Outside ↦ λ is.
            let out = marked-outside cover p (mark_of decision_cmp cover p) (covered_is decision_cmp cover p) (inner_is decision_cmp cover p) is in
            absurd (none p (record { good = good; uncovered = out.0; outside = out.1; reached = reached }) (begins-itself p))
      ] refl
  none-closed (suc n) p far within good reached none =
      elim (mark_of decision_cmp cover p) as (λ m. mark_of decision_cmp cover p ≡ m → IsClosed objects h cover p) [
        | Covered ↦ λ is. covered (marked-covered cover p (mark_of decision_cmp cover p) (covered_is decision_cmp cover p) (inner_is decision_cmp cover p) is)
        | Inner ↦ λ is.
            let inner = marked-inner cover p (mark_of decision_cmp cover p) (covered_is decision_cmp cover p) (inner_is decision_cmp cover p) is in
            by_kids (inside-unfull p within good inner.1) inner.1 (λ d next.
            none-closed n (p ++ d ∷ []) (let long : length (p ++ d ∷ []) ≡ length p + 1 = length-push p d in omega arith) within next (reached-kid objects h cover p d good inner)
            (λ q it begins. none q it (d ∷ begins.0, begins.1 ∙ append_assoc p (d ∷ []) begins.0)))
        | Outside ↦ λ is.
            let out = marked-outside cover p (mark_of decision_cmp cover p) (covered_is decision_cmp cover p) (inner_is decision_cmp cover p) is in
            absurd (none p (record { good = good; uncovered = out.0; outside = out.1; reached = reached }) (begins-itself p))
      ] refl

  pub empty-closed : (list : List (List Decision)) → AreOpen objects h cover list → AreShortEnough h cover → (list ≡ []) ↔ IsClosed objects h cover []
  empty-closed list are within = (
    (λ empty. none-closed (longest cover) [] (omega arith) within (IsGood-empty objects h) (inl refl)
        (λ q it begins. none_there q (subst (λ l. Contains l q) empty ((are.each q).1 it)))),
    (λ closed. go list are closed),
  )
    where
      go : (l : List (List Decision)) → AreOpen objects h cover l → IsClosed objects h cover [] → l ≡ []
      go [] are closed = refl
      go (p ∷ ps) are closed = absurd (closed-none [] p p closed ((are.each p).0 (0, omega arith, refl)) refl)

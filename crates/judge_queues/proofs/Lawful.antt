-- Which clauses on queues hold in each order that shows a history.
use Rattle.std.specs.Prelude.{◌≡◌, ℕ, ◌+◌, ◌<◌, ◌≤◌, ℤ, pos, ◌-ℤ◌, List, ◌∷◌, true, false, nat_eq, Option, Some, None, slice_get, ◌⊎◌}
use Rattle.std.proofs.Common.{sym, ◌∙◌, ap, subst, inl, inr, arith}
use Rattle.std.proofs.lemmas.Option.{slice_get_within}
use Rattle.aud_event.specs.declared.object.Answer.TheVariants.{Int, Empty}
use Rattle.base_values.proofs.Bools.{is_false, and_true, true_and, nat_eq-is, nat_eq-refl}
use Rattle.aud_history.specs.Histories.{is_in}
use Rattle.aud_history.specs.WellFormed.{IsWellFormed}
use Rattle.aud_history.specs.FirstFault.{IsWithinLimits}
use Rattle.aud_history.specs.Table.{row_of}
use Rattle.aud_witness.specs.declared.decision.Decision.{Decision}
use Rattle.aud_witness.specs.Orders.{stands_before, Shows}
use Rattle.judge_clauses.specs.declared.clause.Atom.TheVariants.{Item}
use Rattle.judge_clauses.specs.declared.clause.Literal.{Literal}
use Rattle.judge_clauses.specs.declared.clause.Take.{Take}
use Rattle.judge_clauses.specs.Clauses.{KnownFactsOf, is_kept_in, is_addition_of, item_of, says, Unless, IsValid}
use Rattle.search_model.specs.Queues.{takes_of, taken_before}
use Rattle.judge_clauses.proofs.Standing.{first-named, stands_before-turn, stands_before-apart}
use Rattle.judge_clauses.proofs.Validity.{valid-unless}
use Rattle.judge_clauses.proofs.Walking.{row-there}
use Rattle.judge_sums.specs.declared.bounds.Bounds.{Bounds}
use Rattle.search_model.specs.declared.quantity.Quantity.TheVariants.{Takes, Additions, Shortening}
use Rattle.judge_sums.specs.Between.{IsBetween}
use Rattle.search_model.specs.Quantities.{net_of}
use Rattle.judge_sums.specs.Laws.{ComesTo}
use Rattle.judge_sums.specs.Sums.{total}
use Rattle.search_model.specs.Blocks.{added, added_of, takes_value}
use Rattle.judge_queues.specs.Laws.{IsQueue, AsksIn, IsTaken, NoItem, AreNoAdders, IsStuck}
use Rattle.judge_queues.proofs.Running.{added-length}
use Rattle.judge_queues.proofs.Adders.{added_before, adder-place, adder-stands, added-through}
use Rattle.judge_queues.proofs.Placing.{item-found, place-found, own-found, empty-found, empty-at}
use Rattle.judge_queues.proofs.Leaving.{front-added, asks-takes, gone-before}
use Rattle.search_model.proofs.Lists.{get-left}

-- # What an atom on an item says

addition-is : (o : Option (ℕ × ℕ)) (a i : ℕ) → is_addition_of o a i ≡ true → o ≡ Some (a, i)
addition-is None a i is = absurd (cc)
addition-is (Some found) a i is =
    let (one, two) = and_true (nat_eq found.0 a) (nat_eq found.1 i) is in
    let is_a : found.0 ≡ a = nat_eq-is found.0 a one in
    let is_i : found.1 ≡ i = nat_eq-is found.1 i two in
    λ j. Some (is_a j, is_i j)

is-addition : (o : Option (ℕ × ℕ)) (a i : ℕ) → o ≡ Some (a, i) → is_addition_of o a i ≡ true
is-addition o a i is = ap (λ found. is_addition_of found a i) is ∙ true_and (nat_eq a a) (nat_eq i i) (nat_eq-refl a) (nat_eq-refl i)

module _ (f : KnownFactsOf) (c : List Literal) where
  -- who adds what is taken is the taker, or is kept and stands before
  item-stands : (take : Take) (a i : ℕ) (p : List Decision) → Shows f.plan.objects f.history p → is_in f.history take.taker ≡ true → says f.history p (Item take a i) ≡ true →
      (a ≡ take.taker) ⊎ ((stands_before p a take.taker ≡ true) × (is_kept_in p a ≡ true))
  item-stands take a i p shown there is =
      adder-stands f.history take.object p take.taker (taken_before f.history take.object p take.taker + take.number) a i (shown.full.same take.taker ∙ there) (addition-is (item_of f.history p take) a i is)

  -- another one adds what is taken, and does not stand before or is not kept
  pub valid-apart : (take : Take) (a i : ℕ) → is_in f.history take.taker ≡ true → nat_eq a take.taker ≡ false → Unless f c (λ p. says f.history p (Item take a i) ≡ true) →
      Unless f c (λ p. is_kept_in p a ≡ true → stands_before p a take.taker ≡ true → ⊥) → IsValid f c
  valid-apart take a i there other is never =
      valid-unless f c (λ p shown broken.
      elim (item-stands take a i p shown there (is p shown broken)) [
        | inl itself ↦ let same : nat_eq a take.taker ≡ true = ap (nat_eq a) (sym itself) ∙ nat_eq-refl a in absurd (cc)
        | inr stands ↦ never p shown broken stands.1 stands.0
      ])

  -- the taker does not stand before another one that adds what is taken
  pub taker-behind : (take : Take) (a i : ℕ) → is_in f.history take.taker ≡ true → nat_eq a take.taker ≡ false → Unless f c (λ p. says f.history p (Item take a i) ≡ true) →
      Unless f c (λ p. stands_before p take.taker a ≡ false)
  taker-behind take a i there other is p shown broken =
      elim (item-stands take a i p shown there (is p shown broken)) [
        | inl itself ↦ let same : nat_eq a take.taker ≡ true = ap (nat_eq a) (sym itself) ∙ nat_eq-refl a in absurd (cc)
        | inr stands ↦ is_false (stands_before p take.taker a) (λ front. stands_before-apart p a take.taker shown.full.once stands.0 front)
      ]

  -- the place of what another one added
  pub valid-place : (take : Take) (a i : ℕ) (place : Bounds) → is_in f.history take.taker ≡ true → Unless f c (λ p. says f.history p (Item take a i) ≡ true) →
      Unless f c (λ p. IsBetween place (total f.history (net_of f.history (Takes take.object)) p take.taker -ℤ total f.history (net_of f.history (Additions take.object)) p a)) →
      (IsBetween place (pos i -ℤ pos take.number) → ⊥) → IsValid f c
  valid-place take a i place there is between out =
      valid-unless f c (λ p shown broken.
      let at = addition-is (item_of f.history p take) a i (is p shown broken) in
      let found = place-found f.plan f.history take.object p take.taker shown there take.number a i at in
      out (subst (IsBetween place) found.0 (between p shown broken)))

  -- the place of the taker's own addition
  pub valid-own : (take : Take) (i : ℕ) (place : Bounds) → is_in f.history take.taker ≡ true → Unless f c (λ p. says f.history p (Item take take.taker i) ≡ true) →
      Unless f c (λ p. IsBetween place (total f.history (net_of f.history (Shortening take.object)) p take.taker)) → (IsBetween place (pos i -ℤ pos take.number) → ⊥) → IsValid f c
  valid-own take i place there is between out =
      valid-unless f c (λ p shown broken.
      let at = addition-is (item_of f.history p take) take.taker i (is p shown broken) in
      out (subst (IsBetween place) (own-found f.plan f.history take.object p take.taker shown there take.number i at) (between p shown broken)))

  module _ (fine : IsWellFormed f.history) (within : IsWithinLimits f.plan f.history) where
    -- one of the additions that are listed is what is taken
    pub valid-items : (take : Take) (v : ℤ) (e : ℕ) → IsQueue f take.object → IsTaken f take v e → NoItem f c take take.taker v e (row_of f.history take.taker).block.executions → AreNoAdders f c take v → IsValid f c
    valid-items take v e is_queue taken own listed =
        valid-unless f c (λ p shown broken.
        let (d, (declared, opens)) = is_queue in
        let (there, asks) = taken in
        let (a, (i, (at, who))) = item-found f.plan f.history fine within take.object d declared opens p take.taker shown there take.number e v asks in
        let so : says f.history p (Item take a i) ≡ true = is-addition (item_of f.history p take) a i at in
        elim who [
          | inl other ↦
              let (here, front, kept) = other in
              let inside : is_in f.history a ≡ true = sym (shown.full.same a) ∙ first-named p a take.taker front in
              let (k, row) = row-there f.history a inside in
              let not_so : says f.history p (Item take a i) ≡ false = listed k (row_of f.history a) row i here p shown broken kept front in
              absurd (cc)
          | inr itself ↦
              let (is_t, here) = itself in
              let size = added-length take.object asks.front in
              let count = asks.adds in
              let low : i < e = let short = slice_get_within (added take.object asks.front) i v here in omega (arith, short, size, count) in
              let whole : slice_get (added take.object (row_of f.history take.taker).block.executions) i ≡ Some v =
              ap (λ l. slice_get l i) (front-added take.object (row_of f.history take.taker).block.executions take.number e (Int v) asks) ∙ get-left (added take.object asks.front) (added take.object (asks.one ∷ asks.back)) i v here in
              let not_so : says f.history p (Item take take.taker i) ≡ false = own i low whole p shown broken in
              let same : says f.history p (Item take a i) ≡ says f.history p (Item take take.taker i) = ap (λ m. says f.history p (Item take m i)) is_t in
              absurd (cc)
        ])

    -- where the queue was found empty
    pub empty-comes : (t x takes adds : ℕ) → IsQueue f x → AsksIn f t x takes adds Empty → ComesTo f (Shortening x) t (pos adds -ℤ pos takes)
    empty-comes t x takes adds is_queue asks p shown =
        let (d, (declared, opens)) = is_queue in
        empty-found f.plan f.history fine within x d declared opens p t shown asks.0 takes adds asks.1

    -- nobody can have taken what stood in front
    never-took : (x t : ℕ) (v : ℤ) (a b : ℕ) → IsStuck f c x v t a b → Unless f c (λ p. ((y : ℕ) × ((stands_before p y t ≡ true) × (is_kept_in p y ≡ true) × (is_in f.history y ≡ true) × (takes_value x v (row_of f.history y).block.executions ≡ true))) → ⊥)
    never-took x t v a b stuck p shown broken took =
        let (y, (front, kept, inside, takes_it)) = took in
        let (k, row) = row-there f.history y inside in
        stuck.others k (row_of f.history y) row takes_it p shown broken kept front

    -- an item that stood in front of the one that is taken, or of the taker's own, is stuck
    pub valid-gone : (take : Take) (a i b : ℕ) (v : ℤ) → IsQueue f take.object → is_in f.history take.taker ≡ true → take.number ≤ takes_of f.history take.object take.taker → Unless f c (λ p. says f.history p (Item take a i) ≡ true) →
        IsStuck f c take.object v take.taker a b → IsValid f c
    valid-gone take a i b v is_queue there many is stuck =
        valid-unless f c (λ p shown broken.
        let (d, (declared, opens)) = is_queue in
        let (n, at) = stuck.adds in
        let by = addition-is (item_of f.history p take) a i (is p shown broken) in
        let place = adder-place f.history take.object p take.taker (taken_before f.history take.object p take.taker + take.number) a i shown.full.once by in
        let front : stands_before p b a ≡ true = stuck.front p shown broken in
        let kept : is_kept_in p b ≡ true = stuck.kept p shown broken in
        let up_to : stands_before p b take.taker ≡ true =
        elim (item-stands take a i p shown there (is p shown broken)) [
          | inl itself ↦ subst (λ m. stands_before p b m ≡ true) itself front
          | inr stands ↦ stands_before-turn p b a take.taker shown.full.once front stands.0
        ] in
        let more = added-through f.history take.object p b a shown.full.once front kept in
        let size = added-length take.object (row_of f.history b).block.executions in
        let short = slice_get_within (added_of f.history take.object b) n v at in
        let low : added_before f.history take.object p b + n < taken_before f.history take.object p take.taker + take.number = let here = place.0 in omega (arith, more, size, short, here) in
        never-took take.object take.taker v a b stuck p shown broken
        (gone-before f.plan f.history fine within take.object d declared opens p shown b take.taker n take.number v there many stuck.not_own up_to kept at low))

    -- an item that stood in the queue that was found empty is stuck
    pub valid-left : (t x takes adds b : ℕ) (v : ℤ) → IsQueue f x → AsksIn f t x takes adds Empty → IsStuck f c x v t t b → IsValid f c
    valid-left t x takes adds b v is_queue asks stuck =
        valid-unless f c (λ p shown broken.
        let (d, (declared, opens)) = is_queue in
        let (n, at) = stuck.adds in
        let front : stands_before p b t ≡ true = stuck.front p shown broken in
        let kept : is_kept_in p b ≡ true = stuck.kept p shown broken in
        let place = empty-at f.plan f.history fine within x d declared opens p t shown asks.0 takes adds asks.1 in
        let more = added-through f.history x p b t shown.full.once front kept in
        let size = added-length x (row_of f.history b).block.executions in
        let short = slice_get_within (added_of f.history x b) n v at in
        let low : added_before f.history x p b + n < taken_before f.history x p t + takes = omega (arith, more, size, short, place) in
        never-took x t v t b stuck p shown broken
        (gone-before f.plan f.history fine within x d declared opens p shown b t n takes v asks.0 (asks-takes x (row_of f.history t).block.executions takes adds Empty asks.1) stuck.not_own front kept at low))

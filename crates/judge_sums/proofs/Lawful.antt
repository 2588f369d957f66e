-- What sums are in each order that shows a history.
use Rattle.std.specs.Prelude.{◌≡◌, ℕ, ℤ, pos, ◌-ℤ◌, List, [], true, refl}
use Rattle.std.proofs.Common.{arith}
use Rattle.std.proofs.lemmas.Int.{ints}
use Rattle.aud_history.specs.WellFormed.{IsWellFormed}
use Rattle.aud_history.specs.FirstFault.{IsWithinLimits}
use Rattle.aud_history.specs.Histories.{is_in}
use Rattle.aud_history.specs.Table.{row_of}
use Rattle.judge_clauses.specs.declared.clause.Literal.{Literal}
use Rattle.judge_clauses.specs.Clauses.{KnownFactsOf, IsValid}
use Rattle.judge_clauses.proofs.Validity.{valid-unless}
use Rattle.search_model.specs.Quantities.{Contradict}
use Rattle.search_model.specs.declared.quantity.Quantity.TheVariants.{Count, Element}
use Rattle.judge_sums.specs.Laws.{ComesTo, CountsFrom, IsSet, IsAskedBy}
use Rattle.judge_sums.specs.Room.{HasRoomForAll}
use Rattle.judge_sums.proofs.Counting.{IsCount, count-after, count-seen, count-room}
use Rattle.judge_sums.proofs.Members.{IsMember, element-after, element-seen, element-room}
use Rattle.judge_sums.proofs.Finding.{counted, consistent}

module _ (f : KnownFactsOf) (fine : IsWellFormed f.history) (within : IsWithinLimits f.plan f.history) where
  pub element-comes : (r x : ℕ) (v n : ℤ) → IsSet f x → IsAskedBy f r (Element x v) n → ComesTo f (Element x v) r n
  element-comes r x v n is_set asks p shown =
      let (d, (declared, opens)) = is_set in
      let sum = counted (Element x v) (IsMember v) (element-after x v) (element-seen x v) (element-room v) f.plan f.history fine within (pos 0) n d r p declared (λ s so. ([], (opens, tt, refl))) asks.0 asks.1 shown in
      omega (arith, ints, sum)

  pub count-comes : (r x : ℕ) (v0 n : ℤ) → CountsFrom f x v0 → IsAskedBy f r (Count x) n → HasRoomForAll f x v0 → ComesTo f (Count x) r (n -ℤ v0)
  count-comes r x v0 n counts asks room p shown =
      let (d, (declared, opens)) = counts in
      let sum = counted (Count x) IsCount (count-after x) (count-seen x) count-room f.plan f.history fine within v0 n d r p declared (λ s so. (opens, room s so)) asks.0 asks.1 shown in
      omega (arith, ints, sum)

  -- a block that contradicts itself
  pub valid-clash : (c : List Literal) (t x : ℕ) (v0 : ℤ) → CountsFrom f x v0 → HasRoomForAll f x v0 → is_in f.history t ≡ true → Contradict (Count x) (row_of f.history t).block.executions → IsValid f c
  valid-clash c t x v0 counts room there contradict =
      valid-unless f c (λ p shown broken.
      let (d, (declared, opens)) = counts in
      consistent (Count x) IsCount (count-after x) (count-seen x) count-room f.plan f.history fine within v0 d t p declared (λ s so. (opens, room s so)) there contradict shown)

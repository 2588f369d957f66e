-- Where the tables of a walk show no conflict, there is none.
use Rattle.std.proofs.Common.{◌≡◌, ℕ, ◌<◌, List, [], ◌∷◌, refl, sym, ◌∙◌, arith, get_or}
use Rattle.std.specs.Prelude.{true, false, ◌&&◌, None, nat_lt, nat_le, nat_eq}
use Rattle.std.specs.List.{list_any}
use Rattle.aud_event.specs.declared.limits.TheConstants.{LOGS_MAX}
use Rattle.aud_event.specs.declared.fact.Fact.{Fact}
use Rattle.aud_event.specs.declared.fact.Fact.TheVariants.{Rec, End}
use Rattle.aud_facts.specs.declared.survey.Survey.{Survey}
use Rattle.aud_facts.specs.Status.{count, has_stamp, is_mark_within}
use Rattle.aud_facts.specs.Scans.{AreWithin, AreStamps, IsCalm, AreBounds, IsUnderrun, first_place, is_twice, is_past, is_record_from}
use Rattle.aud_facts.proofs.Lists.{up-more}
use Rattle.base_values.proofs.Bools.{or_right}

-- where no mark is above one, no stamp stands twice
pub never_twice : (facts xs : List Fact) (marks : List ℕ) → AreWithin xs → AreStamps facts marks → IsCalm marks → first_place (is_twice facts) xs ≡ None
never_twice facts [] marks w st e = refl
never_twice facts (Rec r ∷ xs) marks w st e =
    let once : nat_lt 1 (count (has_stamp r.stamp) facts) ≡ false =
    sym (up-more (get_or marks r.stamp 0) (count (has_stamp r.stamp) facts) (st r.stamp w.0.2)) ∙ e r.stamp w.0.2 in
    rw once (never_twice facts xs marks w.1 st e)
never_twice facts (End g ∷ xs) marks w st e = never_twice facts xs marks w.1 st e

-- where no log has a place at or past its least count, no record stands past a count
pub never_past : (facts xs : List Fact) (s : Survey) → AreWithin xs → AreBounds facts s.bounds →
    ((log n : ℕ) → log < LOGS_MAX → list_any (is_record_from log n) xs ≡ true → nat_lt n (get_or s.tops log 0) ≡ true) →
    ((log : ℕ) → log < LOGS_MAX → IsUnderrun s log) → first_place (is_past facts) xs ≡ None
never_past facts [] s w b t u = refl
never_past facts (Rec r ∷ xs) s w b t u =
    let here : (nat_eq r.log r.log && nat_le r.at r.at) ≡ true = grind arith in
    let below : nat_lt r.at (get_or s.tops r.log 0) ≡ true = t r.log r.at w.0.0 (rw here refl) in
    let apart : list_any (is_mark_within r.log r.at) facts ≡ false = sym (b r.log r.at w.0.0) ∙ u r.log w.0.0 r.at below in
    rw apart (never_past facts xs s w.1 b (λ log n lt e. t log n lt (or_right (is_record_from log n (Rec r)) (list_any (is_record_from log n) xs) e)) u)
never_past facts (End g ∷ xs) s w b t u = never_past facts xs s w.1 b t u

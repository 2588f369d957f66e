-- Facts that conflict nowhere.
use Rattle.std.proofs.Common.{◌≡◌, ℕ, inl, inr, List, [], ◌∷◌, refl, sym, subst, ◌∙◌}
use mathlib.Core.Bool.{true≢false}
use Rattle.std.specs.Prelude.{Bool, true, false, if◌then◌else◌, Option, Some, None, map}
use Rattle.std.specs.Cmp.{IsTotalOrder}
use Rattle.std.specs.List.{All, Contains, list_any, filter}
use Rattle.std.proofs.lemmas.List.Elements.{All-from_recursion, All-contains, All-contains_itself, All-weaker, recursion_from_All}
use Rattle.aud_event.specs.Exactness.{fact_exact}
use Rattle.aud_event.specs.Facts.{first_fact_fault}
use Rattle.aud_event.specs.Meanings.{PlanOf}
use Rattle.aud_event.specs.declared.fact.Fact.{Fact}
use Rattle.aud_event.specs.contracts.fact.FactOrd.TheImpl as fact
use Rattle.aud_event.specs.contracts.fact.FactOrd.TheImpl.Laws as laws
use Rattle.base_sorted.proofs.Members.{member_of, contains_with_item, same_members}
use Rattle.base_sorted.specs.Sets.{has, with_item}
use Rattle.base_sorted.proofs.Strict.{some_passes, one_passes}
use Rattle.aud_facts.specs.declared.status.Kind.{Kind}
use Rattle.aud_facts.specs.declared.status.Kind.TheVariants.{TwoRecords, StampTwice, TwoCounts, PastCount, StampOrder}
use Rattle.aud_facts.specs.declared.status.FactStatus.TheVariants.{Sealed}
use Rattle.aud_facts.specs.Clashes.{clashes, conflict, is_against, least_place, place_of}
use Rattle.aud_facts.specs.Growth.{IsConflict}
use Rattle.aud_facts.specs.Order.{AreOrdered}
use Rattle.aud_facts.specs.Quiet.{AreQuiet, AreAmong, QuietIsNoConflict, PartsAreQuiet, SealedIsAll}
use Rattle.aud_facts.specs.Sets.{AreSound}
use Rattle.aud_facts.specs.Status.{fact_status, or_waiting, or_gap, least_below, is_waiting, is_missing, is_record, count}
use Rattle.aud_facts.proofs.Grown.{in_conflict, none_passes, sealed_is_full}
use Rattle.base_values.proofs.Bools.{is_false, or_false}

-- where no fact passes, there is no least place of those that pass
left_out : (f : Fact) (fs : List Fact) (b : Bool) → b ≡ false → least_place (map place_of fs) ≡ None → least_place (map place_of (if b then f ∷ fs else fs)) ≡ None
left_out f fs true e h = cc
left_out f fs false e h = h

no_least : (t : Fact → Bool) (xs : List Fact) → list_any t xs ≡ false → least_place (map place_of (filter t xs)) ≡ None
no_least t [] e = refl
no_least t (x ∷ xs) e =
    let parts = or_false (t x) (list_any t xs) e in
    left_out x (filter t xs) (t x) parts.0 (no_least t xs parts.1)

-- no fact is against another
none_against : (k : Kind) (facts : List Fact) → AreQuiet facts → list_any (is_against k facts) facts ≡ false
none_against k facts quiet = is_false (list_any (is_against k facts) facts) found
  where
    apart : (f g : Fact) → Contains facts f → Contains facts g → clashes k f g ≡ true → ⊥
    apart f g there other e = true≢false (sym e ∙ quiet k f g there other)

    found : list_any (is_against k facts) facts ≡ true → ⊥
    found e =
        let first = some_passes (is_against k facts) facts e in
        let second = some_passes (clashes k first.0) facts first.2 in
        apart first.0 second.0 first.1 second.1 second.2

no_conflict : (k : Kind) (facts : List Fact) → AreQuiet facts → conflict k facts ≡ None
no_conflict k facts quiet = no_least (is_against k facts) facts (none_against k facts quiet)

-- what is reported once there is no conflict is none
not_reported : (waits gap : Option ℕ) → IsConflict (or_waiting waits (or_gap gap)) → ⊥
not_reported (Some log) gap c = c
not_reported None (Some stamp) c = c
not_reported None None c = c

quiet_status : (logs : ℕ) (facts : List Fact) → AreQuiet facts → fact_status logs facts ≡ or_waiting (least_below (is_waiting facts) logs) (or_gap (least_below (is_missing facts) (count is_record facts)))
quiet_status logs facts quiet =
    rw (no_conflict TwoRecords facts quiet, no_conflict StampTwice facts quiet, no_conflict TwoCounts facts quiet, no_conflict PastCount facts quiet, no_conflict StampOrder facts quiet) refl

clash_is_conflict : (k : Kind) (logs : ℕ) (facts : List Fact) (f g : Fact) → Contains facts f → Contains facts g → clashes k f g ≡ true → IsConflict (fact_status logs facts)
clash_is_conflict k logs facts f g there other e = in_conflict k logs facts reported_some
  where
    against : list_any (is_against k facts) facts ≡ true
    against = one_passes (is_against k facts) facts f there (one_passes (clashes k f) facts g other e)

    reported_some : conflict k facts ≡ None → ⊥
    reported_some nothing = true≢false (sym against ∙ none_passes (is_against k facts) facts nothing)

pub quiet_is_no_conflict : QuietIsNoConflict
quiet_is_no_conflict logs facts = (from, to)
  where
    from : AreQuiet facts → IsConflict (fact_status logs facts) → ⊥
    from quiet c =
        not_reported (least_below (is_waiting facts) logs) (least_below (is_missing facts) (count is_record facts))
        (subst IsConflict (quiet_status logs facts quiet) c)

    to : (IsConflict (fact_status logs facts) → ⊥) → AreQuiet facts
    to calm k f g there other = is_false (clashes k f g) (λ e. calm (clash_is_conflict k logs facts f g there other e))

pub parts_are_quiet : PartsAreQuiet
parts_are_quiet xs ys among quiet k f g there other = quiet k f g (among f there) (among g other)

facts_total : IsTotalOrder fact.ghosts.cmp
facts_total = laws.total-law

-- a part of sound facts is sound
part_sound : (plan : PlanOf) (xs ys : List Fact) → AreAmong xs ys → AreSound plan ys → AreSound plan xs
part_sound plan xs ys among sound =
    let each = All-from_recursion (λ f. first_fact_fault plan f ≡ None) ys sound in
    recursion_from_All (λ f. first_fact_fault plan f ≡ None) xs
    (All-weaker (Contains xs) (λ f. first_fact_fault plan f ≡ None) (λ f there. All-contains (λ g. first_fact_fault plan g ≡ None) ys f each (among f there)) xs (All-contains_itself xs))

-- with one more of them, a part is still a part
among_with : (f : Fact) (xs ys : List Fact) → Contains ys f → AreAmong xs ys → AreAmong (with_item fact.ghosts.cmp f xs) ys
among_with f xs ys there among g h = elim ((contains_with_item facts_total fact_exact f xs g).0 h) [
  | inl old ↦ among g old
  | inr new ↦ subst (Contains ys) (sym new) there
]

-- a sealed part of quiet facts has each of them
has_each : (plan : PlanOf) (xs ys : List Fact) (f : Fact) → AreOrdered xs → AreSound plan ys → fact_status plan.logs xs ≡ Sealed → AreAmong xs ys → AreQuiet ys → Contains ys f → Contains xs f
has_each plan xs ys f ordered sound sealed among quiet there = by_test (has fact.ghosts.cmp xs f) refl
  where
    each : All (λ g. first_fact_fault plan g ≡ None) ys
    each = All-from_recursion (λ g. first_fact_fault plan g ≡ None) ys sound

    by_test : (b : Bool) → has fact.ghosts.cmp xs f ≡ b → Contains xs f
    by_test true e = member_of facts_total fact_exact xs f e
    by_test false e = absurd ((quiet_is_no_conflict plan.logs (with_item fact.ghosts.cmp f xs)).0
        (parts_are_quiet (with_item fact.ghosts.cmp f xs) ys (among_with f xs ys there among) quiet)
        (sealed_is_full plan xs f ordered (part_sound plan xs ys among sound) sealed (All-contains (λ g. first_fact_fault plan g ≡ None) ys f each there) e))

pub sealed_is_all : SealedIsAll
sealed_is_all plan xs ys ordered others sound sealed among quiet =
    same_members facts_total fact_exact ys xs others ordered (λ f. (has_each plan xs ys f ordered sound sealed among quiet, among f))

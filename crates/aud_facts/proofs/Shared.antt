-- A share of facts: it is ordered and sound as they are, and the only share of one is all of them.
use Rattle.std.proofs.Common.{◌≡◌, refl, ap, ℕ, Bool, true, false, cond, List, [], ◌∷◌}
use Rattle.std.proofs.Math.Nat.{mod-one}
use Rattle.std.proofs.lemmas.List.Kept.{IsStrictlySortedBy-filter}
use Rattle.std.proofs.lemmas.List.Elements.{All-nil, All-cons}
use Rattle.std.specs.Prelude.{All}
use Rattle.std.specs.List.{AllByRecursion, filter}
use Rattle.aud_event.specs.Exactness.{fact_exact}
use Rattle.aud_event.specs.declared.fact.Fact.{Fact}
use Rattle.aud_event.specs.declared.fact.Fact.TheVariants.{Rec, End}
use Rattle.aud_event.specs.contracts.fact.FactOrd.TheImpl as fact_ord
use Rattle.aud_event.specs.contracts.fact.FactOrd.TheImpl.Laws as fact_laws
use Rattle.base_sorted.specs.Sets.{inserted}
use Rattle.base_sorted.proofs.Members.{inserted_is}
use Rattle.aud_facts.specs.Order.{AreOrdered}
use Rattle.aud_facts.specs.Shares.{is_of_share, share_of}

pub all_shared : {K : Type 0} (P : K → Type 0) (p : K → Bool) (xs : List K) → AllByRecursion P xs → AllByRecursion P (filter p xs)
all_shared P p [] a = a
all_shared P p (x ∷ xs) a = either_way (p x) (all_shared P p xs a.1)
  where
    either_way : (b : Bool) → AllByRecursion P (filter p xs) → AllByRecursion P (cond b (x ∷ filter p xs) (filter p xs))
    either_way true rest = (a.0, rest)
    either_way false rest = rest

pub by_place : {K : Type 0} (P : K → Type 0) (xs : List K) → AllByRecursion P xs → All P xs
by_place P [] a = All-nil P
by_place P (x ∷ xs) a = All-cons P x xs a.0 (by_place P xs a.1)

-- putting in each fact of a share makes the share
pub share_inserted : (shares number : ℕ) (facts : List Fact) → AreOrdered facts → share_of shares number facts ≡ inserted fact_ord.ghosts.cmp (share_of shares number facts) []
share_inserted shares number facts ordered =
    inserted_is fact_laws.total-law fact_exact (share_of shares number facts) (share_of shares number facts)
    (IsStrictlySortedBy-filter fact_ord.ghosts.cmp (is_of_share shares number) facts ordered) (λ x. ((λ h. h), (λ h. h)))

is_of_one : (f : Fact) → is_of_share 1 0 f ≡ true
is_of_one (Rec r) = rw (mod-one r.log) refl
is_of_one (End e) = rw (mod-one e.log) refl

pub share_of_one : (facts : List Fact) → share_of 1 0 facts ≡ facts
share_of_one [] = refl
share_of_one (f ∷ facts) = rw (is_of_one f) (ap (λ fs. f ∷ fs) (share_of_one facts))

-- Real time by recursion agrees with real time by places.
use Rattle.std.proofs.Common.{◌≡◌, ℕ, true, false, cond, not, ◌&&◌, ◌||◌, nat_eq, [], ◌∷◌, ◌++◌, refl, ◌∙◌, ap}
use Rattle.aud_history.specs.Histories.{History, is_in, is_completed, is_before, from_first}
use Rattle.aud_history.specs.Places.{IsBefore}
use Rattle.base_values.proofs.Bools.{or_false, and_true, true_and, not_true, not_false}

cut_at_first : (u : ℕ) (h : History) → (a : History) × ((h ≡ a ++ from_first u h) × (is_in a u ≡ false))
cut_at_first u [] = ([], (refl, refl))
cut_at_first u (e ∷ h) =
    elim (nat_eq e.0 u) as (λ k. nat_eq e.0 u ≡ k → (a : History) × ((e ∷ h ≡ a ++ cond k (e ∷ h) (from_first u h)) × (is_in a u ≡ false))) [
      | true ↦ λ _. ([], (refl, refl))
      | false ↦ λ other.
          let (a, (is, none)) = cut_at_first u h in
          (e ∷ a, (ap (λ l. e ∷ l) is, ap (λ k. k || is_in a u) other ∙ none))
    ] refl

pub from_first-append : (u : ℕ) (a b : History) → is_in a u ≡ false → from_first u (a ++ b) ≡ from_first u b
from_first-append u [] b none = refl
from_first-append u (e ∷ a) b none =
    let both : (nat_eq e.0 u ≡ false) × (is_in a u ≡ false) = or_false (nat_eq e.0 u) (is_in a u) none in
    ap (λ k. cond k (e ∷ (a ++ b)) (from_first u (a ++ b))) both.0 ∙ from_first-append u a b both.1

pub not_in_rest : (u t : ℕ) (b : History) → is_in b t ≡ false → is_in (from_first u b) t ≡ false
not_in_rest u t [] none = refl
not_in_rest u t (e ∷ b) none =
    elim (nat_eq e.0 u) as (λ k. is_in (cond k (e ∷ b) (from_first u b)) t ≡ false) [
      | true ↦ none
      | false ↦ not_in_rest u t b ((or_false (nat_eq e.0 t) (is_in b t) none).1)
    ]

pub IsBefore-from_test : (h : History) (t u : ℕ) → is_before h t u ≡ true → IsBefore h t u
IsBefore-from_test h t u b =
    let outer : ((is_completed h t && is_in h u) ≡ true) × (not (is_in (from_first u h) t) ≡ true) = and_true (is_completed h t && is_in h u) (not (is_in (from_first u h) t)) b in
    let inner : (is_completed h t ≡ true) × (is_in h u ≡ true) = and_true (is_completed h t) (is_in h u) outer.0 in
    let (a, (is, none)) = cut_at_first u h in
    (inner.0, inner.1, (a, (from_first u h, (is, not_true (is_in (from_first u h) t) outer.1, none))))

pub test-from_IsBefore : (h : History) (t u : ℕ) → IsBefore h t u → is_before h t u ≡ true
test-from_IsBefore h t u (done, there, (a, (b, (is, after, front)))) =
    let rest : from_first u h ≡ from_first u b = ap (from_first u) is ∙ from_first-append u a b front in
    let none : is_in (from_first u h) t ≡ false = ap (λ l. is_in l t) rest ∙ not_in_rest u t b after in
    true_and (is_completed h t && is_in h u) (not (is_in (from_first u h) t)) (true_and (is_completed h t) (is_in h u) done there) (not_false (is_in (from_first u h) t) none)

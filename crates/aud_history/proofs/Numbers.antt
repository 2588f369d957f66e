-- The places of transactions' rows, by the transactions' numbers.
use Rattle.std.specs.Prelude.{◌≡◌, ℕ, suc, ◌+◌, ◌<◌, ◌≤◌, Bool, true, false, not, cond, nat_eq, nat_lt, List, [], ◌∷◌, map, length, All, Option, Some, None, slice_index_or, refl}
use Rattle.std.specs.List.{list_any, position, position_or_len}
use Rattle.std.proofs.Common.{◌||◌, sym, ◌∙◌, ap, inl, inr, arith}
use Rattle.std.proofs.lemmas.List.{get_or_past}
use Rattle.std.proofs.lemmas.Bool.Decides.{nat_tests}
use Rattle.aud_event.specs.Limits as limit
use Rattle.aud_event.specs.Meanings.{PlanOf}
use Rattle.base_values.proofs.Bools.{split}
use Rattle.aud_event.specs.Rows.{below_most}
use Rattle.aud_history.specs.Histories.{History, is_in}
use Rattle.aud_history.specs.FirstFault.{FitsPlan}
use Rattle.aud_history.specs.Table.{RowOf, row_of, table_of, transactions, ArePlacesOf}
use Rattle.aud_history.proofs.Tables.{any-transactions}

pub tx-rows : (h : History) (ts : List ℕ) → map (λ (r : RowOf). r.tx) (map (row_of h) ts) ≡ ts
tx-rows h [] = refl
tx-rows h (t ∷ ts) = ap (λ l. t ∷ l) (tx-rows h ts)

pub lt-any : (q : ℕ → Bool) (ts : List ℕ) → nat_lt (position_or_len q ts) (length ts) ≡ list_any q ts
lt-any q [] = grind (arith, nat_tests)
lt-any q (t ∷ ts) =
    elim (q t) as (λ k. nat_lt (cond (not k) (1 + position_or_len q ts) 0) (suc (length ts)) ≡ (k || list_any q ts)) [
      | true ↦ grind (arith, nat_tests)
      | false ↦ (let down : nat_lt (1 + position_or_len q ts) (suc (length ts)) ≡ nat_lt (position_or_len q ts) (length ts) = grind (arith, nat_tests) in down) ∙ lt-any q ts
    ]

none-from_any : (q : ℕ → Bool) (ts : List ℕ) → list_any q ts ≡ false → position q ts ≡ None
none-from_any q ts none = ap (λ k. cond k (Some (position_or_len q ts)) None) (lt-any q ts ∙ none)

-- no event that fits a plan is of a transaction whose number is out of range
too-great : (plan : PlanOf) (h : History) (t : ℕ) → limit.most_transactions ≤ t → All (FitsPlan plan) h → is_in h t ≡ false
too-great plan [] t great fits = refl
too-great plan (e ∷ h) t great fits =
    let low : e.0 < limit.most_transactions = below_most plan.format e.0 (fits 0 e (omega arith)).0 in
    let other : nat_eq e.0 t ≡ false = grind (arith, nat_tests) in
    ap (λ k. k || is_in h t) other ∙ too-great plan h t great (λ k d inside. fits (suc k) d (omega arith))

-- what stands at the numbers in range are the places of all
pub places-of_low : (plan : PlanOf) (h : History) (numbers : List ℕ) (places : List (Option ℕ)) → All (FitsPlan plan) h → numbers ≡ map (λ (r : RowOf). r.tx) (table_of h) →
    length places ≡ limit.most_transactions → ((t : ℕ) → t < limit.most_transactions → slice_index_or places t None ≡ position (nat_eq t) numbers) → ArePlacesOf numbers places
places-of_low plan h numbers places fits are long low = λ t.
    elim (split (nat_lt t limit.most_transactions)) [
      | inl under ↦ let inside : t < limit.most_transactions = grind (arith, nat_tests) in low t inside
      | inr over ↦
          let great : limit.most_transactions ≤ t = grind (arith, nat_tests) in
          let absent : list_any (nat_eq t) (transactions h) ≡ false = any-transactions h t ∙ too-great plan h t great fits in
          let none : position (nat_eq t) numbers ≡ None = ap (position (nat_eq t)) (are ∙ tx-rows h (transactions h)) ∙ none-from_any (nat_eq t) (transactions h) absent in
          get_or_past places t None (grind (arith, long, great)) ∙ sym none
    ]

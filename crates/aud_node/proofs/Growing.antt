-- Lists that grow by one, and facts of all numbers below one.
use Rattle.std.proofs.Common.{◌<◌, ◌≢◌, ◌≡◌, ℕ, suc, ◌+◌, List, [], ◌∷◌, ◌++◌, map, ap, sym, ◌∙◌, subst, arith}
use Rattle.std.proofs.lemmas.List.{map-append}
use mathlib.Core.Logic.{dite}
use native.Mathlib.Decide.{ℕ_discrete}
use Rattle.aud_node.specs.Logs.{upto}

-- one more was made, each from its number
pub made_next : {P : Type 0} (f : ℕ → P) (items new : List P) (p : P) (n : ℕ) → new ≡ items ++ p ∷ [] → items ≡ map f (upto n) → p ≡ f n → new ≡ map f (upto (n + 1))
made_next f items new p n is so_far e =
    let h : suc n ≡ n + 1 = omega arith in
    is ∙ ap (λ l. l ++ p ∷ []) so_far ∙ ap (λ x. map f (upto n) ++ x ∷ []) e ∙ sym (map-append f (upto n) (n ∷ [])) ∙ ap (λ k. map f (upto k)) h

-- what holds of all numbers below one, and of it
pub below_more : (Q : ℕ → Type 0) (n : ℕ) → ((k : ℕ) → k < n → Q k) → Q n → (k : ℕ) → k < n + 1 → Q k
below_more Q n so_far q k h = dite (ℕ_discrete k n) (λ (e : k ≡ n). subst Q (sym e) q) (λ (ne : k ≢ n). so_far k (omega arith))

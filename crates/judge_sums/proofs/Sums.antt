-- Sums over the transactions that an order names.
use Rattle.std.specs.Prelude.{◌≡◌, ℕ, ℤ, ◌+ℤ◌, ◌≤ℤ◌, true, false, not, ◌||◌, nat_eq, List, [], ◌∷◌, ◌++◌, refl}
use Rattle.std.specs.List.{list_any}
use Rattle.std.proofs.Common.{sym, ◌∙◌, ap, subst, inl, inr, arith}
use Rattle.std.proofs.lemmas.Int.{ints}
use Rattle.base_values.proofs.Bools.{is_false, and_true, true_and, not_true, not_false, true_or, or_right, split, nat_eq-refl, nat_eq-is, nat_eq-sym}
use Rattle.aud_history.proofs.Tables.{are_different}
use Rattle.aud_witness.specs.declared.decision.Decision.{Decision}
use Rattle.aud_witness.specs.Orders.{is_named, are_named_once}
use Rattle.aud_witness.proofs.Beginnings.{is_named-append, new_at, new_after, named_at}
use Rattle.aud_witness.proofs.Good.{place_of}
use Rattle.judge_sums.specs.Sums.{sum_over, sum_of}

sum_over-middle : (g : ℕ → ℤ) (a : List Decision) (d : Decision) (b : List Decision) → sum_over g (a ++ d ∷ b) ≡ g d.tx +ℤ sum_over g (a ++ b)
sum_over-middle g [] d b = refl
sum_over-middle g (e ∷ a) d b =
    let rest : sum_over g (a ++ d ∷ b) ≡ g d.tx +ℤ sum_over g (a ++ b) = sum_over-middle g a d b in
    let swap : g e.tx +ℤ (g d.tx +ℤ sum_over g (a ++ b)) ≡ g d.tx +ℤ (g e.tx +ℤ sum_over g (a ++ b)) = omega (arith, ints) in
    ap (λ n. g e.tx +ℤ n) rest ∙ swap

pub named_without : (a : List Decision) (d : Decision) (b : List Decision) (t : ℕ) → nat_eq d.tx t ≡ false → is_named (a ++ b) t ≡ is_named (a ++ d ∷ b) t
named_without [] d b t off = sym (ap (λ k. k || is_named b t) off)
named_without (x ∷ a) d b t off = ap (λ k. nat_eq x.tx t || k) (named_without a d b t off)

named_once_without : (a : List Decision) (d : Decision) (b : List Decision) → are_named_once (a ++ d ∷ b) ≡ true → is_named (a ++ b) d.tx ≡ false
named_once_without a d b once =
    is_named-append a b d.tx ∙ ap (λ k. k || is_named b d.tx) (new_at a d b once) ∙ new_after a d b once

pub apart : (p : List Decision) (m n : ℕ) → is_named p m ≡ false → is_named p n ≡ true → nat_eq m n ≡ false
apart p m n gone there =
    is_false (nat_eq m n) (λ same. let is : m ≡ n = nat_eq-is m n same in let wrong : is_named p m ≡ true = ap (is_named p) is ∙ there in cc)

once_without : (a : List Decision) (d : Decision) (b : List Decision) → are_named_once (a ++ d ∷ b) ≡ true → are_named_once (a ++ b) ≡ true
once_without [] d b once = (and_true (not (is_named b d.tx)) (are_named_once b) once).1
once_without (x ∷ a) d b once =
    let parts : (not (is_named (a ++ d ∷ b) x.tx) ≡ true) × (are_named_once (a ++ d ∷ b) ≡ true) = and_true (not (is_named (a ++ d ∷ b) x.tx)) (are_named_once (a ++ d ∷ b)) once in
    let alone : is_named (a ++ d ∷ b) x.tx ≡ false = not_true (is_named (a ++ d ∷ b) x.tx) parts.0 in
    let off : nat_eq d.tx x.tx ≡ false = nat_eq-sym d.tx x.tx ∙ apart (a ++ d ∷ b) x.tx d.tx alone (named_at a d b) in
    true_and (not (is_named (a ++ b) x.tx)) (are_named_once (a ++ b)) (not_false (is_named (a ++ b) x.tx) (named_without a d b x.tx off ∙ alone)) (once_without a d b parts.1)

-- an order that names the same transactions once has the same sum
pub same-sums : (g : ℕ → ℤ) (ts : List ℕ) (p : List Decision) → are_different ts ≡ true → are_named_once p ≡ true → ((t : ℕ) → is_named p t ≡ list_any (nat_eq t) ts) → sum_over g p ≡ sum_of g ts
same-sums g [] [] differ once same = refl
same-sums g [] (d ∷ p) differ once same = absurd (let wrong : is_named (d ∷ p) d.tx ≡ true = named_at [] d p in let gone = same d.tx in cc)
same-sums g (t ∷ ts) p differ once same =
    let there : is_named p t ≡ true = same t ∙ true_or (nat_eq t t) (list_any (nat_eq t) ts) (nat_eq-refl t) in
    let (a, (d, (b, (whole, is_t, _)))) = place_of p t there in
    let once_at : are_named_once (a ++ d ∷ b) ≡ true = subst (λ l. are_named_once l ≡ true) whole once in
    let alone : list_any (nat_eq t) ts ≡ false = not_true (list_any (nat_eq t) ts) (and_true (not (list_any (nat_eq t) ts)) (are_different ts) differ).0 in
    let others : (u : ℕ) → is_named (a ++ b) u ≡ list_any (nat_eq u) ts =
    λ u. elim (split (nat_eq d.tx u)) [
      | inl own ↦
          let is_u : d.tx ≡ u = nat_eq-is d.tx u own in
          let gone : is_named (a ++ b) u ≡ false = ap (is_named (a ++ b)) (sym is_u) ∙ named_once_without a d b once_at in
          let absent : list_any (nat_eq u) ts ≡ false = ap (λ n. list_any (nat_eq n) ts) (sym is_u ∙ is_t) ∙ alone in
          gone ∙ sym absent
      | inr other ↦
          let not_t : nat_eq u t ≡ false = ap (nat_eq u) (sym is_t) ∙ nat_eq-sym u d.tx ∙ other in
          named_without a d b u other ∙ ap (λ l. is_named l u) (sym whole) ∙ same u ∙ ap (λ k. k || list_any (nat_eq u) ts) not_t
    ] in
    let rest : sum_over g (a ++ b) ≡ sum_of g ts = same-sums g ts (a ++ b) (and_true (not (list_any (nat_eq t) ts)) (are_different ts) differ).1 (once_without a d b once_at) others in
    ap (sum_over g) whole ∙ sum_over-middle g a d b ∙ ap (λ n. g n +ℤ sum_over g (a ++ b)) is_t ∙ ap (λ n. g t +ℤ n) rest

-- sums of what is at most so large are at most so large
pub sums-below : (f g : ℕ → ℤ) (ts : List ℕ) → ((t : ℕ) → list_any (nat_eq t) ts ≡ true → f t ≤ℤ g t) → sum_of f ts ≤ℤ sum_of g ts
sums-below f g [] each = omega (arith, ints)
sums-below f g (t ∷ ts) each =
    let first : f t ≤ℤ g t = each t (true_or (nat_eq t t) (list_any (nat_eq t) ts) (nat_eq-refl t)) in
    let rest : sum_of f ts ≤ℤ sum_of g ts = sums-below f g ts (λ u there. each u (later u there)) in
    omega (arith, ints, first, rest)
  where
    later : (u : ℕ) → list_any (nat_eq u) ts ≡ true → list_any (nat_eq u) (t ∷ ts) ≡ true
    later u there = or_right (nat_eq u t) (list_any (nat_eq u) ts) there

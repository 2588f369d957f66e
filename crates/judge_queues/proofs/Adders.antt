-- Who added the items of a queue, and who took them, along an order.
use Rattle.std.specs.Prelude.{◌≡◌, ℕ, ◌+◌, ◌-◌, ◌<◌, ◌≤◌, ℤ, Bool, true, false, ◌&&◌, ◌||◌, nat_eq, nat_lt, List, [], ◌∷◌, ◌++◌, length, Some, slice_get, refl, ◌⊎◌}
use Rattle.std.proofs.Common.{sym, ◌∙◌, ap, subst, inl, inr, cond, arith}
use Rattle.std.proofs.lemmas.Bool.{ltb-true, lt-ltb}
use Rattle.std.proofs.lemmas.List.{length-append, append_assoc}
use Rattle.std.proofs.lemmas.Option.{some_pair_parts}
use Rattle.base_values.proofs.Bools.{or_true, and_true, true_and, true_or, or_right, is_false, split, nat_eq-refl, nat_eq-is}
use Rattle.aud_history.specs.Histories.{History}
use Rattle.aud_history.specs.Table.{row_of}
use Rattle.aud_witness.specs.declared.decision.Decision.{Decision}
use Rattle.aud_witness.specs.Orders.{is_named, are_named_once, is_kept, stands_before}
use Rattle.judge_clauses.specs.Clauses.{is_kept_in}
use Rattle.judge_clauses.proofs.Naming.{kept-named, fresh, rest-once, nothing-before}
use Rattle.search_model.specs.Queues.{adds_of, takes_of, taken_before, adder}
use Rattle.search_model.specs.Blocks.{added_of}
use Rattle.search_model.proofs.Lists.{get-or}
use Rattle.judge_queues.proofs.Running.{added-length}

module _ (h : History) (x : ℕ) where
  -- what those with fate C before R in p add, in their order
  abbrev pub queued : List Decision → ℕ → List ℤ
  queued [] r = []
  queued (d ∷ p) r = cond (nat_eq d.tx r) [] (cond (is_kept d) (added_of h x d.tx) [] ++ queued p r)

  -- how many items they add
  abbrev pub added_before : List Decision → ℕ → ℕ
  added_before [] r = 0
  added_before (d ∷ p) r = cond (nat_eq d.tx r) 0 (cond (is_kept d) (adds_of h x d.tx) 0 + added_before p r)

  pub queued-length : (p : List Decision) (r : ℕ) → length (queued p r) ≡ added_before p r
  queued-length [] r = refl
  queued-length (d ∷ p) r = go (nat_eq d.tx r) (is_kept d) (queued-length p r)
    where
      go : (a b : Bool) → length (queued p r) ≡ added_before p r → length (cond a [] (cond b (added_of h x d.tx) [] ++ queued p r)) ≡ cond a 0 (cond b (adds_of h x d.tx) 0 + added_before p r)
      go true b rest = refl
      go false true rest = let sum = length-append (added_of h x d.tx) (queued p r) in let own = added-length x (row_of h d.tx).block.executions in omega (arith, sum, own, rest)
      go false false rest = omega (arith, rest)

  -- who added the item at a place
  abbrev pub Added : List Decision → ℕ → List ℤ → ℕ → ℤ → Type 0
  Added p r own n v = (a : ℕ) × ((i : ℕ) × ((adder h x p r n ≡ Some (a, i)) × (((slice_get (added_of h x a) i ≡ Some v) × (stands_before p a r ≡ true) × (is_kept_in p a ≡ true)) ⊎ ((a ≡ r) × (slice_get own i ≡ Some v)))))

  -- one that is kept, before the rest
  kept-first : (d : Decision) (p : List Decision) → is_kept d ≡ true → is_kept_in (d ∷ p) d.tx ≡ true
  kept-first d p kept = true_or (nat_eq d.tx d.tx && is_kept d) (is_kept_in p d.tx) (true_and (nat_eq d.tx d.tx) (is_kept d) (nat_eq-refl d.tx) kept)

  stands-first : (d : Decision) (p : List Decision) (r : ℕ) → is_named p r ≡ true → stands_before (d ∷ p) d.tx r ≡ true
  stands-first d p r there = true_or (nat_eq d.tx d.tx && is_named p r) (stands_before p d.tx r) (true_and (nat_eq d.tx d.tx) (is_named p r) (nat_eq-refl d.tx) there)

  later : (d : Decision) (p : List Decision) (r : ℕ) → is_named (d ∷ p) r ≡ true → nat_eq d.tx r ≡ false → is_named p r ≡ true
  later d p r there other = sym (ap (λ b. b || is_named p r) other) ∙ there

  pub adder-at : (p : List Decision) (r : ℕ) (own : List ℤ) (n : ℕ) (v : ℤ) → is_named p r ≡ true → slice_get (queued p r ++ own) n ≡ Some v → Added p r own n v
  adder-at [] r own n v there at = absurd (cc)
  adder-at (d ∷ p) r own n v there at =
      elim (split (nat_eq d.tx r)) [
        | inl same ↦
            let here : slice_get own n ≡ Some v = sym (ap (λ b. slice_get (cond b [] (cond (is_kept d) (added_of h x d.tx) [] ++ queued p r) ++ own) n) same) ∙ at in (
              r,
              (
                n,
                (
                  ap (λ b. cond b (Some (r, n)) (cond (is_kept d) (cond (nat_lt n (adds_of h x d.tx)) (Some (d.tx, n)) (adder h x p r (n - adds_of h x d.tx))) (adder h x p r n))) same,
                  inr (refl, here),
                ),
              ),
            )
        | inr other ↦
            let named : is_named p r ≡ true = later d p r there other in
            let past : adder h x (d ∷ p) r n ≡ cond (is_kept d) (cond (nat_lt n (adds_of h x d.tx)) (Some (d.tx, n)) (adder h x p r (n - adds_of h x d.tx))) (adder h x p r n) =
            ap (λ b. cond b (Some (r, n)) (cond (is_kept d) (cond (nat_lt n (adds_of h x d.tx)) (Some (d.tx, n)) (adder h x p r (n - adds_of h x d.tx))) (adder h x p r n))) other in
            let more : slice_get ((cond (is_kept d) (added_of h x d.tx) [] ++ queued p r) ++ own) n ≡ Some v =
            sym (ap (λ b. slice_get (cond b [] (cond (is_kept d) (added_of h x d.tx) [] ++ queued p r) ++ own) n) other) ∙ at in
            elim (split (is_kept d)) [
              | inr dropped ↦
                  let rest = adder-at p r own n v named (sym (ap (λ b. slice_get ((cond b (added_of h x d.tx) [] ++ queued p r) ++ own) n) dropped) ∙ more) in
                  let none : adder h x (d ∷ p) r n ≡ adder h x p r n = past ∙ ap (λ b. cond b (cond (nat_lt n (adds_of h x d.tx)) (Some (d.tx, n)) (adder h x p r (n - adds_of h x d.tx))) (adder h x p r n)) dropped in
                  push d p r own n n v none rest
              | inl kept ↦
                  let all : slice_get (added_of h x d.tx ++ (queued p r ++ own)) n ≡ Some v =
                  ap (λ l. slice_get l n) (sym (append_assoc (added_of h x d.tx) (queued p r) own)) ∙ sym (ap (λ b. slice_get ((cond b (added_of h x d.tx) [] ++ queued p r) ++ own) n) kept) ∙ more in
                  let by : adder h x (d ∷ p) r n ≡ cond (nat_lt n (adds_of h x d.tx)) (Some (d.tx, n)) (adder h x p r (n - adds_of h x d.tx)) =
                  past ∙ ap (λ b. cond b (cond (nat_lt n (adds_of h x d.tx)) (Some (d.tx, n)) (adder h x p r (n - adds_of h x d.tx))) (adder h x p r n)) kept in
                  let size : length (added_of h x d.tx) ≡ adds_of h x d.tx = added-length x (row_of h d.tx).block.executions in
                  elim (get-or (added_of h x d.tx) (queued p r ++ own) n v all) [
                    | inl first ↦
                        let below : nat_lt n (adds_of h x d.tx) ≡ true = lt-ltb n (adds_of h x d.tx) (omega (arith, first.0, size)) in (
                          d.tx,
                          (
                            n,
                            (
                              by ∙ ap (λ b. cond b (Some (d.tx, n)) (adder h x p r (n - adds_of h x d.tx))) below,
                              inl (first.1, stands-first d p r named, kept-first d p kept),
                            ),
                          ),
                        )
                    | inr second ↦
                        let (k, (is, there)) = second in
                        let above : nat_lt n (adds_of h x d.tx) ≡ false = is_false (nat_lt n (adds_of h x d.tx)) (λ less. let wrong = ltb-true n (adds_of h x d.tx) less in omega (arith, wrong, is, size)) in
                        let left : n - adds_of h x d.tx ≡ k = omega (arith, is, size) in
                        push d p r own n k v (by ∙ ap (λ b. cond b (Some (d.tx, n)) (adder h x p r (n - adds_of h x d.tx))) above ∙ ap (adder h x p r) left) (adder-at p r own k v named there)
                  ]
            ]
      ]
    where
      push : (d : Decision) (p : List Decision) (r : ℕ) (own : List ℤ) (n k : ℕ) (v : ℤ) → adder h x (d ∷ p) r n ≡ adder h x p r k → Added p r own k v → Added (d ∷ p) r own n v
      push d p r own n k v is added =
          let (a, (i, (by, who))) = added in (
            a,
            (
              i,
              (
                is ∙ by,
                elim who [
                  | inl other ↦ inl (other.0, or_right (nat_eq d.tx a && is_named p r) (stands_before p a r) other.1, or_right (nat_eq d.tx a && is_kept d) (is_kept_in p a) other.2)
                  | inr itself ↦ inr itself
                ],
              ),
            ),
          )

  -- who adds an item is R itself, or stands before and is kept
  pub adder-stands : (p : List Decision) (r n a i : ℕ) → is_named p r ≡ true → adder h x p r n ≡ Some (a, i) → (a ≡ r) ⊎ ((stands_before p a r ≡ true) × (is_kept_in p a ≡ true))
  adder-stands [] r n a i there is = absurd (cc)
  adder-stands (d ∷ p) r n a i there is =
      elim (split (nat_eq d.tx r)) [
        | inl same ↦
            let (is_a, is_i) = some_pair_parts r a n i (sym (ap (λ b. cond b (Some (r, n)) (cond (is_kept d) (cond (nat_lt n (adds_of h x d.tx)) (Some (d.tx, n)) (adder h x p r (n - adds_of h x d.tx))) (adder h x p r n))) same) ∙ is) in
            inl (sym is_a)
        | inr other ↦
            let named : is_named p r ≡ true = later d p r there other in
            let past : cond (is_kept d) (cond (nat_lt n (adds_of h x d.tx)) (Some (d.tx, n)) (adder h x p r (n - adds_of h x d.tx))) (adder h x p r n) ≡ Some (a, i) =
            sym (ap (λ b. cond b (Some (r, n)) (cond (is_kept d) (cond (nat_lt n (adds_of h x d.tx)) (Some (d.tx, n)) (adder h x p r (n - adds_of h x d.tx))) (adder h x p r n))) other) ∙ is in
            by-fate d p r n a i named past (λ m found. push d p r a (adder-stands p r m a i named found))
      ]
    where
      push : (d : Decision) (p : List Decision) (r a : ℕ) → (a ≡ r) ⊎ ((stands_before p a r ≡ true) × (is_kept_in p a ≡ true)) → (a ≡ r) ⊎ ((stands_before (d ∷ p) a r ≡ true) × (is_kept_in (d ∷ p) a ≡ true))
      push d p r a who =
          elim who [
            | inl itself ↦ inl itself
            | inr other ↦ inr (or_right (nat_eq d.tx a && is_named p r) (stands_before p a r) other.0, or_right (nat_eq d.tx a && is_kept d) (is_kept_in p a) other.1)
          ]

      by-fate : (d : Decision) (p : List Decision) (r n a i : ℕ) → is_named p r ≡ true →
          cond (is_kept d) (cond (nat_lt n (adds_of h x d.tx)) (Some (d.tx, n)) (adder h x p r (n - adds_of h x d.tx))) (adder h x p r n) ≡ Some (a, i) →
          ((m : ℕ) → adder h x p r m ≡ Some (a, i) → (a ≡ r) ⊎ ((stands_before (d ∷ p) a r ≡ true) × (is_kept_in (d ∷ p) a ≡ true))) →
          (a ≡ r) ⊎ ((stands_before (d ∷ p) a r ≡ true) × (is_kept_in (d ∷ p) a ≡ true))
      by-fate d p r n a i named is further =
          elim (split (is_kept d)) [
            | inr dropped ↦ further n (sym (ap (λ b. cond b (cond (nat_lt n (adds_of h x d.tx)) (Some (d.tx, n)) (adder h x p r (n - adds_of h x d.tx))) (adder h x p r n)) dropped) ∙ is)
            | inl kept ↦
                let by : cond (nat_lt n (adds_of h x d.tx)) (Some (d.tx, n)) (adder h x p r (n - adds_of h x d.tx)) ≡ Some (a, i) =
                sym (ap (λ b. cond b (cond (nat_lt n (adds_of h x d.tx)) (Some (d.tx, n)) (adder h x p r (n - adds_of h x d.tx))) (adder h x p r n)) kept) ∙ is in
                elim (split (nat_lt n (adds_of h x d.tx))) [
                  | inl below ↦
                      let (is_a, is_i) = some_pair_parts d.tx a n i (sym (ap (λ b. cond b (Some (d.tx, n)) (adder h x p r (n - adds_of h x d.tx))) below) ∙ by) in
                      inr (subst (λ m. (stands_before (d ∷ p) m r ≡ true) × (is_kept_in (d ∷ p) m ≡ true)) is_a (stands-first d p r named, kept-first d p kept))
                  | inr above ↦ further (n - adds_of h x d.tx) (sym (ap (λ b. cond b (Some (d.tx, n)) (adder h x p r (n - adds_of h x d.tx))) above) ∙ by)
                ]
          ]

  -- at which place an item of A is
  pub adder-place : (p : List Decision) (r n a i : ℕ) → are_named_once p ≡ true → adder h x p r n ≡ Some (a, i) → (n ≡ added_before p a + i) × ((nat_eq a r ≡ true) ⊎ (is_named p a ≡ true))
  adder-place [] r n a i once is = absurd (cc)
  adder-place (d ∷ p) r n a i once is =
      elim (split (nat_eq d.tx r)) [
        | inl same ↦
            let (is_a, is_i) = some_pair_parts r a n i (sym (ap (λ b. cond b (Some (r, n)) (cond (is_kept d) (cond (nat_lt n (adds_of h x d.tx)) (Some (d.tx, n)) (adder h x p r (n - adds_of h x d.tx))) (adder h x p r n))) same) ∙ is) in
            let first : nat_eq d.tx a ≡ true = ap (nat_eq d.tx) (sym is_a) ∙ same in
            let none : added_before (d ∷ p) a ≡ 0 = ap (λ b. cond b 0 (cond (is_kept d) (adds_of h x d.tx) 0 + added_before p a)) first in
            (omega (arith, none, is_i), inl (ap (λ m. nat_eq m r) (sym is_a) ∙ nat_eq-refl r))
        | inr other ↦
            let past : cond (is_kept d) (cond (nat_lt n (adds_of h x d.tx)) (Some (d.tx, n)) (adder h x p r (n - adds_of h x d.tx))) (adder h x p r n) ≡ Some (a, i) =
            sym (ap (λ b. cond b (Some (r, n)) (cond (is_kept d) (cond (nat_lt n (adds_of h x d.tx)) (Some (d.tx, n)) (adder h x p r (n - adds_of h x d.tx))) (adder h x p r n))) other) ∙ is in
            by-fate d p r n a i once other past (λ m. adder-place p r m a i (rest-once d p once))
      ]
    where
      -- an item of one that comes later
      shifted : (d : Decision) (p : List Decision) (r n a i k : ℕ) → are_named_once (d ∷ p) ≡ true → nat_eq d.tx r ≡ false → n ≡ cond (is_kept d) (adds_of h x d.tx) 0 + k →
          (k ≡ added_before p a + i) × ((nat_eq a r ≡ true) ⊎ (is_named p a ≡ true)) → (n ≡ added_before (d ∷ p) a + i) × ((nat_eq a r ≡ true) ⊎ (is_named (d ∷ p) a ≡ true))
      shifted d p r n a i k once other is found =
          let differ : nat_eq d.tx a ≡ false =
          elim found.1 [
            | inl is_r ↦ ap (nat_eq d.tx) (nat_eq-is a r is_r) ∙ other
            | inr named ↦
                is_false (nat_eq d.tx a) (λ same.
                let gone : is_named p a ≡ false = ap (is_named p) (sym (nat_eq-is d.tx a same)) ∙ fresh d p once in
                cc)
          ] in
          let more : added_before (d ∷ p) a ≡ cond (is_kept d) (adds_of h x d.tx) 0 + added_before p a = ap (λ b. cond b 0 (cond (is_kept d) (adds_of h x d.tx) 0 + added_before p a)) differ in (
            let here = found.0 in omega (arith, more, is, here),
            elim found.1 [
              | inl is_r ↦ inl is_r
              | inr named ↦ inr (or_right (nat_eq d.tx a) (is_named p a) named)
            ],
          )

      by-fate : (d : Decision) (p : List Decision) (r n a i : ℕ) → are_named_once (d ∷ p) ≡ true → nat_eq d.tx r ≡ false →
          cond (is_kept d) (cond (nat_lt n (adds_of h x d.tx)) (Some (d.tx, n)) (adder h x p r (n - adds_of h x d.tx))) (adder h x p r n) ≡ Some (a, i) →
          ((m : ℕ) → adder h x p r m ≡ Some (a, i) → (m ≡ added_before p a + i) × ((nat_eq a r ≡ true) ⊎ (is_named p a ≡ true))) →
          (n ≡ added_before (d ∷ p) a + i) × ((nat_eq a r ≡ true) ⊎ (is_named (d ∷ p) a ≡ true))
      by-fate d p r n a i once other is further =
          elim (split (is_kept d)) [
            | inr dropped ↦
                let none : cond (is_kept d) (adds_of h x d.tx) 0 ≡ 0 = ap (λ b. cond b (adds_of h x d.tx) 0) dropped in
                shifted d p r n a i n once other (omega (arith, none))
                (further n (sym (ap (λ b. cond b (cond (nat_lt n (adds_of h x d.tx)) (Some (d.tx, n)) (adder h x p r (n - adds_of h x d.tx))) (adder h x p r n)) dropped) ∙ is))
            | inl kept ↦
                let by : cond (nat_lt n (adds_of h x d.tx)) (Some (d.tx, n)) (adder h x p r (n - adds_of h x d.tx)) ≡ Some (a, i) =
                sym (ap (λ b. cond b (cond (nat_lt n (adds_of h x d.tx)) (Some (d.tx, n)) (adder h x p r (n - adds_of h x d.tx))) (adder h x p r n)) kept) ∙ is in
                elim (split (nat_lt n (adds_of h x d.tx))) [
                  | inl below ↦
                      let (is_a, is_i) = some_pair_parts d.tx a n i (sym (ap (λ b. cond b (Some (d.tx, n)) (adder h x p r (n - adds_of h x d.tx))) below) ∙ by) in
                      let first : nat_eq d.tx a ≡ true = ap (nat_eq d.tx) (sym is_a) ∙ nat_eq-refl d.tx in
                      let none : added_before (d ∷ p) a ≡ 0 = ap (λ b. cond b 0 (cond (is_kept d) (adds_of h x d.tx) 0 + added_before p a)) first in
                      (omega (arith, none, is_i), inr (true_or (nat_eq d.tx a) (is_named p a) first))
                  | inr above ↦
                      let enough : adds_of h x d.tx ≤ n = not-less n (adds_of h x d.tx) above in
                      let size : cond (is_kept d) (adds_of h x d.tx) 0 ≡ adds_of h x d.tx = ap (λ b. cond b (adds_of h x d.tx) 0) kept in
                      shifted d p r n a i (n - adds_of h x d.tx) once other (omega (arith, enough, size))
                      (further (n - adds_of h x d.tx) (sym (ap (λ b. cond b (Some (d.tx, n)) (adder h x p r (n - adds_of h x d.tx))) above) ∙ by))
                ]
          ]
        where
          not-less : (a b : ℕ) → nat_lt a b ≡ false → b ≤ a
          not-less a b is = grind (arith, lt-ltb a b)

  -- # Of two, one before the other

  -- what is added before one that stands later begins with what was added up to and by one that stands earlier and is kept
  pub queued-through : (p : List Decision) (b r : ℕ) → are_named_once p ≡ true → stands_before p b r ≡ true → is_kept_in p b ≡ true →
      (rest : List ℤ) × (queued p r ≡ (queued p b ++ added_of h x b) ++ rest)
  queued-through [] b r once front kept = absurd (cc)
  queued-through (d ∷ p) b r once front kept =
      elim (split (nat_eq d.tx r)) [
        | inl same ↦
            absurd (
            let gone : is_named p r ≡ false = ap (is_named p) (sym (nat_eq-is d.tx r same)) ∙ fresh d p once in
            let behind : stands_before (d ∷ p) b r ≡ false = nothing-before d p r b gone in
            cc
            )
        | inr other ↦
            let past : queued (d ∷ p) r ≡ cond (is_kept d) (added_of h x d.tx) [] ++ queued p r = ap (λ b. cond b [] (cond (is_kept d) (added_of h x d.tx) [] ++ queued p r)) other in
            elim (split (nat_eq d.tx b)) [
              | inl here ↦
                  let is_b : d.tx ≡ b = nat_eq-is d.tx b here in
                  let gone : is_named p b ≡ false = ap (is_named p) (sym is_b) ∙ fresh d p once in
                  let is : is_kept d ≡ true =
                  elim (or_true (nat_eq d.tx b && is_kept d) (is_kept_in p b) kept) [
                    | inl own ↦ (and_true (nat_eq d.tx b) (is_kept d) own).1
                    | inr later_b ↦ absurd (let named : is_named p b ≡ true = kept-named p b later_b in cc)
                  ] in
                  let none : queued (d ∷ p) b ≡ [] = ap (λ c. cond c [] (cond (is_kept d) (added_of h x d.tx) [] ++ queued p b)) here in
                  (queued p r, past ∙ ap (λ c. cond c (added_of h x d.tx) [] ++ queued p r) is ∙ ap (λ t. added_of h x t ++ queued p r) is_b ∙ ap (λ l. (l ++ added_of h x b) ++ queued p r) (sym none))
              | inr differ ↦
                  let front_p : stands_before p b r ≡ true = sym (ap (λ c. (c && is_named p r) || stands_before p b r) differ) ∙ front in
                  let kept_p : is_kept_in p b ≡ true = sym (ap (λ c. (c && is_kept d) || is_kept_in p b) differ) ∙ kept in
                  let (rest, is) = queued-through p b r (rest-once d p once) front_p kept_p in
                  let own : queued (d ∷ p) b ≡ cond (is_kept d) (added_of h x d.tx) [] ++ queued p b = ap (λ c. cond c [] (cond (is_kept d) (added_of h x d.tx) [] ++ queued p b)) differ in
                  let first : List ℤ = cond (is_kept d) (added_of h x d.tx) [] in (
                    rest,
                    past ∙ ap (λ l. first ++ l) is ∙ sym (append_assoc first (queued p b ++ added_of h x b) rest) ∙ ap (λ l. l ++ rest) (sym (append_assoc first (queued p b) (added_of h x b)))
                        ∙ ap (λ l. (l ++ added_of h x b) ++ rest) (sym own),
                  )
            ]
      ]

  -- so there are at least as many of them
  pub added-through : (p : List Decision) (b r : ℕ) → are_named_once p ≡ true → stands_before p b r ≡ true → is_kept_in p b ≡ true → added_before p b + adds_of h x b ≤ added_before p r
  added-through p b r once front kept =
      let (rest, is) = queued-through p b r once front kept in
      let sizes = ap length is in
      let one = queued-length p r in
      let two = queued-length p b in
      let three = added-length x (row_of h b).block.executions in
      let four = length-append (queued p b ++ added_of h x b) rest in
      let five = length-append (queued p b) (added_of h x b) in
      omega (arith, sizes, one, two, three, four, five)

  -- # Who took an item

  abbrev pub Taker : List Decision → ℕ → ℕ → Type 0
  Taker p r m = (y : ℕ) × ((k : ℕ) × ((stands_before p y r ≡ true) × (is_kept_in p y ≡ true) × (k < takes_of h x y) × (m ≡ taken_before h x p y + k)))

  pub taker-of : (p : List Decision) (r m : ℕ) → are_named_once p ≡ true → is_named p r ≡ true → m < taken_before h x p r → Taker p r m
  taker-of [] r m once there low = absurd (cc)
  taker-of (d ∷ p) r m once there low =
      elim (split (nat_eq d.tx r)) [
        | inl same ↦
            absurd (
            let none : taken_before h x (d ∷ p) r ≡ 0 = ap (λ b. cond b 0 (cond (is_kept d) (takes_of h x d.tx) 0 + taken_before h x p r)) same in
            omega (arith, low, none)
            )
        | inr other ↦
            let named : is_named p r ≡ true = later d p r there other in
            let past : taken_before h x (d ∷ p) r ≡ cond (is_kept d) (takes_of h x d.tx) 0 + taken_before h x p r = ap (λ b. cond b 0 (cond (is_kept d) (takes_of h x d.tx) 0 + taken_before h x p r)) other in
            by-fate d p r m once named (omega (arith, low, past)) (λ k below. taker-of p r k (rest-once d p once) named below)
      ]
    where
      push : (d : Decision) (p : List Decision) (r m k : ℕ) → are_named_once (d ∷ p) ≡ true → m ≡ cond (is_kept d) (takes_of h x d.tx) 0 + k → Taker p r k → Taker (d ∷ p) r m
      push d p r m k once is taker =
          let (y, (j, (front, kept, low, at))) = taker in
          let named : is_named p y ≡ true = kept-named p y kept in
          let differ : nat_eq d.tx y ≡ false =
          is_false (nat_eq d.tx y) (λ same. let gone : is_named p y ≡ false = ap (is_named p) (sym (nat_eq-is d.tx y same)) ∙ fresh d p once in cc) in
          let more : taken_before h x (d ∷ p) y ≡ cond (is_kept d) (takes_of h x d.tx) 0 + taken_before h x p y = ap (λ b. cond b 0 (cond (is_kept d) (takes_of h x d.tx) 0 + taken_before h x p y)) differ in (
            y,
            (
              j,
              (
                or_right (nat_eq d.tx y && is_named p r) (stands_before p y r) front,
                or_right (nat_eq d.tx y && is_kept d) (is_kept_in p y) kept,
                low,
                omega (arith, is, at, more),
              ),
            ),
          )

      by-fate : (d : Decision) (p : List Decision) (r m : ℕ) → are_named_once (d ∷ p) ≡ true → is_named p r ≡ true → m < cond (is_kept d) (takes_of h x d.tx) 0 + taken_before h x p r →
          ((k : ℕ) → k < taken_before h x p r → Taker p r k) → Taker (d ∷ p) r m
      by-fate d p r m once named low further =
          elim (split (is_kept d)) [
            | inr dropped ↦
                let none : cond (is_kept d) (takes_of h x d.tx) 0 ≡ 0 = ap (λ b. cond b (takes_of h x d.tx) 0) dropped in
                push d p r m m once (omega (arith, none)) (further m (omega (arith, low, none)))
            | inl kept ↦
                let size : cond (is_kept d) (takes_of h x d.tx) 0 ≡ takes_of h x d.tx = ap (λ b. cond b (takes_of h x d.tx) 0) kept in
                elim (split (nat_lt m (takes_of h x d.tx))) [
                  | inl below ↦
                      let none : taken_before h x (d ∷ p) d.tx ≡ 0 = ap (λ b. cond b 0 (cond (is_kept d) (takes_of h x d.tx) 0 + taken_before h x p d.tx)) (nat_eq-refl d.tx) in
                      (d.tx, (m, (stands-first d p r named, kept-first d p kept, ltb-true m (takes_of h x d.tx) below, omega (arith, none))))
                  | inr above ↦
                      let enough : takes_of h x d.tx ≤ m = not-less m (takes_of h x d.tx) above in
                      push d p r m (m - takes_of h x d.tx) once (omega (arith, enough, size)) (further (m - takes_of h x d.tx) (omega (arith, low, enough, size)))
                ]
          ]
        where
          not-less : (a b : ℕ) → nat_lt a b ≡ false → b ≤ a
          not-less a b is = grind (arith, lt-ltb a b)

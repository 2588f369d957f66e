-- The ends of the rows, in the order of the rows and by their stamps.
use Rattle.std.specs.Prelude.{◌≡◌, ℕ, suc, zero, ◌+◌, ◌-◌, ◌<◌, ◌≤◌, Bool, true, false, if◌then◌else◌, nat_lt, List, [], ◌∷◌, ◌++◌, length, Some, slice_get, slice_index_or, Contains, refl}
use Rattle.std.specs.List.Sorted.{IsSorted, IsPermutation}
use Rattle.std.specs.Ordering.{is_lt, nat_cmp, ordering_then}
use Rattle.std.specs.Cmp.{nat_cmp_is}
use Rattle.std.specs.declared.cmp.Ordering.TheVariants.{Less}
use Rattle.std.proofs.Common.{sym, ◌∙◌, ap, subst, cond, inl, inr, arith, get_or, take}
use Rattle.std.proofs.lemmas.Bool.Decides.{nat_tests}
use Rattle.std.proofs.lemmas.List.{take_more, length-take-le, append-nil}
use Rattle.std.proofs.lemmas.List.Elements.{Contains-get_or}
use Rattle.std.proofs.lemmas.List.Sorted.{IsPermutation-sym, Contains-permutation}
use Rattle.base_values.proofs.Bools.{split}
use Rattle.aud_history.specs.Table.{RowOf}
use Rattle.aud_witness.specs.declared.end.End.{End}
use Rattle.aud_witness.specs.contracts.end.EndOrd.TheImpl as end_order
use Rattle.aud_witness.specs.Configurations.{is_ended}
use Rattle.aud_witness.specs.Agendas.{ends_from, AreEnds}

abbrev end_of : RowOf → ℕ → End
end_of r n = record { last = r.last; row = n }

abbrev end_at : ℕ → RowOf → List End
end_at n r = if is_ended r.status then record { last = r.last; row = n } ∷ [] else []

-- one more row
pub ends_from-push : (n : ℕ) (rs : List RowOf) (r : RowOf) → ends_from n (rs ++ r ∷ []) ≡ ends_from n rs ++ end_at (n + length rs) r
ends_from-push n [] r =
    let still : n ≡ n + 0 = omega arith in ap (λ m. end_at m r) still
ends_from-push n (x ∷ rs) r =
    let rest : ends_from (suc n) (rs ++ r ∷ []) ≡ ends_from (suc n) rs ++ end_at (n + suc (length rs)) r =
    ends_from-push (suc n) rs r ∙ ap (λ m. ends_from (suc n) rs ++ end_at m r) (omega arith) in
    elim (is_ended x.status) as (λ k. cond k (record { last = x.last; row = n } ∷ ends_from (suc n) (rs ++ r ∷ [])) (ends_from (suc n) (rs ++ r ∷ [])) ≡ cond k (record { last = x.last; row = n } ∷ ends_from (suc n) rs) (ends_from (suc n) rs) ++ end_at (n + suc (length rs)) r) [
      | true ↦ ap (λ l. record { last = x.last; row = n } ∷ l) rest
      | false ↦ rest
    ]

-- a row that ended has its end there
there : (n : ℕ) (rs : List RowOf) (i : ℕ) (r : RowOf) → slice_get rs i ≡ Some r → is_ended r.status ≡ true → Contains (ends_from n rs) (record { last = r.last; row = n + i })
there n [] i r at ended = absurd (cc)
there n (x ∷ rs) zero r at ended =
    let same : x ≡ r = cc in
    subst (λ (y : RowOf). Contains (cond (is_ended x.status) (record { last = x.last; row = n } ∷ ends_from (suc n) rs) (ends_from (suc n) rs)) (record { last = y.last; row = n + 0 })) same
    (subst (λ k. Contains (cond k (record { last = x.last; row = n } ∷ ends_from (suc n) rs) (ends_from (suc n) rs)) (record { last = x.last; row = n + 0 }))
    (sym (ap (λ (y : RowOf). is_ended y.status) same ∙ ended))
    (0, omega arith, ap (λ m. end_of x m) (omega arith)))
there n (x ∷ rs) (suc i) r at ended =
    let (k, inside, is) = there (suc n) rs i r at ended in
    let place : suc n + i ≡ n + suc i = omega arith in
    elim (is_ended x.status) as (λ t. Contains (cond t (record { last = x.last; row = n } ∷ ends_from (suc n) rs) (ends_from (suc n) rs)) (record { last = r.last; row = n + suc i })) [
      | true ↦ subst (λ m. Contains (record { last = x.last; row = n } ∷ ends_from (suc n) rs) (record { last = r.last; row = m })) place (suc k, omega arith, is)
      | false ↦ subst (λ m. Contains (ends_from (suc n) rs) (record { last = r.last; row = m })) place (k, inside, is)
    ]

abbrev IsEndOf : List RowOf → ℕ → End → Type 0
IsEndOf rs n e = (r : RowOf) × ((n ≤ e.row) × (slice_get rs (e.row - n) ≡ Some r) × (is_ended r.status ≡ true) × (r.last ≡ e.last))

-- an end that is there is that of a row that ended
of_row : (n : ℕ) (rs : List RowOf) (e : End) (k : ℕ) → k < length (ends_from n rs) → slice_index_or (ends_from n rs) k e ≡ e → IsEndOf rs n e
of_row n [] e k inside is = absurd (omega arith)
of_row n (x ∷ rs) e k inside is =
    elim (split (is_ended x.status)) [
      | inl ended ↦
          let l : ends_from n (x ∷ rs) ≡ record { last = x.last; row = n } ∷ ends_from (suc n) rs =
          ap (λ t. cond t (record { last = x.last; row = n } ∷ ends_from (suc n) rs) (ends_from (suc n) rs)) ended in
          first k (subst (λ es. k < length es) l inside) (subst (λ es. slice_index_or es k e ≡ e) l is) ended
          (λ j inner there. later (of_row (suc n) rs e j inner there))
      | inr other ↦
          let l : ends_from n (x ∷ rs) ≡ ends_from (suc n) rs = ap (λ t. cond t (record { last = x.last; row = n } ∷ ends_from (suc n) rs) (ends_from (suc n) rs)) other in
          later (of_row (suc n) rs e k (subst (λ es. k < length es) l inside) (subst (λ es. slice_index_or es k e ≡ e) l is))
    ]
  where
    later : IsEndOf rs (suc n) e → IsEndOf (x ∷ rs) n e
    later (r, (past, at, ended, last)) =
        let down : e.row - n ≡ suc (e.row - suc n) = omega arith in
        (r, (omega arith, subst (λ m. slice_get (x ∷ rs) m ≡ Some r) (sym down) at, ended, last))

    first : (k : ℕ) → k < suc (length (ends_from (suc n) rs)) → slice_index_or (record { last = x.last; row = n } ∷ ends_from (suc n) rs) k e ≡ e → is_ended x.status ≡ true →
        ((j : ℕ) → j < length (ends_from (suc n) rs) → slice_index_or (ends_from (suc n) rs) j e ≡ e → IsEndOf (x ∷ rs) n e) → IsEndOf (x ∷ rs) n e
    first zero inside is ended go =
        let row : n ≡ e.row = ap (λ (y : End). y.row) is in
        let last : x.last ≡ e.last = ap (λ (y : End). y.last) is in
        let here : e.row - n ≡ 0 = omega arith in
        (x, (omega arith, subst (λ m. slice_get (x ∷ rs) m ≡ Some x) (sym here) refl, ended, last))
    first (suc j) inside is ended go = go j (omega arith) is

-- what does not come below ends no earlier
not_below : (a b : End) → is_lt (end_order.ghosts.cmp b a) ≡ false → a.last ≤ b.last
not_below a b high =
    elim (split (nat_lt b.last a.last)) [
      | inl below ↦
          let less : b.last < a.last = grind (arith, nat_tests) in
          let is : Less ≡ nat_cmp b.last a.last = nat_cmp_is b.last a.last Less less in
          absurd (let t : is_lt (ordering_then (nat_cmp b.last a.last) (nat_cmp b.row a.row)) ≡ true = ap (λ o. is_lt (ordering_then o (nat_cmp b.row a.row))) (sym is) in cc)
      | inr other ↦ grind (arith, nat_tests)
    ]

-- along a sorted list the stamps do not fall
rises : (es : List End) → IsSorted end_order.ghosts.cmp es → (j n : ℕ) (d : End) → j + suc n < length es → (slice_index_or es j d).last ≤ (slice_index_or es (j + suc n) d).last
rises es sorted j zero d inside =
    let up : j + 1 ≡ j + suc zero = omega arith in
    subst (λ m. (slice_index_or es j d).last ≤ (slice_index_or es m d).last) up
    (not_below (slice_index_or es j d) (slice_index_or es (j + 1) d) (sorted j d (omega arith) (omega arith)))
rises es sorted j (suc n) d inside =
    let more = rises es sorted j n d (omega arith) in
    let step = not_below (slice_index_or es (j + suc n) d) (slice_index_or es ((j + suc n) + 1) d) (sorted (j + suc n) d (omega arith) (omega arith)) in
    let up : (j + suc n) + 1 ≡ j + suc (suc n) = omega arith in
    subst (λ m. (slice_index_or es j d).last ≤ (slice_index_or es m d).last) up (omega arith)

get_or_any : (es : List End) (k : ℕ) (c d : End) → k < length es → get_or es k c ≡ get_or es k d
get_or_any [] k c d inside = absurd (omega arith)
get_or_any (e ∷ es) zero c d inside = refl
get_or_any (e ∷ es) (suc k) c d inside = get_or_any es k c d (omega arith)

-- the sorted ends are those of the rows, the earliest first
pub AreEnds-sorted : (rows : List RowOf) (es fs : List End) → es ≡ ends_from 0 rows → IsPermutation es fs → IsSorted end_order.ghosts.cmp fs → AreEnds rows fs
AreEnds-sorted rows es fs is permuted sorted = record {
  rising = λ j k d below inside.
      let (n, up) = gap j k below in
      subst (λ m. (slice_index_or fs j d).last ≤ (slice_index_or fs m d).last) up (rises fs sorted j n d (subst (λ m. m < length fs) (sym up) inside));
  sound = λ k d inside.
      let e = slice_index_or fs k d in
      let member : Contains fs e = Contains-get_or fs k d inside in
      let (i, within, at) = subst (λ l. Contains l e) is (Contains-permutation fs es e (IsPermutation-sym es fs permuted) member) in
      let (r, (past, got, ended, last)) = of_row 0 rows e i within at in
      let zero_off : e.row - 0 ≡ e.row = omega arith in
      (r, (subst (λ m. slice_get rows m ≡ Some r) zero_off got, ended, last));
  whole = λ i r d got ended.
      let e : End = record { last = r.last; row = 0 + i } in
      let member : Contains fs e = Contains-permutation es fs e permuted (subst (λ l. Contains l e) (sym is) (there 0 rows i r got ended)) in
      let (k, within, at) = member in
      (k, (within, ap (λ (y : End). y.row) (get_or_any fs k d e within ∙ at) ∙ omega arith));
}
  where
    gap : (j k : ℕ) → j < k → (n : ℕ) × (j + suc n ≡ k)
    gap j k below = (k - suc j, omega arith)

-- the ends of the rows up to the next one
pub ends_from-step : (rows : List RowOf) (i : ℕ) (r : RowOf) (es fs : List End) (ended : Bool) → i < length rows → r ≡ get_or rows i r → es ≡ ends_from 0 (take i rows) →
    is_ended r.status ≡ ended → fs ≡ (if ended then es ++ record { last = r.last; row = i } ∷ [] else es) → fs ≡ ends_from 0 (take (i + 1) rows)
ends_from-step rows i r es fs ended inside at so_far is grown =
    let more : take (i + 1) rows ≡ take i rows ++ r ∷ [] = take_more rows i r inside ∙ ap (λ x. take i rows ++ x ∷ []) (sym at) in
    let count : 0 + length (take i rows) ≡ i = omega (arith, length-take-le i rows (omega arith)) in
    let whole : ends_from 0 (take (i + 1) rows) ≡ es ++ end_at i r =
    ap (ends_from 0) more ∙ ends_from-push 0 (take i rows) r ∙ ap (λ m. ends_from 0 (take i rows) ++ end_at m r) count ∙ ap (λ l. l ++ end_at i r) (sym so_far) in
    grown ∙ by_end ended is ∙ sym whole
  where
    by_end : (k : Bool) → is_ended r.status ≡ k → (if k then es ++ record { last = r.last; row = i } ∷ [] else es) ≡ es ++ end_at i r
    by_end true t = ap (λ k. es ++ cond k (end_of r i ∷ []) []) (sym t)
    by_end false t = sym (append-nil es) ∙ ap (λ k. es ++ cond k (end_of r i ∷ []) []) (sym t)

-- What a transaction sees by recursion agrees with what it sees by selection.
use Rattle.std.proofs.Common.{◌≡◌, ℕ, Bool, true, false, cond, not, ◌||◌, nat_eq, inl, inr, List, [], ◌∷◌, ◌++◌, map, refl, sym, ◌∙◌, ap, subst}
use Rattle.std.specs.List.{filter}
use Rattle.aud_event.specs.declared.fact.Event.{Event}
use Rattle.aud_witness.specs.declared.decision.Decision.{Decision}
use Rattle.aud_history.specs.Histories.{History}
use Rattle.aud_witness.specs.Orders.{block, is_kept, is_named, are_named_once, visible}
use Rattle.aud_witness.specs.Selection.{joined, standing_before, seen}
use Rattle.base_values.proofs.Bools.{or_false, and_true, true_or, or_right, not_true, split, nat_eq-refl, nat_eq-is, nat_eq-sym}

-- what is picked from the joined blocks by a test on transactions
abbrev picked : History → (ℕ → Bool) → List Decision → List Event
picked h f [] = []
picked h f (d ∷ p) = cond (f d.tx) (block h d ++ picked h f p) (picked h f p)

pub picked-block : (f : ℕ → Bool) (t : ℕ) (es : List Event) (rest : History) →
    map (λ e. e.1) (filter (λ e. f e.0) (map (λ e. (t, e)) es ++ rest)) ≡ cond (f t) (es ++ map (λ e. e.1) (filter (λ e. f e.0) rest)) (map (λ e. e.1) (filter (λ e. f e.0) rest))
picked-block f t [] rest =
    elim (f t) as (λ k. map (λ e. e.1) (filter (λ e. f e.0) rest) ≡ cond k (map (λ e. e.1) (filter (λ e. f e.0) rest)) (map (λ e. e.1) (filter (λ e. f e.0) rest))) [ true ↦ refl | false ↦ refl ]
picked-block f t (x ∷ es) rest =
    elim (f t) as (λ k. f t ≡ k → map (λ e. e.1) (cond k ((t, x) ∷ filter (λ e. f e.0) (map (λ e. (t, e)) es ++ rest)) (filter (λ e. f e.0) (map (λ e. (t, e)) es ++ rest)))
    ≡ cond k (x ∷ (es ++ map (λ e. e.1) (filter (λ e. f e.0) rest))) (map (λ e. e.1) (filter (λ e. f e.0) rest))) [
      | true ↦ λ ft. ap (λ l. x ∷ l) (picked-block f t es rest ∙ ap (λ k. cond k (es ++ map (λ e. e.1) (filter (λ e. f e.0) rest)) (map (λ e. e.1) (filter (λ e. f e.0) rest))) ft)
      | false ↦ λ ft. picked-block f t es rest ∙ ap (λ k. cond k (es ++ map (λ e. e.1) (filter (λ e. f e.0) rest)) (map (λ e. e.1) (filter (λ e. f e.0) rest))) ft
    ] refl

picked-is : (h : History) (f : ℕ → Bool) (p : List Decision) → map (λ e. e.1) (filter (λ e. f e.0) (joined h p)) ≡ picked h f p
picked-is h f [] = refl
picked-is h f (d ∷ p) =
    picked-block f d.tx (block h d) (joined h p)
    ∙ ap (λ l. cond (f d.tx) (block h d ++ l) l) (picked-is h f p)

picked-none : (h : History) (f : ℕ → Bool) (p : List Decision) → ((n : ℕ) → is_named p n ≡ true → f n ≡ false) → picked h f p ≡ []
picked-none h f [] none = refl
picked-none h f (d ∷ p) none =
    let first : f d.tx ≡ false = none d.tx (true_or (nat_eq d.tx d.tx) (is_named p d.tx) (nat_eq-refl d.tx)) in
    ap (λ k. cond k (block h d ++ picked h f p) (picked h f p)) first ∙ picked-none h f p (λ n there. none n (or_right (nat_eq d.tx n) (is_named p n) there))

-- what is not named is not among those that stand before and are kept
not_standing : (p : List Decision) (t n : ℕ) → is_named p n ≡ false → is_named (filter is_kept (standing_before p t)) n ≡ false
not_standing [] t n none = refl
not_standing (d ∷ p) t n none =
    let both : (nat_eq d.tx n ≡ false) × (is_named p n ≡ false) = or_false (nat_eq d.tx n) (is_named p n) none in
    elim (nat_eq d.tx t) as (λ k. is_named (filter is_kept (cond k [] (d ∷ standing_before p t))) n ≡ false) [
      | true ↦ refl
      | false ↦
          elim (is_kept d) as (λ k. is_named (cond k (d ∷ filter is_kept (standing_before p t)) (filter is_kept (standing_before p t))) n ≡ false) [
            | true ↦ ap (λ k. k || is_named (filter is_kept (standing_before p t)) n) both.0 ∙ not_standing p t n both.1
            | false ↦ not_standing p t n both.1
          ]
    ]

append_none : (es : List Event) → es ++ [] ≡ es
append_none [] = refl
append_none (e ∷ es) = ap (λ l. e ∷ l) (append_none es)

-- two transactions of which one is named and the other is not differ
pub differ : (p : List Decision) (m n : ℕ) → is_named p m ≡ false → is_named p n ≡ true → nat_eq m n ≡ false
differ p m n none there =
    elim (split (nat_eq m n)) [
      | inl same ↦ let again : is_named p n ≡ false = subst (λ x. is_named p x ≡ false) (nat_eq-is m n same) none in absurd (cc)
      | inr other ↦ other
    ]

picked-visible : (h : History) (t : ℕ) (p : List Decision) (f : ℕ → Bool) → are_named_once p ≡ true → is_named p t ≡ true →
    ((n : ℕ) → is_named p n ≡ true → f n ≡ (nat_eq n t || is_named (filter is_kept (standing_before p t)) n)) → picked h f p ≡ visible h p t
picked-visible h t [] f once there is = absurd (cc)
picked-visible h t (d ∷ p) f once there is =
    let parts : (not (is_named p d.tx) ≡ true) × (are_named_once p ≡ true) = and_true (not (is_named p d.tx)) (are_named_once p) once in
    let alone : is_named p d.tx ≡ false = not_true (is_named p d.tx) parts.0 in
    let own : f d.tx ≡ (nat_eq d.tx t || is_named (filter is_kept (standing_before (d ∷ p) t)) d.tx) = is d.tx (true_or (nat_eq d.tx d.tx) (is_named p d.tx) (nat_eq-refl d.tx)) in
    elim (split (nat_eq d.tx t)) [
      | inl same ↦
          let taken : f d.tx ≡ true = own ∙ true_or (nat_eq d.tx t) (is_named (filter is_kept (standing_before (d ∷ p) t)) d.tx) same in
          let rest : picked h f p ≡ [] = picked-none h f p (λ n named.
          let off : nat_eq d.tx n ≡ false = differ p d.tx n alone named in
          let is_t : d.tx ≡ t = nat_eq-is d.tx t same in
          let off_t : nat_eq n t ≡ false = nat_eq-sym n t ∙ subst (λ x. nat_eq x n ≡ false) is_t off in
          is n (or_right (nat_eq d.tx n) (is_named p n) named)
          ∙ ap (λ k. nat_eq n t || is_named (filter is_kept (cond k [] (d ∷ standing_before p t))) n) same
          ∙ ap (λ k. k || false) off_t) in
          ap (λ k. cond k (block h d ++ picked h f p) (picked h f p)) taken ∙ ap (λ l. block h d ++ l) rest ∙ append_none (block h d)
          ∙ sym (ap (λ k. cond k (block h d) (cond (is_kept d) (block h d ++ visible h p t) (visible h p t))) same)
      | inr other ↦
          let after : is_named p t ≡ true = sym (ap (λ k. k || is_named p t) other) ∙ there in
          let kept_before : List Decision = filter is_kept (standing_before p t) in
          let tail : picked h f p ≡ visible h p t = picked-visible h t p f parts.1 after (λ n named.
          let off : nat_eq d.tx n ≡ false = differ p d.tx n alone named in
          is n (or_right (nat_eq d.tx n) (is_named p n) named)
          ∙ ap (λ k. nat_eq n t || is_named (filter is_kept (cond k [] (d ∷ standing_before p t))) n) other
          ∙ ap (λ k. nat_eq n t || k) (elim (is_kept d) as (λ k. is_named (cond k (d ∷ kept_before) kept_before) n ≡ is_named kept_before n) [
            | true ↦ ap (λ k. k || is_named kept_before n) off
            | false ↦ refl
          ])) in
          let mine : f d.tx ≡ is_kept d =
          own ∙ ap (λ k. k || is_named (filter is_kept (cond k [] (d ∷ standing_before p t))) d.tx) other
          ∙ elim (is_kept d) as (λ k. is_named (cond k (d ∷ kept_before) kept_before) d.tx ≡ k) [
            | true ↦ true_or (nat_eq d.tx d.tx) (is_named kept_before d.tx) (nat_eq-refl d.tx)
            | false ↦ not_standing p t d.tx alone
          ] in
          ap (λ k. cond k (block h d ++ picked h f p) (picked h f p)) mine ∙ ap (λ l. cond (is_kept d) (block h d ++ l) l) tail
          ∙ sym (ap (λ k. cond k (block h d) (cond (is_kept d) (block h d ++ visible h p t) (visible h p t))) other)
    ]

-- what T sees, by recursion and by selection from S(H, p)
pub visible-is_seen : (h : History) (p : List Decision) (t : ℕ) → are_named_once p ≡ true → is_named p t ≡ true → visible h p t ≡ seen h p t
visible-is_seen h p t once there =
    let f : ℕ → Bool = λ n. nat_eq n t || is_named (filter is_kept (standing_before p t)) n in
    sym (picked-is h f p ∙ picked-visible h t p f once there (λ n _. refl))

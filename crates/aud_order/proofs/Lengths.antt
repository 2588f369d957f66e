-- How long good prefixes are.
use Rattle.std.specs.Prelude.{◌≡◌, ◌↔◌, ℕ, ◌+◌, ◌≤◌, Bool, true, false, IsTrue, not, ◌||◌, nat_eq, List, [], ◌∷◌, ◌++◌, map, length, refl}
use Rattle.std.specs.List.{list_any}
use Rattle.std.proofs.Common.{sym, ◌∙◌, ap, subst, cond, inl, inr, arith, append_assoc}
use Rattle.std.proofs.Math.ListN.{length-map}
use Rattle.aud_event.specs.Meanings.{Declared}
use Rattle.base_values.proofs.Bools.{or_true, and_true, true_and, true_or, or_right, not_true, not_false, split, is_false, nat_eq-refl, nat_eq-is, nat_eq-sym}
use Rattle.aud_history.specs.Histories.{History, is_in}
use Rattle.aud_history.specs.Table.{RowOf, transactions, row_of, table_of}
use Rattle.aud_history.proofs.Tables.{any-transactions, are_different, different-transactions}
use Rattle.aud_witness.specs.declared.decision.Decision.{Decision}
use Rattle.aud_witness.specs.Orders.{is_named, are_named_once, IsFull, IsGood}
use Rattle.aud_witness.proofs.Faults.{IsFull-from_IsGood}
use Rattle.aud_witness.proofs.Beginnings.{named_at}
use Rattle.aud_witness.proofs.Good.{place_of}

abbrev has : List ℕ → ℕ → Bool
has ts t = list_any (nat_eq t) ts

-- the list without the first place of a number
abbrev without : ℕ → List ℕ → List ℕ
without t [] = []
without t (u ∷ us) = cond (nat_eq t u) us (u ∷ without t us)

length-without : (t : ℕ) (us : List ℕ) → has us t ≡ true → length us ≡ length (without t us) + 1
length-without t [] there = absurd (cc)
length-without t (u ∷ us) there = go (nat_eq t u) refl (λ later. length-without t us later)
  where
    go : (b : Bool) → nat_eq t u ≡ b → (has us t ≡ true → length us ≡ length (without t us) + 1) → length (u ∷ us) ≡ length (cond b us (u ∷ without t us)) + 1
    go true is rest = omega arith
    go false is rest =
        let short : length us ≡ length (without t us) + 1 = rest (sym (ap (λ k. k || has us t) is) ∙ there) in
        omega arith

has-without : (t v : ℕ) (us : List ℕ) → has us v ≡ true → nat_eq v t ≡ false → has (without t us) v ≡ true
has-without t v [] there other = there
has-without t v (u ∷ us) there other = go (nat_eq t u) refl (λ later. has-without t v us later other)
  where
    go : (b : Bool) → nat_eq t u ≡ b → (has us v ≡ true → has (without t us) v ≡ true) → has (cond b us (u ∷ without t us)) v ≡ true
    go true is rest =
        let gone : nat_eq v u ≡ false = subst (λ n. nat_eq v n ≡ false) (nat_eq-is t u is) other in
        sym (ap (λ k. k || has us v) gone) ∙ there
    go false is rest =
        elim (or_true (nat_eq v u) (has us v) there) [
          | inl here ↦ true_or (nat_eq v u) (has (without t us) v) here
          | inr later ↦ or_right (nat_eq v u) (has (without t us) v) (rest later)
        ]

-- different numbers of a list are no more than it has
no-more : (ts us : List ℕ) → are_different ts ≡ true → ((t : ℕ) → has ts t ≡ true → has us t ≡ true) → length ts ≤ length us
no-more [] us differ inside = omega arith
no-more (t ∷ ts) us differ inside =
    let parts = and_true (not (has ts t)) (are_different ts) differ in
    let alone : has ts t ≡ false = not_true (has ts t) parts.0 in
    let there : has us t ≡ true = inside t (true_or (nat_eq t t) (has ts t) (nat_eq-refl t)) in
    let short : length us ≡ length (without t us) + 1 = length-without t us there in
    let rest : length ts ≤ length (without t us) = no-more ts (without t us) parts.1 (λ v member.
    let other : nat_eq v t ≡ false = is_false (nat_eq v t) (λ same. let clash : has ts t ≡ true = subst (λ n. has ts n ≡ true) (nat_eq-is v t same) member in cc) in
    has-without t v us (inside v (or_right (nat_eq v t) (has ts v) member)) other) in
    omega arith

abbrev names : List Decision → List ℕ
names p = map (λ (d : Decision). d.tx) p

has-names : (p : List Decision) (t : ℕ) → has (names p) t ≡ is_named p t
has-names [] t = refl
has-names (d ∷ p) t = (λ i. nat_eq-sym t d.tx i || has-names p t i)

different-names : (p : List Decision) → are_named_once p ≡ true → are_different (names p) ≡ true
different-names [] once = refl
different-names (d ∷ p) once =
    let parts = and_true (not (is_named p d.tx)) (are_named_once p) once in
    true_and (not (has (names p) d.tx)) (are_different (names p)) (ap not (has-names p d.tx) ∙ parts.0) (different-names p parts.1)

-- a good prefix names each transaction once
once-good : (objects : List Declared) (h : History) (before rest p : List Decision) → p ≡ before ++ rest → IsGood objects h p → are_named_once rest ≡ true
once-good objects h before [] p is good = refl
once-good objects h before (d ∷ rest) p is good =
    let alone : is_named rest d.tx ≡ false = is_false (is_named rest d.tx) (λ again.
    let (a, (e, (b, (at, same, _)))) = place_of rest d.tx again in
    let new : is_named (before ++ d ∷ a) e.tx ≡ false = (good (before ++ d ∷ a) e b (is ∙ ap (λ l. before ++ d ∷ l) at ∙ sym (append_assoc before (d ∷ a) (e ∷ b)))).new in
    let named : is_named (before ++ d ∷ a) e.tx ≡ true = subst (λ n. is_named (before ++ d ∷ a) n ≡ true) (sym same) (named_at before d a) in
    cc) in
    true_and (not (is_named rest d.tx)) (are_named_once rest) (not_false (is_named rest d.tx) alone)
    (once-good objects h (before ++ d ∷ []) rest p (is ∙ sym (append_assoc before (d ∷ []) rest)) good)

pub named-good : (objects : List Declared) (h : History) (p : List Decision) (t : ℕ) → IsGood objects h p → is_named p t ≡ true → is_in h t ≡ true
named-good objects h p t good named =
    let (a, (d, (b, (at, same, _)))) = place_of p t named in
    subst (λ n. is_in h n ≡ true) same (good a d b at).in_history

-- a good prefix is no longer than there are transactions
pub length-good : (objects : List Declared) (h : History) (p : List Decision) → IsGood objects h p → length p ≤ length (transactions h)
length-good objects h p good =
    let short : length (names p) ≤ length (transactions h) = no-more (names p) (transactions h) (different-names p (once-good objects h [] p p refl good))
    (λ t member. any-transactions h t ∙ named-good objects h p t good (sym (has-names p t) ∙ member)) in
    let same : length (names p) ≡ length p = length-map p (λ (d : Decision). d.tx) in
    omega arith

-- a full one is as long
pub length-full : (objects : List Declared) (h : History) (p : List Decision) → IsGood objects h p → IsFull h p → length p ≡ length (transactions h)
length-full objects h p good full =
    let low : length p ≤ length (transactions h) = length-good objects h p good in
    let high : length (transactions h) ≤ length (names p) = no-more (transactions h) (names p) (different-transactions h)
    (λ t member. has-names p t ∙ full.same t ∙ sym (any-transactions h t) ∙ member) in
    let same : length (names p) ≡ length p = length-map p (λ (d : Decision). d.tx) in
    omega arith

-- one that is as long is full
pub full-from_length : (objects : List Declared) (h : History) (p : List Decision) → IsGood objects h p → length p ≡ length (transactions h) → IsFull h p
full-from_length objects h p good long = IsFull-from_IsGood objects h p good (λ t there.
    elim (split (is_named p t)) [
      | inl named ↦ named
      | inr missing ↦
          let more : length (t ∷ names p) ≤ length (transactions h) = no-more (t ∷ names p) (transactions h)
          (true_and (not (has (names p) t)) (are_different (names p)) (not_false (has (names p) t) (has-names p t ∙ missing)) (different-names p (once-good objects h [] p p refl good)))
          (λ u member. any-transactions h u ∙ elim (or_true (nat_eq u t) (has (names p) u) member) [
            | inl same ↦ subst (λ n. is_in h n ≡ true) (sym (nat_eq-is u t same)) there
            | inr named ↦ named-good objects h p u good (sym (has-names p u) ∙ named)
          ]) in
          let same : length (names p) ≡ length p = length-map p (λ (d : Decision). d.tx) in
          absurd (omega arith)
    ])

pub full-by_length : (objects : List Declared) (h : History) (p : List Decision) (rows : List RowOf) → IsGood objects h p → rows ≡ table_of h → IsTrue (nat_eq (length p) (length rows)) ↔ IsFull h p
full-by_length objects h p rows good is =
    let long : length rows ≡ length (transactions h) = ap length is ∙ length-map (transactions h) (row_of h) in (
      (λ same. full-from_length objects h p good (nat_eq-is (length p) (length rows) same ∙ long)),
      (λ full. subst (λ n. nat_eq (length p) n ≡ true) (length-full objects h p good full ∙ sym long) (nat_eq-refl (length p))),
    )

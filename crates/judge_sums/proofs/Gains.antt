-- What those before a transaction come to is the sum of what each comes to.
use Rattle.std.specs.Prelude.{◌≡◌, ℕ, ℤ, pos, ◌+ℤ◌, true, false, ◌&&◌, ◌||◌, nat_eq, List, [], ◌∷◌, refl}
use Rattle.std.proofs.Common.{sym, ◌∙◌, ap, inl, inr, cond}
use Rattle.aud_event.specs.Meanings.{Declared}
use Rattle.base_values.proofs.Bools.{true_and, true_or, or_right, is_false, split, nat_eq-refl, nat_eq-is, and_no, and_yes, or_nothing}
use Rattle.aud_history.specs.Histories.{History, is_in}
use Rattle.aud_history.specs.Table.{transactions}
use Rattle.aud_history.proofs.Tables.{any-transactions, different-transactions}
use Rattle.aud_witness.specs.declared.decision.Decision.{Decision}
use Rattle.aud_witness.specs.Orders.{is_named, are_named_once, is_kept, stands_before, Shows}
use Rattle.judge_clauses.specs.Clauses.{is_kept_in}
use Rattle.judge_sums.specs.Sums.{sum_over, sum_of, gain, share, total}
use Rattle.judge_clauses.proofs.Naming.{kept-named, fresh, rest-once, nothing-before}
use Rattle.judge_sums.proofs.Sums.{same-sums, apart}

sum_over-same : (f g : ℕ → ℤ) (q : List Decision) → ((t : ℕ) → is_named q t ≡ true → f t ≡ g t) → sum_over f q ≡ sum_over g q
sum_over-same f g [] same = refl
sum_over-same f g (d ∷ q) same =
    ap (λ n. n +ℤ sum_over f q) (same d.tx (true_or (nat_eq d.tx d.tx) (is_named q d.tx) (nat_eq-refl d.tx)))
    ∙ ap (λ n. g d.tx +ℤ n) (sum_over-same f g q (λ t there. same t (or_right (nat_eq d.tx t) (is_named q t) there)))

sum_over-nothing : (f : ℕ → ℤ) (q : List Decision) → ((t : ℕ) → f t ≡ pos 0) → sum_over f q ≡ pos 0
sum_over-nothing f [] none = refl
sum_over-nothing f (d ∷ q) none = ap (λ n. n +ℤ sum_over f q) (none d.tx) ∙ ap (λ n. pos 0 +ℤ n) (sum_over-nothing f q none)

module _ (w : ℕ → ℤ) where
  pub share-behind : (p : List Decision) (r t : ℕ) → stands_before p t r ≡ false → share w p r t ≡ pos 0
  share-behind p r t gone = ap (λ b. cond (is_kept_in p t && b) (w t) (pos 0)) gone ∙ ap (λ b. cond b (w t) (pos 0)) (and_no (is_kept_in p t))

  gain-sum : (p : List Decision) (r : ℕ) → are_named_once p ≡ true → is_named p r ≡ true → gain w p r ≡ sum_over (share w p r) p
  gain-sum [] r once there = refl
  gain-sum (d ∷ p) r once there =
      elim (split (nat_eq d.tx r)) [
        | inl same ↦
            let gone : is_named p r ≡ false = ap (is_named p) (sym (nat_eq-is d.tx r same)) ∙ fresh d p once in
            ap (λ b. cond b (pos 0) (cond (is_kept d) (w d.tx) (pos 0) +ℤ gain w p r)) same
            ∙ sym (sum_over-nothing (share w (d ∷ p) r) (d ∷ p) (λ t. share-behind (d ∷ p) r t (nothing-before d p r t gone)))
        | inr other ↦
            let later : is_named p r ≡ true = sym (ap (λ b. b || is_named p r) other) ∙ there in
            let gone : is_named p d.tx ≡ false = fresh d p once in
            let unkept : is_kept_in p d.tx ≡ false = is_false (is_kept_in p d.tx) (λ kept. let wrong : is_named p d.tx ≡ true = kept-named p d.tx kept in cc) in
            let front : stands_before (d ∷ p) d.tx r ≡ true = true_or (nat_eq d.tx d.tx && is_named p r) (stands_before p d.tx r) (true_and (nat_eq d.tx d.tx) (is_named p r) (nat_eq-refl d.tx) later) in
            let own : is_kept_in (d ∷ p) d.tx ≡ is_kept d =
            ap (λ b. (b && is_kept d) || is_kept_in p d.tx) (nat_eq-refl d.tx) ∙ ap (λ b. is_kept d || b) unkept ∙ or_nothing (is_kept d) in
            let first : share w (d ∷ p) r d.tx ≡ cond (is_kept d) (w d.tx) (pos 0) =
            ap (λ b. cond (is_kept_in (d ∷ p) d.tx && b) (w d.tx) (pos 0)) front ∙ ap (λ b. cond b (w d.tx) (pos 0)) (and_yes (is_kept_in (d ∷ p) d.tx))
            ∙ ap (λ b. cond b (w d.tx) (pos 0)) own in
            let others : (t : ℕ) → is_named p t ≡ true → share w (d ∷ p) r t ≡ share w p r t =
            λ t named.
            let differ : nat_eq d.tx t ≡ false = apart p d.tx t gone named in
            ap (λ b. cond (((b && is_kept d) || is_kept_in p t) && stands_before (d ∷ p) t r) (w t) (pos 0)) differ
            ∙ ap (λ b. cond (is_kept_in p t && ((b && is_named p r) || stands_before p t r)) (w t) (pos 0)) differ in
            ap (λ b. cond b (pos 0) (cond (is_kept d) (w d.tx) (pos 0) +ℤ gain w p r)) other
            ∙ ap (λ n. cond (is_kept d) (w d.tx) (pos 0) +ℤ n) (gain-sum p r (rest-once d p once) later)
            ∙ ap (λ n. n +ℤ sum_over (share w p r) p) (sym first) ∙ ap (λ n. share w (d ∷ p) r d.tx +ℤ n) (sym (sum_over-same (share w (d ∷ p) r) (share w p r) p others))
      ]

module _ (objects : List Declared) (h : History) (p : List Decision) (shown : Shows objects h p) where
  -- sums over the order are sums over the table
  pub all-sums : (g : ℕ → ℤ) → sum_over g p ≡ sum_of g (transactions h)
  all-sums g = same-sums g (transactions h) p (different-transactions h) shown.full.once (λ t. shown.full.same t ∙ sym (any-transactions h t))

  -- what those before R come to is the sum of what each comes to
  pub total-gain : (w : ℕ → ℤ) (r : ℕ) → is_in h r ≡ true → total h w p r ≡ gain w p r
  total-gain w r there = sym (all-sums (share w p r)) ∙ sym (gain-sum w p r shown.full.once (shown.full.same r ∙ there))

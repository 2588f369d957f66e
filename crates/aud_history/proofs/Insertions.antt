-- What an insertion of completing events leaves as it was.
use Rattle.std.proofs.Common.{◌≡◌, ℕ, Bool, true, false, cond, nat_eq, ◌⊎◌, inl, inr, ◌∷◌, refl, sym, ◌∙◌, ap, subst}
use Rattle.aud_event.specs.declared.fact.Event.{Event}
use Rattle.aud_event.specs.declared.fact.Event.TheVariants.{Inv, Ret, TryC, TryA, Commit, Abort}
use Rattle.aud_history.specs.Histories.{History, events_of, is_in, is_completed, is_live}
use Rattle.aud_kinds.specs.Objects.{is_on, on_object}
use Rattle.aud_history.specs.Completions.{is_completing, IsInserted, nothing, same, inserted}
use Rattle.base_values.proofs.Bools.{or_true, and_true, true_or, or_right, not_true, split, nat_eq-is}

is_in-more : {h a b : History} → IsInserted h a b → (t : ℕ) → is_in a t ≡ true → is_in b t ≡ true
is_in-more nothing t there = there
is_in-more (same {e = e} {a = a} {b = b} i) t there =
    elim (or_true (nat_eq e.0 t) (is_in a t) there) [
      | inl l ↦ true_or (nat_eq e.0 t) (is_in b t) l
      | inr r ↦ or_right (nat_eq e.0 t) (is_in b t) (is_in-more i t r)
    ]
is_in-more (inserted {e = e} {b = b} live fits i) t there = or_right (nat_eq e.0 t) (is_in b t) (is_in-more i t there)

is_in-back : {h a b : History} → IsInserted h a b → (t : ℕ) → is_in b t ≡ true → (is_in a t ≡ true) ⊎ (is_in h t ≡ true)
is_in-back nothing t there = inl there
is_in-back (same {e = e} {a = a} {b = b} i) t there =
    elim (or_true (nat_eq e.0 t) (is_in b t) there) [
      | inl l ↦ inl (true_or (nat_eq e.0 t) (is_in a t) l)
      | inr r ↦ elim (is_in-back i t r) [ inl l ↦ inl (or_right (nat_eq e.0 t) (is_in a t) l) | inr k ↦ inr k ]
    ]
is_in-back {h} (inserted {e = e} {b = b} live fits i) t there =
    elim (or_true (nat_eq e.0 t) (is_in b t) there) [
      | inl l ↦ inr (subst (λ n. is_in h n ≡ true) (nat_eq-is e.0 t l) (and_true (is_in h e.0) (is_live h e.0) live).0)
      | inr r ↦ is_in-back i t r
    ]

same_tests : (a b : Bool) → (a ≡ true → b ≡ true) → (b ≡ true → a ≡ true) → b ≡ a
same_tests true b f g = f refl
same_tests false true f g = sym (g refl)
same_tests false false f g = refl

-- the same transactions are there
pub is_in-inserted : {h b : History} → IsInserted h h b → (t : ℕ) → is_in b t ≡ is_in h t
is_in-inserted {h} {b} i t = same_tests (is_in h t) (is_in b t) (is_in-more i t) (λ there. elim (is_in-back i t there) [ inl l ↦ l | inr r ↦ r ])

-- a completed transaction did the same
pub events_of-inserted : {h a b : History} → IsInserted h a b → (t : ℕ) → is_completed h t ≡ true → events_of t b ≡ events_of t a
events_of-inserted nothing t done = refl
events_of-inserted (same {e = e} {a = a} {b = b} i) t done = ap (λ l. cond (nat_eq e.0 t) (e.1 ∷ l) l) (events_of-inserted i t done)
events_of-inserted {h} (inserted {e = e} {b = b} live fits i) t done =
    elim (split (nat_eq e.0 t)) [
      | inl is_t ↦
          let not_done : is_completed h t ≡ false = subst (λ n. is_completed h n ≡ false) (nat_eq-is e.0 t is_t) (not_true (is_completed h e.0) (and_true (is_in h e.0) (is_live h e.0) live).1) in
          absurd (cc)
      | inr other ↦ ap (λ k. cond k (e.1 ∷ events_of t b) (events_of t b)) other ∙ events_of-inserted i t done
    ]

off_objects : (ob : ℕ) (e : Event) → is_completing e ≡ true → is_on ob e ≡ false
off_objects ob (Inv _ _) fits = absurd (cc)
off_objects ob (Ret _ _ _) fits = absurd (cc)
off_objects ob TryC fits = refl
off_objects ob TryA fits = refl
off_objects ob Commit fits = refl
off_objects ob Abort fits = refl

-- on each object each transaction did the same
pub on_object-inserted : {h a b : History} → IsInserted h a b → (ob t : ℕ) → on_object ob (events_of t b) ≡ on_object ob (events_of t a)
on_object-inserted nothing ob t = refl
on_object-inserted (same {e = e} {a = a} {b = b} i) ob t =
    elim (nat_eq e.0 t) as (λ k. on_object ob (cond k (e.1 ∷ events_of t b) (events_of t b)) ≡ on_object ob (cond k (e.1 ∷ events_of t a) (events_of t a))) [
      | true ↦ ap (λ l. cond (is_on ob e.1) (e.1 ∷ l) l) (on_object-inserted i ob t)
      | false ↦ on_object-inserted i ob t
    ]
on_object-inserted (inserted {e = e} {b = b} live fits i) ob t =
    elim (nat_eq e.0 t) as (λ k. on_object ob (cond k (e.1 ∷ events_of t b) (events_of t b)) ≡ on_object ob (events_of t b)) [
      | true ↦ ap (λ k. cond k (e.1 ∷ on_object ob (events_of t b)) (on_object ob (events_of t b))) (off_objects ob e.1 fits)
      | false ↦ refl
    ]
    ∙ on_object-inserted i ob t

-- Who may have changed something last: nothing here depends on what that is.
use Rattle.std.specs.Prelude.{◌≡◌, ℕ, Bool, true, false, not, ◌&&◌, ◌||◌, nat_eq, List, [], ◌∷◌, Option, Some, None, refl, ◌⊎◌}
use Rattle.std.proofs.Common.{sym, ◌∙◌, ap, subst, inl, inr, cond}
use Rattle.aud_event.specs.Meanings.{Declared}
use Rattle.base_values.proofs.Bools.{or_true, and_true, true_and, not_true, true_or, or_right, split, nat_eq-refl, nat_eq-is}
use Rattle.aud_history.specs.Histories.{History, is_in}
use Rattle.aud_witness.specs.declared.decision.Decision.{Decision}
use Rattle.aud_witness.specs.Orders.{is_named, are_named_once, is_kept, stands_before, Shows}
use Rattle.aud_witness.proofs.Beginnings.{second_is_named}
use Rattle.aud_witness.proofs.Blocks.{stands_before-total}
use Rattle.judge_clauses.specs.Clauses.{is_kept_in, is_just, is_nothing}
use Rattle.search_model.specs.Cells.{newer_of, last_of}
use Rattle.judge_clauses.proofs.Naming.{kept-named, fresh, rest-once}
use Rattle.judge_clauses.proofs.Standing.{first-named}

pub just-is : (o : Option ℕ) (w : ℕ) → is_just o w ≡ true → o ≡ Some w
just-is None w is = absurd (cc)
just-is (Some v) w is = ap (λ n. Some n) (nat_eq-is v w is)

pub nothing-is : (o : Option ℕ) → is_nothing o ≡ true → o ≡ None
nothing-is None is = refl
nothing-is (Some v) is = absurd (cc)

-- the last writer stands before the reader, and is kept
pub record IsEarlier (m : ℕ → Bool) (p : List Decision) (r w : ℕ) : Type 0 where
  pub wrote : m w ≡ true
  pub before : stands_before p w r ≡ true
  pub kept : is_kept_in p w ≡ true

IsEarlier-push : (m : ℕ → Bool) (d : Decision) (p : List Decision) (r w : ℕ) → IsEarlier m p r w → IsEarlier m (d ∷ p) r w
IsEarlier-push m d p r w e = record {
  wrote = e.wrote;
  before = or_right (nat_eq d.tx w && is_named p r) (stands_before p w r) e.before;
  kept = or_right (nat_eq d.tx w && is_kept d) (is_kept_in p w) e.kept;
}

module _ (m : ℕ → Bool) where
  newer-writes : (d : Decision) (last : Option ℕ) → (is_kept d && m d.tx) ≡ true → newer_of m d last ≡ Some d.tx
  newer-writes d last is = ap (λ b. cond b (Some d.tx) last) is

  newer-stays : (d : Decision) (last : Option ℕ) → (is_kept d && m d.tx) ≡ false → newer_of m d last ≡ last
  newer-stays d last is = ap (λ b. cond b (Some d.tx) last) is

  at-reader : (d : Decision) (p : List Decision) (r : ℕ) (last : Option ℕ) → nat_eq d.tx r ≡ true → last_of m (d ∷ p) r last ≡ last
  at-reader d p r last is = ap (λ b. cond b last (last_of m p r (newer_of m d last))) is

  past-other : (d : Decision) (p : List Decision) (r : ℕ) (last : Option ℕ) → nat_eq d.tx r ≡ false → last_of m (d ∷ p) r last ≡ last_of m p r (newer_of m d last)
  past-other d p r last is = ap (λ b. cond b last (last_of m p r (newer_of m d last))) is

  -- it is the one before the order, or one of the order
  pub writer-or : (p : List Decision) (r : ℕ) (last : Option ℕ) → is_named p r ≡ true →
      (last_of m p r last ≡ last) ⊎ ((w : ℕ) × ((last_of m p r last ≡ Some w) × IsEarlier m p r w))
  writer-or [] r last there = absurd (cc)
  writer-or (d ∷ p) r last there =
      elim (split (nat_eq d.tx r)) [
        | inl is_r ↦ inl (at-reader d p r last is_r)
        | inr other ↦
            let later : is_named p r ≡ true = sym (ap (λ b. b || is_named p r) other) ∙ there in
            elim (writer-or p r (newer_of m d last) later) [
              | inr found ↦
                  let (w, (is, earlier)) = found in
                  inr (w, (past-other d p r last other ∙ is, IsEarlier-push m d p r w earlier))
              | inl stays ↦
                  elim (split (is_kept d && m d.tx)) [
                    | inr not_so ↦ inl (past-other d p r last other ∙ stays ∙ newer-stays d last not_so)
                    | inl is_so ↦
                        inr (
                          d.tx,
                          (
                            past-other d p r last other ∙ stays ∙ newer-writes d last is_so,
                            record {
                              wrote = (and_true (is_kept d) (m d.tx) is_so).1;
                              before = true_or (nat_eq d.tx d.tx && is_named p r) (stands_before p d.tx r) (true_and (nat_eq d.tx d.tx) (is_named p r) (nat_eq-refl d.tx) later);
                              kept = true_or (nat_eq d.tx d.tx && is_kept d) (is_kept_in p d.tx) (true_and (nat_eq d.tx d.tx) (is_kept d) (nat_eq-refl d.tx) (and_true (is_kept d) (m d.tx) is_so).0);
                            },
                          ),
                        )
                  ]
            ]
      ]

  -- a kept one that writes before the reader is the last writer, or stands before it
  pub writer-last : (p : List Decision) (r u : ℕ) (last : Option ℕ) → are_named_once p ≡ true → m u ≡ true → is_kept_in p u ≡ true → stands_before p u r ≡ true →
      (last_of m p r last ≡ Some u) ⊎ ((w : ℕ) × ((last_of m p r last ≡ Some w) × (stands_before p u w ≡ true)))
  writer-last [] r u last once wrote kept before = absurd (cc)
  writer-last (d ∷ p) r u last once wrote kept before =
      elim (split (nat_eq d.tx r)) [
        | inl is_r ↦
            absurd (
            let same : d.tx ≡ r = nat_eq-is d.tx r is_r in
            let gone : is_named p r ≡ false = ap (is_named p) (sym same) ∙ fresh d p once in
            let there : is_named p r ≡ true =
            elim (or_true (nat_eq d.tx u && is_named p r) (stands_before p u r) before) [
              | inl here ↦ (and_true (nat_eq d.tx u) (is_named p r) here).1
              | inr later ↦ second_is_named p u r later
            ] in
            cc
            )
        | inr other ↦
            elim (or_true (nat_eq d.tx u && is_named p r) (stands_before p u r) before) [
              | inl here ↦
                  let same : d.tx ≡ u = nat_eq-is d.tx u (and_true (nat_eq d.tx u) (is_named p r) here).0 in
                  let there : is_named p r ≡ true = (and_true (nat_eq d.tx u) (is_named p r) here).1 in
                  let gone : is_named p u ≡ false = ap (is_named p) (sym same) ∙ fresh d p once in
                  let is : is_kept d ≡ true =
                  elim (or_true (nat_eq d.tx u && is_kept d) (is_kept_in p u) kept) [
                    | inl own ↦ (and_true (nat_eq d.tx u) (is_kept d) own).1
                    | inr later ↦ absurd (let named : is_named p u ≡ true = kept-named p u later in cc)
                  ] in
                  let wrote_d : m d.tx ≡ true = ap (m) same ∙ wrote in
                  let now : newer_of m d last ≡ Some u = newer-writes d last (true_and (is_kept d) (m d.tx) is wrote_d) ∙ ap (λ n. Some n) same in
                  let on : last_of m (d ∷ p) r last ≡ last_of m p r (Some u) = past-other d p r last other ∙ ap (last_of m p r) now in
                  elim (writer-or p r (Some u) there) [
                    | inl stays ↦ inl (on ∙ stays)
                    | inr found ↦
                        let (w, (is_w, earlier)) = found in
                        inr (
                          w,
                          (
                            on ∙ is_w,
                            true_or (nat_eq d.tx u && is_named p w) (stands_before p u w)
                                (true_and (nat_eq d.tx u) (is_named p w) (and_true (nat_eq d.tx u) (is_named p r) here).0 (first-named p w r earlier.before)),
                          ),
                        )
                  ]
              | inr later ↦
                  let kept_p : is_kept_in p u ≡ true =
                  elim (or_true (nat_eq d.tx u && is_kept d) (is_kept_in p u) kept) [
                    | inr own ↦ own
                    | inl here ↦
                        absurd (
                        let same : d.tx ≡ u = nat_eq-is d.tx u (and_true (nat_eq d.tx u) (is_kept d) here).0 in
                        let gone : is_named p u ≡ false = ap (is_named p) (sym same) ∙ fresh d p once in
                        let named : is_named p u ≡ true = first-named p u r later in
                        cc
                        )
                  ] in
                  elim (writer-last p r u (newer_of m d last) (rest-once d p once) wrote kept_p later) [
                    | inl is ↦ inl (past-other d p r last other ∙ is)
                    | inr found ↦
                        let (w, (is, first)) = found in
                        inr (w, (past-other d p r last other ∙ is, or_right (nat_eq d.tx u && is_named p w) (stands_before p u w) first))
                  ]
            ]
      ]

none-some : (o : Option ℕ) (w : ℕ) → o ≡ None → o ≡ Some w → ⊥
none-some o w none some = cc

module _ (objects : List Declared) (h : History) (m : ℕ → Bool) (p : List Decision) (shown : Shows objects h p) where
  -- the source stands before the reader, is kept, and may change what it is about
  pub last-earlier : (w r : ℕ) → is_in h r ≡ true → is_just (last_of m p r None) w ≡ true → IsEarlier m p r w
  last-earlier w r there is =
      elim (writer-or m p r None (shown.full.same r ∙ there)) [
        | inl stays ↦ absurd (none-some (last_of m p r None) w stays (just-is (last_of m p r None) w is))
        | inr found ↦
            let (u, (is_u, earlier)) = found in
            let is_w : last_of m p r None ≡ Some w = just-is (last_of m p r None) w is in
            let same : u ≡ w = cc in
            subst (IsEarlier m p r) same earlier
      ]

  -- what is kept and may change it stands before the source or after the reader
  pub last-source : (w u r : ℕ) → m u ≡ true → nat_eq u w ≡ false → nat_eq u r ≡ false → is_in h u ≡ true → is_in h r ≡ true → is_kept_in p u ≡ true → is_just (last_of m p r None) w ≡ true →
      (stands_before p u w ≡ true) ⊎ (stands_before p r u ≡ true)
  last-source w u r may not_w not_r there_u there_r kept is =
      elim (stands_before-total p u r (shown.full.same u ∙ there_u) (shown.full.same r ∙ there_r) not_r) [
        | inr behind ↦ inr behind
        | inl front ↦
            let from : last_of m p r None ≡ Some w = just-is (last_of m p r None) w is in
            elim (writer-last m p r u None shown.full.once may kept front) [
              | inl own ↦
                  absurd (
                  let same : u ≡ w = cc in
                  let is_so : nat_eq u w ≡ true = ap (nat_eq u) (sym same) ∙ nat_eq-refl u in
                  cc
                  )
              | inr found ↦
                  let (v, (is_v, first)) = found in
                  let same : v ≡ w = cc in
                  inl (subst (λ n. stands_before p u n ≡ true) same first)
            ]
      ]

  -- where there is no source, what is kept and may change it stands after the reader
  pub last-opening : (u r : ℕ) → m u ≡ true → nat_eq u r ≡ false → is_in h u ≡ true → is_in h r ≡ true → is_kept_in p u ≡ true → is_nothing (last_of m p r None) ≡ true → stands_before p r u ≡ true
  last-opening u r may not_r there_u there_r kept is =
      elim (stands_before-total p u r (shown.full.same u ∙ there_u) (shown.full.same r ∙ there_r) not_r) [
        | inr behind ↦ behind
        | inl front ↦
            let none : last_of m p r None ≡ None = nothing-is (last_of m p r None) is in
            elim (writer-last m p r u None shown.full.once may kept front) [
              | inl own ↦ absurd (none-some (last_of m p r None) u none own)
              | inr found ↦
                  let (v, (is_v, first)) = found in
                  absurd (none-some (last_of m p r None) v none is_v)
            ]
      ]

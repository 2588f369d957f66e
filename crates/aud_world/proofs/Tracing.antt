-- The atoms of a node are those that it took.
use Rattle.std.proofs.Common.{◌≡◌, ℕ, zero, suc, ◌+◌, ◌<◌, ◌≤◌, List, [], ◌∷◌, ◌++◌, length, take, replicate, refl, sym, ap, subst, ◌∙◌, arith, ◌⊎◌, inl, inr, ◌↔◌}
use Rattle.std.specs.Prelude.{Option, Some, slice_get}
use Rattle.std.specs.List.{Contains}
use Rattle.std.proofs.lemmas.Bool.{cases_lt}
use Rattle.std.proofs.Common.{length-append}
use Rattle.std.proofs.lemmas.List.{take_all}
use Rattle.std.proofs.lemmas.Option.{slice_get_within}
use Rattle.std.proofs.lemmas.List.Elements.{Contains-append_left, Contains-append_right, Contains-append_cases}
use Rattle.aud_know.specs.Norms.{fact}
use Rattle.aud_know.specs.Known.{KnownAtom}
use Rattle.aud_know.specs.Findings.{found}
use Rattle.aud_world.specs.Clouds.{Cloud, at_place, gain}
use Rattle.aud_world.specs.Moves.{after_move, after_moves, at_first, atoms}
use Rattle.aud_world.specs.Faults.{node_of}
use Rattle.aud_world.specs.Took.{posts, IsPost, Took, AtomsAreTaken}
use Rattle.aud_world.specs.Took.Took.{was_fed, has_found, got}
use Rattle.aud_world.specs.declared.moves.Move.{Move}
use Rattle.aud_world.specs.declared.moves.Move.TheVariants.{Feed, Find, Post, Deliver}
use Rattle.aud_world.proofs.Knowing.{nowhere, head_or_later, first}
use Rattle.aud_world.proofs.Moving.{moves_append, as_many_after, length_replicate}

-- who is where, once one of many gains
gain_cases : (xss : List (List KnownAtom)) (at n : ℕ) (more : List KnownAtom) (a : KnownAtom) → Contains (at_place (gain at more xss) n) a → Contains (at_place xss n) a ⊎ ((at ≡ n) × (n < length xss) × Contains more a)
gain_cases [] at n more a h = inl h
gain_cases (xs ∷ xss) zero zero more a h = elim (Contains-append_cases xs more a h) [ inl b ↦ inl b | inr b ↦ inr (refl, omega arith, b) ]
gain_cases (xs ∷ xss) zero (suc n) more a h = inl h
gain_cases (xs ∷ xss) (suc at) zero more a h = inl h
gain_cases (xs ∷ xss) (suc at) (suc n) more a h = elim (gain_cases xss at n more a h) [ inl b ↦ inl b | inr b ↦ inr (ap suc b.0, (let lt = b.1 in omega arith), b.2) ]

gain_there : (xss : List (List KnownAtom)) (at n : ℕ) (more : List KnownAtom) (a : KnownAtom) → Contains (at_place xss n) a → Contains (at_place (gain at more xss) n) a
gain_there [] at n more a h = h
gain_there (xs ∷ xss) zero zero more a h = Contains-append_left xs more a h
gain_there (xs ∷ xss) zero (suc n) more a h = h
gain_there (xs ∷ xss) (suc at) zero more a h = h
gain_there (xs ∷ xss) (suc at) (suc n) more a h = gain_there xss at n more a h

gain_new : (xss : List (List KnownAtom)) (n : ℕ) (more : List KnownAtom) (a : KnownAtom) → n < length xss → Contains more a → Contains (at_place (gain n more xss) n) a
gain_new [] n more a lt h = absurd (omega (arith, lt))
gain_new (xs ∷ xss) zero more a lt h = Contains-append_right xs more a h
gain_new (xs ∷ xss) (suc n) more a lt h = gain_new xss n more a (omega (arith, lt)) h

push_cases : (xss : List (List KnownAtom)) (ys : List KnownAtom) (k : ℕ) (a : KnownAtom) → Contains (at_place (xss ++ ys ∷ []) k) a → Contains (at_place xss k) a ⊎ ((length xss ≡ k) × Contains ys a)
push_cases [] ys zero a h = inr (refl, h)
push_cases [] ys (suc k) a h = absurd (nowhere a h)
push_cases (xs ∷ xss) ys zero a h = inl h
push_cases (xs ∷ xss) ys (suc k) a h = elim (push_cases xss ys k a h) [ inl b ↦ inl b | inr b ↦ inr (ap suc b.0, b.1) ]

push_there : (xss : List (List KnownAtom)) (ys : List KnownAtom) (k : ℕ) (a : KnownAtom) → Contains (at_place xss k) a → Contains (at_place (xss ++ ys ∷ []) k) a
push_there [] ys k a h = absurd (nowhere a h)
push_there (xs ∷ xss) ys zero a h = h
push_there (xs ∷ xss) ys (suc k) a h = push_there xss ys k a h

push_new : (xss : List (List KnownAtom)) (ys : List KnownAtom) (a : KnownAtom) → Contains ys a → Contains (at_place (xss ++ ys ∷ []) (length xss)) a
push_new [] ys a h = h
push_new (xs ∷ xss) ys a h = push_new xss ys a h

pub none_at_first : (count n : ℕ) (a : KnownAtom) → Contains (at_place (replicate count []) n) a → ⊥
none_at_first zero n a h = nowhere a h
none_at_first (suc count) zero a h = nowhere a h
none_at_first (suc count) (suc n) a h = none_at_first count n a h

-- the move at a place, and the moves up to it
move_at : {X : Type 0} (ms : List (Move X)) (t : ℕ) → t < length ms → (m : Move X) × (slice_get ms t ≡ Some m) × (take (suc t) ms ≡ take t ms ++ m ∷ [])
move_at [] t lt = absurd (omega (arith, lt))
move_at (m ∷ ms) zero lt = (m, refl, refl)
move_at (m ∷ ms) (suc t) lt = let rest = move_at ms t (omega (arith, lt)) in (rest.0, rest.1, ap (λ l. m ∷ l) rest.2)

posts_append : {X : Type 0} (ms ns : List (Move X)) → posts (ms ++ ns) ≡ posts ms + posts ns
posts_append [] ns = omega arith
posts_append (Feed n f ∷ ms) ns = posts_append ms ns
posts_append (Find n g ∷ ms) ns = posts_append ms ns
posts_append (Post n ∷ ms) ns = let rest = posts_append ms ns in omega arith
posts_append (Deliver k n ∷ ms) ns = posts_append ms ns

take_none : {A : Type 0} (xs : List A) → take zero xs ≡ []
take_none [] = refl
take_none (x ∷ xs) = refl

same_move : {X : Type 0} (o : Option (Move X)) (m k : Move X) → o ≡ Some m → o ≡ Some k → m ≡ k
same_move o m k e f = cc

before_or_at : (p t : ℕ) → p < suc t → (p < t) ⊎ (p ≡ t)
before_or_at p t lt = elim (cases_lt p t) [ inl b ↦ inl b | inr b ↦ inr (omega arith) ]

module _ {X : Type 0} (count : ℕ) (moves : List (Move X)) where
  -- an atom that a packet had when it was posted, before a time
  abbrev HasPosted : ℕ → ℕ → KnownAtom → Type 0
  HasPosted t k a = (post : ℕ) × (sender : ℕ) × (post < t) × IsPost moves k post sender × Took count moves post sender a

  later_too : (t n : ℕ) (a : KnownAtom) → Took count moves t n a → Took count moves (suc t) n a
  later_too t n a (was_fed p lt l e) = was_fed p (omega (arith, lt)) l e
  later_too t n a (has_found p lt l e h) = has_found p (omega (arith, lt)) l e h
  later_too t n a (got p q lt l e lq i h) = got p q (omega (arith, lt)) l e lq i h

  -- what the move at a time gives a node
  abbrev Gives : ℕ → Move X → ℕ → KnownAtom → Type 0
  Gives t (Feed at f) n a = (at ≡ n) × (a ≡ fact f)
  Gives t (Find at g) n a = (at ≡ n) × Contains (found g) a
  Gives t (Post at) n a = ⊥
  Gives t (Deliver k at) n a = (at ≡ n) × HasPosted t k a

  -- what was taken in one more move was taken before, or is given by that move
  taken_last : (s t : ℕ) (m : Move X) (n : ℕ) (a : KnownAtom) → s ≡ suc t → slice_get moves t ≡ Some m → Took count moves s n a → Took count moves t n a ⊎ ((n < count) × Gives t m n a)
  taken_last s t m n a e at (was_fed {f = f} p lt l is) = elim (before_or_at p t (omega (arith, lt, e))) [
    | inl before ↦ inl (was_fed p before l is)
    | inr same ↦ inr (l, subst (λ (m : Move X). Gives t m n (fact f)) (same_move (slice_get moves t) (Feed n f) m (ap (λ k. slice_get moves k) (sym same) ∙ is) at) (refl, refl))
  ]
  taken_last s t m n a e at (has_found {g = g} p lt l is h) = elim (before_or_at p t (omega (arith, lt, e))) [
    | inl before ↦ inl (has_found p before l is h)
    | inr same ↦ inr (l, subst (λ (m : Move X). Gives t m n a) (same_move (slice_get moves t) (Find n g) m (ap (λ k. slice_get moves k) (sym same) ∙ is) at) (refl, h))
  ]
  taken_last s t m n a e at (got {k = k} {sender = sender} p q lt l is lq i h) = elim (before_or_at p t (omega (arith, lt, e))) [
    | inl before ↦ inl (got p q before l is lq i h)
    | inr same ↦ inr (l, subst (λ (m : Move X). Gives t m n a) (same_move (slice_get moves t) (Deliver k n) m (ap (λ k. slice_get moves k) (sym same) ∙ is) at) (refl, (q, sender, omega (arith, lq, same), i, h)))
  ]

  -- and what the move gives is taken
  given : (t : ℕ) (m : Move X) (n : ℕ) (a : KnownAtom) → slice_get moves t ≡ Some m → n < count → Gives t m n a → Took count moves (suc t) n a
  given t (Feed at f) n a is l h = subst (λ (a : KnownAtom). Took count moves (suc t) n a) (sym h.1) (was_fed t (omega arith) l (is ∙ ap (λ k. Some (Feed k f)) h.0))
  given t (Find at g) n a is l h = has_found t (omega arith) l (is ∙ ap (λ k. Some (Find k g)) h.0) h.1
  given t (Post at) n a is l h = absurd h
  given t (Deliver k at) n a is l h = got t h.1.0 (omega arith) l (is ∙ ap (λ n. Some (Deliver k n)) h.0) h.1.2 h.1.3 h.1.4

  -- what was posted in one more move was posted before, or is posted by that move
  posted_last : (t k : ℕ) (m : Move X) (a : KnownAtom) → slice_get moves t ≡ Some m → HasPosted (suc t) k a → HasPosted t k a ⊎ ((n : ℕ) × (m ≡ Post n) × (posts (take t moves) ≡ k) × Took count moves t n a)
  posted_last t k m a at h = elim (before_or_at h.0 t h.2) [
    | inl before ↦ inl (h.0, h.1, before, h.3, h.4)
    | inr same ↦ inr (
      h.1,
      same_move (slice_get moves t) m (Post h.1) at (ap (λ j. slice_get moves j) (sym same) ∙ h.3.posted),
      ap (λ j. posts (take j moves)) (sym same) ∙ h.3.before,
      subst (λ j. Took count moves j h.1 a) same h.4,
    )
  ]

  posted_too : (t k : ℕ) (a : KnownAtom) → HasPosted t k a → HasPosted (suc t) k a
  posted_too t k a h = (h.0, h.1, (let lt = h.2 in omega arith), h.3, h.4)

  -- nodes and packets hold what was taken and posted
  record Traces (t : ℕ) (c : Cloud) : Type 0 where
    nodes : (n : ℕ) (a : KnownAtom) → Contains (at_place c.nodes n) a ↔ Took count moves t n a
    packets : (k : ℕ) (a : KnownAtom) → Contains (at_place c.packets k) a ↔ HasPosted t k a
    posted : length c.packets ≡ posts (take t moves)
    many : length c.nodes ≡ count

  -- where a node gains exactly what the move gives
  gained : (t : ℕ) (m : Move X) (c : Cloud) (at : ℕ) (more : List KnownAtom) → slice_get moves t ≡ Some m → Traces t c →
      ((n : ℕ) (a : KnownAtom) → (at ≡ n) × Contains more a → Gives t m n a) → ((n : ℕ) (a : KnownAtom) → Gives t m n a → (at ≡ n) × Contains more a) →
      (n : ℕ) (a : KnownAtom) → Contains (at_place (gain at more c.nodes) n) a ↔ Took count moves (suc t) n a
  gained t m c at more is s gives given_by n a = (
    λ h. elim (gain_cases c.nodes at n more a h) [
      | inl old ↦ later_too t n a ((s.nodes n a).0 old)
      | inr new ↦ given t m n a is (subst (λ l. n < l) s.many new.1) (gives n a (new.0, new.2))
    ],
    λ h. elim (taken_last (suc t) t m n a refl is h) [
      | inl old ↦ gain_there c.nodes at n more a ((s.nodes n a).1 old)
      | inr new ↦
          let what = given_by n a new.1 in
          subst (λ k. Contains (at_place (gain k more c.nodes) n) a) (sym what.0) (gain_new c.nodes n more a (subst (λ l. n < l) (sym s.many) new.0) what.1)
    ],
  )

  -- where nothing is posted
  unposted : (t : ℕ) (m : Move X) (c : Cloud) → slice_get moves t ≡ Some m → Traces t c → ((n : ℕ) → m ≡ Post n → ⊥) →
      (k : ℕ) (a : KnownAtom) → Contains (at_place c.packets k) a ↔ HasPosted (suc t) k a
  unposted t m c is s other k a = (
    λ h. posted_too t k a ((s.packets k a).0 h),
    λ h. elim (posted_last t k m a is h) [ inl old ↦ (s.packets k a).1 old | inr new ↦ absurd (other new.0 new.1) ],
  )

  only : (a b : KnownAtom) → Contains (b ∷ []) a → a ≡ b
  only a b h = elim (head_or_later b [] a h) [ inl same ↦ same | inr rest ↦ absurd (nowhere a rest) ]

  unchanged : (t : ℕ) (m : Move X) → take (suc t) moves ≡ take t moves ++ m ∷ [] → posts (m ∷ []) ≡ zero → (c : Cloud) → length c.packets ≡ posts (take t moves) → length c.packets ≡ posts (take (suc t) moves)
  unchanged t m more none c posted =
      let grown = ap posts more ∙ posts_append (take t moves) (m ∷ []) in
      omega (arith, grown, none, posted)

  -- one more move
  traced : (t : ℕ) (m : Move X) (c : Cloud) → slice_get moves t ≡ Some m → take (suc t) moves ≡ take t moves ++ m ∷ [] → Traces t c → Traces (suc t) (after_move c m)
  traced t (Feed at f) c is more s = record {
    nodes = gained t (Feed at f) c at (fact f ∷ []) is s (λ n a h. (h.0, only a (fact f) h.1)) (λ n a h. (h.0, subst (λ (b : KnownAtom). Contains (fact f ∷ []) b) (sym h.1) (first (fact f) [])));
    packets = unposted t (Feed at f) c is s (λ n e. cc);
    posted = unchanged t (Feed at f) more refl c s.posted;
    many = as_many_after {X = X} c (Feed at f) ∙ s.many;
  }
  traced t (Find at g) c is more s = record {
    nodes = gained t (Find at g) c at (found g) is s (λ n a h. h) (λ n a h. h);
    packets = unposted t (Find at g) c is s (λ n e. cc);
    posted = unchanged t (Find at g) more refl c s.posted;
    many = as_many_after {X = X} c (Find at g) ∙ s.many;
  }
  traced t (Post at) c is more s = record {
    nodes = λ n a. (
      λ h. later_too t n a ((s.nodes n a).0 h),
      λ h. elim (taken_last (suc t) t (Post at) n a refl is h) [ inl old ↦ (s.nodes n a).1 old | inr new ↦ absurd new.1 ],
    );
    packets = λ k a. (
      λ h. elim (push_cases c.packets (at_place c.nodes at) k a h) [
        | inl old ↦ posted_too t k a ((s.packets k a).0 old)
        | inr new ↦ (t, at, omega arith, record { posted = is; before = sym s.posted ∙ new.0 }, (s.nodes at a).0 new.1)
      ],
      λ h. elim (posted_last t k (Post at) a is h) [
        | inl old ↦ push_there c.packets (at_place c.nodes at) k a ((s.packets k a).1 old)
        | inr new ↦
            let sender : at ≡ new.0 = ap node_of new.1 in
            subst (λ k. Contains (at_place (c.packets ++ at_place c.nodes at ∷ []) k) a) (s.posted ∙ new.2)
            (push_new c.packets (at_place c.nodes at) a ((s.nodes at a).1 (subst (λ n. Took count moves t n a) (sym sender) new.3)))
      ],
    );
    posted = length-append c.packets (at_place c.nodes at ∷ []) ∙ ap (λ n. n + 1) s.posted ∙ sym (ap posts more ∙ posts_append (take t moves) (Post at ∷ []));
    many = s.many;
  }
  traced t (Deliver k at) c is more s = record {
    nodes = gained t (Deliver k at) c at (at_place c.packets k) is s (λ n a h. (h.0, (s.packets k a).0 h.1)) (λ n a h. (h.0, (s.packets k a).1 h.1));
    packets = unposted t (Deliver k at) c is s (λ n e. cc);
    posted = unchanged t (Deliver k at) more refl c s.posted;
    many = as_many_after {X = X} c (Deliver k at) ∙ s.many;
  }

  none_taken : (n : ℕ) (a : KnownAtom) → Took count moves zero n a → ⊥
  none_taken n a (was_fed p lt l is) = omega (arith, lt)
  none_taken n a (has_found p lt l is h) = omega (arith, lt)
  none_taken n a (got p q lt l is lq i h) = omega (arith, lt)

  nothing_taken : Traces zero (at_first count)
  nothing_taken = record {
    nodes = λ n a. (λ h. absurd (none_at_first count n a h), λ h. absurd (none_taken n a h));
    packets = λ k a. (λ h. absurd (nowhere a h), λ h. absurd (let lt = h.2 in omega arith));
    posted = sym (ap posts (take_none moves));
    many = length_replicate count [];
  }

  traces : (t : ℕ) → t ≤ length moves → Traces t (after_moves (at_first count) (take t moves))
  traces zero le = subst (λ (ms : List (Move X)). Traces zero (after_moves (at_first count) ms)) (sym (take_none moves)) nothing_taken
  traces (suc t) le =
      let here = move_at moves t (omega (arith, le)) in
      let c = after_moves (at_first count) (take t moves) in
      subst (λ (ms : List (Move X)). Traces (suc t) (after_moves (at_first count) ms)) (sym here.2)
      (subst (λ (d : Cloud). Traces (suc t) d) (sym (moves_append (at_first count) (take t moves) (here.0 ∷ [])))
      (traced t here.0 c here.1 here.2 (traces t (omega (arith, le)))))

  -- past the end nothing more is taken
  by_the_end : (t n : ℕ) (a : KnownAtom) → Took count moves t n a → Took count moves (length moves) n a
  by_the_end t n a (was_fed {f = f} p lt l is) = was_fed p (slice_get_within moves p (Feed n f) is) l is
  by_the_end t n a (has_found {g = g} p lt l is h) = has_found p (slice_get_within moves p (Find n g) is) l is h
  by_the_end t n a (got {k = k} p q lt l is lq i h) = got p q (slice_get_within moves p (Deliver k n) is) l is lq i h

  and_on : (t n : ℕ) (a : KnownAtom) → length moves ≤ t → Took count moves (length moves) n a → Took count moves t n a
  and_on t n a le (was_fed p lt l is) = was_fed p (omega (arith, lt, le)) l is
  and_on t n a le (has_found p lt l is h) = has_found p (omega (arith, lt, le)) l is h
  and_on t n a le (got p q lt l is lq i h) = got p q (omega (arith, lt, le)) l is lq i h

  at_the_end : (t : ℕ) → length moves ≤ t → (n : ℕ) (a : KnownAtom) → Contains (atoms count (take t moves) n) a ↔ Took count moves t n a
  at_the_end t le n a =
      let all : take t moves ≡ take (length moves) moves = take_all t moves le ∙ sym (take_all (length moves) moves (omega arith)) in
      let there = (traces (length moves) (omega arith)).nodes n a in (
        λ h. and_on t n a le (there.0 (subst (λ (ms : List (Move X)). Contains (atoms count ms n) a) all h)),
        λ h. subst (λ (ms : List (Move X)). Contains (atoms count ms n) a) (sym all) (there.1 (by_the_end t n a h)),
      )

  taken_by : (t n : ℕ) (a : KnownAtom) → Contains (atoms count (take t moves) n) a ↔ Took count moves t n a
  taken_by t n a = elim (cases_lt t (length moves)) [ inl before ↦ (traces t (omega (arith, before))).nodes n a | inr after ↦ at_the_end t (omega (arith, after)) n a ]

pub atoms_taken : {X : Type 0} → AtomsAreTaken X
atoms_taken count moves t n a = taken_by count moves t n a

-- What the end of a pool says of all its tasks.
use Rattle.std.specs.Prelude.{◌≡◌, ◌⊎◌, ◌<◌, ℕ, zero, suc, Bool, true, false, cond, List, [], ◌∷◌, ◌++◌, length, map, filter, All, refl}
use Rattle.std.specs.List.{Contains}
use Rattle.std.proofs.Common.{sym, ap, subst, inl, inr, arith, get_or, eqb, eq-eqb, true≢false}
use Rattle.std.proofs.lemmas.List.Elements.{All-contains, Contains-append_cases, Contains-get_or}
use Rattle.std.proofs.lemmas.List.Sorted.{Contains-permutation}
use Rattle.aud_witness.specs.declared.decision.Decision.{Decision}
use Rattle.aud_order.specs.Shapes.{ShapeOf, objects_of, history_of}
use Rattle.aud_node.specs.Logs.{Entry, atoms_in}
use Rattle.aud_node.specs.Meanings.{PassOf, first_pass}
use Rattle.aud_split.specs.Searched.{IsEndedBy}
use Rattle.aud_split.specs.Ends.{drawn_by, faulted}
use Rattle.aud_split.specs.Pools.{IsSettled}
use Rattle.aud_split.specs.Laws.{PoolEndsAll}

module _ {T : Type 0} where
  drawn_here : (d : ℕ × T) (ds : List (ℕ × T)) → drawn_by d.0 (d ∷ ds) ≡ d.1 ∷ drawn_by d.0 ds
  drawn_here d ds = ap (λ b. map (λ (p : ℕ × T). p.1) (cond b (d ∷ filter (λ (p : ℕ × T). eqb p.0 d.0) ds) (filter (λ (p : ℕ × T). eqb p.0 d.0) ds))) (eq-eqb d.0 d.0 refl)

  drawn_later : (w : ℕ) (d : ℕ × T) (ds : List (ℕ × T)) (t : T) → Contains (drawn_by w ds) t → Contains (drawn_by w (d ∷ ds)) t
  drawn_later w d ds t there = by_test (eqb d.0 w) there where
    by_test : (b : Bool) → Contains (map (λ (p : ℕ × T). p.1) (filter (λ (p : ℕ × T). eqb p.0 w) ds)) t
        → Contains (map (λ (p : ℕ × T). p.1) (cond b (d ∷ filter (λ (p : ℕ × T). eqb p.0 w) ds) (filter (λ (p : ℕ × T). eqb p.0 w) ds))) t
    by_test true (i, inside, is) = (suc i, omega arith, is)
    by_test false h = h

  -- a task that was drawn was drawn by a worker
  drawn_from : (n : ℕ) (ds : List (ℕ × T)) (t : T) → All (λ (d : ℕ × T). d.0 < n) ds → Contains (map (λ (d : ℕ × T). d.1) ds) t → (w : ℕ) × ((w < n) × Contains (drawn_by w ds) t)
  drawn_from n [] t all (i, inside, is) = absurd (omega arith)
  drawn_from n (d ∷ ds) t all (zero, inside, is) = (d.0, (all 0 d (omega arith), subst (λ (l : List T). Contains l t) (sym (drawn_here d ds)) (0, omega arith, is)))
  drawn_from n (d ∷ ds) t all (suc i, inside, is) = let (w, (low, there)) = drawn_from n ds t (λ k e lt. all (suc k) e (omega arith)) (i, omega arith, is) in (w, (low, drawn_later w d ds t there))

ended_by : (s : ShapeOf) (budget : ℕ) (view : List Entry) (t : List Decision) → IsSettled s budget view t → IsEndedBy (atoms_in view) (objects_of s) (history_of s) budget t
ended_by s budget view t (inl refuted) = inl refuted
ended_by s budget view t (inr (inl (q, (there, begins)))) = inr (inl (q, there))
ended_by s budget view t (inr (inr spent)) = inr (inr spent)

none_left : (passes : List PassOf) (left : List (List Decision)) (t : List Decision) → 0 < length passes → (left ≡ []) ⊎ ((w : ℕ) → w < length passes → faulted w [] ≡ true) → Contains left t → ⊥
none_left passes left t some (inl empty) there = let (i, inside, is) = subst (λ (l : List (List Decision)). Contains l t) empty there in absurd (omega arith)
none_left passes left t some (inr all) there = true≢false (sym (all 0 some))

pub pool_ended : PoolEndsAll
pool_ended s budget tasks left passes drawn some given empty below settled t there =
    elim (Contains-append_cases (map (λ (d : ℕ × List Decision). d.1) drawn) left t (Contains-permutation tasks (map (λ (d : ℕ × List Decision). d.1) drawn ++ left) t given there)) [
      | inl one ↦
          let (w, (low, mine)) = drawn_from (length passes) drawn t below one in
          let p = get_or passes w (first_pass 0 0) in
          (p, (Contains-get_or passes w (first_pass 0 0) low, ended_by s budget p.view t (All-contains (IsSettled s budget p.view) (drawn_by w drawn) t (settled w (first_pass 0 0) low) mine)))
      | inr one ↦ absurd (none_left passes left t some empty one)
    ]

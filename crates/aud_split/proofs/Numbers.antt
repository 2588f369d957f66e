-- Lists numbered by their worker.
use Rattle.std.proofs.Common.{◌≡◌, ◌≢◌, ℕ, zero, suc, ◌+◌, ◌<◌, ◌≤◌, Bool, true, false, cond, ◌||◌, List, [], ◌∷◌, ◌++◌, length, length-append, map, filter, get_or, take, sym, refl, ap, subst, ◌∙◌, append_assoc, append-nil, All, eqb, eq-eqb, ne_eqb, arith}
use Rattle.std.proofs.lemmas.List.{map-append, length-map, get_or-map}
use Rattle.std.proofs.lemmas.List.Elements.{All-nil, All-append, All-map}
use Rattle.node_pool.specs.declared.worker.WorkerEnd.{WorkerEnd}
use Rattle.aud_split.specs.declared.fault.PoolFault.{PoolFault}
use Rattle.aud_split.specs.declared.fault.PoolFault.TheVariants.{OutOfMemory}
use Rattle.node_pool.specs.Workers.{all_drawn, AreWorked, HaveGrown}
use Rattle.aud_split.specs.Ends.{numbered, failures, drawn_by, faulted, AreFaults}

pick : {X : Type 0} → (xs : List X) (i : ℕ) → i < length xs → X
pick [] i h = absurd (omega arith)
pick (x ∷ xs) i h = x

pub map_itself : {X : Type 0} → (xs : List X) → map (λ (y : X). y) xs ≡ xs
map_itself [] = refl
map_itself (x ∷ xs) = ap (λ l. x ∷ l) (map_itself xs)

module _ {T : Type 0} where
  filter-append : (w : ℕ) (xs ys : List (ℕ × T)) → drawn_by w (xs ++ ys) ≡ drawn_by w xs ++ drawn_by w ys
  filter-append w [] ys = refl
  filter-append w (x ∷ xs) ys = by_test (eqb x.0 w) (filter-append w xs ys) where
    by_test : (b : Bool) → drawn_by w (xs ++ ys) ≡ drawn_by w xs ++ drawn_by w ys
        → map (λ (p : ℕ × T). p.1) (cond b (x ∷ filter (λ (p : ℕ × T). eqb p.0 w) (xs ++ ys)) (filter (λ (p : ℕ × T). eqb p.0 w) (xs ++ ys)))
        ≡ map (λ (p : ℕ × T). p.1) (cond b (x ∷ filter (λ (p : ℕ × T). eqb p.0 w) xs) (filter (λ (p : ℕ × T). eqb p.0 w) xs)) ++ drawn_by w ys
    by_test true i = ap (λ l. x.1 ∷ l) i
    by_test false i = i

  of_itself : (w : ℕ) (ts : List T) → drawn_by w (map (λ (t : T). (w, t)) ts) ≡ ts
  of_itself w [] = refl
  of_itself w (t ∷ ts) = subst (λ b. map (λ (p : ℕ × T). p.1) (cond b ((w, t) ∷ filter (λ (p : ℕ × T). eqb p.0 w) (map (λ (t : T). (w, t)) ts)) (filter (λ (p : ℕ × T). eqb p.0 w) (map (λ (t : T). (w, t)) ts))) ≡ t ∷ ts) (sym (eq-eqb w w refl)) (ap (λ l. t ∷ l) (of_itself w ts))

  of_another : (w n : ℕ) → n ≢ w → (ts : List T) → drawn_by w (map (λ (t : T). (n, t)) ts) ≡ []
  of_another w n apart [] = refl
  of_another w n apart (t ∷ ts) = subst (λ b. map (λ (p : ℕ × T). p.1) (cond b ((n, t) ∷ filter (λ (p : ℕ × T). eqb p.0 w) (map (λ (t : T). (n, t)) ts)) (filter (λ (p : ℕ × T). eqb p.0 w) (map (λ (t : T). (n, t)) ts))) ≡ []) (sym (ne_eqb n w apart)) (of_another w n apart ts)

-- faults of workers from a number on are faults of workers from an earlier one on
pub fewer : (n count : ℕ) (faults : List (ℕ × PoolFault)) → AreFaults (n + 1) count faults → AreFaults n count faults
fewer n count [] h = omega arith
fewer n count (f ∷ fs) h = (omega (arith, h.0), h.1, h.2)

module _ {T S A : Type 0} where
  pub numbered-push : (n : ℕ) (es : List (WorkerEnd T S A)) (e : WorkerEnd T S A) → numbered n (es ++ e ∷ []) ≡ numbered n es ++ map (λ (t : T). (n + length es, t)) e.drawn.items
  numbered-push n [] e = append-nil (map (λ (t : T). (n, t)) e.drawn.items) ∙ ap (λ k. map (λ (t : T). (k, t)) e.drawn.items) (omega arith)
  numbered-push n (x ∷ es) e =
      ap (λ l. map (λ (t : T). (n, t)) x.drawn.items ++ l) (numbered-push (n + 1) es e)
      ∙ sym (append_assoc (map (λ (t : T). (n, t)) x.drawn.items) (numbered (n + 1) es) (map (λ (t : T). (n + 1 + length es, t)) e.drawn.items))
      ∙ ap (λ k. (map (λ (t : T). (n, t)) x.drawn.items ++ numbered (n + 1) es) ++ map (λ (t : T). (k, t)) e.drawn.items) (omega arith)

  pub failures-push : (n : ℕ) (es : List (WorkerEnd T S A)) (e : WorkerEnd T S A) → failures n (es ++ e ∷ []) ≡ failures n es ++ cond e.failed ((n + length es, OutOfMemory) ∷ []) []
  failures-push n [] e = ap (λ k. cond e.failed ((k, OutOfMemory) ∷ []) []) (omega arith)
  failures-push n (x ∷ es) e = both_ways x.failed (failures-push (n + 1) es e ∙ ap (λ k. failures (n + 1) es ++ cond e.failed ((k, OutOfMemory) ∷ []) []) (omega arith)) where
    both_ways : (b : Bool) → failures (n + 1) (es ++ e ∷ []) ≡ failures (n + 1) es ++ cond e.failed ((n + length (x ∷ es), OutOfMemory) ∷ []) []
        → cond b ((n, OutOfMemory) ∷ failures (n + 1) (es ++ e ∷ [])) (failures (n + 1) (es ++ e ∷ [])) ≡ cond b ((n, OutOfMemory) ∷ failures (n + 1) es) (failures (n + 1) es) ++ cond e.failed ((n + length (x ∷ es), OutOfMemory) ∷ []) []
    both_ways true i = ap (λ l. (n, OutOfMemory) ∷ l) i
    both_ways false i = i

  pub all_tasks : (n : ℕ) (es : List (WorkerEnd T S A)) → map (λ (p : ℕ × T). p.1) (numbered n es) ≡ all_drawn es
  all_tasks n [] = refl
  all_tasks n (e ∷ es) = map-append (λ (p : ℕ × T). p.1) (map (λ (t : T). (n, t)) e.drawn.items) (numbered (n + 1) es) ∙ ap (λ l. l ++ map (λ (p : ℕ × T). p.1) (numbered (n + 1) es)) (back e.drawn.items) ∙ ap (λ l. e.drawn.items ++ l) (all_tasks (n + 1) es) where
    back : (ts : List T) → map (λ (p : ℕ × T). p.1) (map (λ (t : T). (n, t)) ts) ≡ ts
    back [] = refl
    back (t ∷ ts) = ap (λ l. t ∷ l) (back ts)

  none_before : (w n : ℕ) → w < n → (es : List (WorkerEnd T S A)) → drawn_by w (numbered n es) ≡ []
  none_before w n low [] = refl
  none_before w n low (e ∷ es) = filter-append w (map (λ (t : T). (n, t)) e.drawn.items) (numbered (n + 1) es) ∙ ap (λ l. l ++ drawn_by w (numbered (n + 1) es)) (of_another w n (λ h. omega arith) e.drawn.items) ∙ none_before w (n + 1) (omega arith) es

  pub drawn_at : (n i : ℕ) (es : List (WorkerEnd T S A)) (d : WorkerEnd T S A) → i < length es → drawn_by (n + i) (numbered n es) ≡ (get_or es i d).drawn.items
  drawn_at n i [] d lt = absurd (omega arith)
  drawn_at n zero (e ∷ es) d lt =
      ap (λ w. drawn_by w (numbered n (e ∷ es))) (omega arith) ∙ filter-append n (map (λ (t : T). (n, t)) e.drawn.items) (numbered (n + 1) es)
      ∙ ap (λ l. l ++ drawn_by n (numbered (n + 1) es)) (of_itself n e.drawn.items) ∙ ap (λ l. e.drawn.items ++ l) (none_before n (n + 1) (omega arith) es) ∙ append-nil e.drawn.items
  drawn_at n (suc i) (e ∷ es) d lt =
      filter-append (n + suc i) (map (λ (t : T). (n, t)) e.drawn.items) (numbered (n + 1) es)
      ∙ ap (λ l. l ++ drawn_by (n + suc i) (numbered (n + 1) es)) (of_another (n + suc i) n (λ h. omega arith) e.drawn.items)
      ∙ ap (λ w. drawn_by w (numbered (n + 1) es)) (omega arith) ∙ drawn_at (n + 1) i es d (omega arith)

  no_failure_before : (w n : ℕ) → w < n → (es : List (WorkerEnd T S A)) → faulted w (failures n es) ≡ false
  no_failure_before w n low [] = refl
  no_failure_before w n low (e ∷ es) = by_failed e.failed (no_failure_before w (n + 1) (omega arith) es) where
    by_failed : (b : Bool) → faulted w (failures (n + 1) es) ≡ false → faulted w (cond b ((n, OutOfMemory) ∷ failures (n + 1) es) (failures (n + 1) es)) ≡ false
    by_failed true i = ap (λ t. t || faulted w (failures (n + 1) es)) (ne_eqb n w (λ h. omega arith)) ∙ i
    by_failed false i = i

  pub faulted_at : (n i : ℕ) (es : List (WorkerEnd T S A)) (d : WorkerEnd T S A) → i < length es → faulted (n + i) (failures n es) ≡ (get_or es i d).failed
  faulted_at n i [] d lt = absurd (omega arith)
  faulted_at n zero (e ∷ es) d lt = ap (λ w. faulted w (failures n (e ∷ es))) (omega arith) ∙ by_failed e.failed (no_failure_before n (n + 1) (omega arith) es) where
    by_failed : (b : Bool) → faulted n (failures (n + 1) es) ≡ false → faulted n (cond b ((n, OutOfMemory) ∷ failures (n + 1) es) (failures (n + 1) es)) ≡ b
    by_failed true i = ap (λ t. t || faulted n (failures (n + 1) es)) (eq-eqb n n refl)
    by_failed false i = i
  faulted_at n (suc i) (e ∷ es) d lt = by_failed e.failed (ap (λ w. faulted w (failures (n + 1) es)) (omega arith) ∙ faulted_at (n + 1) i es d (omega arith)) where
    by_failed : (b : Bool) → faulted (n + suc i) (failures (n + 1) es) ≡ (get_or es i d).failed → faulted (n + suc i) (cond b ((n, OutOfMemory) ∷ failures (n + 1) es) (failures (n + 1) es)) ≡ (get_or es i d).failed
    by_failed true k = ap (λ t. t || faulted (n + suc i) (failures (n + 1) es)) (ne_eqb n (n + suc i) (λ h. omega arith)) ∙ k
    by_failed false k = k

  -- the tasks of the first workers and of one more are no more than all
  pub room_at : (all : List (WorkerEnd T S A)) (k : ℕ) (e : WorkerEnd T S A) → k < length all → e ≡ get_or all k e → length (all_drawn (take k all)) + length e.drawn.items ≤ length (all_drawn all)
  room_at [] k e lt is = absurd (omega arith)
  room_at (x ∷ xs) zero e lt is = let s : e.drawn.items ≡ x.drawn.items = ap (λ (y : WorkerEnd T S A). y.drawn.items) is in let n = ap length s in omega (arith, length-append x.drawn.items (all_drawn xs))
  room_at (x ∷ xs) (suc k) e lt is = let r = room_at xs k e (omega arith) is in omega (arith, length-append x.drawn.items (all_drawn (take k xs)), length-append x.drawn.items (all_drawn xs))

  pub length_numbered : (n : ℕ) (es : List (WorkerEnd T S A)) → length (numbered n es) ≡ length (all_drawn es)
  length_numbered n es = sym (length-map (numbered n es) (λ (p : ℕ × T). p.1)) ∙ ap length (all_tasks n es)

  pub failures_few : (n : ℕ) (es : List (WorkerEnd T S A)) → length (failures n es) ≤ length es
  failures_few n [] = omega arith
  failures_few n (e ∷ es) = by_failed e.failed (failures_few (n + 1) es) where
    by_failed : (b : Bool) → length (failures (n + 1) es) ≤ length es → length (cond b ((n, OutOfMemory) ∷ failures (n + 1) es) (failures (n + 1) es)) ≤ length (e ∷ es)
    by_failed true h = omega arith
    by_failed false h = omega arith

  pub faulted_is : (es : List (WorkerEnd T S A)) (w : ℕ) (d : WorkerEnd T S A) → w < length es → faulted w (failures 0 es) ≡ (get_or es w d).failed
  faulted_is es w d lt = ap (λ k. faulted k (failures 0 es)) (omega arith) ∙ faulted_at 0 w es d lt

  pub all_faulted : (es : List (WorkerEnd T S A)) → All (λ e. e.failed ≡ true) es → (w : ℕ) → w < length es → faulted w (failures 0 es) ≡ true
  all_faulted es all w lt = let d = pick es w lt in faulted_is es w d lt ∙ all w d lt

  pub answered_of : (done : S → T → Type 0) (es : List (WorkerEnd T S A)) → All (λ e. AreWorked (done e.seat) e.failed e.drawn.items) es
      → (w : ℕ) (s : S) → w < length es → AreWorked (done (get_or (map (λ e. e.seat) es) w s)) (faulted w (failures 0 es)) (drawn_by w (numbered 0 es))
  answered_of done es all w s lt =
      let d = pick es w lt in
      let seat : get_or (map (λ e. e.seat) es) w s ≡ (get_or es w d).seat = get_or-map (λ e. e.seat) es w d s lt in
      let drawn : drawn_by w (numbered 0 es) ≡ (get_or es w d).drawn.items = ap (λ k. drawn_by k (numbered 0 es)) (omega arith) ∙ drawn_at 0 w es d lt in
      subst (λ x. AreWorked (done x) (faulted w (failures 0 es)) (drawn_by w (numbered 0 es))) (sym seat)
      (subst (λ b. AreWorked (done (get_or es w d).seat) b (drawn_by w (numbered 0 es))) (sym (faulted_is es w d lt))
      (subst (λ ts. AreWorked (done (get_or es w d).seat) (get_or es w d).failed ts) (sym drawn) (all w d lt)))

  -- what each worker's seat has grown from, without the workers
  pub grown_of : (grows : S → S → Type 0) (P : List S → List S → Type 0) → P [] [] → ((s t : S) (ss ts : List S) → grows s t → P ss ts → P (s ∷ ss) (t ∷ ts))
      → (seats : List S) (es : List (WorkerEnd T S A)) → HaveGrown grows seats es → P seats (map (λ e. e.seat) es)
  grown_of grows P none more [] [] h = none
  grown_of grows P none more [] (e ∷ es) h = absurd h
  grown_of grows P none more (s ∷ ss) [] h = absurd h
  grown_of grows P none more (s ∷ ss) (e ∷ es) h = more s e.seat ss (map (λ e. e.seat) es) h.0 (grown_of grows P none more ss es h.1)

  pub grown_length : (grows : S → S → Type 0) (seats : List S) (es : List (WorkerEnd T S A)) → HaveGrown grows seats es → length es ≡ length seats
  grown_length grows [] [] h = refl
  grown_length grows [] (e ∷ es) h = absurd h
  grown_length grows (s ∷ ss) [] h = absurd h
  grown_length grows (s ∷ ss) (e ∷ es) h = let r = grown_length grows ss es h.1 in omega arith

  pub numbers_below : (n m : ℕ) (es : List (WorkerEnd T S A)) → n + length es ≤ m → All (λ (p : ℕ × T). p.0 < m) (numbered n es)
  numbers_below n m [] h = All-nil (λ (p : ℕ × T). p.0 < m)
  numbers_below n m (e ∷ es) h = All-append (λ (p : ℕ × T). p.0 < m) (map (λ (t : T). (n, t)) e.drawn.items) (numbered (n + 1) es)
      (All-map (λ (p : ℕ × T). p.0 < m) (λ (t : T). (n, t)) e.drawn.items (λ k d lt. omega arith)) (numbers_below (n + 1) m es (omega arith))

  -- the faults of all workers, each at most once and in their order
  pub faults_of : (n : ℕ) (es : List (WorkerEnd T S A)) → AreFaults n (n + length es) (failures n es)
  faults_of n [] = omega arith
  faults_of n (e ∷ es) = by_failed e.failed (subst (λ k. AreFaults (n + 1) k (failures (n + 1) es)) (omega arith) (faults_of (n + 1) es)) where
    by_failed : (b : Bool) → AreFaults (n + 1) (n + length (e ∷ es)) (failures (n + 1) es) → AreFaults n (n + length (e ∷ es)) (cond b ((n, OutOfMemory) ∷ failures (n + 1) es) (failures (n + 1) es))
    by_failed true h = (omega arith, refl, h)
    by_failed false h = fewer n (n + length (e ∷ es)) (failures (n + 1) es) h

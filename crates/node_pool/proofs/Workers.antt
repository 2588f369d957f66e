-- What a further worker adds.
use Rattle.std.proofs.Common.{◌≡◌, ℕ, suc, ◌+◌, ◌<◌, ◌⊎◌, inl, inr, ⊎_elim, All, subst, map, length, get_or, arith, Bool, true, false, not, List, [], ◌∷◌, ◌++◌, sym, refl, ap, ◌∙◌, append_assoc, append-nil}
use Rattle.std.proofs.lemmas.List.Elements.{All-cons}
use Rattle.std.proofs.lemmas.List.{get_or-map, length-map}
use Rattle.node_pool.specs.declared.worker.WorkerEnd.{WorkerEnd}
use Rattle.node_pool.specs.declared.worker.Member.{Member}
use Rattle.node_pool.specs.declared.rule.Tally.{Tally}
use Rattle.node_pool.specs.Rule.{tally, either_stopped}
use Rattle.atomic_blocks.specs.Lent.{RowsId}
use Rattle.node_pool.specs.Workers.{HaveGrown, IsReady, IsStarting, all_drawn, some_stopped, end_of}

either_assoc : (a b c : Bool) → either_stopped a (either_stopped b c) ≡ either_stopped (either_stopped a b) c
either_assoc true b c = refl
either_assoc false b c = refl

either_false : (a : Bool) → either_stopped a false ≡ a
either_false true = refl
either_false false = refl

module _ {T : Type 0} where
  -- the view that took in another
  abbrev pub both : Tally T → Tally T → Tally T
  both v w = tally (v.parts + w.parts) false (v.put ++ w.put) (v.taken ++ w.taken) (either_stopped v.stopped w.stopped)

module _ {T S A : Type 0} where
  pub all_drawn-push : (es : List (WorkerEnd T S A)) (e : WorkerEnd T S A) → all_drawn (es ++ e ∷ []) ≡ all_drawn es ++ e.drawn.items
  all_drawn-push [] e = append-nil e.drawn.items
  all_drawn-push (x ∷ es) e = ap (λ l. x.drawn.items ++ l) (all_drawn-push es e) ∙ sym (append_assoc x.drawn.items (all_drawn es) e.drawn.items)

  pub some_stopped-push : (es : List (WorkerEnd T S A)) (e : WorkerEnd T S A) → some_stopped (es ++ e ∷ []) ≡ either_stopped (some_stopped es) (not e.failed)
  some_stopped-push [] e = either_false (not e.failed)
  some_stopped-push (x ∷ es) e = ap (either_stopped (not x.failed)) (some_stopped-push es e) ∙ either_assoc (not x.failed) (some_stopped es) (not e.failed)

  pub one_more : (p n m : ℕ) (put : List T) (es es' : List (WorkerEnd T S A)) (e : WorkerEnd T S A) → m ≡ n + 1 → es' ≡ es ++ e ∷ []
      → tally ((p + n) + 1) false (put ++ []) (all_drawn es ++ e.drawn.items) (either_stopped (some_stopped es) (not e.failed)) ≡ tally (p + m) false put (all_drawn es') (some_stopped es')
  one_more p n m put es es' e more is =
      let a : (p + n) + 1 ≡ p + m = omega arith in
      let b = append-nil put in
      let c : all_drawn es ++ e.drawn.items ≡ all_drawn es' = sym (all_drawn-push es e) ∙ ap all_drawn (sym is) in
      let d : either_stopped (some_stopped es) (not e.failed) ≡ some_stopped es' = sym (some_stopped-push es e) ∙ ap some_stopped (sym is) in
      λ i. tally (a i) false (b i) (c i) (d i)

  one_of : (e : WorkerEnd T S A) (es : List (WorkerEnd T S A)) → (some_stopped es ≡ true) ⊎ All (λ x. x.failed ≡ true) es → (b : Bool) → e.failed ≡ b → (some_stopped (e ∷ es) ≡ true) ⊎ All (λ x. x.failed ≡ true) (e ∷ es)
  one_of e es rest false f = inl (ap (λ b. either_stopped (not b) (some_stopped es)) f)
  one_of e es rest true f = ⊎_elim (λ s. inl (ap (λ b. either_stopped (not b) (some_stopped es)) f ∙ s)) (λ a. inr (All-cons (λ x. x.failed ≡ true) e es f a)) rest

  pub stopped_or_failed : (es : List (WorkerEnd T S A)) → (some_stopped es ≡ true) ⊎ All (λ e. e.failed ≡ true) es
  stopped_or_failed [] = inr (λ k d h. absurd (omega arith))
  stopped_or_failed (e ∷ es) = one_of e es (stopped_or_failed es) e.failed refl

  -- the seats of all workers have grown where each has
  pub grown_all : (grows : S → S → Type 0) (old new : List (Member T S A)) → length new ≡ length old → ((i : ℕ) (d : Member T S A) → i < length old → grows (get_or old i d).seat (get_or new i d).seat)
      → HaveGrown grows (map (λ m. m.seat) old) (map end_of new)
  grown_all grows [] [] len each = tt
  grown_all grows [] (n ∷ ns) len each = absurd (omega arith)
  grown_all grows (o ∷ os) [] len each = absurd (omega arith)
  grown_all grows (o ∷ os) (n ∷ ns) len each = (each 0 o (omega arith), grown_all grows os ns (omega arith) (λ i d lt. each (suc i) d (omega arith)))

  -- workers that are ready may start where their seats may be worked from
  pub starting_all : (queue : RowsId × A) (may_work : S → Type 0) (members : List (Member T S A)) → All (IsReady queue) members → All may_work (map (λ m. m.seat) members) → All (IsStarting queue may_work) members
  starting_all queue may_work members ready all = λ k m lt.
      let seat : Member T S A → S = λ w. w.seat in
      let lt' : k < length (map seat members) = omega (arith, length-map members seat) in
      (ready k m lt, subst may_work (get_or-map seat members k m m.seat lt) (all k m.seat lt'))

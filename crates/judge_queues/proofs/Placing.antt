-- At which place of a queue is what a transaction takes, in each order that shows.
use Rattle.std.specs.Prelude.{◌≡◌, ℕ, ◌+◌, ℤ, pos, ◌+ℤ◌, ◌-ℤ◌, Bool, true, false, ◌&&◌, nat_eq, List, [], ◌∷◌, ◌++◌, map, Some, slice_get, refl}
use Rattle.std.proofs.Common.{sym, ◌∙◌, ap, subst, inl, inr, cond, arith}
use Rattle.std.proofs.lemmas.Int.{ints}
use Rattle.std.proofs.lemmas.List.{append_assoc, append-nil}
use Rattle.aud_event.specs.declared.object.Op.{Op}
use Rattle.aud_event.specs.declared.object.Op.TheVariants.{Read, Write, Inc, Dec, Get, Add, Remove, Contains, Enq, Deq, Plus, Put, Look, Del}
use Rattle.aud_event.specs.declared.object.Answer.{Answer}
use Rattle.aud_event.specs.declared.object.Answer.TheVariants.{Done, Int, Flag, Empty}
use Rattle.aud_event.specs.Meanings.{Declared, PlanOf}
use Rattle.base_values.proofs.Bools.{nat_eq-is}
use Rattle.aud_object.specs.declared.execution.Execution.{Execution}
use Rattle.aud_kinds.specs.Objects.{ObjState, queue, opening_of}
use Rattle.aud_object.specs.Replayed.{executed}
use Rattle.aud_history.specs.Histories.{History, is_in}
use Rattle.aud_history.specs.WellFormed.{IsWellFormed}
use Rattle.aud_history.specs.FirstFault.{IsWithinLimits}
use Rattle.aud_history.specs.Table.{row_of, table_of}
use Rattle.aud_witness.specs.declared.decision.Decision.{Decision}
use Rattle.aud_witness.specs.Orders.{is_kept, Shows}
use Rattle.aud_witness.specs.Configurations.{first_configuration}
use Rattle.aud_witness.proofs.WalkLemmas.{walks-say}
use Rattle.search_model.specs.declared.quantity.Quantity.TheVariants.{Takes, Additions, Shortening}
use Rattle.search_model.specs.Quantities.{take, addition, change_by, net, net_of}
use Rattle.judge_sums.specs.Sums.{gain, total}
use Rattle.judge_clauses.proofs.Walking.{get-opening}
use Rattle.judge_sums.proofs.Gains.{total-gain}
use Rattle.judge_sums.proofs.Walks.{Arrives, arrive, reached}
use Rattle.search_model.specs.Queues.{is_addition, is_take, adds, takes, adds_of, takes_of, taken_before, adder}
use Rattle.search_model.specs.Blocks.{added, added_of, Asks}
use Rattle.judge_queues.proofs.Running.{Stands, executed-stands, taken-here, empty-here}
use Rattle.judge_queues.proofs.Adders.{queued, added_before, queued-length, Added, adder-at, adder-place}

-- # Sums of takes and of additions

take-number : (op : Op) (answer : Answer) → take op answer ≡ pos (cond (is_take op answer) 1 0)
take-number Deq (Int v) = refl
take-number Deq Done = refl
take-number Deq (Flag b) = refl
take-number Deq Empty = refl
take-number Read answer = refl
take-number (Write w) answer = refl
take-number Inc answer = refl
take-number Dec answer = refl
take-number Get answer = refl
take-number (Add w) answer = refl
take-number (Remove w) answer = refl
take-number (Contains w) answer = refl
take-number (Enq w) answer = refl
take-number (Plus k) answer = refl
take-number (Put k w) answer = refl
take-number (Look k) answer = refl
take-number (Del k) answer = refl

addition-number : (op : Op) → addition op ≡ pos (cond (is_addition op) 1 0)
addition-number (Enq v) = refl
addition-number Deq = refl
addition-number Read = refl
addition-number (Write w) = refl
addition-number Inc = refl
addition-number Dec = refl
addition-number Get = refl
addition-number (Add w) = refl
addition-number (Remove w) = refl
addition-number (Contains w) = refl
addition-number (Plus k) = refl
addition-number (Put k w) = refl
addition-number (Look k) = refl
addition-number (Del k) = refl

number-if : (b c : Bool) (n : ℤ) → n ≡ pos (cond c 1 0) → cond b n (pos 0) ≡ pos (cond (b && c) 1 0)
number-if true c n is = is
number-if false c n is = refl

module _ (x : ℕ) where
  net-takes : (es : List Execution) → net (Takes x) es ≡ pos (takes x es)
  net-takes [] = refl
  net-takes (e ∷ es) =
      let first : change_by (Takes x) e ≡ pos (cond (nat_eq e.object x && is_take e.op e.answer) 1 0) = number-if (nat_eq e.object x) (is_take e.op e.answer) (take e.op e.answer) (take-number e.op e.answer) in
      let rest = net-takes es in
      omega (arith, ints, first, rest)

  net-additions : (es : List Execution) → net (Additions x) es ≡ pos (adds x es)
  net-additions [] = refl
  net-additions (e ∷ es) =
      let first : change_by (Additions x) e ≡ pos (cond (nat_eq e.object x && is_addition e.op) 1 0) = number-if (nat_eq e.object x) (is_addition e.op) (addition e.op) (addition-number e.op) in
      let rest = net-additions es in
      omega (arith, ints, first, rest)

  both : (b : Bool) (m n : ℤ) → cond b (m -ℤ n) (pos 0) ≡ cond b m (pos 0) -ℤ cond b n (pos 0)
  both true m n = refl
  both false m n = refl

  net-shortening : (es : List Execution) → net (Shortening x) es ≡ pos (takes x es) -ℤ pos (adds x es)
  net-shortening [] = refl
  net-shortening (e ∷ es) =
      let first = both (nat_eq e.object x) (take e.op e.answer) (addition e.op) in
      let one : change_by (Takes x) e ≡ pos (cond (nat_eq e.object x && is_take e.op e.answer) 1 0) = number-if (nat_eq e.object x) (is_take e.op e.answer) (take e.op e.answer) (take-number e.op e.answer) in
      let two : change_by (Additions x) e ≡ pos (cond (nat_eq e.object x && is_addition e.op) 1 0) = number-if (nat_eq e.object x) (is_addition e.op) (addition e.op) (addition-number e.op) in
      let rest = net-shortening es in
      omega (arith, ints, first, one, two, rest)

module _ (h : History) (x : ℕ) where
  gain-takes : (p : List Decision) (r : ℕ) → gain (net_of h (Takes x)) p r ≡ pos (taken_before h x p r)
  gain-takes [] r = refl
  gain-takes (d ∷ p) r = go (nat_eq d.tx r) (is_kept d) (net-takes x (row_of h d.tx).block.executions) (gain-takes p r)
    where
      go : (a b : Bool) → net_of h (Takes x) d.tx ≡ pos (takes_of h x d.tx) → gain (net_of h (Takes x)) p r ≡ pos (taken_before h x p r) →
          cond a (pos 0) (cond b (net_of h (Takes x) d.tx) (pos 0) +ℤ gain (net_of h (Takes x)) p r) ≡ pos (cond a 0 (cond b (takes_of h x d.tx) 0 + taken_before h x p r))
      go true b own rest = refl
      go false true own rest = omega (arith, ints, own, rest)
      go false false own rest = omega (arith, ints, rest)

  gain-additions : (p : List Decision) (r : ℕ) → gain (net_of h (Additions x)) p r ≡ pos (added_before h x p r)
  gain-additions [] r = refl
  gain-additions (d ∷ p) r = go (nat_eq d.tx r) (is_kept d) (net-additions x (row_of h d.tx).block.executions) (gain-additions p r)
    where
      go : (a b : Bool) → net_of h (Additions x) d.tx ≡ pos (adds_of h x d.tx) → gain (net_of h (Additions x)) p r ≡ pos (added_before h x p r) →
          cond a (pos 0) (cond b (net_of h (Additions x) d.tx) (pos 0) +ℤ gain (net_of h (Additions x)) p r) ≡ pos (cond a 0 (cond b (adds_of h x d.tx) 0 + added_before h x p r))
      go true b own rest = refl
      go false true own rest = omega (arith, ints, own, rest)
      go false false own rest = omega (arith, ints, rest)

  gain-shortening : (p : List Decision) (r : ℕ) → gain (net_of h (Shortening x)) p r ≡ pos (taken_before h x p r) -ℤ pos (added_before h x p r)
  gain-shortening [] r = refl
  gain-shortening (d ∷ p) r = go (nat_eq d.tx r) (is_kept d) (net-shortening x (row_of h d.tx).block.executions) (gain-shortening p r)
    where
      go : (a b : Bool) → net_of h (Shortening x) d.tx ≡ pos (takes_of h x d.tx) -ℤ pos (adds_of h x d.tx) → gain (net_of h (Shortening x)) p r ≡ pos (taken_before h x p r) -ℤ pos (added_before h x p r) →
          cond a (pos 0) (cond b (net_of h (Shortening x) d.tx) (pos 0) +ℤ gain (net_of h (Shortening x)) p r)
          ≡ pos (cond a 0 (cond b (takes_of h x d.tx) 0 + taken_before h x p r)) -ℤ pos (cond a 0 (cond b (adds_of h x d.tx) 0 + added_before h x p r))
      go true b own rest = refl
      go false true own rest = omega (arith, ints, own, rest)
      go false false own rest = omega (arith, ints, rest)

module _ (plan : PlanOf) (h : History) (x : ℕ) (p : List Decision) (r : ℕ) (shown : Shows plan.objects h p) (there : is_in h r ≡ true) where
  -- what is taken less what was added before it, up to the adder
  pub place-found : (j a i : ℕ) → adder h x p r (taken_before h x p r + j) ≡ Some (a, i) →
      (total h (net_of h (Takes x)) p r -ℤ total h (net_of h (Additions x)) p a ≡ pos i -ℤ pos j) × (is_in h a ≡ true)
  place-found j a i is =
      let (at, who) = adder-place h x p r (taken_before h x p r + j) a i shown.full.once is in
      let inside : is_in h a ≡ true = elim who [ inl same ↦ ap (is_in h) (nat_eq-is a r same) ∙ there | inr named ↦ sym (shown.full.same a) ∙ named ] in
      let one = total-gain plan.objects h p shown (net_of h (Takes x)) r there in
      let two = total-gain plan.objects h p shown (net_of h (Additions x)) a inside in
      let three = gain-takes h x p r in
      let four = gain-additions h x p a in
      (omega (arith, ints, at, one, two, three, four), inside)

  -- what is taken less what was added before it, where it is the taker's own addition
  pub own-found : (j i : ℕ) → adder h x p r (taken_before h x p r + j) ≡ Some (r, i) → total h (net_of h (Shortening x)) p r ≡ pos i -ℤ pos j
  own-found j i is =
      let (at, who) = adder-place h x p r (taken_before h x p r + j) r i shown.full.once is in
      let one = total-gain plan.objects h p shown (net_of h (Shortening x)) r there in
      let two = gain-shortening h x p r in
      omega (arith, ints, at, one, two)

-- # Where a transaction runs

module _ (plan : PlanOf) (h : History) (fine : IsWellFormed h) (within : IsWithinLimits plan h) (x : ℕ) (d : Declared) (declared : slice_get plan.objects x ≡ Some d) (opens : opening_of d ≡ queue []) where
  abbrev Items : Type 0
  Items = List ℤ × ℕ

  abbrev more : ℕ → Items → Items
  more t a = (a.0 ++ added_of h x t, a.1 + takes_of h x t)

  abbrev Invariant : Items → List Decision → List ObjState → Type 0
  Invariant a p states = Stands x a.0 a.1 states

  step : (e : Decision) (p : List Decision) (a : Items) (states ends : List ObjState) → Invariant a (e ∷ p) states → executed states (row_of h e.tx).block.executions ≡ Some ends → Invariant (more e.tx a) p ends
  step e p a states ends stands led = executed-stands x (row_of h e.tx).block.executions states ends a.0 a.1 stands led

  arrives-at : (p : List Decision) (a : Items) (r : ℕ) → arrive h Items more a p r ≡ (a.0 ++ queued h x p r, a.1 + taken_before h x p r)
  arrives-at [] a r = nothing-more a
    where
      nothing-more : (a : Items) → a ≡ (a.0 ++ [], a.1 + 0)
      nothing-more a = let items = append-nil a.0 in let many : a.1 + 0 ≡ a.1 = omega arith in λ j. (sym items j, sym many j)
  arrives-at (e ∷ p) a r = go (nat_eq e.tx r) (is_kept e) (λ b. arrives-at p b r)
    where
      go : (same kept : Bool) → ((b : Items) → arrive h Items more b p r ≡ (b.0 ++ queued h x p r, b.1 + taken_before h x p r)) →
          cond same a (arrive h Items more (cond kept (more e.tx a) a) p r)
          ≡ (a.0 ++ cond same [] (cond kept (added_of h x e.tx) [] ++ queued h x p r), a.1 + cond same 0 (cond kept (takes_of h x e.tx) 0 + taken_before h x p r))
      go true kept rest = let items = append-nil a.0 in let many : a.1 + 0 ≡ a.1 = omega arith in λ j. (sym items j, sym many j)
      go false true rest =
          let items = append_assoc a.0 (added_of h x e.tx) (queued h x p r) in
          let many : (a.1 + takes_of h x e.tx) + taken_before h x p r ≡ a.1 + (takes_of h x e.tx + taken_before h x p r) = omega arith in
          rest (more e.tx a) ∙ (λ j. (items j, many j))
      go false false rest =
          let many : a.1 + taken_before h x p r ≡ a.1 + (0 + taken_before h x p r) = omega arith in
          rest a ∙ (λ j. (a.0 ++ queued h x p r, many j))

  -- R runs where the queue holds what was added before, but for what was taken before
  pub record Runs (p : List Decision) (r : ℕ) : Type 0 where
    pub states : List ObjState
    pub ends : List ObjState
    pub stands : Stands x (queued h x p r) (taken_before h x p r) states
    pub ran : executed states (row_of h r).block.executions ≡ Some ends

  pub runs : (p : List Decision) (r : ℕ) → Shows plan.objects h p → is_in h r ≡ true → Runs p r
  runs p r shown there =
      let (t, (led, _)) = ((walks-say plan h fine within).shows p).0 shown in
      let begins : Invariant ([], 0) p (map opening_of plan.objects) =
      (queue [], (get-opening plan.objects x d declared ∙ ap (λ (z : ObjState). Some z) opens, record { gone = []; left = []; is = refl; whole = refl; many = refl })) in
      let arrives : Arrives h Items Invariant (arrive h Items more ([], 0) p r) r =
      reached h Items more Invariant step (λ e q a states stands. stands) p (first_configuration (table_of h) plan.objects) t ([], 0) r led begins (shown.full.same r ∙ there) in
      let zero_more : 0 + taken_before h x p r ≡ taken_before h x p r = omega arith in
      let at : Invariant (queued h x p r, 0 + taken_before h x p r) (arrives.first ∷ arrives.rest) arrives.states =
      subst (λ (a : Items). Invariant a (arrives.first ∷ arrives.rest) arrives.states) (arrives-at p ([], 0) r) arrives.stands in
      record {
        states = arrives.states;
        ends = arrives.ends;
        stands = subst (λ k. Stands x (queued h x p r) k arrives.states) zero_more at;
        ran = arrives.ran;
      }

  module _ (p : List Decision) (r : ℕ) (shown : Shows plan.objects h p) (there : is_in h r ≡ true) where
    -- the n-th item that is taken is the n-th that was added
    pub taken-at : (j e : ℕ) (v : ℤ) (asks : Asks x (row_of h r).block.executions j e (Int v)) → slice_get (queued h x p r ++ added x asks.front) (taken_before h x p r + j) ≡ Some v
    taken-at j e v asks =
        let run = runs p r shown there in
        taken-here x (row_of h r).block.executions j e v run.states run.ends (queued h x p r) (taken_before h x p r) asks run.stands run.ran

    -- where nothing is left, all that was added is taken
    pub empty-at : (j e : ℕ) → Asks x (row_of h r).block.executions j e Empty → taken_before h x p r + j ≡ added_before h x p r + e
    empty-at j e asks =
        let run = runs p r shown there in
        let found = empty-here x (row_of h r).block.executions j e run.states run.ends (queued h x p r) (taken_before h x p r) asks run.stands run.ran in
        found ∙ ap (λ k. k + e) (queued-length h x p r)

    -- who added what is taken
    pub item-found : (j e : ℕ) (v : ℤ) (asks : Asks x (row_of h r).block.executions j e (Int v)) → Added h x p r (added x asks.front) (taken_before h x p r + j) v
    item-found j e v asks = adder-at h x p r (added x asks.front) (taken_before h x p r + j) v (shown.full.same r ∙ there) (taken-at j e v asks)

    pub empty-found : (j e : ℕ) → Asks x (row_of h r).block.executions j e Empty → total h (net_of h (Shortening x)) p r ≡ pos e -ℤ pos j
    empty-found j e asks =
        let at = empty-at j e asks in
        let one = total-gain plan.objects h p shown (net_of h (Shortening x)) r there in
        let two = gain-shortening h x p r in
        omega (arith, ints, at, one, two)

-- What a number is where a transaction runs in an order that shows, and what the transaction then has to find.
use Rattle.std.specs.Prelude.{◌≡◌, ℕ, ◌+◌, ℤ, pos, ◌+ℤ◌, ◌-ℤ◌, Bool, true, false, nat_eq, List, [], ◌∷◌, map, Option, Some, None, slice_get, refl, ◌⊎◌}
use Rattle.std.proofs.Common.{sym, ◌∙◌, ap, subst, inl, inr, cond, arith}
use Rattle.std.proofs.lemmas.Int.{ints}
use Rattle.aud_event.specs.declared.object.Op.{Op}
use Rattle.aud_event.specs.declared.object.Answer.{Answer}
use Rattle.aud_event.specs.Meanings.{Declared, PlanOf}
use Rattle.base_values.proofs.Bools.{split, nat_eq-is}
use Rattle.aud_object.specs.declared.execution.Execution.{Execution}
use Rattle.aud_kinds.specs.Objects.{ObjState, answer_of, after_op, opening_of}
use Rattle.aud_object.specs.Replayed.{after_at, answer_at, answers, same_answer, executed}
use Rattle.aud_object.proofs.Legality.{answer_at-get, after_at-same, after_at-other}
use Rattle.aud_history.specs.Histories.{History, is_in}
use Rattle.aud_history.specs.WellFormed.{IsWellFormed}
use Rattle.aud_history.specs.FirstFault.{IsWithinLimits}
use Rattle.aud_history.specs.Table.{transactions, row_of, table_of}
use Rattle.aud_witness.specs.declared.decision.Decision.{Decision}
use Rattle.aud_witness.specs.Orders.{is_kept, Shows}
use Rattle.aud_witness.specs.Configurations.{first_configuration}
use Rattle.aud_witness.proofs.WalkLemmas.{walks-say}
use Rattle.search_model.specs.declared.quantity.Quantity.{Quantity}
use Rattle.search_model.specs.Quantities.{change, object_of, change_by, net, net_of, seen, seen_by, less, first_of, asked, Tell, Contradict, reach, reach_by, reaches, reach_of}
use Rattle.judge_sums.specs.Sums.{sum_over, sum_of, gain, total}
use Rattle.judge_sums.proofs.Gains.{all-sums, total-gain}
use Rattle.judge_clauses.proofs.Walking.{off, ran-first, get-opening}
use Rattle.judge_sums.proofs.Walks.{Arrives, arrive, reached}

plus-zero : (n : ℤ) → n ≡ n +ℤ pos 0
plus-zero n = omega (arith, ints)

-- what is seen at once, or else by those after
seen-or : (o : Option ℤ) (k : ℤ) (later : Option ℤ) (w : ℤ) → first_of o (less k later) ≡ Some w → (o ≡ Some w) ⊎ ((m : ℤ) × ((later ≡ Some m) × (w ≡ m -ℤ k)))
seen-or (Some n) k later w is = inl is
seen-or None k None w is = absurd (cc)
seen-or None k (Some m) w is = inr (m, (refl, let same : m -ℤ k ≡ w = cc in sym same))

seen-on : (b : Bool) (o : Option ℤ) (w : ℤ) → cond b o None ≡ Some w → (b ≡ true) × (o ≡ Some w)
seen-on true o w is = (refl, is)
seen-on false o w is = absurd (cc)

pub seen-here : (states : List ObjState) (x : ℕ) (e : Execution) (s : ObjState) → nat_eq e.object x ≡ true → slice_get states x ≡ Some s → answers (answer_at states e.object e.op) e.answer ≡ true → same_answer (answer_of s e.op) e.answer ≡ true
seen-here states x e s same at right =
    let on : x ≡ e.object = sym (nat_eq-is e.object x same) in
    let here : answer_at states e.object e.op ≡ Some (answer_of s e.op) = subst (λ n. answer_at states n e.op ≡ Some (answer_of s e.op)) on (answer_at-get states x e.op s at) in
    sym (ap (λ o. answers o e.answer) here) ∙ right

pub there-after : (states : List ObjState) (x : ℕ) (e : Execution) (s : ObjState) → nat_eq e.object x ≡ true → slice_get states x ≡ Some s → slice_get (after_at states e.object e.op) x ≡ Some (after_op s e.op)
there-after states x e s same at =
    let on : x ≡ e.object = sym (nat_eq-is e.object x same) in
    subst (λ n. slice_get (after_at states n e.op) x ≡ Some (after_op s e.op)) on (after_at-same states x e.op s at)

-- how far all of p may take the number
abbrev pub reach_over : History → Quantity → List Decision → ℕ
reach_over h f [] = 0
reach_over h f (d ∷ p) = reach_of h f d.tx + reach_over h f p

reach-sum : (h : History) (f : Quantity) (p : List Decision) → pos (reach_over h f p) ≡ sum_over (λ t. pos (reach_of h f t)) p
reach-sum h f [] = refl
reach-sum h f (d ∷ p) = ap (λ n. pos (reach_of h f d.tx) +ℤ n) (reach-sum h f p)

-- # A number that a state of an object has, with room to either side

module _ (f : Quantity) (Is : ℤ → ℕ → ObjState → Type 0)
    (after : (op : Op) (answer : Answer) (n : ℤ) (s : ℕ) (state : ObjState) → Is n (reach f op + s) state → same_answer (answer_of state op) answer ≡ true → Is (n +ℤ change f op answer) s (after_op state op))
    (tells : (op : Op) (answer : Answer) (n w : ℤ) (s : ℕ) (state : ObjState) → Is n s state → same_answer (answer_of state op) answer ≡ true → seen f op answer ≡ Some w → n ≡ w)
    (less_room : (n : ℤ) (a s : ℕ) (state : ObjState) → Is n (a + s) state → Is n s state) where
  abbrev Stands : ℤ → ℕ → List ObjState → Type 0
  Stands n s states = (state : ObjState) × ((slice_get states (object_of f) ≡ Some state) × Is n s state)

  stands-after : (states : List ObjState) (e : Execution) (n : ℤ) (s : ℕ) → Stands n (reach_by f e + s) states → answers (answer_at states e.object e.op) e.answer ≡ true → Stands (n +ℤ change_by f e) s (after_at states e.object e.op)
  stands-after states e n s stands right =
      let (state, (at, is)) = stands in
      elim (split (nat_eq e.object (object_of f))) [
        | inl same ↦
            let own : change f e.op e.answer ≡ change_by f e = sym (ap (λ b. cond b (change f e.op e.answer) (pos 0)) same) in
            let wide : Is n (reach f e.op + s) state = subst (λ k. Is n (k + s) state) (ap (λ b. cond b (reach f e.op) 0) same) is in (
              after_op state e.op,
              (
                there-after states (object_of f) e state same at,
                subst (λ k. Is (n +ℤ k) s (after_op state e.op)) own (after e.op e.answer n s state wide (seen-here states (object_of f) e state same at right)),
              ),
            )
        | inr other ↦
            let none : pos 0 ≡ change_by f e = sym (ap (λ b. cond b (change f e.op e.answer) (pos 0)) other) in
            let no_reach : reach_by f e + s ≡ s = ap (λ b. cond b (reach f e.op) 0 + s) other ∙ on s in (
              state,
              (
                after_at-other states e.object (object_of f) e.op (off e.object (object_of f) other) ∙ at,
                subst (λ k. Is (n +ℤ k) s state) none (subst (λ m. Is m s state) (plus-zero n) (subst (λ k. Is n k state) no_reach is)),
              ),
            )
      ]
    where
      on : (s : ℕ) → 0 + s ≡ s
      on s = omega arith

  regroup : (a b s : ℕ) (n : ℤ) (states : List ObjState) → Stands n ((a + b) + s) states → Stands n (a + (b + s)) states
  regroup a b s n states stands = let same : (a + b) + s ≡ a + (b + s) = omega arith in subst (λ k. Stands n k states) same stands

  executed-stands : (es : List Execution) (states ends : List ObjState) (n : ℤ) (s : ℕ) → Stands n (reaches f es + s) states → executed states es ≡ Some ends → Stands (n +ℤ net f es) s ends
  executed-stands [] states ends n s stands led =
      let same : states ≡ ends = cc in
      let on : 0 + s ≡ s = omega arith in
      subst (λ l. Stands (n +ℤ pos 0) s l) same (subst (λ m. Stands m s states) (plus-zero n) (subst (λ k. Stands n k states) on stands))
  executed-stands (e ∷ es) states ends n s stands led =
      let (right, rest) = ran-first states e es ends led in
      let wide : Stands n (reach_by f e + (reaches f es + s)) states = regroup (reach_by f e) (reaches f es) s n states stands in
      let sum : (n +ℤ change_by f e) +ℤ net f es ≡ n +ℤ (change_by f e +ℤ net f es) = omega (arith, ints) in
      subst (λ m. Stands m s ends) sum (executed-stands es (after_at states e.object e.op) ends (n +ℤ change_by f e) s (stands-after states e n (reaches f es + s) wide right) rest)

  executed-asked : (es : List Execution) (states ends : List ObjState) (n w : ℤ) (s : ℕ) → Stands n (reaches f es + s) states → executed states es ≡ Some ends → asked f es ≡ Some w → n ≡ w
  executed-asked [] states ends n w s stands led is = absurd (cc)
  executed-asked (e ∷ es) states ends n w s stands led is =
      let (right, rest) = ran-first states e es ends led in
      let wide : Stands n (reach_by f e + (reaches f es + s)) states = regroup (reach_by f e) (reaches f es) s n states stands in
      let next : Stands (n +ℤ change_by f e) (reaches f es + s) (after_at states e.object e.op) = stands-after states e n (reaches f es + s) wide right in
      elim (seen-or (seen_by f e) (change_by f e) (asked f es) w is) [
        | inl at_once ↦
            let (same, tells_it) = seen-on (nat_eq e.object (object_of f)) (seen f e.op e.answer) w at_once in
            let (state, (at, here)) = stands in
            tells e.op e.answer n w (reaches f (e ∷ es) + s) state here (seen-here states (object_of f) e state same at right) tells_it
        | inr further ↦
            let (m, (later, before)) = further in
            let found : n +ℤ change_by f e ≡ m = executed-asked es (after_at states e.object e.op) ends (n +ℤ change_by f e) m s next rest later in
            omega (arith, ints, found, before)
      ]

  executed-tells : (es : List Execution) (states ends : List ObjState) (n : ℤ) (s : ℕ) → Stands n (reaches f es + s) states → executed states es ≡ Some ends → Tell f n es
  executed-tells [] states ends n s stands led = tt
  executed-tells (e ∷ es) states ends n s stands led =
      let (right, rest) = ran-first states e es ends led in
      let wide : Stands n (reach_by f e + (reaches f es + s)) states = regroup (reach_by f e) (reaches f es) s n states stands in
      let next : Stands (n +ℤ change_by f e) (reaches f es + s) (after_at states e.object e.op) = stands-after states e n (reaches f es + s) wide right in (
        λ m seen_m.
            let (same, tells_it) = seen-on (nat_eq e.object (object_of f)) (seen f e.op e.answer) m seen_m in
            let (state, (at, here)) = stands in
            tells e.op e.answer n m (reaches f (e ∷ es) + s) state here (seen-here states (object_of f) e state same at right) tells_it,
        executed-tells es (after_at states e.object e.op) ends (n +ℤ change_by f e) s next rest,
      )

  module _ (plan : PlanOf) (h : History) (fine : IsWellFormed h) (within : IsWithinLimits plan h) where
    abbrev Invariant : ℤ → List Decision → List ObjState → Type 0
    Invariant n p states = Stands n (reach_over h f p) states

    step : (d : Decision) (p : List Decision) (n : ℤ) (states ends : List ObjState) → Invariant n (d ∷ p) states → executed states (row_of h d.tx).block.executions ≡ Some ends → Invariant (n +ℤ net_of h f d.tx) p ends
    step d p n states ends stands led = executed-stands (row_of h d.tx).block.executions states ends n (reach_over h f p) stands led

    skip : (d : Decision) (p : List Decision) (n : ℤ) (states : List ObjState) → Invariant n (d ∷ p) states → Invariant n p states
    skip d p n states stands =
        let (state, (at, is)) = stands in
        (state, (at, less_room n (reach_of h f d.tx) (reach_over h f p) state is))

    arrives-gain : (p : List Decision) (n : ℤ) (r : ℕ) → arrive h ℤ (λ t n. n +ℤ net_of h f t) n p r ≡ n +ℤ gain (net_of h f) p r
    arrives-gain [] n r = plus-zero n
    arrives-gain (d ∷ p) n r = go (nat_eq d.tx r) (is_kept d) (λ m. arrives-gain p m r)
      where
        go : (a b : Bool) → ((m : ℤ) → arrive h ℤ (λ t n. n +ℤ net_of h f t) m p r ≡ m +ℤ gain (net_of h f) p r) →
            cond a n (arrive h ℤ (λ t n. n +ℤ net_of h f t) (cond b (n +ℤ net_of h f d.tx) n) p r) ≡ n +ℤ cond a (pos 0) (cond b (net_of h f d.tx) (pos 0) +ℤ gain (net_of h f) p r)
        go true b rest = plus-zero n
        go false true rest = let now = rest (n +ℤ net_of h f d.tx) in omega (arith, ints, now)
        go false false rest = let now = rest n in omega (arith, ints, now)

    -- where a transaction runs
    abbrev Runs : ℤ → ℕ → Type 0
    Runs n r = (rest : ℕ) × ((states : List ObjState) × ((ends : List ObjState) × (Stands n (reach_of h f r + rest) states × (executed states (row_of h r).block.executions ≡ Some ends))))

    runs : (v0 : ℤ) (d : Declared) (r : ℕ) (p : List Decision) → slice_get plan.objects (object_of f) ≡ Some d →
        ((s : ℕ) → pos s ≡ sum_of (λ t. pos (reach_of h f t)) (transactions h) → Is v0 s (opening_of d)) → is_in h r ≡ true → Shows plan.objects h p →
        Runs (arrive h ℤ (λ t n. n +ℤ net_of h f t) v0 p r) r
    runs v0 d r p declared opens there shown =
        let (t, (led, _)) = ((walks-say plan h fine within).shows p).0 shown in
        let begins : Invariant v0 p (map opening_of plan.objects) =
        (opening_of d, (get-opening plan.objects (object_of f) d declared, opens (reach_over h f p) (reach-sum h f p ∙ all-sums plan.objects h p shown (λ t. pos (reach_of h f t))))) in
        let arrives : Arrives h ℤ Invariant (arrive h ℤ (λ t n. n +ℤ net_of h f t) v0 p r) r =
        reached h ℤ (λ t n. n +ℤ net_of h f t) Invariant step skip p (first_configuration (table_of h) plan.objects) t v0 r led begins (shown.full.same r ∙ there) in
        let own : Stands (arrive h ℤ (λ t n. n +ℤ net_of h f t) v0 p r) (reach_of h f r + reach_over h f arrives.rest) arrives.states =
        subst (λ m. Stands (arrive h ℤ (λ t n. n +ℤ net_of h f t) v0 p r) (reach_of h f m + reach_over h f arrives.rest) arrives.states) arrives.is arrives.stands in
        (reach_over h f arrives.rest, (arrives.states, (arrives.ends, (own, arrives.ran))))

    -- what a transaction has to find is the opening, and what each other one adds
    pub counted : (v0 w : ℤ) (d : Declared) (r : ℕ) (p : List Decision) → slice_get plan.objects (object_of f) ≡ Some d →
        ((s : ℕ) → pos s ≡ sum_of (λ t. pos (reach_of h f t)) (transactions h) → Is v0 s (opening_of d)) → is_in h r ≡ true → asked f (row_of h r).block.executions ≡ Some w → Shows plan.objects h p →
        v0 +ℤ total h (net_of h f) p r ≡ w
    counted v0 w d r p declared opens there asks shown =
        let (rest, (states, (ends, (stands, ran)))) = runs v0 d r p declared opens there shown in
        let found : arrive h ℤ (λ t n. n +ℤ net_of h f t) v0 p r ≡ w = executed-asked (row_of h r).block.executions states ends (arrive h ℤ (λ t n. n +ℤ net_of h f t) v0 p r) w rest stands ran asks in
        ap (λ n. v0 +ℤ n) (total-gain plan.objects h p shown (net_of h f) r there) ∙ sym (arrives-gain p v0 r) ∙ found

    -- a transaction does not contradict itself
    pub consistent : (v0 : ℤ) (d : Declared) (r : ℕ) (p : List Decision) → slice_get plan.objects (object_of f) ≡ Some d →
        ((s : ℕ) → pos s ≡ sum_of (λ t. pos (reach_of h f t)) (transactions h) → Is v0 s (opening_of d)) → is_in h r ≡ true → Contradict f (row_of h r).block.executions → Shows plan.objects h p → ⊥
    consistent v0 d r p declared opens there contradict shown =
        let (rest, (states, (ends, (stands, ran)))) = runs v0 d r p declared opens there shown in
        contradict (arrive h ℤ (λ t n. n +ℤ net_of h f t) v0 p r) (executed-tells (row_of h r).block.executions states ends (arrive h ℤ (λ t n. n +ℤ net_of h f t) v0 p r) rest stands ran)

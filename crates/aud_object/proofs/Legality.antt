-- A replay decides legality, object by object.
use Rattle.std.proofs.Common.{◌≡◌, ℕ, zero, suc, ◌+◌, ◌<◌, Bool, true, false, cond, nat_eq, List, [], ◌∷◌, ◌++◌, length, map, Option, Some, None, slice_get, MatchOption, option_map, ◌⊎◌, inl, inr, refl, sym, ◌∙◌, ap, subst, arith}
use Rattle.std.proofs.lemmas.Grind.{common_steps}
use Rattle.aud_event.specs.declared.object.Op.{Op}
use Rattle.aud_event.specs.declared.object.Answer.{Answer}
use Rattle.aud_event.specs.declared.object.Answer.TheVariants.{Done, Int, Flag, Empty}
use Rattle.aud_event.specs.declared.fact.Event.{Event}
use Rattle.aud_event.specs.declared.fact.Event.TheVariants.{Inv, Ret}
use Rattle.aud_event.specs.Meanings.{Declared}
use Rattle.aud_event.specs.Objects.{name_of}
use Rattle.aud_kinds.specs.Objects.{ObjState, answer_of, after_op, opening_of, on_object, IsInSeq}
use Rattle.aud_object.specs.Executions.{state_after, states_after_from, states_after, IsLegalFrom}
use Rattle.aud_object.specs.Blocks.{events_of_executions, events_of_trailing, events_of_block, AreThere}
use Rattle.aud_object.specs.Replayed.{same_answer, after_at, answer_at, answers, executed, replayed}
use Rattle.aud_object.specs.Laws.{ReplayIsLegality, OpeningIsLegality, AreExecutionsOnEach, LegalityIsByParts, BlocksReplayInTurn}
use Rattle.aud_object.specs.declared.execution.Execution.{Execution}
use Rattle.aud_object.specs.declared.execution.Invocation.{Invocation}
use Rattle.base_undo.proofs.Ints.{eq-is, eq-itself}
use Rattle.aud_object.proofs.Replays.{on_object-append, IsInSeq-append, IsInSeq-split, state_after-append}

pub same_answer-is : (a b : Answer) → same_answer a b ≡ true → a ≡ b
same_answer-is Done Done h = refl
same_answer-is Done (Int w) h = cc
same_answer-is Done (Flag c) h = cc
same_answer-is Done Empty h = cc
same_answer-is (Int v) Done h = cc
same_answer-is (Int v) (Int w) h = ap Int (eq-is v w h)
same_answer-is (Int v) (Flag c) h = cc
same_answer-is (Int v) Empty h = cc
same_answer-is (Flag true) Done h = cc
same_answer-is (Flag true) (Int w) h = cc
same_answer-is (Flag true) (Flag c) h = ap Flag (sym h)
same_answer-is (Flag true) Empty h = cc
same_answer-is (Flag false) Done h = cc
same_answer-is (Flag false) (Int w) h = cc
same_answer-is (Flag false) (Flag true) h = cc
same_answer-is (Flag false) (Flag false) h = refl
same_answer-is (Flag false) Empty h = cc
same_answer-is Empty Done h = cc
same_answer-is Empty (Int w) h = cc
same_answer-is Empty (Flag c) h = cc
same_answer-is Empty Empty h = refl

pub same_answer-itself : (a : Answer) → same_answer a a ≡ true
same_answer-itself Done = refl
same_answer-itself (Int v) = eq-itself v
same_answer-itself (Flag true) = refl
same_answer-itself (Flag false) = refl
same_answer-itself Empty = refl

-- the tables at a place
pub answer_at-get : (states : List ObjState) (ob : ℕ) (op : Op) (s : ObjState) → slice_get states ob ≡ Some s → answer_at states ob op ≡ Some (answer_of s op)
answer_at-get [] ob op s h = cc
answer_at-get (x ∷ states) zero op s h = grind (arith, h)
answer_at-get (x ∷ states) (suc ob) op s h = answer_at-get states ob op s h

pub after_at-same : (states : List ObjState) (ob : ℕ) (op : Op) (s : ObjState) → slice_get states ob ≡ Some s → slice_get (after_at states ob op) ob ≡ Some (after_op s op)
after_at-same [] ob op s h = cc
after_at-same (x ∷ states) zero op s h = grind (arith, h)
after_at-same (x ∷ states) (suc ob) op s h = after_at-same states ob op s h

pub after_at-other : (states : List ObjState) (ob other : ℕ) (op : Op) → (ob ≡ other → ⊥) → slice_get (after_at states ob op) other ≡ slice_get states other
after_at-other [] ob other op h = refl
after_at-other (x ∷ states) zero zero op h = absurd (h refl)
after_at-other (x ∷ states) zero (suc other) op h = refl
after_at-other (x ∷ states) (suc ob) zero op h = refl
after_at-other (x ∷ states) (suc ob) (suc other) op h = after_at-other states ob other op (λ e. h (ap suc e))

pub length-after_at : (states : List ObjState) (ob : ℕ) (op : Op) → length (after_at states ob op) ≡ length states
length-after_at [] ob op = refl
length-after_at (x ∷ states) zero op = refl
length-after_at (x ∷ states) (suc ob) op = grind (arith, length-after_at states ob op)

pub get-there : (states : List ObjState) (ob : ℕ) → ob < length states → (s : ObjState) × (slice_get states ob ≡ Some s)
get-there [] ob low = absurd (omega arith)
get-there (x ∷ states) zero low = (x, refl)
get-there (x ∷ states) (suc ob) low = get-there states ob (omega arith)

pub AreThere-more : (states more : List ObjState) (xs : List Execution) → length states ≡ length more → AreThere states xs → AreThere more xs
AreThere-more states more [] e h = tt
AreThere-more states more (x ∷ xs) e h = (omega (arith, e, h.0), AreThere-more states more xs e h.1)

-- the events of an execution, and then others
abbrev ran : Execution → List Event → List Event
ran x es = Inv x.object x.op ∷ Ret x.object (name_of x.op) x.answer ∷ es

on-same : (ob : ℕ) (x : Execution) (es : List Event) → x.object ≡ ob → on_object ob (ran x es) ≡ ran x (on_object ob es)
on-same ob x es e = grind (arith, common_steps, e)

on-other : (ob : ℕ) (x : Execution) (es : List Event) → (x.object ≡ ob → ⊥) → on_object ob (ran x es) ≡ on_object ob es
on-other ob x es e = grind (arith, common_steps, e)

-- equal or not
same_or : (a b : ℕ) → (a ≡ b) ⊎ (a ≡ b → ⊥)
same_or zero zero = inl refl
same_or zero (suc b) = inr (λ e. omega (arith, e))
same_or (suc a) zero = inr (λ e. omega (arith, e))
same_or (suc a) (suc b) = elim (same_or a b) [ inl e ↦ inl (ap suc e) | inr n ↦ inr (λ e. n (omega (arith, e))) ]

module _ (states : List ObjState) (x : Execution) (es : List Event) (s : ObjState) (here : slice_get states x.object ≡ Some s) where
  -- a right answer: what is legal from the next states is legal with this execution before it
  legal-push : x.answer ≡ answer_of s x.op → IsLegalFrom (after_at states x.object x.op) es → IsLegalFrom states (ran x es)
  legal-push right legal ob t at =
      elim (same_or x.object ob) as (λ _. IsInSeq t (on_object ob (ran x es))) [
        | inl e ↦
            let same : s ≡ t = grind (arith, here, at, e) in
            let rest : IsInSeq (after_op s x.op) (on_object ob es) = legal ob (after_op s x.op) (subst (λ k. slice_get (after_at states x.object x.op) k ≡ Some (after_op s x.op)) e (after_at-same states x.object x.op s here)) in
            subst (λ l. IsInSeq t l) (sym (on-same ob x es e)) (subst (λ z. IsInSeq z (ran x (on_object ob es))) same (right, rest))
        | inr n ↦ subst (λ l. IsInSeq t l) (sym (on-other ob x es n)) (legal ob t (after_at-other states x.object ob x.op n ∙ at))
      ]

  legal-pop : IsLegalFrom states (ran x es) → (x.answer ≡ answer_of s x.op) × IsLegalFrom (after_at states x.object x.op) es
  legal-pop legal =
      let first : IsInSeq s (ran x (on_object x.object es)) = subst (λ l. IsInSeq s l) (on-same x.object x es refl) (legal x.object s here) in (
        first.0,
        λ ob t at. elim (same_or x.object ob) as (λ _. IsInSeq t (on_object ob es)) [
          | inl e ↦
              let same : after_op s x.op ≡ t = grind (arith, at, e, after_at-same states x.object x.op s here) in
              subst (λ k. IsInSeq t (on_object k es)) e (subst (λ z. IsInSeq z (on_object x.object es)) same first.1)
          | inr n ↦ subst (λ l. IsInSeq t l) (on-other ob x es n) (legal ob t (sym (after_at-other states x.object ob x.op n) ∙ at))
        ],
      )

-- where an execution leads
states_after_from-below : (first : ℕ) (ss : List ObjState) (x : Execution) (es : List Event) → x.object < first → states_after_from first ss es ≡ states_after_from first ss (ran x es)
states_after_from-below first [] x es low = refl
states_after_from-below first (s ∷ ss) x es low =
    let other : on_object first (ran x es) ≡ on_object first es = on-other first x es (λ e. omega (arith, e)) in
    let rest : states_after_from (suc first) ss es ≡ states_after_from (suc first) ss (ran x es) = states_after_from-below (suc first) ss x es (omega arith) in
    λ j. state_after s (sym other j) ∷ rest j

states_after_from-at : (first i : ℕ) (ss : List ObjState) (x : Execution) (es : List Event) → x.object ≡ first + i → states_after_from first (after_at ss i x.op) es ≡ states_after_from first ss (ran x es)
states_after_from-at first i [] x es e = refl
states_after_from-at first zero (s ∷ ss) x es e =
    let same : on_object first (ran x es) ≡ ran x (on_object first es) = on-same first x es (omega (arith, e)) in
    let rest : states_after_from (suc first) ss es ≡ states_after_from (suc first) ss (ran x es) = states_after_from-below (suc first) ss x es (omega (arith, e)) in
    λ j. state_after s (sym same j) ∷ rest j
states_after_from-at first (suc i) (s ∷ ss) x es e =
    let other : on_object first (ran x es) ≡ on_object first es = on-other first x es (λ d. omega (arith, e, d)) in
    let rest : states_after_from (suc first) (after_at ss i x.op) es ≡ states_after_from (suc first) ss (ran x es) = states_after_from-at (suc first) i ss x es (omega (arith, e)) in
    λ j. state_after s (sym other j) ∷ rest j

-- an invocation that still waits
on_trailing : (t : Option Invocation) (ob : ℕ) (s : ObjState) → IsInSeq s (on_object ob (events_of_trailing t)) × (state_after s (on_object ob (events_of_trailing t)) ≡ s)
on_trailing None ob s = (tt, refl)
on_trailing (Some i) ob s =
    elim (nat_eq i.object ob) as (λ b. IsInSeq s (cond b (Inv i.object i.op ∷ []) []) × (state_after s (cond b (Inv i.object i.op ∷ []) []) ≡ s)) [
      | true ↦ (tt, refl)
      | false ↦ (tt, refl)
    ]

trailing_stays : (t : Option Invocation) (first : ℕ) (ss : List ObjState) → ss ≡ states_after_from first ss (events_of_trailing t)
trailing_stays t first [] = refl
trailing_stays t first (s ∷ ss) =
    let head = sym (on_trailing t first s).1 in
    let rest = trailing_stays t (suc first) ss in
    λ j. head j ∷ rest j

abbrev Decided : List ObjState → List Event → Option (List ObjState) → Type 0
Decided states es o = MatchOption o (IsLegalFrom states es → ⊥) (λ after. IsLegalFrom states es × (after ≡ states_after states es))

step : (states : List ObjState) (x : Execution) (es : List Event) (s : ObjState) → slice_get states x.object ≡ Some s → (b : Bool) → same_answer (answer_of s x.op) x.answer ≡ b → (o : Option (List ObjState)) → Decided (after_at states x.object x.op) es o → Decided states (ran x es) (cond b o None)
step states x es s here true right None refused = λ legal. refused (legal-pop states x es s here legal).1
step states x es s here true right (Some after) went =
    (legal-push states x es s here (sym (same_answer-is _ _ right)) went.0, went.1 ∙ states_after_from-at 0 x.object states x es (omega arith))
step states x es s here false wrong o rest = λ legal.
    let same : same_answer (answer_of s x.op) x.answer ≡ true = subst (λ a. same_answer (answer_of s x.op) a ≡ true) (sym (legal-pop states x es s here legal).0) (same_answer-itself (answer_of s x.op)) in
    cc

decided : (t : Option Invocation) (states : List ObjState) (xs : List Execution) → AreThere states xs → Decided states (events_of_executions xs ++ events_of_trailing t) (executed states xs)
decided t states [] there = (λ ob s at. (on_trailing t ob s).0, trailing_stays t 0 states)
decided t states (x ∷ xs) there =
    let (s, here) = get-there states x.object there.0 in
    let found : answer_at states x.object x.op ≡ Some (answer_of s x.op) = answer_at-get states x.object x.op s here in
    let es : List Event = events_of_executions xs ++ events_of_trailing t in
    let rest : Decided (after_at states x.object x.op) es (executed (after_at states x.object x.op) xs) =
    decided t (after_at states x.object x.op) xs (AreThere-more states (after_at states x.object x.op) xs (sym (length-after_at states x.object x.op)) there.1) in
    subst (λ o. Decided states (ran x es) (cond (answers o x.answer) (executed (after_at states x.object x.op) xs) None)) (sym found)
    (step states x es s here (same_answer (answer_of s x.op) x.answer) refl (executed (after_at states x.object x.op) xs) rest)

pub replay_is_legality : ReplayIsLegality
replay_is_legality states block there = decided block.trailing states block.executions there

-- the states at which the objects open
mapped : {A B : Type 0} (f : A → B) (o : Option A) (t : B) → option_map f o ≡ Some t → (s : A) × ((o ≡ Some s) × (f s ≡ t))
mapped f None t e = cc
mapped f (Some s) t e = (s, (refl, cc))

get-map : (objects : List Declared) (ob : ℕ) → slice_get (map opening_of objects) ob ≡ option_map opening_of (slice_get objects ob)
get-map [] ob = refl
get-map (d ∷ objects) zero = refl
get-map (d ∷ objects) (suc ob) = get-map objects ob

pub opening_is_legality : OpeningIsLegality
opening_is_legality objects es = (
  λ legal ob s at.
      let (d, (here, opens)) = mapped opening_of (slice_get objects ob) s (sym (get-map objects ob) ∙ at) in
      subst (λ z. IsInSeq z (on_object ob es)) opens (legal ob d here),
  λ legal ob d at. legal ob (opening_of d) (get-map objects ob ∙ ap (option_map opening_of) at),
)

-- one part after another
get-after : (first i k : ℕ) (ss : List ObjState) (es : List Event) → k ≡ first + i → slice_get (states_after_from first ss es) i ≡ option_map (λ s. state_after s (on_object k es)) (slice_get ss i)
get-after first i k [] es e = refl
get-after first zero k (s ∷ ss) es e =
    let same : first ≡ k = omega (arith, e) in
    ap (λ z. Some (state_after s (on_object z es))) same
get-after first (suc i) k (s ∷ ss) es e = get-after (suc first) i k ss es (omega (arith, e))

states_after_from-append : (first : ℕ) (ss : List ObjState) (es later : List Event) → AreExecutionsOnEach es → states_after_from first ss (es ++ later) ≡ states_after_from first (states_after_from first ss es) later
states_after_from-append first [] es later are = refl
states_after_from-append first (s ∷ ss) es later are =
    let head : state_after s (on_object first (es ++ later)) ≡ state_after (state_after s (on_object first es)) (on_object first later) =
    ap (state_after s) (on_object-append first es later) ∙ state_after-append s (on_object first later) (are first) in
    let rest = states_after_from-append (suc first) ss es later are in
    λ j. head j ∷ rest j

pub legality_is_by_parts : LegalityIsByParts
legality_is_by_parts states es later are =
    let both : (ob : ℕ) (s : ObjState) → IsInSeq s (on_object ob (es ++ later)) → IsInSeq s (on_object ob es) × IsInSeq (state_after s (on_object ob es)) (on_object ob later) =
    λ ob s seq. IsInSeq-split s (on_object ob later) (are ob) (subst (λ l. IsInSeq s l) (on_object-append ob es later) seq) in (
      (
        λ legal. (
          λ ob s at. (both ob s (legal ob s at)).0,
          λ ob t at.
              let (s, (here, leads)) = mapped (λ s. state_after s (on_object ob es)) (slice_get states ob) t (sym (get-after 0 ob ob states es (omega arith)) ∙ at) in
              subst (λ z. IsInSeq z (on_object ob later)) leads (both ob s (legal ob s here)).1,
        ),
        λ legal ob s at.
            subst (λ l. IsInSeq s l) (sym (on_object-append ob es later))
            (IsInSeq-append s (on_object ob later) (are ob) (legal.0 ob s at)
            (legal.1 ob (state_after s (on_object ob es)) (get-after 0 ob ob states es (omega arith) ∙ ap (option_map (λ s. state_after s (on_object ob es))) at))),
      ),
      states_after_from-append 0 states es later are,
    )

length-after : (first : ℕ) (ss : List ObjState) (es : List Event) → length (states_after_from first ss es) ≡ length ss
length-after first [] es = refl
length-after first (s ∷ ss) es = grind (arith, length-after (suc first) ss es)

in_turn : (states : List ObjState) (es later : List Event) → AreExecutionsOnEach es → IsLegalFrom states es → (o : Option (List ObjState)) → Decided (states_after states es) later o → Decided states (es ++ later) o
in_turn states es later are legal None refused = λ all. refused (((legality_is_by_parts states es later are).0).0 all).1
in_turn states es later are legal (Some after) went =
    let parts = legality_is_by_parts states es later are in
    (parts.0.1 (legal, went.0), went.1 ∙ sym parts.1)

pub blocks_replay_in_turn : BlocksReplayInTurn
blocks_replay_in_turn states es block are legal there =
    in_turn states es (events_of_block block) are legal (replayed (states_after states es) block)
    (replay_is_legality (states_after states es) block (AreThere-more states (states_after states es) block.executions (sym (length-after 0 states es)) there))

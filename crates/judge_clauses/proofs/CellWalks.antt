-- What a cell holds where a transaction runs in an order that shows.
use Rattle.std.specs.Prelude.{◌≡◌, ℕ, ℤ, true, false, ◌&&◌, ◌||◌, nat_eq, List, [], ◌∷◌, Option, Some, None, Result, Ok, Err, slice_get, refl}
use Rattle.std.proofs.Common.{sym, ◌∙◌, ap, subst, inl, inr, cond}
use Rattle.base_values.proofs.Bools.{split, unnegated, nat_eq-is}
use Rattle.aud_object.specs.declared.execution.Execution.{Execution}
use Rattle.aud_kinds.specs.Objects.{ObjState, answer_of, after_op}
use Rattle.aud_object.specs.Proper.{IsProper}
use Rattle.aud_object.specs.Replayed.{after_at, answer_at, answers, same_answer, executed, replayed}
use Rattle.base_undo.proofs.Ints.{eq-is}
use Rattle.aud_object.proofs.Proper.{proper-after}
use Rattle.aud_object.proofs.Legality.{answer_at-get, after_at-same, after_at-other}
use Rattle.aud_history.specs.Histories.{History}
use Rattle.aud_history.specs.Table.{row_of, table_of}
use Rattle.aud_witness.specs.declared.decision.Fate.{Fate}
use Rattle.aud_witness.specs.declared.decision.Fate.TheVariants.{C, A}
use Rattle.aud_witness.specs.declared.decision.Decision.{Decision}
use Rattle.aud_witness.specs.declared.fault.OrderFault.{OrderFault}
use Rattle.aud_witness.specs.Orders.{is_named, is_kept}
use Rattle.aud_witness.specs.Configurations.{Configuration, states_with, stepped}
use Rattle.aud_witness.specs.Walks.{walked}
use Rattle.search_model.specs.declared.cell.Cell.{Cell}
use Rattle.search_model.specs.declared.cell.Need.{Need}
use Rattle.search_model.specs.declared.cell.Need.TheVariants.{Absent, Present, Holding}
use Rattle.search_model.specs.Cells.{is_cell, content, meets, asks, puts, asks_by, puts_by, newest, leaves, first_of, needs, stays, moves, leaves_of, needs_of, changes, newer_of, last_of}
use Rattle.judge_clauses.proofs.Celling.{over, after-cell, is_cell-after, asks-met}
use Rattle.judge_clauses.proofs.Walking.{off, ran-first, stepped-led}

-- the object of the number has the cell, which holds this
pub record Stands (c : Cell) (x : ℕ) (states : List ObjState) (o : Option ℤ) : Type 0 where
  pub state : ObjState
  pub there : slice_get states x ≡ Some state
  pub proper : IsProper state
  pub fits : is_cell c state ≡ true
  pub holds : content c state ≡ o

over-newest : (put last : Option (Option ℤ)) (o : Option ℤ) → over put (over last o) ≡ over (newest put last) o
over-newest None last o = refl
over-newest (Some n) last o = refl

-- # What is left and what was there

stays-is : (n : Need) (u o : Option ℤ) → stays n u ≡ true → meets n o ≡ true → u ≡ o
stays-is Absent None None same met = refl
stays-is Absent None (Some v) same met = absurd (cc)
stays-is Absent (Some u) o same met = absurd (cc)
stays-is Present None o same met = absurd (cc)
stays-is Present (Some u) o same met = absurd (cc)
stays-is (Holding w) None o same met = absurd (cc)
stays-is (Holding w) (Some u) None same met = absurd (cc)
stays-is (Holding w) (Some u) (Some v) same met = ap (λ z. Some z) (eq-is u w same ∙ sym (eq-is v w met))

pub moved-over : (n : Option Need) (l : Option (Option ℤ)) (o other : Option ℤ) → moves n l ≡ true → over l o ≡ over l other
moved-over None None o other moved = absurd (cc)
moved-over (Some n) None o other moved = absurd (cc)
moved-over n (Some u) o other moved = refl

pub still-over : (n : Option Need) (l : Option (Option ℤ)) (o : Option ℤ) → moves n l ≡ false → ((m : Need) → n ≡ Some m → meets m o ≡ true) → over l o ≡ o
still-over n None o still met = refl
still-over None (Some u) o still met = absurd (cc)
still-over (Some n) (Some u) o still met = stays-is n u o (unnegated (stays n u) still) (met n refl)

module _ (c : Cell) (x : ℕ) where
  answered-here : (states : List ObjState) (e : Execution) (s : ObjState) → nat_eq e.object x ≡ true → slice_get states x ≡ Some s → answers (answer_at states e.object e.op) e.answer ≡ true → same_answer (answer_of s e.op) e.answer ≡ true
  answered-here states e s same at right =
      let on : x ≡ e.object = sym (nat_eq-is e.object x same) in
      let here : answer_at states e.object e.op ≡ Some (answer_of s e.op) = subst (λ n. answer_at states n e.op ≡ Some (answer_of s e.op)) on (answer_at-get states x e.op s at) in
      sym (ap (λ o. answers o e.answer) here) ∙ right

  -- a cell through an execution that ran
  pub stands-after : (states : List ObjState) (e : Execution) (o : Option ℤ) → Stands c x states o → answers (answer_at states e.object e.op) e.answer ≡ true → Stands c x (after_at states e.object e.op) (over (puts_by c x e) o)
  stands-after states e o at right =
      elim (split (nat_eq e.object x)) [
        | inl same ↦
            let on : x ≡ e.object = sym (nat_eq-is e.object x same) in
            let answered : same_answer (answer_of at.state e.op) e.answer ≡ true = answered-here states e at.state same at.there right in
            record {
              state = after_op at.state e.op;
              there = subst (λ n. slice_get (after_at states n e.op) x ≡ Some (after_op at.state e.op)) on (after_at-same states x e.op at.state at.there);
              proper = proper-after at.state e.op at.proper;
              fits = is_cell-after c at.state e.op ∙ at.fits;
              holds = after-cell c at.state e.op e.answer at.proper at.fits answered ∙ ap (over (puts c e.op e.answer)) at.holds ∙ ap (λ b. over (cond b (puts c e.op e.answer) None) o) (sym same);
            }
        | inr other ↦
            record {
              state = at.state;
              there = after_at-other states e.object x e.op (off e.object x other) ∙ at.there;
              proper = at.proper;
              fits = at.fits;
              holds = at.holds ∙ ap (λ b. over (cond b (puts c e.op e.answer) None) o) (sym other);
            }
      ]

  -- what an execution that ran needs of the cell is there
  pub asks-there : (states : List ObjState) (e : Execution) (o : Option ℤ) (n : Need) → Stands c x states o → answers (answer_at states e.object e.op) e.answer ≡ true → asks_by c x e ≡ Some n → meets n o ≡ true
  asks-there states e o n at right is =
      elim (split (nat_eq e.object x)) [
        | inl same ↦
            let answered : same_answer (answer_of at.state e.op) e.answer ≡ true = answered-here states e at.state same at.there right in
            ap (meets n) (sym at.holds) ∙ asks-met c at.state e.op e.answer n at.fits answered (sym (ap (λ b. cond b (asks c e.op e.answer) None) same) ∙ is)
        | inr other ↦
            absurd (
            let none : None ≡ Some n = sym (ap (λ b. cond b (asks c e.op e.answer) None) other) ∙ is in
            cc
            )
      ]

  pub executed-leaves : (es : List Execution) (states after : List ObjState) (last : Option (Option ℤ)) (o : Option ℤ) → Stands c x states (over last o) → executed states es ≡ Some after → Stands c x after (over (leaves c x last es) o)
  executed-leaves [] states after last o at led =
      let same : states ≡ after = cc in
      subst (λ l. Stands c x l (over last o)) same at
  executed-leaves (e ∷ es) states after last o at led =
      let (right, rest) = ran-first states e es after led in
      executed-leaves es (after_at states e.object e.op) after (newest (puts_by c x e) last) o
      (subst (Stands c x (after_at states e.object e.op)) (over-newest (puts_by c x e) last o) (stands-after states e (over last o) at right)) rest

  pub executed-needs : (es : List Execution) (states after : List ObjState) (o : Option ℤ) (n : Need) → Stands c x states o → executed states es ≡ Some after → needs c x es ≡ Some n → meets n o ≡ true
  executed-needs [] states after o n at led is = absurd (cc)
  executed-needs (e ∷ es) states after o n at led is =
      let (right, rest) = ran-first states e es after led in
      go (asks_by c x e) refl (puts_by c x e) refl right (λ next later. executed-needs es (after_at states e.object e.op) after o n next rest later) is
    where
      go : (a : Option Need) → asks_by c x e ≡ a → (b : Option (Option ℤ)) → puts_by c x e ≡ b → answers (answer_at states e.object e.op) e.answer ≡ true →
          (Stands c x (after_at states e.object e.op) o → needs c x es ≡ Some n → meets n o ≡ true) → first_of a b (needs c x es) ≡ Some n → meets n o ≡ true
      go (Some m) asked b put right more is =
          let same : m ≡ n = cc in
          asks-there states e o n at right (asked ∙ ap (λ n. Some n) same)
      go None asked (Some u) put right more is = absurd (cc)
      go None asked None put right more is = more (subst (λ b. Stands c x (after_at states e.object e.op) (over b o)) put (stands-after states e o at right)) is

  module _ (h : History) (o0 : Option ℤ) where
    -- what the cell holds after this last one that may change it
    abbrev pub content_after : Option ℕ → Option ℤ
    content_after None = o0
    content_after (Some w) = over (leaves_of h c x w) o0

    newer-content : (d : Decision) (last : Option ℕ) → is_kept d ≡ true → ((n : Need) → needs_of h c x d.tx ≡ Some n → meets n (content_after last) ≡ true) →
        over (leaves_of h c x d.tx) (content_after last) ≡ content_after (newer_of (changes h c x) d last)
    newer-content d last kept met =
        elim (split (changes h c x d.tx)) [
          | inl moved ↦
              let own : newer_of (changes h c x) d last ≡ Some d.tx = ap (λ b. cond (b && changes h c x d.tx) (Some d.tx) last) kept ∙ ap (λ b. cond b (Some d.tx) last) moved in
              moved-over (needs_of h c x d.tx) (leaves_of h c x d.tx) (content_after last) o0 moved ∙ ap content_after (sym own)
          | inr still ↦
              let stays : newer_of (changes h c x) d last ≡ last = ap (λ b. cond (b && changes h c x d.tx) (Some d.tx) last) kept ∙ ap (λ b. cond b (Some d.tx) last) still in
              still-over (needs_of h c x d.tx) (leaves_of h c x d.tx) (content_after last) still met ∙ ap content_after (sym stays)
        ]

    pub further : (s u : Configuration) (d : Decision) (last : Option ℕ) → stepped (table_of h) s d ≡ Ok u → Stands c x s.states (content_after last) → Stands c x u.states (content_after (newer_of (changes h c x) d last))
    further s u d last is at =
        let (after, (ran, leads)) = stepped-led h s u d is in
        go d.fate refl after ran leads
      where
        go : (f : Fate) → d.fate ≡ f → (after : List ObjState) → replayed s.states (row_of h d.tx).block ≡ Some after → u.states ≡ states_with d.fate s.states after →
            Stands c x u.states (content_after (newer_of (changes h c x) d last))
        go C fate after ran leads =
            let kept : is_kept d ≡ true = ap (λ f. elim f [ C ↦ true | A ↦ false ]) fate in
            let states : u.states ≡ after = leads ∙ ap (λ f. states_with f s.states after) fate in
            subst (λ l. Stands c x l (content_after (newer_of (changes h c x) d last))) (sym states)
            (subst (Stands c x after) (newer-content d last kept (λ n needed. executed-needs (row_of h d.tx).block.executions s.states after (content_after last) n at ran needed)) (executed-leaves (row_of h d.tx).block.executions s.states after None (content_after last) at ran))
        go A fate after ran leads =
            let kept : is_kept d ≡ false = ap (λ f. elim f [ C ↦ true | A ↦ false ]) fate in
            let states : u.states ≡ s.states = leads ∙ ap (λ f. states_with f s.states after) fate in
            let stays : newer_of (changes h c x) d last ≡ last = ap (λ b. cond (b && changes h c x d.tx) (Some d.tx) last) kept in
            subst (λ l. Stands c x l (content_after (newer_of (changes h c x) d last))) (sym states) (subst (λ o. Stands c x s.states (content_after o)) (sym stays) at)

    -- what a transaction of the order first needs is what the last that may change the cell left
    pub walked-needs : (p : List Decision) (s t : Configuration) (last : Option ℕ) (r : ℕ) (n : Need) → walked (table_of h) s p ≡ Some t → Stands c x s.states (content_after last) → is_named p r ≡ true →
        needs_of h c x r ≡ Some n → meets n (content_after (last_of (changes h c x) p r last)) ≡ true
    walked-needs [] s t last r n led at there is = absurd (cc)
    walked-needs (d ∷ p) s t last r n led at there is =
        elim (stepped (table_of h) s d) as (λ (z : Result Configuration OrderFault). stepped (table_of h) s d ≡ z → (elim z as (λ (_ : Result Configuration OrderFault). Option Configuration) [ Err _ ↦ None | Ok u ↦ walked (table_of h) u p ]) ≡ Some t →
        meets n (content_after (last_of (changes h c x) (d ∷ p) r last)) ≡ true) [
          | Err fault ↦ λ was on. absurd (cc)
          | Ok u ↦ λ was on.
              elim (split (nat_eq d.tx r)) [
                | inl same ↦
                    let (after, (ran, leads)) = stepped-led h s u d was in
                    let own : replayed s.states (row_of h r).block ≡ Some after = subst (λ n. replayed s.states (row_of h n).block ≡ Some after) (nat_eq-is d.tx r same) ran in
                    ap (λ b. meets n (content_after (cond b last (last_of (changes h c x) p r (newer_of (changes h c x) d last))))) same
                    ∙ executed-needs (row_of h r).block.executions s.states after (content_after last) n at own is
                | inr other ↦
                    ap (λ b. meets n (content_after (cond b last (last_of (changes h c x) p r (newer_of (changes h c x) d last))))) other
                    ∙ walked-needs p u t (newer_of (changes h c x) d last) r n on (further s u d last was at) (sym (ap (λ b. b || is_named p r) other) ∙ there) is
              ]
        ] refl led

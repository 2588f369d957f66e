-- A block that contradicts itself is in no order that shows.
use Rattle.std.specs.Prelude.{◌≡◌, ℕ, ℤ, true, false, not, ◌||◌, nat_eq, List, [], ◌∷◌, Option, Some, None, Result, Ok, Err, refl}
use Rattle.std.proofs.Common.{sym, ◌∙◌, ap, subst, inl, inr}
use Rattle.base_values.proofs.Bools.{split, nat_eq-is}
use Rattle.aud_object.specs.declared.execution.Execution.{Execution}
use Rattle.aud_kinds.specs.Objects.{ObjState, opening_of}
use Rattle.aud_object.specs.Replayed.{after_at, executed, replayed}
use Rattle.base_undo.proofs.Ints.{eq-is, eq-itself}
use Rattle.aud_object.proofs.Proper.{proper-opening}
use Rattle.aud_history.specs.Histories.{is_in}
use Rattle.aud_history.specs.WellFormed.{IsWellFormed}
use Rattle.aud_history.specs.FirstFault.{IsWithinLimits}
use Rattle.aud_history.specs.Histories.{History}
use Rattle.aud_history.specs.Table.{row_of, table_of}
use Rattle.aud_witness.specs.declared.decision.Decision.{Decision}
use Rattle.aud_witness.specs.declared.fault.OrderFault.{OrderFault}
use Rattle.aud_witness.specs.Orders.{is_named}
use Rattle.aud_witness.specs.Configurations.{Configuration, first_configuration, stepped}
use Rattle.aud_witness.specs.Walks.{walked}
use Rattle.aud_witness.proofs.WalkLemmas.{walks-say}
use Rattle.search_model.specs.declared.cell.Cell.{Cell}
use Rattle.judge_clauses.specs.declared.clause.Literal.{Literal}
use Rattle.search_model.specs.declared.cell.Need.{Need}
use Rattle.search_model.specs.declared.cell.Need.TheVariants.{Absent, Present, Holding}
use Rattle.search_model.specs.Cells.{content, meets, asks_by, puts_by, changes, newer_of}
use Rattle.judge_clauses.specs.Clauses.{KnownFactsOf, IsValid}
use Rattle.judge_clauses.proofs.Celling.{over}
use Rattle.judge_clauses.proofs.CellWalks.{Stands, stands-after, asks-there, content_after, further}
use Rattle.judge_clauses.proofs.Validity.{valid-unless}
use Rattle.judge_clauses.proofs.Walking.{ran-first, stepped-led, get-opening}
use Rattle.judge_cells.specs.Clashes.{are_apart, learned, kept_known, fails, clashes, clashes_of}
use Rattle.judge_cells.specs.Sources.{OpensWith}
use Rattle.judge_cells.proofs.Standing.{not-both}

-- what is known of the cell is so
abbrev Knows : Option Need → Option ℤ → Type 0
Knows known o = (n : Need) → known ≡ Some n → meets n o ≡ true

not-apart : (n m : Need) (o : Option ℤ) → meets n o ≡ true → meets m o ≡ true → are_apart n m ≡ false
not-apart Absent Absent o one two = refl
not-apart Absent Present None one two = absurd (cc)
not-apart Absent Present (Some v) one two = absurd (cc)
not-apart Absent (Holding w) None one two = absurd (cc)
not-apart Absent (Holding w) (Some v) one two = absurd (cc)
not-apart Present Absent None one two = absurd (cc)
not-apart Present Absent (Some v) one two = absurd (cc)
not-apart Present Present o one two = refl
not-apart Present (Holding w) o one two = refl
not-apart (Holding u) Absent None one two = absurd (cc)
not-apart (Holding u) Absent (Some v) one two = absurd (cc)
not-apart (Holding u) Present o one two = refl
not-apart (Holding u) (Holding w) None one two = absurd (cc)
not-apart (Holding u) (Holding w) (Some v) one two =
    let same : u ≡ w = sym (eq-is v u one) ∙ eq-is v w two in
    subst (λ z. are_apart (Holding u) (Holding z) ≡ false) same (ap not (eq-itself u))

fails-not : (n known : Option Need) (o : Option ℤ) → Knows n o → Knows known o → fails n known ≡ false
fails-not None known o one two = refl
fails-not (Some n) None o one two = refl
fails-not (Some n) (Some m) o one two = not-apart n m o (one n refl) (two m refl)

learned-right : (n known : Option Need) (o : Option ℤ) → Knows n o → Knows known o → Knows (learned n known) o
learned-right None known o one two = two
learned-right (Some Absent) None o one two = one
learned-right (Some Present) None o one two = one
learned-right (Some (Holding w)) None o one two = one
learned-right (Some Absent) (Some m) o one two = one
learned-right (Some Present) (Some m) o one two = two
learned-right (Some (Holding w)) (Some m) o one two = one

kept-right : (left : Option (Option ℤ)) (known : Option Need) (o : Option ℤ) → Knows known o → Knows (kept_known left known) (over left o)
kept-right None known o knows = knows
kept-right (Some None) known o knows = λ n is. let same : Absent ≡ n = cc in subst (λ m. meets m None ≡ true) same refl
kept-right (Some (Some v)) known o knows = λ n is. let same : Holding v ≡ n = cc in subst (λ m. meets m (Some v) ≡ true) same (eq-itself v)

module _ (c : Cell) (x : ℕ) where
  executed-agrees : (es : List Execution) (states after : List ObjState) (known : Option Need) (o : Option ℤ) → Stands c x states o → Knows known o → executed states es ≡ Some after → clashes c x known es ≡ false
  executed-agrees [] states after known o at knows led = refl
  executed-agrees (e ∷ es) states after known o at knows led =
      let (right, rest) = ran-first states e es after led in
      let met : Knows (asks_by c x e) o = λ n asked. asks-there c x states e o n at right asked in
      ap (λ b. b || clashes c x (kept_known (puts_by c x e) (learned (asks_by c x e) known)) es) (fails-not (asks_by c x e) known o met knows)
      ∙ executed-agrees es (after_at states e.object e.op) after (kept_known (puts_by c x e) (learned (asks_by c x e) known)) (over (puts_by c x e) o) (stands-after c x states e o at right)
      (kept-right (puts_by c x e) (learned (asks_by c x e) known) o (learned-right (asks_by c x e) known o met knows)) rest

  module _ (h : History) (o0 : Option ℤ) where
    walked-agrees : (p : List Decision) (s t : Configuration) (last : Option ℕ) (r : ℕ) → walked (table_of h) s p ≡ Some t → Stands c x s.states (content_after c x h o0 last) → is_named p r ≡ true → clashes_of h c x r ≡ false
    walked-agrees [] s t last r led at there = absurd (cc)
    walked-agrees (d ∷ p) s t last r led at there =
        elim (stepped (table_of h) s d) as (λ (z : Result Configuration OrderFault). stepped (table_of h) s d ≡ z → (elim z as (λ (_ : Result Configuration OrderFault). Option Configuration) [ Err _ ↦ None | Ok u ↦ walked (table_of h) u p ]) ≡ Some t → clashes_of h c x r ≡ false) [
          | Err fault ↦ λ was on. absurd (cc)
          | Ok u ↦ λ was on.
              elim (split (nat_eq d.tx r)) [
                | inl same ↦
                    let (after, (ran, leads)) = stepped-led h s u d was in
                    let own : replayed s.states (row_of h r).block ≡ Some after = subst (λ n. replayed s.states (row_of h n).block ≡ Some after) (nat_eq-is d.tx r same) ran in
                    executed-agrees (row_of h r).block.executions s.states after None (content_after c x h o0 last) at (λ n none. absurd (cc)) own
                | inr other ↦
                    walked-agrees p u t (newer_of (changes h c x) d last) r on (further c x h o0 s u d last was at) (sym (ap (λ b. b || is_named p r) other) ∙ there)
              ]
        ] refl led

-- where some block contradicts itself every clause is valid
pub valid-clash : (f : KnownFactsOf) (c : List Literal) → IsWellFormed f.history → IsWithinLimits f.plan f.history → (cell : Cell) (x r : ℕ) (o : Option ℤ) → OpensWith f x cell o → is_in f.history r ≡ true → clashes_of f.history cell x r ≡ true → IsValid f c
valid-clash f c fine within cell x r o opens there clash =
    valid-unless f c (λ p shown broken.
    let (d, (declared, (fits, is_o))) = opens in
    let (t, (led, _)) = ((walks-say f.plan f.history fine within).shows p).0 shown in
    not-both (clashes_of f.history cell x r) clash
    (walked-agrees cell x f.history (content cell (opening_of d)) p (first_configuration (table_of f.history) f.plan.objects) t None r led
    (record { state = opening_of d; there = get-opening f.plan.objects x d declared; proper = proper-opening d; fits = fits; holds = refl }) (shown.full.same r ∙ there)))

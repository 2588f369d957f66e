-- From an order that shows to a completion and a serial history.
use Rattle.std.proofs.Common.{◌≡◌, ℕ, true, false, cond, not, ◌&&◌, ◌||◌, nat_eq, inl, inr, List, [], ◌∷◌, ◌++◌, map, refl, sym, ◌∙◌, ap, subst}
use Rattle.std.specs.List.{list_any, list_all}
use Rattle.aud_event.specs.declared.fact.Event.{Event}
use Rattle.aud_event.specs.Meanings.{Declared}
use Rattle.aud_witness.specs.declared.decision.Fate.{Fate}
use Rattle.aud_witness.specs.declared.decision.Fate.TheVariants.{C, A}
use Rattle.aud_witness.specs.declared.decision.Decision.{Decision}
use Rattle.aud_history.specs.Histories.{History, events_of, is_in, is_commit, is_abort, is_committed, is_aborted, is_completed, is_live, is_commit_pending, is_before, from_first}
use Rattle.aud_history.specs.WellFormed.{IsTransaction, IsWellFormed}
use Rattle.aud_witness.specs.Orders.{is_allowed, live_ending, block, is_kept, is_named, are_named_once, stands_before, visible, IsFull, Shows}
use Rattle.aud_history.specs.Completions.{has_live, IsInserted, nothing, same, inserted, IsCompletion}
use Rattle.aud_witness.specs.Letter.{seen_by, Letter}
use Rattle.base_values.proofs.Bools.{or_true, or_false, and_true, true_and, not_true, is_false, split, nat_eq-is}
use Rattle.aud_history.proofs.Events.{events_of-append}
use Rattle.aud_witness.proofs.Beginnings.{named_at, second_is_named, allowed_at}
use Rattle.aud_witness.proofs.Good.{place_of}
use Rattle.aud_witness.proofs.Blocks.{Each, Each-from_places, is_filled, joined_by, IsOrder, events_of-unnamed, events_of-block, is_in-events_of, is_in-joined_by, is_before-blocks, stands_before-total}
use Rattle.aud_history.proofs.Ends.{has_end}
use Rattle.aud_witness.proofs.Endings.{keeps, tail_of, IsGoodBlock, IsGoodBlock-from_allowed, AreCompleting, AreCompleting-live_ending}
use Rattle.aud_witness.proofs.Seen.{IsLegal-same, seen_by-visible}
use Rattle.aud_witness.proofs.FromLetter.{is_in-completed, is_in-equivalent}

-- insertions after a history
insert_after : (h a b : History) → IsInserted h [] b → IsInserted h a (a ++ b)
insert_after h [] b i = i
insert_after h (e ∷ a) b i = same (insert_after h a b i)

insert_tail : (h : History) (t : ℕ) (es : List Event) (b : History) → has_live h t ≡ true → AreCompleting es → IsInserted h [] b → IsInserted h [] (map (λ e. (t, e)) es ++ b)
insert_tail h t [] b live fits i = i
insert_tail h t (e ∷ es) b live fits i = inserted live fits.0 (insert_tail h t es b live fits.1 i)

insert_tails : (h : History) (p : List Decision) → Each (λ d. is_in h d.tx ≡ true) p → IsInserted h [] (joined_by (tail_of h) p)
insert_tails h [] k = nothing
insert_tails h (d ∷ p) k =
    let rest : IsInserted h [] (joined_by (tail_of h) p) = insert_tails h p k.1 in
    elim (is_live h d.tx) as (λ l. is_live h d.tx ≡ l → IsInserted h [] (map (λ e. (d.tx, e)) (cond l (live_ending (events_of d.tx h) d.fate) []) ++ joined_by (tail_of h) p)) [
      | true ↦ λ live.
          insert_tail h d.tx (live_ending (events_of d.tx h) d.fate) (joined_by (tail_of h) p)
          (true_and (is_in h d.tx) (is_live h d.tx) k.0 live) (AreCompleting-live_ending (events_of d.tx h) d.fate) rest
      | false ↦ λ _. rest
    ] refl

-- H with the ends of its live transactions after it, and the blocks joined
abbrev completed_by : History → List Decision → History
completed_by h p = h ++ joined_by (tail_of h) p

abbrev serial_by : History → List Decision → History
serial_by h p = joined_by (block h) p

-- a transaction of H: its decision, and its block in both
record HasBlock (h : History) (p : List Decision) (t : ℕ) : Type 0 where
  decision : Decision
  is_t : decision.tx ≡ t
  allowed : is_allowed h t decision.fate ≡ true
  serial : events_of t (serial_by h p) ≡ block h decision
  complete : events_of t (completed_by h p) ≡ block h decision
  good : IsGoodBlock h decision

HasBlock-from_named : (h : History) (p : List Decision) (t : ℕ) → IsWellFormed h → IsFull h p → is_named p t ≡ true → HasBlock h p t
HasBlock-from_named h p t well full there =
    let (a, (d, (b, (e, is_t, new)))) = place_of p t there in
    let once : are_named_once (a ++ d ∷ b) ≡ true = subst (λ l. are_named_once l ≡ true) e full.once in
    let fits : is_allowed h d.tx d.fate ≡ true = allowed_at h a d b (subst (λ l. list_all (λ x. is_allowed h x.tx x.fate) l ≡ true) e full.allowed) in
    let in_tails : events_of d.tx (joined_by (tail_of h) p) ≡ tail_of h d = ap (λ l. events_of d.tx (joined_by (tail_of h) l)) e ∙ events_of-block (tail_of h) a d b once in
    record {
      decision = d;
      is_t = is_t;
      allowed = subst (λ n. is_allowed h n d.fate ≡ true) is_t fits;
      serial = ap (λ n. events_of n (serial_by h p)) (sym is_t) ∙ ap (λ l. events_of d.tx (serial_by h l)) e ∙ events_of-block (block h) a d b once;
      complete = ap (λ n. events_of n (completed_by h p)) (sym is_t) ∙ events_of-append d.tx h (joined_by (tail_of h) p) ∙ ap (λ l. events_of d.tx h ++ l) in_tails;
      good = IsGoodBlock-from_allowed h d well fits;
    }

not_filled : (es : List Event) → is_filled es ≡ false → es ≡ []
not_filled [] e = refl
not_filled (x ∷ es) e = absurd (cc)

-- a transaction that is not in H
record IsAbsent (h : History) (p : List Decision) (t : ℕ) : Type 0 where
  history : events_of t h ≡ []
  serial : events_of t (serial_by h p) ≡ []
  complete : events_of t (completed_by h p) ≡ []

IsAbsent-from_unnamed : (h : History) (p : List Decision) (t : ℕ) → IsFull h p → is_named p t ≡ false → IsAbsent h p t
IsAbsent-from_unnamed h p t full none =
    let absent : events_of t h ≡ [] = not_filled (events_of t h) (sym (is_in-events_of h t) ∙ sym (full.same t) ∙ none) in
    record {
      history = absent;
      serial = events_of-unnamed (block h) p t none;
      complete = events_of-append t h (joined_by (tail_of h) p) ∙ ap (λ l. l ++ events_of t (joined_by (tail_of h) p)) absent ∙ events_of-unnamed (tail_of h) p t none;
    }

filled-append : (a b : List Event) → is_filled a ≡ true → is_filled (a ++ b) ≡ true
filled-append [] b fill = absurd (cc)
filled-append (e ∷ a) b fill = refl

in_history : (h : History) (p : List Decision) → IsFull h p → Each (λ d. is_in h d.tx ≡ true) p
in_history h p full =
    Each-from_places (λ d. is_in h d.tx ≡ true) p (λ a d b e. sym (full.same d.tx) ∙ subst (λ l. is_named l d.tx ≡ true) (sym e) (named_at a d b))

IsOrder-from_full : (h : History) (p : List Decision) → IsWellFormed h → IsFull h p → IsOrder (block h) p
IsOrder-from_full h p well full = record {
  once = full.once;
  filled = Each-from_places (λ d. is_filled (block h d) ≡ true) p (λ a d b e.
      filled-append (events_of d.tx h) (tail_of h d)
      (sym (is_in-events_of h d.tx) ∙ sym (full.same d.tx) ∙ subst (λ l. is_named l d.tx ≡ true) (sym e) (named_at a d b)));
  fates = Each-from_places (λ d. list_any is_commit (block h d) ≡ is_kept d) p (λ a d b e.
      (IsGoodBlock-from_allowed h d well (allowed_at h a d b (subst (λ l. list_all (λ x. is_allowed h x.tx x.fate) l ≡ true) e full.allowed))).commits);
}

equivalent_by : (h : History) (p : List Decision) → IsWellFormed h → IsFull h p → (t : ℕ) → events_of t (serial_by h p) ≡ events_of t (completed_by h p)
equivalent_by h p well full t =
    elim (split (is_named p t)) [
      | inl there ↦ let k : HasBlock h p t = HasBlock-from_named h p t well full there in k.serial ∙ sym k.complete
      | inr none ↦ let k : IsAbsent h p t = IsAbsent-from_unnamed h p t full none in k.serial ∙ sym k.complete
    ]

ended_by : (h : History) (p : List Decision) → IsWellFormed h → IsFull h p → (t : ℕ) → is_named p t ≡ true → is_completed (serial_by h p) t ≡ true
ended_by h p well full t there =
    let k : HasBlock h p t = HasBlock-from_named h p t well full there in
    ap has_end k.serial ∙ k.good.ended

-- the fate of a live transaction that is not commit-pending is A
aborted_fate : (h : History) (t : ℕ) (fate : Fate) → is_live h t ≡ true → is_commit_pending h t ≡ false → is_allowed h t fate ≡ true → keeps fate ≡ false
aborted_fate h t C live not_pending fits =
    let open_ : (is_committed h t ≡ false) × (is_aborted h t ≡ false) = or_false (is_committed h t) (is_aborted h t) (not_true (is_completed h t) live) in
    elim (or_true (is_committed h t) (is_commit_pending h t) fits) [
      | inl c ↦ let c_no : is_committed h t ≡ false = open_.0 in absurd (cc)
      | inr k ↦ absurd (cc)
    ]
aborted_fate h t A live not_pending fits = refl

aborts : (es : List Event) → has_end es ≡ true → list_any is_commit es ≡ false → list_any is_abort es ≡ true
aborts es ended no_commit = sym (ap (λ k. k || list_any is_abort es) no_commit) ∙ ended

IsCompletion-from_full : (h : History) (p : List Decision) → IsWellFormed h → IsFull h p → IsCompletion h (completed_by h p)
IsCompletion-from_full h p well full = record {
  well_formed = λ t. elim (split (is_named p t)) [
    | inl there ↦ let k : HasBlock h p t = HasBlock-from_named h p t well full there in subst (λ l. IsTransaction l) (sym k.complete) k.good.is_transaction
    | inr none ↦ let k : IsAbsent h p t = IsAbsent-from_unnamed h p t full none in subst (λ l. IsTransaction l) (k.history ∙ sym k.complete) (well t)
  ];
  insertion = insert_after h h (joined_by (tail_of h) p) (insert_tails h p (in_history h p full));
  ended = λ t there.
      let order : IsOrder (block h) p = IsOrder-from_full h p well full in
      let named : is_named p t ≡ true = sym (is_in-joined_by (block h) p t order.filled) ∙ is_in-equivalent (serial_by h p) (completed_by h p) (equivalent_by h p well full) t ∙ there in
      ap has_end (sym (equivalent_by h p well full t)) ∙ ended_by h p well full t named;
  aborted = λ t live not_pending.
      let parts : (is_in h t ≡ true) × (is_live h t ≡ true) = and_true (is_in h t) (is_live h t) live in
      let k : HasBlock h p t = HasBlock-from_named h p t well full (full.same t ∙ parts.0) in
      ap (list_any is_abort) k.complete
      ∙ aborts (block h k.decision) k.good.ended (k.good.commits ∙ aborted_fate h t k.decision.fate parts.1 not_pending k.allowed);
}

before_completed : (h : History) (t u : ℕ) → is_before h t u ≡ true → is_completed h t ≡ true
before_completed h t u b = (and_true (is_completed h t) (is_in h u) ((and_true (is_completed h t && is_in h u) (not (is_in (from_first u h) t)) b).0)).0

pub Letter-from_Shows : (objects : List Declared) (h : History) (p : List Decision) → IsWellFormed h → Shows objects h p → Letter objects h
Letter-from_Shows objects h p well s =
    let order : IsOrder (block h) p = IsOrder-from_full h p well s.full in
    let names : (t : ℕ) → is_in (serial_by h p) t ≡ is_named p t = λ t. is_in-joined_by (block h) p t order.filled in
    record {
      complete = completed_by h p;
      serial = serial_by h p;
      completion = IsCompletion-from_full h p well s.full;
      equivalent = equivalent_by h p well s.full;
      sequential = λ t u there_t there_u other.
          let named_t : is_named p t ≡ true = sym (names t) ∙ there_t in
          let named_u : is_named p u ≡ true = sym (names u) ∙ there_u in
          elim (stands_before-total p t u named_t named_u (is_false (nat_eq t u) (λ k. other (nat_eq-is t u k)))) [
            | inl l ↦ inl (is_before-blocks (block h) p t u order l (ended_by h p well s.full t named_t) named_u)
            | inr r ↦ inr (is_before-blocks (block h) p u t order r (ended_by h p well s.full u named_u) named_t)
          ];
      real_time = λ t u before.
          let stands : stands_before p t u ≡ true = s.real_time t u before in
          let done : is_completed h t ≡ true = before_completed h t u before in
          is_before-blocks (block h) p t u order stands (ended_by h p well s.full t (s.full.same t ∙ is_in-completed h t done)) (second_is_named p t u stands);
      legal = λ t there.
          let named : is_named p t ≡ true = sym (names t) ∙ there in
          IsLegal-same objects (visible h p t) (seen_by (serial_by h p) t)
          (λ ob. sym (seen_by-visible (block h) h p t order named (λ o d. refl) ob)) (s.legal t named);
    }

-- What a recorder heard of a search.
use Rattle.std.specs.Prelude.{◌≡◌, ℕ, ◌+◌, ◌-◌, ◌<◌, ◌≤◌, nat_lt, List, [], ◌∷◌, ◌++◌, map, length, take, reverse, Option, Some, None, false, slice_get, slice_index_or, refl, ◌⊎◌}
use Rattle.std.proofs.Common.{sym, ◌∙◌, ap, subst, inl, inr, arith}
use Rattle.std.proofs.lemmas.Bool.Decides.{nat_tests}
use Rattle.std.proofs.lemmas.List.{append-nil, reverse-append}
use Rattle.base_values.proofs.Bools.{split}
use Rattle.aud_witness.specs.declared.decision.Decision.{Decision}
use Rattle.aud_witness.specs.Orders.{IsFull, IsGoodNext}
use Rattle.aud_order.specs.Shapes.{ShapeOf, objects_of, history_of}
use Rattle.aud_order.specs.Cursors.{CursorOf, IsGoodAt}
use Rattle.aud_order.specs.Silent.{silent_fate}
use Rattle.aud_order.proofs.Lists.{take-push}
use Rattle.search_memo.specs.declared.choice.Choice.{Choice}
use Rattle.search_memo.specs.declared.recorder.RefutedBy.{RefutedBy}
use Rattle.search_prefix.specs.declared.searching.Frame.{Frame}
use Rattle.search_memo.specs.Choices.{AreChoices}
use Rattle.search_prefix.specs.Levels.{IsSearching}
use Rattle.search_memo.specs.Memos.{MemoOf, NameWay, IsGrown, IsReported, IsFurther}
use Rattle.search_memo.specs.Recorders.{HasNote, HasSilent, IsReason, AreKept, IsSilentAt, reason_by}
use Rattle.search_prefix.specs.Tried.{FindsFirstGood, IsNextPlace, ArePassed}
use Rattle.search_prefix.proofs.Passing.{passed-search, passed-follows}
use Rattle.search_prefix.specs.Readiness.{ReadyOf, IsReady}
use Rattle.search_prefix.proofs.Levels.{there-below}
use Rattle.search_prefix.proofs.Readiness.{bad-until}
use Rattle.search_prefix.proofs.Steps.{Follows, no_choice, choice-at, bad-none, next_of, states_of}

-- # After one prefix

-- P holds of what was tried after a prefix: of all up to a place, or of the prefix after one of a silent transaction
abbrev pub IsHeard : (List Decision → Type 0) → ShapeOf → List Choice → List Decision → ℕ → Option Decision → Type 0
IsHeard P shape cs p next None = AreKept P shape cs p 0 next
IsHeard P shape cs p next (Some d) = HasSilent shape P p d × (length cs ≤ next)

-- the prefix after a choice is searched, and P holds of what was tried before it
pub record IsOpen (P : List Decision → Type 0) (shape : ShapeOf) (cs : List Choice) (p : List Decision) (d : Decision) (t : Frame) : Type 0 where
  pub place : ℕ
  pub choice : Choice
  pub at : slice_get cs place ≡ Some choice
  pub is : choice.decision ≡ d
  pub kept : AreKept P shape cs p 0 place
  pub good : IsGoodNext (objects_of shape) (history_of shape) p d
  pub next : ((t.silent ≡ None) × (t.next ≡ place + 1)) ⊎ ((t.silent ≡ Some d) × (silent_fate (history_of shape) d.tx ≡ Some d.fate) × (length cs ≤ t.next))

-- after each beginning of a prefix, the longest first, the next one is searched, and P holds of what was tried before it
abbrev pub AreOpen : (List Decision → Type 0) → ShapeOf → List Choice → List Frame → List Decision → Type 0
AreOpen P shape cs [] path = Unit {0}
AreOpen P shape cs (t ∷ ts) path = (q : List Decision) × ((d : Decision) × ((path ≡ q ++ d ∷ []) × IsOpen P shape cs q d t × AreOpen P shape cs ts q))

-- # What was heard stays

module _ (P Q : List Decision → Type 0) (shape : ShapeOf) (cs : List Choice) (on : (p : List Decision) → P p → Q p) where
  kept-on : (p : List Decision) (from to : ℕ) → AreKept P shape cs p from to → AreKept Q shape cs p from to
  kept-on p from to kept j c after below at good = on (p ++ c.decision ∷ []) (kept j c after below at good)

  pub heard-on : (p : List Decision) (next : ℕ) (silent : Option Decision) → IsHeard P shape cs p next silent → IsHeard Q shape cs p next silent
  heard-on p next None heard = kept-on p 0 next heard
  heard-on p next (Some d) (has, over) = (record { silent = has.silent; good = has.good; noted = on (p ++ d ∷ []) has.noted }, over)

  pub opens-on : (ts : List Frame) (path : List Decision) → AreOpen P shape cs ts path → AreOpen Q shape cs ts path
  opens-on [] path opens = tt
  opens-on (t ∷ ts) path (q, (d, (is, o, rest))) = (
    q,
    (d, (is, record { place = o.place; choice = o.choice; at = o.at; is = o.is; kept = kept-on q 0 o.place o.kept; good = o.good; next = o.next }, opens-on ts q rest)),
  )

-- # Steps

abbrev AreBad : ShapeOf → List Choice → List Decision → ℕ → ℕ → Type 0
AreBad shape cs p from to = (j : ℕ) (c : Choice) → from ≤ j → j < to → slice_get cs j ≡ Some c → IsGoodNext (objects_of shape) (history_of shape) p c.decision → ⊥

module _ (P : List Decision → Type 0) (shape : ShapeOf) (cs : List Choice) where
  pub kept-none : (p : List Decision) (from : ℕ) → AreKept P shape cs p from from
  kept-none p from j c after below at good = absurd (omega arith)

  pub kept-join : (p : List Decision) (from mid to : ℕ) → AreKept P shape cs p from mid → AreKept P shape cs p mid to → AreKept P shape cs p from to
  kept-join p from mid to first second j c after below at good = elim (split (nat_lt j mid)) [
    | inl before ↦ let low : j < mid = grind (arith, nat_tests) in first j c after low at good
    | inr behind ↦ let high : mid ≤ j = grind (arith, nat_tests) in second j c high below at good
  ]

  kept-bad : (p : List Decision) (from to : ℕ) → AreBad shape cs p from to → AreKept P shape cs p from to
  kept-bad p from to bad j c after below at good = absurd (bad j c after below at good)

  one-choice : (x y : Choice) (o : Option Choice) → o ≡ Some x → o ≡ Some y → x ≡ y
  one-choice x y o is same = cc

  pub kept-one : (p : List Decision) (k : ℕ) (c : Choice) → slice_get cs k ≡ Some c → (IsGoodNext (objects_of shape) (history_of shape) p c.decision → P (p ++ c.decision ∷ [])) → AreKept P shape cs p k (k + 1)
  kept-one p k c at noted j e after below there good =
      let here : k ≡ j = omega arith in
      let is : c ≡ e = one-choice c e (slice_get cs k) at (ap (slice_get cs) here ∙ there) in
      subst (λ (x : Choice). IsGoodNext (objects_of shape) (history_of shape) p x.decision → P (p ++ x.decision ∷ [])) is noted good

  pub heard-passed : (p : List Decision) (next from : ℕ) (silent : Option Decision) → next ≤ from → IsHeard P shape cs p next silent → AreKept P shape cs p next from → IsHeard P shape cs p from silent
  heard-passed p next from None past heard kept = kept-join p 0 next from heard kept
  heard-passed p next from (Some d) past (has, over) kept = (has, omega arith)

  pub heard-follows : (p : List Decision) (from k : ℕ) (silent : Option Decision) → from ≤ k → k < length cs → IsHeard P shape cs p from silent → AreBad shape cs p from k → AreKept P shape cs p 0 k
  heard-follows p from k None past inside heard bad = kept-join p 0 from k heard (kept-bad p from k bad)
  heard-follows p from k (Some d) past inside (has, over) bad = absurd (omega arith)

  -- a good choice is followed
  pub open-next : (p : List Decision) (k g : ℕ) (c : Choice) (t : Frame) (silent : Option Decision) → AreChoices (history_of shape) cs → slice_get cs k ≡ Some c → AreKept P shape cs p 0 k → IsGoodNext (objects_of shape) (history_of shape) p c.decision →
      IsNextPlace cs k g → IsSilentAt cs k silent → t.next ≡ g → t.silent ≡ silent → IsOpen P shape cs p c.decision t
  open-next p k g c t None choices at kept good behind quiet next is = record {
    place = k;
    choice = c;
    at = at;
    is = refl;
    kept = kept;
    good = good;
    next = elim (behind.silent c at) [ inl one ↦ inl (is, next ∙ one) | inr silent ↦ absurd (quiet c at silent) ];
  }
  open-next p k g c t (Some d) choices at kept good behind quiet next is = record {
    place = k;
    choice = c;
    at = at;
    is = refl;
    kept = kept;
    good = good;
    next =
        let (silent, own) = quiet c at in
        let over : g ≡ length cs = behind.over c at silent in
        inr (is ∙ ap (λ (x : Decision). Some x) (sym own), choices.silent k c at silent, omega arith);
  }

  -- and its prefix is refuted
  pub open-done : (p : List Decision) (d : Decision) (t : Frame) → IsOpen P shape cs p d t → P (p ++ d ∷ []) → IsHeard P shape cs p t.next t.silent
  open-done p d t o noted = elim o.next [
    | inl (none, one) ↦ subst (λ n. IsHeard P shape cs p n t.silent) (sym one) (subst (λ (s : Option Decision). IsHeard P shape cs p (o.place + 1) s) (sym none)
        (kept-join p 0 o.place (o.place + 1) o.kept (kept-one p o.place o.choice o.at (λ good. subst (λ (x : Decision). P (p ++ x ∷ [])) (sym o.is) noted))))
    | inr (quiet, silent, over) ↦ subst (λ (s : Option Decision). IsHeard P shape cs p t.next s) (sym quiet) (record { silent = silent; good = o.good; noted = noted }, over)
  ]

-- why a prefix is refuted after which nothing is left
pub heard-reason : {N : Type 0} (noted : N → List Decision → Type 0) (shape : ShapeOf) (cs : List Choice) (p : List Decision) (from : ℕ) (silent : Option Decision) → AreChoices (history_of shape) cs → (IsFull (history_of shape) p → ⊥) →
    IsHeard (HasNote noted) shape cs p from silent → AreBad shape cs p from (length cs) → IsReason noted shape p (reason_by silent)
heard-reason noted shape cs p from None choices unfull heard bad = record {
  unfull = unfull;
  kids = λ d good.
      let (k, (c, (at, is))) = choices.whole d good.in_history good.allowed in
      subst (λ (x : Decision). HasNote noted (p ++ x ∷ [])) is
      (kept-join (HasNote noted) shape cs p 0 from (length cs) heard (kept-bad (HasNote noted) shape cs p from (length cs) bad) k c (omega arith) (there-below cs k c at) at
      (subst (λ (x : Decision). IsGoodNext (objects_of shape) (history_of shape) p x) (sym is) good));
}
heard-reason noted shape cs p from (Some d) choices unfull (has, over) bad = has

-- # What is passed over

-- one more choice is passed over, and those before it that are not marked
pub kept-passed : (P Q : List Decision → Type 0) (r : ReadyOf) (at : CursorOf) (cs : List Choice) (first next k : ℕ) → AreChoices (history_of at.shape) cs → r.choices ≡ cs → IsReady r at → ((j : ℕ) → next ≤ j → j < k → slice_index_or r.marks j false ≡ false) →
    next ≤ k → k < length cs → ((p : List Decision) → P p → Q p) → AreKept P at.shape cs at.path first next →
    (IsGoodAt at (slice_index_or cs k no_choice).decision → Q (at.path ++ (slice_index_or cs k no_choice).decision ∷ [])) → AreKept Q at.shape cs at.path first (k + 1)
kept-passed P Q r at cs first next k choices same ready none past inside on kept noted =
    kept-join Q at.shape cs at.path first next (k + 1) (kept-on P Q at.shape cs on at.path first next kept)
    (kept-join Q at.shape cs at.path next k (k + 1)
    (kept-bad Q at.shape cs at.path next k (λ j c after below there. bad-until r at cs next next k choices same ready (bad-none at cs next) none j c after below there))
    (kept-one Q at.shape cs at.path k (slice_index_or cs k no_choice) (choice-at cs k inside) noted))

-- # The recorder

module _ {V N : Type 0} (noted : V → N → List Decision → Type 0) (grows : V → V → Type 0) (stays : (r s : V) (note : N) (p : List Decision) → grows r s → noted r note p → noted s note p)
    (onward : (r s t : V) → grows r s → grows s t → grows r t) where
  pub note-on : (r s : V) → grows r s → (p : List Decision) → HasNote (noted r) p → HasNote (noted s) p
  note-on r s on p (note, was) = (note, stays r s note p on was)

  pub reported-on : (a b c : MemoOf V) → IsReported grows a b → IsReported grows b c → IsReported grows a c
  reported-on a b c first second = record {
    shape = second.shape ∙ first.shape;
    states = second.states ∙ first.states;
    recorder = onward a.recorder b.recorder c.recorder first.recorder second.recorder;
  }

pub reported-itself : {V : Type 0} (grows : V → V → Type 0) (itself : (r : V) → grows r r) (a : MemoOf V) → IsReported grows a a
reported-itself grows itself a = record { shape = refl; states = refl; recorder = itself a.recorder }

module _ {V : Type 0} (grows : V → V → Type 0) where
  pub further-grown : (itself : (r : V) → grows r r) (a b : MemoOf V) → IsGrown a b → IsFurther grows a b
  further-grown itself a b grown = record {
    shape = grown.shape;
    more = grown.more;
    states = grown.states;
    recorder = subst (λ r. grows a.recorder r) (sym grown.recorder) (itself a.recorder);
  }

  pub further-reported : (a b c : MemoOf V) → IsGrown a b → IsReported grows b c → IsFurther grows a c
  further-reported a b c grown reported = record {
    shape = reported.shape ∙ grown.shape;
    more = grown.more;
    states = reported.states ∙ grown.states;
    recorder = subst (λ r. grows r c.recorder) grown.recorder reported.recorder;
  }

  pub reported-further : (a b c : MemoOf V) → IsReported grows a b → IsGrown b c → IsFurther grows a c
  reported-further a b c reported grown = record {
    shape = grown.shape ∙ reported.shape;
    more = grown.more;
    states = grown.states ∙ ap (λ l. l ++ grown.more) reported.states;
    recorder = subst (λ r. grows a.recorder r) (sym grown.recorder) reported.recorder;
  }

  pub reported-alone : (a b : MemoOf V) → IsReported grows a b → IsFurther grows a b
  reported-alone a b reported = record { shape = reported.shape; more = []; states = reported.states ∙ sym (append-nil a.states); recorder = reported.recorder }

-- # The loop

-- once known choices are passed over: where the search stands, and what the recorder heard
pub record Round {V N : Type 0} (noted : V → N → List Decision → Type 0) (start cur : CursorOf) (memo : MemoOf V) (cs : List Choice) (used from : ℕ) (here : Frame) (frames : List Frame) : Type 0 where
  pub same : cur.shape ≡ start.shape
  pub memo_same : memo.shape ≡ start.shape
  pub way : NameWay start.shape memo.states (here.states ∷ reverse (map states_of frames)) cur.path
  pub before : IsSearching (objects_of start.shape) (history_of start.shape) start.path cs used cur.path here.next (reverse (map next_of frames))
  pub passed : ArePassed cur cs here.next from
  pub searching : IsSearching (objects_of start.shape) (history_of start.shape) start.path cs used cur.path from (reverse (map next_of frames))
  pub heard : IsHeard (HasNote (noted memo.recorder)) start.shape cs cur.path from here.silent
  pub opens : AreOpen (HasNote (noted memo.recorder)) start.shape cs (reverse frames) cur.path

pub round : {V N : Type 0} (noted : V → N → List Decision → Type 0) (grows : V → V → Type 0) (stays : (r s : V) (note : N) (p : List Decision) → grows r s → noted r note p → noted s note p) (start at cur : CursorOf) (was memo : MemoOf V) (cs : List Choice)
    (used from : ℕ) (here : Frame) (frames : List Frame) → cur ≡ at → IsReported grows was memo → at.shape ≡ start.shape → was.shape ≡ start.shape → NameWay start.shape was.states (here.states ∷ reverse (map states_of frames)) at.path →
    IsSearching (objects_of start.shape) (history_of start.shape) start.path cs used at.path here.next (reverse (map next_of frames)) → IsHeard (HasNote (noted was.recorder)) start.shape cs at.path here.next here.silent →
    AreOpen (HasNote (noted was.recorder)) start.shape cs (reverse frames) at.path → ArePassed at cs here.next from → AreKept (HasNote (noted memo.recorder)) at.shape cs at.path here.next from → Round noted start cur memo cs used from here frames
round noted grows stays start at cur was memo cs used from here frames is reported same shape way searching heard opens passed kept =
    subst (λ (v : CursorOf). Round noted start v memo cs used from here frames) (sym is) (record {
      same = same;
      memo_same = reported.shape ∙ shape;
      way = subst (λ l. NameWay start.shape l (here.states ∷ reverse (map states_of frames)) at.path) (sym reported.states) way;
      before = searching;
      passed = passed;
      searching = passed-search start at cs used here.next from (reverse (map next_of frames)) same searching passed;
      heard = heard-passed (HasNote (noted memo.recorder)) start.shape cs at.path here.next from here.silent passed.0 (heard-on (HasNote (noted was.recorder)) (HasNote (noted memo.recorder)) start.shape cs on at.path here.next here.silent heard)
          (subst (λ (s : ShapeOf). AreKept (HasNote (noted memo.recorder)) s cs at.path here.next from) same kept);
      opens = opens-on (HasNote (noted was.recorder)) (HasNote (noted memo.recorder)) start.shape cs on (reverse frames) at.path opens;
    })
  where
    on : (p : List Decision) → HasNote (noted was.recorder) p → HasNote (noted memo.recorder) p
    on p (note, holds) = (note, stays was.recorder memo.recorder note p reported.recorder holds)

reverse-push : {X : Type 0} (xs : List X) (x : X) → reverse (xs ++ x ∷ []) ≡ x ∷ reverse xs
reverse-push xs x = reverse-append xs (x ∷ [])

module _ {V N : Type 0} {noted : V → N → List Decision → Type 0} {start cur : CursorOf} {memo : MemoOf V} {cs : List Choice} {used from : ℕ} {here : Frame} {frames : List Frame} (r : Round noted start cur memo cs used from here frames) where
  good-there : (d : Decision) → IsGoodAt cur d → IsGoodNext (objects_of start.shape) (history_of start.shape) cur.path d
  good-there d good = subst (λ (s : ShapeOf). IsGoodNext (objects_of s) (history_of s) cur.path d) r.same good

  there-good : (d : Decision) → IsGoodNext (objects_of start.shape) (history_of start.shape) cur.path d → IsGoodAt cur d
  there-good d good = subst (λ (s : ShapeOf). IsGoodNext (objects_of s) (history_of s) cur.path d) (sym r.same) good

  pub round-follows : (new : CursorOf) (k : ℕ) → FindsFirstGood cur new cs from (Some k) → Follows start cur new cs here.next k
  round-follows new k found = passed-follows start cur new cs used here.next from k (reverse (map next_of frames)) r.same r.before r.passed found

  -- why the prefix is refuted after which nothing is left
  pub round-reason : (new : CursorOf) (reason : RefutedBy N) → AreChoices (history_of start.shape) cs → FindsFirstGood cur new cs from None → reason ≡ reason_by here.silent → IsReason (noted memo.recorder) new.shape new.path reason
  round-reason new reason choices (stays, bad) is =
      subst (λ (x : RefutedBy N). IsReason (noted memo.recorder) new.shape new.path x) (sym is)
      (subst (λ (v : CursorOf). IsReason (noted memo.recorder) v.shape v.path (reason_by here.silent)) (sym stays)
      (subst (λ (s : ShapeOf). IsReason (noted memo.recorder) s cur.path (reason_by here.silent)) (sym r.same)
      (heard-reason (noted memo.recorder) start.shape cs cur.path from here.silent choices (r.searching.opens cur.path r.searching.here).1 r.heard (λ j c after below there good. bad j c after there (there-good c.decision good)))))

  -- the first prefix is refuted
  pub round-over : (new : CursorOf) (recorder : V) (note : N) → FindsFirstGood cur new cs from None → frames ≡ [] → noted recorder note new.path → noted recorder note start.path
  round-over new recorder note (stays, bad) none holds =
      let last = subst (λ (l : List Frame). IsSearching (objects_of start.shape) (history_of start.shape) start.path cs used cur.path from (reverse (map next_of l))) none r.searching in
      subst (λ (l : List Decision). noted recorder note l) (ap (λ (v : CursorOf). v.path) stays ∙ last.levels) holds

  module _ (recorder : V) (on : (p : List Decision) → HasNote (noted memo.recorder) p → HasNote (noted recorder) p) where
    -- a prefix is refuted, and the search goes back
    pub round-back : (new : CursorOf) (p : List Decision) (less : List Frame) (t : Frame) (note : N) → FindsFirstGood cur new cs from None → frames ≡ less ++ t ∷ [] → noted recorder note new.path → p ≡ take (length cur.path - 1) cur.path →
        IsHeard (HasNote (noted recorder)) start.shape cs p t.next t.silent × AreOpen (HasNote (noted recorder)) start.shape cs (reverse less) p
    round-back new p less t note (stays, bad) shorter holds back =
        let all = opens-on (HasNote (noted memo.recorder)) (HasNote (noted recorder)) start.shape cs on (reverse frames) cur.path r.opens in
        let (q, (d, (is, o, rest))) = subst (λ (l : List Frame). AreOpen (HasNote (noted recorder)) start.shape cs l cur.path) (ap reverse shorter ∙ reverse-push less t) all in
        let own : p ≡ q = back ∙ ap (λ l. take (length l - 1) l) is ∙ take-push q d in
        let here_noted : HasNote (noted recorder) (q ++ d ∷ []) = (note, subst (λ (l : List Decision). noted recorder note l) (ap (λ (v : CursorOf). v.path) stays ∙ is) holds) in
        subst (λ l. IsHeard (HasNote (noted recorder)) start.shape cs l t.next t.silent × AreOpen (HasNote (noted recorder)) start.shape cs (reverse less) l) (sym own)
        (open-done (HasNote (noted recorder)) start.shape cs q d t o here_noted, rest)

    -- a good choice was followed
    round-open : (new : CursorOf) (k g : ℕ) (silent : Option Decision) (t : Frame) → AreChoices (history_of start.shape) cs → (f : FindsFirstGood cur new cs from (Some k)) → IsNextPlace cs k g → IsSilentAt cs k silent → t.next ≡ g → t.silent ≡ silent →
        IsOpen (HasNote (noted recorder)) start.shape cs cur.path f.0.decision t
    round-open new k g silent t choices (c, (past, inside, at, good, is, bad)) behind quiet next own =
        open-next (HasNote (noted recorder)) start.shape cs cur.path k g c t silent choices at
        (heard-follows (HasNote (noted recorder)) start.shape cs cur.path from k here.silent past inside
        (heard-on (HasNote (noted memo.recorder)) (HasNote (noted recorder)) start.shape cs on cur.path from here.silent r.heard)
        (λ j e after below there ok. bad j e after below there (there-good e.decision ok)))
        (good-there c.decision good) behind quiet next own

    -- its prefix is known to be refuted, and was noted
    pub round-known : (new : CursorOf) (p : List Decision) (k g : ℕ) (silent : Option Decision) (note : N) → AreChoices (history_of start.shape) cs → FindsFirstGood cur new cs from (Some k) → IsNextPlace cs k g → IsSilentAt cs k silent → noted recorder note new.path → p ≡ cur.path →
        IsHeard (HasNote (noted recorder)) start.shape cs p g silent × AreOpen (HasNote (noted recorder)) start.shape cs (reverse frames) p
    round-known new p k g silent note choices found behind quiet holds back =
        let path : new.path ≡ cur.path ++ found.0.decision ∷ [] = ap (λ (v : CursorOf). v.path) found.1.4 in
        subst (λ l. IsHeard (HasNote (noted recorder)) start.shape cs l g silent × AreOpen (HasNote (noted recorder)) start.shape cs (reverse frames) l) (sym back) (
          open-done (HasNote (noted recorder)) start.shape cs cur.path found.0.decision (record { next = g; states = None; silent = silent })
              (round-open new k g silent (record { next = g; states = None; silent = silent }) choices found behind quiet refl refl) (note, subst (λ (l : List Decision). noted recorder note l) path holds),
          opens-on (HasNote (noted memo.recorder)) (HasNote (noted recorder)) start.shape cs on (reverse frames) cur.path r.opens,
        )

    -- its prefix is searched
    pub round-deeper : (new : CursorOf) (k g : ℕ) (silent : Option Decision) (t : Frame) (more : List Frame) → AreChoices (history_of start.shape) cs → FindsFirstGood cur new cs from (Some k) → IsNextPlace cs k g → IsSilentAt cs k silent → t.next ≡ g → t.silent ≡ silent → more ≡ frames ++ t ∷ [] →
        AreOpen (HasNote (noted recorder)) start.shape cs (reverse more) new.path
    round-deeper new k g silent t more choices found behind quiet next own grown =
        subst (λ (l : List Frame). AreOpen (HasNote (noted recorder)) start.shape cs l new.path) (sym (ap reverse grown ∙ reverse-push frames t)) (
          cur.path,
          (
            found.0.decision,
            (
              ap (λ (v : CursorOf). v.path) found.1.4,
              round-open new k g silent t choices found behind quiet next own,
              opens-on (HasNote (noted memo.recorder)) (HasNote (noted recorder)) start.shape cs on (reverse frames) cur.path r.opens,
            ),
          ),
        )

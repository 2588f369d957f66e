-- What a memo keeps true.
use Rattle.std.specs.Prelude.{◌≡◌, ℕ, zero, suc, ◌+◌, ◌-◌, ◌<◌, Bool, true, false, ◌||◌, nat_eq, List, [], ◌∷◌, ◌++◌, map, length, take, drop, reverse, Option, Some, None, IfSome, Result, Ok, Err, IfOk, slice_get, refl, ◌⊎◌}
use Rattle.std.specs.List.{Contains}
use Rattle.std.specs.Bool.{if◌then◌else◌}
use Rattle.std.specs.Result.{result_ok}
use Rattle.std.proofs.Common.{sym, ◌∙◌, ap, subst, inl, inr, arith, get_or, set}
use Rattle.std.proofs.lemmas.List.{append-nil, reverse-append, length-map, length-append, length-drop}
use Rattle.base_values.proofs.Bools.{or_right, true_or, nat_eq-refl, or_nothing}
use Rattle.aud_kinds.specs.Objects.{ObjState}
use Rattle.aud_object.specs.Replayed.{replayed}
use Rattle.aud_history.specs.WellFormed.{IsWellFormed}
use Rattle.aud_history.specs.FirstFault.{IsWithinLimits}
use Rattle.aud_history.specs.Histories.{History}
use Rattle.aud_history.specs.Table.{RowOf, row_of, table_of, transactions}
use Rattle.aud_history.proofs.Tables.{different-transactions}
use Rattle.aud_witness.specs.declared.decision.Fate.TheVariants.{C, A}
use Rattle.aud_witness.specs.declared.decision.Decision.{Decision}
use Rattle.aud_witness.specs.Orders.{is_named, IsGood, Refuted}
use Rattle.aud_witness.proofs.Beginnings.{is_named-append}
use Rattle.aud_witness.proofs.BridgeSteps.{set-named}
use Rattle.aud_witness.proofs.Good.{IsGood-push}
use Rattle.aud_order.specs.Shapes.{ShapeOf, plan_of, objects_of, history_of}
use Rattle.aud_order.specs.Cursors.{CursorOf, IsGoodAt}
use Rattle.aud_order.specs.Silent.{silent_fate}
use Rattle.aud_order.proofs.Lists.{take-push}
use Rattle.aud_order.proofs.Moves.{shown-same, step-states}
use Rattle.search_visited.specs.Visited.{EntryOf, IsKeptAs}
use Rattle.search_memo.specs.declared.choice.Choice.{Choice}
use Rattle.search_memo.specs.declared.memo.Transition.{Transition}
use Rattle.search_memo.specs.declared.memo.Seen.{Seen}
use Rattle.search_memo.specs.Known.{IsKnown, IsKnownOf}
use Rattle.search_memo.specs.StoredStates.{IsMoreOf, LeadsTo}
use Rattle.search_memo.specs.Memos.{MemoOf, states_reached, Names, NameWay, IsRefutedEntry, IsTransition, AreWith, IsTrueMemo, AreSeen, IsGrown, IsFurther, IsStep, IsNext, IsAfter}
use Rattle.search_memo.specs.Recorders.{IsNotedAlike}
use Rattle.search_memo.proofs.Refuting.{next-shown}

-- # Lists

pub get-front : {X : Type 0} (xs ys : List X) (k : ℕ) (x : X) → slice_get xs k ≡ Some x → slice_get (xs ++ ys) k ≡ Some x
get-front [] ys k x at = absurd (cc)
get-front (y ∷ xs) ys zero x at = at
get-front (y ∷ xs) ys (suc k) x at = get-front xs ys k x at

one-at : {X : Type 0} (x y : X) (o : Option X) → o ≡ Some x → o ≡ Some y → x ≡ y
one-at x y o is same = cc

-- what holds of what a result has
pub had : {X E : Type 0} (P : X → Type 0) (r : Result X E) (o : Option X) (x : X) → o ≡ result_ok r → o ≡ Some x → IfOk r P → P x
had P (Ok y) o x is same holds = (let one : y ≡ x = cc in subst P one holds)
had P (Err e) o x is same holds = absurd (cc)

-- # Numbers

-- a number stays when others come
pub names-more : (all more : List (List ObjState)) (n : Option ℕ) (states : List ObjState) → Names all n states → Names (all ++ more) n states
names-more all more None states names = tt
names-more all more (Some k) states names = get-front all more k states names

way-more : (shape : ShapeOf) (all more : List (List ObjState)) (ns : List (Option ℕ)) (p : List Decision) → NameWay shape all ns p → NameWay shape (all ++ more) ns p
way-more shape all more [] p way = tt
way-more shape all more (n ∷ ns) p way = (names-more all more n (states_reached shape p) way.0, way-more shape all more ns (take (length p - 1) p) way.1)

-- the way stays named
pub way-grown : {V : Type 0} (shape : ShapeOf) (old new : MemoOf V) (ns : List (Option ℕ)) (p : List Decision) → IsGrown old new → NameWay shape old.states ns p → NameWay shape new.states ns p
way-grown shape old new ns p grown way = subst (λ l. NameWay shape l ns p) (sym grown.states) (way-more shape old.states grown.more ns p way)

pub way-further : {V : Type 0} (grows : V → V → Type 0) (shape : ShapeOf) (old new : MemoOf V) (ns : List (Option ℕ)) (p : List Decision) → IsFurther grows old new → NameWay shape old.states ns p → NameWay shape new.states ns p
way-further grows shape old new ns p further way = subst (λ l. NameWay shape l ns p) (sym further.states) (way-more shape old.states further.more ns p way)

-- the way is one list longer
pub way-deeper : (shape : ShapeOf) (all : List (List ObjState)) (n further : Option ℕ) (below more : List (Option ℕ)) (p q : List Decision) (d : Decision) → NameWay shape all (n ∷ reverse below) p → q ≡ p ++ d ∷ [] →
    Names all further (states_reached shape q) → more ≡ below ++ n ∷ [] → NameWay shape all (further ∷ reverse more) q
way-deeper shape all n further below more p q d way is names grown =
    let shorter : take (length q - 1) q ≡ p = ap (λ l. take (length l - 1) l) is ∙ take-push p d in
    let turned : reverse more ≡ n ∷ reverse below = ap reverse grown ∙ reverse-append below (n ∷ []) in
    (names, subst (λ l. NameWay shape all l (take (length q - 1) q)) (sym turned) (subst (λ l. NameWay shape all (n ∷ reverse below) l) (sym shorter) way))

-- the way is one list shorter
pub way-back : (shape : ShapeOf) (all : List (List ObjState)) (n last : Option ℕ) (below less : List (Option ℕ)) (p : List Decision) → NameWay shape all (n ∷ reverse below) p → below ≡ less ++ last ∷ [] →
    NameWay shape all (last ∷ reverse less) (take (length p - 1) p)
way-back shape all n last below less p way is =
    subst (λ l. NameWay shape all l (take (length p - 1) p)) (ap reverse is ∙ reverse-append less (last ∷ [])) way.1

-- # What is true stays true

pub no-first : {X : Type 0} (k : ℕ) (x : X) → slice_get [] k ≡ Some x → ⊥
no-first k x at = absurd (cc)

pub true-none : {N : Type 0} (shape : ShapeOf) (all : List (List ObjState)) (noted : N → List Decision → Type 0) (entries : List EntryOf) (notes : List N) (transitions : List Transition) → entries ≡ [] → notes ≡ [] → transitions ≡ [] →
    IsTrueMemo shape all noted entries notes transitions
true-none shape all noted entries notes transitions none unnoted empty = record {
  even = ap length unnoted ∙ sym (ap length none);
  dead = λ k e there. let clash : slice_get [] k ≡ Some e = ap (λ (l : List EntryOf). slice_get l k) (sym none) ∙ there in absurd (no-first k e clash);
  true_transitions = λ e there. let (k, inside, is) = subst (λ (l : List Transition). Contains l e) empty there in absurd (omega arith);
}

true-more : {N : Type 0} (shape : ShapeOf) (all more : List (List ObjState)) (noted : N → List Decision → Type 0) (entries : List EntryOf) (notes : List N) (transitions : List Transition) → IsTrueMemo shape all noted entries notes transitions →
    IsTrueMemo shape (all ++ more) noted entries notes transitions
true-more shape all more noted entries notes transitions sound = record {
  even = sound.even;
  dead = λ k e there. let (note, (at, d)) = sound.dead k e there in
      (note, (at, record { path = d.path; good = d.good; refuted = d.refuted; placed = d.placed; states = get-front all more e.states (states_reached shape d.path) d.states; noted = d.noted }));
  true_transitions = λ l there. let t = sound.true_transitions l there in record { before = t.before; after = t.after; from = get-front all more l.from t.before t.from; to = get-front all more l.to t.after t.to; runs = t.runs };
}

-- once states came after the others
pub true-states : {N : Type 0} (shape : ShapeOf) (old new : List (List ObjState)) (noted : N → List Decision → Type 0) (entries : List EntryOf) (notes : List N) (transitions : List Transition) → IsMoreOf old new → IsTrueMemo shape old noted entries notes transitions →
    IsTrueMemo shape new noted entries notes transitions
true-states shape old new noted entries notes transitions (more, grown) sound = subst (λ l. IsTrueMemo shape l noted entries notes transitions) (sym grown) (true-more shape old more noted entries notes transitions sound)

-- once the recorder heard of more
pub true-noted : {N : Type 0} (shape : ShapeOf) (all : List (List ObjState)) (old new : N → List Decision → Type 0) (entries : List EntryOf) (notes : List N) (transitions : List Transition) → ((note : N) (p : List Decision) → old note p → new note p) →
    IsTrueMemo shape all old entries notes transitions → IsTrueMemo shape all new entries notes transitions
true-noted shape all old new entries notes transitions stays sound = record {
  even = sound.even;
  dead = λ k e there. let (note, (at, d)) = sound.dead k e there in
      (note, (at, record { path = d.path; good = d.good; refuted = d.refuted; placed = d.placed; states = d.states; noted = stays note d.path d.noted }));
  true_transitions = sound.true_transitions;
}

-- what others may have stays right
pub seen-states : {A : Type 0} (old new : List (List ObjState)) (seen : List (Option (Seen A))) → IsMoreOf old new → AreSeen old seen → AreSeen new seen
seen-states old new seen (more, grown) sound n s at = ap (λ l. slice_get l n) grown ∙ get-front old more n s.states.value.now (sound n s at)

pub grown-states : {V : Type 0} (shape : ShapeOf) (recorder : V) (seen : MemoOf V) (old new : List (List ObjState)) → record { shape = shape; states = old; recorder = recorder } ≡ seen → IsMoreOf old new →
    IsGrown seen (record { shape = shape; states = new; recorder = recorder })
grown-states shape recorder seen old new is (more, grown) = record {
  shape = ap (λ (m : MemoOf _). m.shape) is;
  more = more;
  states = grown ∙ ap (λ (m : MemoOf _). m.states ++ more) is;
  recorder = ap (λ (m : MemoOf _). m.recorder) is;
}

pub grown-itself : {V : Type 0} (m : MemoOf V) → IsGrown m m
grown-itself m = record { shape = refl; more = []; states = sym (append-nil m.states); recorder = refl }

-- once the entries are forgotten
pub true-forgotten : {N : Type 0} (shape : ShapeOf) (all : List (List ObjState)) (noted : N → List Decision → Type 0) (old new : List EntryOf) (notes left : List N) (transitions : List Transition) → new ≡ [] → left ≡ [] → IsTrueMemo shape all noted old notes transitions →
    IsTrueMemo shape all noted new left transitions
true-forgotten shape all noted old new notes left transitions none unnoted sound =
    let fresh = true-none shape all noted new left [] none unnoted refl in
    record { even = fresh.even; dead = fresh.dead; true_transitions = sound.true_transitions }

get-later : {X : Type 0} (xs : List X) (g k : ℕ) → slice_get (drop g xs) k ≡ slice_get xs (g + k)
get-later xs zero k = let same : k ≡ 0 + k = omega arith in ap (slice_get xs) same
get-later [] (suc g) k = refl
get-later (x ∷ xs) (suc g) k = let up : suc (g + k) ≡ suc g + k = omega arith in get-later xs g k ∙ ap (slice_get (x ∷ xs)) up

-- once the first so many entries are forgotten with their notes
pub true-fewer : {N : Type 0} (shape : ShapeOf) (all : List (List ObjState)) (noted : N → List Decision → Type 0) (old new : List EntryOf) (notes left : List N) (transitions : List Transition) (g : ℕ) → new ≡ drop g old → left ≡ drop g notes →
    IsTrueMemo shape all noted old notes transitions → IsTrueMemo shape all noted new left transitions
true-fewer shape all noted old new notes left transitions g fewer less sound = record {
  even = ap length less ∙ length-drop g notes ∙ ap (λ n. n - g) sound.even ∙ sym (ap length fewer ∙ length-drop g old);
  dead = λ k e there.
      let at : slice_get old (g + k) ≡ Some e = sym (get-later old g k) ∙ ap (λ (l : List EntryOf). slice_get l k) (sym fewer) ∙ there in
      let (note, (known, dead)) = sound.dead (g + k) e at in
      (note, (ap (λ (l : List _). slice_get l k) less ∙ get-later notes g k ∙ known, dead));
  true_transitions = sound.true_transitions;
}

-- what stands in a list with one after it
last-at : {X : Type 0} (xs : List X) (x y : X) (k : ℕ) → slice_get (xs ++ x ∷ []) k ≡ Some y → (slice_get xs k ≡ Some y) ⊎ ((k ≡ length xs) × (y ≡ x))
last-at [] x y zero at = inr (refl, (let same : x ≡ y = cc in sym same))
last-at [] x y (suc k) at = absurd (cc)
last-at (z ∷ xs) x y zero at = inl at
last-at (z ∷ xs) x y (suc k) at = elim (last-at xs x y k at) [
  | inl earlier ↦ inl earlier
  | inr last ↦ inr (ap (λ n. suc n) last.0, last.1)
]

-- once others may have one more
seen-with : {A : Type 0} (all : List (List ObjState)) (old : List (Option (Seen A))) (last : Option (Seen A)) (n : ℕ) (states : List ObjState) → n ≡ length old → slice_get all n ≡ Some states →
    IfSome last (λ s. s.states.value.now ≡ states) → AreSeen all old → AreSeen all (old ++ last ∷ [])
seen-with all old last n states place named own sound k s at =
    elim (last-at old last (Some s) k at) [
      | inl earlier ↦ sound k s earlier
      | inr end ↦ (
          let same : s.states.value.now ≡ states = subst (λ (o : Option _). IfSome o (λ x. x.states.value.now ≡ states)) (sym end.1) own in
          ap (λ m. slice_get all m) (end.0 ∙ sym place) ∙ named ∙ ap (λ l. Some l) (sym same)
          )
    ]

-- once others may have one more, if there was memory for it
pub seen-push : {A : Type 0} (all : List (List ObjState)) (old new : List (Option (Seen A))) (last : Option (Seen A)) (n : ℕ) (states : List ObjState) (pushed : Bool) → new ≡ (if pushed then old ++ last ∷ [] else old) → n ≡ length old →
    slice_get all n ≡ Some states → IfSome last (λ s. s.states.value.now ≡ states) → AreSeen all old → AreSeen all new
seen-push all old new last n states true is place named own sound = subst (λ l. AreSeen all l) (sym is) (seen-with all old last n states place named own sound)
seen-push all old new last n states false is place named own sound = subst (λ l. AreSeen all l) (sym is) sound

-- the refuted prefix that the cursor stands at, as others may know of it
pub known-here : {A : Type 0} (is_for : ShapeOf → Type 0) (P : List Decision → Type 0) (shape : ShapeOf) (all : List (List ObjState)) (seen : List (Option (Seen A))) (n : ℕ) (s : Seen A) (at : CursorOf) (placed : List Bool) → shape ≡ at.shape → is_for shape →
    AreSeen all seen → slice_get seen n ≡ Some (Some s) → IsGood (objects_of at.shape) (history_of at.shape) at.path → Refuted (objects_of at.shape) (history_of at.shape) at.path → placed ≡ map (is_named at.path) (transactions (history_of at.shape)) →
    Names all (Some n) (states_reached at.shape at.path) → P at.path → IsKnownOf is_for P s.states.value.now placed
known-here is_for P shape all seen n s at placed same own sound there good refuted is names noted = (
  at.shape,
  (
    subst is_for same own,
    record { path = at.path; good = good; refuted = refuted; marked = is; left = one-at s.states.value.now (states_reached at.shape at.path) (slice_get all n) (sound n s there) names; noted = noted },
  ),
)

-- a refuted prefix that others know of is one of which an entry might be there
pub known-dead : {A : Type 0} (P : List Decision → Type 0) (shape : ShapeOf) (all : List (List ObjState)) (seen : List (Option (Seen A))) (n : ℕ) (s : Seen A) (placed : List Bool) → AreSeen all seen → slice_get seen n ≡ Some (Some s) →
    IsKnown shape P s.states.value.now placed → IsRefutedEntry shape all P (record { placed = placed; states = n })
known-dead P shape all seen n s placed sound there k =
    record { path = k.path; good = k.good; refuted = k.refuted; placed = k.marked; states = sound n s there ∙ ap (λ l. Some l) k.left; noted = k.noted }

pub last-there : {X : Type 0} (xs : List X) (x : X) → slice_get (xs ++ x ∷ []) (length xs) ≡ Some x
last-there [] x = refl
last-there (z ∷ xs) x = last-there xs x

-- once an entry came, and its note
pub true-entry : {N : Type 0} (shape : ShapeOf) (all : List (List ObjState)) (noted : N → List Decision → Type 0) (old new : List EntryOf) (notes more : List N) (transitions : List Transition) (e : EntryOf) (note : N) → IsKeptAs old new e true → more ≡ notes ++ note ∷ [] →
    IsRefutedEntry shape all (noted note) e → IsTrueMemo shape all noted old notes transitions → IsTrueMemo shape all noted new more transitions
true-entry shape all noted old new notes more transitions e note kept grown dead sound = record {
  even = ap length grown ∙ length-append notes (note ∷ []) ∙ ap (λ n. n + 1) sound.even ∙ sym (ap length kept ∙ length-append old (e ∷ []));
  dead = λ k x there. elim (last-at old e x k (ap (λ (l : List EntryOf). slice_get l k) (sym kept) ∙ there)) [
    | inl earlier ↦ let (n, (at, d)) = sound.dead k x earlier in (n, (ap (λ (l : List _). slice_get l k) grown ∙ get-front notes (note ∷ []) k n at, d))
    | inr last ↦ (
      note,
      (
        (λ i. slice_get (grown i) ((last.0 ∙ sym sound.even) i)) ∙ last-there notes note,
        subst (λ (y : EntryOf). IsRefutedEntry shape all (noted note) y) (sym last.1) dead,
      ),
    )
  ];
  true_transitions = sound.true_transitions;
}

-- once one was not kept
pub true-unkept : {N : Type 0} (shape : ShapeOf) (all : List (List ObjState)) (noted : N → List Decision → Type 0) (old new : List EntryOf) (notes same : List N) (transitions : List Transition) → new ≡ old → same ≡ notes → IsTrueMemo shape all noted old notes transitions →
    IsTrueMemo shape all noted new same transitions
true-unkept shape all noted old new notes same transitions is stays sound =
    subst (λ l. IsTrueMemo shape all noted l same transitions) (sym is) (subst (λ l. IsTrueMemo shape all noted old l transitions) (sym stays) sound)

-- once a transition came
pub true-transition : {N : Type 0} (shape : ShapeOf) (all : List (List ObjState)) (noted : N → List Decision → Type 0) (entries : List EntryOf) (notes : List N) (old new : List Transition) (l : Transition) → AreWith old new l → IsTransition shape all l →
    IsTrueMemo shape all noted entries notes old → IsTrueMemo shape all noted entries notes new
true-transition shape all noted entries notes old new l with transition sound = record {
  even = sound.even;
  dead = sound.dead;
  true_transitions = λ x there. elim (with x there) [ inl earlier ↦ sound.true_transitions x earlier | inr same ↦ subst (λ (y : Transition). IsTransition shape all y) (sym same) transition ];
}

-- the note of an entry, where it is looked for
pub note-of : {N : Type 0} (shape : ShapeOf) (all : List (List ObjState)) (noted : N → List Decision → Type 0) (entries : List EntryOf) (notes : List N) (transitions : List Transition) (k : ℕ) (e : EntryOf) (o : Option N) (Q : N → Type 0) → IsTrueMemo shape all noted entries notes transitions →
    slice_get entries k ≡ Some e → o ≡ slice_get notes k → ((note : N) → IsRefutedEntry shape all (noted note) e → Q note) → IfSome o Q
note-of shape all noted entries notes transitions k e o Q sound there is each =
    let (note, (at, dead)) = sound.dead k e there in subst (λ (x : Option _). IfSome x Q) (sym (is ∙ at)) (each note dead)

-- # Steps

-- what the step's choice does to the states
transitions-on : {V : Type 0} (memo : MemoOf V) (n : ℕ) (c : Choice) (at : CursorOf) → IsWellFormed (history_of at.shape) → IsWithinLimits (plan_of at.shape) (history_of at.shape) → IsGood (objects_of at.shape) (history_of at.shape) at.path → (s : IsStep memo (Some n) c at) →
    (c.decision.fate ≡ C → replayed (states_reached at.shape s.path) (row_of (history_of at.shape) c.decision.tx).block ≡ Some (states_reached at.shape at.path))
    × ((c.decision.fate ≡ A) ⊎ (silent_fate (history_of at.shape) c.decision.tx ≡ Some c.decision.fate) → states_reached at.shape at.path ≡ states_reached at.shape s.path)
transitions-on memo n c at fine within good s =
    let both = step-states (plan_of at.shape) (history_of at.shape) s.path c.decision fine within (subst (λ l. IsGood (objects_of at.shape) (history_of at.shape) l) s.on good) in (
      (λ commits. both.0 commits ∙ ap (λ l. Some (states_reached at.shape l)) (sym s.on)),
      (λ leaves. ap (states_reached at.shape) s.on ∙ both.1 leaves),
    )

-- a choice that leaves the states leaves their number
pub step-stays : {V : Type 0} (memo : MemoOf V) (n : ℕ) (c : Choice) (at : CursorOf) → IsWellFormed (history_of at.shape) → IsWithinLimits (plan_of at.shape) (history_of at.shape) → IsGood (objects_of at.shape) (history_of at.shape) at.path → (s : IsStep memo (Some n) c at) →
    (c.decision.fate ≡ A) ⊎ (silent_fate (history_of at.shape) c.decision.tx ≡ Some c.decision.fate) → Names memo.states (Some n) (states_reached at.shape at.path)
step-stays memo n c at fine within good s leaves = s.names ∙ ap (λ l. Some l) (sym ((transitions-on memo n c at fine within good s).1 leaves))

-- a transition that is known leads there
pub step-known : {V : Type 0} (memo : MemoOf V) (n to : ℕ) (c : Choice) (at : CursorOf) → IsWellFormed (history_of at.shape) → IsWithinLimits (plan_of at.shape) (history_of at.shape) → IsGood (objects_of at.shape) (history_of at.shape) at.path → (s : IsStep memo (Some n) c at) →
    c.decision.fate ≡ C → IsTransition memo.shape memo.states (record { from = n; tx = c.decision.tx; to = to }) → Names memo.states (Some to) (states_reached at.shape at.path)
step-known memo n to c at fine within good s commits transition =
    let ran = (transitions-on memo n c at fine within good s).0 commits in
    let first : transition.before ≡ states_reached at.shape s.path = one-at transition.before (states_reached at.shape s.path) (slice_get memo.states n) transition.from s.names in
    let own : replayed (states_reached at.shape s.path) (row_of (history_of at.shape) c.decision.tx).block ≡ Some transition.after =
    ap (λ (x : ShapeOf). replayed (states_reached at.shape s.path) (row_of (history_of x) c.decision.tx).block) (sym s.shape) ∙ ap (λ l. replayed l (row_of (history_of memo.shape) c.decision.tx).block) (sym first) ∙ transition.runs in
    transition.to ∙ ap (λ l. Some l) (one-at transition.after (states_reached at.shape at.path) (replayed (states_reached at.shape s.path) (row_of (history_of at.shape) c.decision.tx).block) own ran)

-- a step makes a transition
pub step-transition : {V : Type 0} (memo new : MemoOf V) (n to : ℕ) (c : Choice) (at : CursorOf) → IsWellFormed (history_of at.shape) → IsWithinLimits (plan_of at.shape) (history_of at.shape) → IsGood (objects_of at.shape) (history_of at.shape) at.path → (s : IsStep memo (Some n) c at) →
    c.decision.fate ≡ C → IsGrown memo new → Names new.states (Some to) (states_reached at.shape at.path) → IsTransition new.shape new.states (record { from = n; tx = c.decision.tx; to = to })
step-transition memo new n to c at fine within good s commits grown names =
    let ran = (transitions-on memo n c at fine within good s).0 commits in
    let same : at.shape ≡ new.shape = sym (grown.shape ∙ s.shape) in record {
      before = states_reached at.shape s.path;
      after = states_reached at.shape at.path;
      from = subst (λ l. Names l (Some n) (states_reached at.shape s.path)) (sym grown.states) (names-more memo.states grown.more (Some n) (states_reached at.shape s.path) s.names);
      to = names;
      runs = ap (λ (x : ShapeOf). replayed (states_reached at.shape s.path) (row_of (history_of x) c.decision.tx).block) (sym same) ∙ ran;
    }

-- where a step leads, if it is known
pub after-names : {V : Type 0} (memo : MemoOf V) (n to : ℕ) (c : Choice) (at : CursorOf) → IsWellFormed (history_of at.shape) → IsWithinLimits (plan_of at.shape) (history_of at.shape) → IsGood (objects_of at.shape) (history_of at.shape) at.path → (s : IsStep memo (Some n) c at) →
    IsAfter memo n c to → Names memo.states (Some to) (states_reached at.shape at.path)
after-names memo n to c at fine within good s (inl (inl aborts, same)) = subst (λ m. Names memo.states (Some m) (states_reached at.shape at.path)) (sym same) (step-stays memo n c at fine within good s (inl aborts))
after-names memo n to c at fine within good s (inl (inr quiet, same)) = subst (λ m. Names memo.states (Some m) (states_reached at.shape at.path)) (sym same) (step-stays memo n c at fine within good s (inr (s.silent quiet)))
after-names memo n to c at fine within good s (inr (commits, transition)) = step-known memo n to c at fine within good s commits transition

-- the block of a step leads to the states there
pub step-transitions : {V : Type 0} (memo : MemoOf V) (n : ℕ) (c : Choice) (at : CursorOf) → IsWellFormed (history_of at.shape) → IsWithinLimits (plan_of at.shape) (history_of at.shape) → IsGood (objects_of at.shape) (history_of at.shape) at.path → (s : IsStep memo (Some n) c at) →
    c.decision.fate ≡ C → LeadsTo (history_of memo.shape) memo.states (Some (record { from = n; tx = c.decision.tx })) (states_reached at.shape at.path)
step-transitions memo n c at fine within good s commits = (
  states_reached at.shape s.path,
  (
    s.names,
    ap (λ (x : ShapeOf). replayed (states_reached at.shape s.path) (row_of (history_of x) c.decision.tx).block) s.shape ∙ (transitions-on memo n c at fine within good s).0 commits,
  ),
)

-- # Refuted prefixes

-- the entry of a refuted prefix
pub dead-here : (shape : ShapeOf) (all : List (List ObjState)) (P : List Decision → Type 0) (placed : List Bool) (n : ℕ) (at : CursorOf) → shape ≡ at.shape → IsGood (objects_of at.shape) (history_of at.shape) at.path → Refuted (objects_of at.shape) (history_of at.shape) at.path →
    placed ≡ map (is_named at.path) (transactions (history_of at.shape)) → Names all (Some n) (states_reached at.shape at.path) → P at.path → IsRefutedEntry shape all P (record { placed = placed; states = n })
dead-here shape all P placed n at same good refuted is names noted =
    subst (λ (x : ShapeOf). IsRefutedEntry x all P (record { placed = placed; states = n })) (sym same)
    (record { path = at.path; good = good; refuted = refuted; placed = is; states = names; noted = noted })

-- as many marks as rows
pub rows-placed : (shape : ShapeOf) (placed : List Bool) (at : CursorOf) → shape ≡ at.shape → placed ≡ map (is_named at.path) (transactions (history_of at.shape)) → length placed ≡ length (transactions (history_of shape))
rows-placed shape placed at same is = ap length is ∙ length-map (transactions (history_of at.shape)) (is_named at.path) ∙ ap (λ (x : ShapeOf). length (transactions (history_of x))) (sym same)

-- the prefix of an entry is the same to what comes after it
pub dead-alike : (shape : ShapeOf) (all : List (List ObjState)) (P : List Decision → Type 0) (placed : List Bool) (n : ℕ) (at : CursorOf) → shape ≡ at.shape →
    placed ≡ map (is_named at.path) (transactions (history_of at.shape)) → Names all (Some n) (states_reached at.shape at.path) → IsRefutedEntry shape all P (record { placed = placed; states = n }) → IsNotedAlike at.shape P at.path
dead-alike shape all P placed n at same is names dead =
    let d = subst (λ (x : ShapeOf). IsRefutedEntry x all P (record { placed = placed; states = n })) same dead in record {
      other = d.path;
      good = d.good;
      noted = d.noted;
      placed = sym is ∙ d.placed;
      states = one-at (states_reached at.shape at.path) (states_reached at.shape d.path) (slice_get all n) names d.states;
    }

-- a prefix of which an entry is there is refuted
pub dead-refuted : (shape : ShapeOf) (all : List (List ObjState)) (P : List Decision → Type 0) (placed : List Bool) (n : ℕ) (at : CursorOf) → shape ≡ at.shape → IsWellFormed (history_of at.shape) → IsWithinLimits (plan_of at.shape) (history_of at.shape) →
    IsGood (objects_of at.shape) (history_of at.shape) at.path → placed ≡ map (is_named at.path) (transactions (history_of at.shape)) → Names all (Some n) (states_reached at.shape at.path) → IsRefutedEntry shape all P (record { placed = placed; states = n }) →
    Refuted (objects_of at.shape) (history_of at.shape) at.path
dead-refuted shape all P placed n at same fine within good is names dead rest shown =
    let d = subst (λ (x : ShapeOf). IsRefutedEntry x all P (record { placed = placed; states = n })) same dead in
    d.refuted rest (shown-same (plan_of at.shape) (history_of at.shape) at.path d.path rest fine within good d.good (sym is ∙ d.placed)
    (one-at (states_reached at.shape at.path) (states_reached at.shape d.path) (slice_get all n) names d.states) shown)

-- # The choice after a prefix

named-own : (p : List Decision) (d : Decision) → is_named (p ++ d ∷ []) d.tx ≡ true
named-own p d = is_named-append p (d ∷ []) d.tx ∙ or_right (is_named p d.tx) (nat_eq d.tx d.tx || false) (true_or (nat_eq d.tx d.tx) false (nat_eq-refl d.tx))

named-others : (p : List Decision) (d : Decision) (u : ℕ) → nat_eq d.tx u ≡ false → is_named (p ++ d ∷ []) u ≡ is_named p u
named-others p d u other = is_named-append p (d ∷ []) u ∙ ap (λ b. is_named p u || (b || false)) other ∙ or_nothing (is_named p u)

-- the row at a place is of the transaction there
row-tx : (h : History) (ts : List ℕ) (k : ℕ) (r : RowOf) → slice_get (map (row_of h) ts) k ≡ Some r → (k < length ts) × (get_or ts k 0 ≡ r.tx)
row-tx h [] k r at = absurd (cc)
row-tx h (t ∷ ts) zero r at = (omega arith, (let same : row_of h t ≡ r = cc in ap (λ (x : RowOf). x.tx) same))
row-tx h (t ∷ ts) (suc k) r at = let rest = row-tx h ts k r at in (omega (arith, rest.0), rest.1)

-- the row of the choice is marked too
placed-with : (h : History) (p : List Decision) (c : Choice) (r : RowOf) → slice_get (table_of h) c.place ≡ Some r → r.tx ≡ c.decision.tx →
    set (map (is_named p) (transactions h)) c.place true ≡ map (is_named (p ++ c.decision ∷ [])) (transactions h)
placed-with h p c r at own =
    let (inside, tx) = row-tx h (transactions h) c.place r at in
    set-named (is_named p) (is_named (p ++ c.decision ∷ [])) (transactions h) c.place c.decision.tx 0 (different-transactions h) inside (tx ∙ own) (named-own p c.decision) (named-others p c.decision)

pub place-there : {V : Type 0} (shape : ShapeOf) (memo : MemoOf V) (n : Option ℕ) (c : Choice) (at : CursorOf) (placed : List Bool) → IsNext memo n c at → placed ≡ map (is_named at.path) (transactions (history_of at.shape)) → c.place < length placed
place-there shape memo n c at placed next is =
    let inside = (row-tx (history_of at.shape) (transactions (history_of at.shape)) c.place next.row.0 next.row.1.0).0 in
    subst (λ m. c.place < m) (sym (ap length is ∙ length-map (transactions (history_of at.shape)) (is_named at.path))) inside

-- one decision further
abbrev further : CursorOf → Decision → CursorOf
further at d = record { shape = at.shape; path = at.path ++ d ∷ [] }

-- where a choice leads that is good
next-names : {V : Type 0} (memo : MemoOf V) (n after : ℕ) (c : Choice) (at : CursorOf) → IsWellFormed (history_of at.shape) → IsWithinLimits (plan_of at.shape) (history_of at.shape) → IsGood (objects_of at.shape) (history_of at.shape) (at.path ++ c.decision ∷ []) →
    IsNext memo (Some n) c at → IsAfter memo n c after → Names memo.states (Some after) (states_reached at.shape (at.path ++ c.decision ∷ []))
next-names memo n after c at fine within longer next transitions =
    after-names memo n after c (further at c.decision) fine within longer (record { shape = next.shape; path = at.path; on = refl; names = next.names; silent = next.silent }) transitions

-- a choice that leads to a configuration that is known is refuted
pub known-after : {V : Type 0} (memo : MemoOf V) (P : List Decision → Type 0) (n after : ℕ) (c : Choice) (at : CursorOf) (placed : List Bool) → IsWellFormed (history_of at.shape) → IsWithinLimits (plan_of at.shape) (history_of at.shape) → IsGood (objects_of at.shape) (history_of at.shape) at.path →
    IsNext memo (Some n) c at → placed ≡ map (is_named at.path) (transactions (history_of at.shape)) → IsAfter memo n c after →
    IsRefutedEntry memo.shape memo.states P (record { placed = set placed c.place true; states = after }) → Refuted (objects_of at.shape) (history_of at.shape) (at.path ++ c.decision ∷ [])
known-after memo P n after c at placed fine within good next is transitions dead rest shown =
    let longer : IsGood (objects_of at.shape) (history_of at.shape) (at.path ++ c.decision ∷ []) =
    IsGood-push (objects_of at.shape) (history_of at.shape) at.path c.decision good (next-shown (objects_of at.shape) (history_of at.shape) at.path c.decision rest shown) in
    dead-refuted memo.shape memo.states P (set placed c.place true) after (further at c.decision) next.shape fine within longer
    (ap (λ l. set l c.place true) is ∙ placed-with (history_of at.shape) at.path c next.row.0 next.row.1.0 next.row.1.1)
    (next-names memo n after c at fine within longer next transitions) dead rest shown

-- and where it is good it is the same to what comes after it
pub alike-after : {V : Type 0} (memo : MemoOf V) (P : List Decision → Type 0) (n after : ℕ) (c : Choice) (at : CursorOf) (placed : List Bool) → IsWellFormed (history_of at.shape) → IsWithinLimits (plan_of at.shape) (history_of at.shape) → IsGood (objects_of at.shape) (history_of at.shape) at.path →
    IsNext memo (Some n) c at → placed ≡ map (is_named at.path) (transactions (history_of at.shape)) → IsAfter memo n c after →
    IsRefutedEntry memo.shape memo.states P (record { placed = set placed c.place true; states = after }) → IsGoodAt at c.decision → IsNotedAlike at.shape P (at.path ++ c.decision ∷ [])
alike-after memo P n after c at placed fine within good next is transitions dead next_good =
    let longer : IsGood (objects_of at.shape) (history_of at.shape) (at.path ++ c.decision ∷ []) = IsGood-push (objects_of at.shape) (history_of at.shape) at.path c.decision good next_good in
    dead-alike memo.shape memo.states P (set placed c.place true) after (further at c.decision) next.shape
    (ap (λ l. set l c.place true) is ∙ placed-with (history_of at.shape) at.path c next.row.0 next.row.1.0 next.row.1.1)
    (next-names memo n after c at fine within longer next transitions) dead

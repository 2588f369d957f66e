-- What the parts of a search say, put together.
use Rattle.std.specs.Prelude.{◌≡◌, ℕ, zero, suc, ◌+◌, ◌-◌, ◌<◌, ◌≤◌, Bool, true, false, not, ◌&&◌, nat_lt, List, [], ◌∷◌, ◌++◌, map, length, reverse, Option, Some, None, slice_get, slice_index_or, refl}
use Rattle.std.proofs.Common.{sym, ◌∙◌, ap, subst, inl, inr, arith, take}
use Rattle.std.proofs.lemmas.Bool.Decides.{nat_tests}
use Rattle.std.proofs.lemmas.List.{map-append, append-nil, reverse-append}
use Rattle.aud_event.specs.Meanings.{Declared}
use Rattle.base_values.proofs.Bools.{and_true, split}
use Rattle.aud_history.specs.Histories.{History, is_in}
use Rattle.aud_history.specs.WellFormed.{IsWellFormed}
use Rattle.aud_history.specs.FirstFault.{IsWithinLimits}
use Rattle.aud_history.specs.Table.{transactions}
use Rattle.aud_witness.specs.declared.decision.Fate.TheVariants.{C}
use Rattle.aud_witness.specs.declared.decision.Decision.{Decision}
use Rattle.aud_witness.specs.Prefixes.{BeginsWith}
use Rattle.aud_witness.specs.Orders.{is_allowed, is_named, kept, block, IsFull, IsGood, IsGoodNext, Shows, Refuted}
use Rattle.aud_witness.specs.Enumeration.{is_legal_from}
use Rattle.aud_witness.specs.OrderFaults.{is_enabled}
use Rattle.aud_witness.proofs.Good.{IsGood-last, IsGood-push, Shows-from_IsGood}
use Rattle.aud_order.specs.Shapes.{ShapeOf, plan_of, objects_of, history_of}
use Rattle.aud_order.specs.Cursors.{CursorOf, IsGoodAt, cursor_with}
use Rattle.aud_order.specs.Silent.{silent_fate}
use Rattle.aud_order.proofs.KidLemmas.{good-from_next}
use Rattle.aud_order.proofs.Lists.{length-push, take-push}
use Rattle.aud_order.proofs.Lengths.{length-good}
use Rattle.search_memo.specs.declared.choice.Visibility.TheVariants.{Silent}
use Rattle.search_memo.specs.declared.choice.Choice.{Choice}
use Rattle.search_prefix.specs.declared.outcome.Outcome.{Outcome}
use Rattle.search_prefix.specs.declared.searching.Frame.{Frame}
use Rattle.search_prefix.specs.declared.outcome.Outcome.TheVariants as outcome
use Rattle.search_prefix.specs.declared.outcome.SearchEnd.{SearchEnd}
use Rattle.search_prefix.specs.declared.outcome.SearchEnd.TheVariants as ended
use Rattle.search_memo.specs.Choices.{AreChoices}
use Rattle.search_prefix.specs.Searches.{SpentBy, Reports}
use Rattle.search_prefix.specs.Levels.{AreTried, IsSearching}
use Rattle.base_values.specs.Budgets.{IsOneLess}
use Rattle.search_memo.specs.Memos.{MemoOf, states_reached, Names, NameWay, IsStep}
use Rattle.search_prefix.specs.Tried.{IsTried, FindsFirstGood, IsNextPlace, IsWitnessOf, Spends, ReportsFrom, outcome_of}
use Rattle.search_prefix.proofs.Levels.{there-below, tried-more, tried-after, search-on, search-deeper, search-spent, search-unspent, refuted-here, search-back, search-refuted, search-begins}
use Rattle.search_prefix.proofs.Weights.{weigh, lighter-deeper, lighter-on, lighter-back}

abbrev pub no_decision : Decision
no_decision = record { tx = 0; fate = C }

-- # Choices

pub ready-good : (objects : List Declared) (h : History) (p : List Decision) (d : Decision) → IsGoodNext objects h p d → (not (is_named p d.tx) && is_enabled h p d.tx) ≡ true
ready-good objects h p d next =
    let good = good-from_next objects h p d next in
    let legal = and_true (is_in h d.tx && not (is_named p d.tx) && is_allowed h d.tx d.fate && is_enabled h p d.tx) (is_legal_from 0 objects (kept h p ++ block h d)) good in
    let enabled : is_enabled h p d.tx ≡ true = (and_true (is_in h d.tx && not (is_named p d.tx) && is_allowed h d.tx d.fate) (is_enabled h p d.tx) legal.0).1 in
    (λ i. not (next.new i) && enabled i)

abbrev pub no_choice : Choice
no_choice = record { visibility = Silent; is_late = false; rank = 0; place = 0; decision = no_decision }

pub choice-at : (cs : List Choice) (k : ℕ) → k < length cs → slice_get cs k ≡ Some (slice_index_or cs k no_choice)
choice-at [] k inside = absurd (omega arith)
choice-at (c ∷ cs) zero inside = refl
choice-at (c ∷ cs) (suc k) inside = choice-at cs k (omega arith)

abbrev pub AreBad : CursorOf → List Choice → ℕ → ℕ → Type 0
AreBad cur cs from to = (j : ℕ) (c : Choice) → from ≤ j → j < to → slice_get cs j ≡ Some c → IsGoodAt cur c.decision → ⊥

pub bad-none : (cur : CursorOf) (cs : List Choice) (from : ℕ) → AreBad cur cs from from
bad-none cur cs from j c past below at good = absurd (omega arith)

pub bad-more : (start cur new : CursorOf) (cs : List Choice) (from k : ℕ) (b : Bool) → k < length cs → cur ≡ start → AreBad start cs from k → IsTried cur new (slice_index_or cs k no_choice).decision b → b ≡ false →
    (new ≡ start) × AreBad start cs from (k + 1)
bad-more start cur new cs from k true inside same bad tried is = absurd (cc)
bad-more start cur new cs from k false inside same bad tried is = (
  tried.1 ∙ same,
  (λ j c past below at good. elim (split (nat_lt j k)) [
    | inl before ↦ let low : j < k = grind (arith, nat_tests) in bad j c past low at good
    | inr behind ↦
        let here : j ≡ k = grind (arith, nat_tests) in
        let some : Some (slice_index_or cs k no_choice) ≡ Some c = sym (choice-at cs k inside) ∙ ap (slice_get cs) (sym here) ∙ at in
        let is_choice : slice_index_or cs k no_choice ≡ c = cc in
        tried.0 (subst (λ (v : CursorOf). IsGoodAt v (slice_index_or cs k no_choice).decision) (sym same) (subst (λ (x : Choice). IsGoodAt start x.decision) (sym is_choice) good))
  ]),
)

pub bad-all : (start cur : CursorOf) (cs : List Choice) (from to : ℕ) → length cs ≤ to → cur ≡ start → AreBad start cs from to → FindsFirstGood start cur cs from None
bad-all start cur cs from to past same bad = (same, (λ j c behind at good. let low : j < length cs = there-below cs j c at in bad j c behind (omega arith) at good))

pub found-at : (start cur new : CursorOf) (cs : List Choice) (from k : ℕ) (b : Bool) → from ≤ k → k < length cs → cur ≡ start → AreBad start cs from k → IsTried cur new (slice_index_or cs k no_choice).decision b → b ≡ true →
    FindsFirstGood start new cs from (Some k)
found-at start cur new cs from k false past inside same bad tried is = absurd (cc)
found-at start cur new cs from k true past inside same bad tried is = (
  slice_index_or cs k no_choice,
  (
    past,
    inside,
    choice-at cs k inside,
    subst (λ (v : CursorOf). IsGoodAt v (slice_index_or cs k no_choice).decision) same tried.0,
    tried.1 ∙ ap (λ (v : CursorOf). cursor_with v (slice_index_or cs k no_choice).decision) same,
    bad,
  ),
)

-- # The budget

pub spends-start : (budget : Option ℕ) → Spends budget 1 budget
spends-start None = tt
spends-start (Some whole) = omega arith

pub spends-more : (budget left rest : Option ℕ) (used : ℕ) → Spends budget used left → IsOneLess left rest → Spends budget (used + 1) rest
spends-more None None None used spends less = tt
spends-more (Some whole) (Some left) (Some rest) used spends less =
    let before : used + left ≡ whole + 1 = spends in let fewer : left ≡ rest + 1 = less in omega arith
spends-more None (Some left) rest used spends less = absurd spends
spends-more (Some whole) None rest used spends less = absurd spends
spends-more None None (Some rest) used spends less = absurd less
spends-more (Some whole) (Some left) None used spends less = absurd less

pub spent-from : (N X : Type 0) (noted : N → List Decision → Type 0) (objects : List Declared) (h : History) (p : List Decision) (budget left : Option ℕ) (used : ℕ) → Spends budget used left → left ≡ Some 0 → SpentBy objects h p used →
    ReportsFrom {N = N} {X = X} objects h noted p budget ended.Spent
spent-from N X noted objects h p None None used spends none spent = absurd (cc)
spent-from N X noted objects h p None (Some left) used spends none spent = absurd spends
spent-from N X noted objects h p (Some whole) None used spends none spent = absurd (cc)
spent-from N X noted objects h p (Some whole) (Some left) used spends none spent =
    let before : used + left ≡ whole + 1 = spends in
    let zero_left : left ≡ 0 = cc in
    let all : used ≡ whole + 1 = omega arith in
    subst (λ n. SpentBy objects h p n) all spent

pub reports-spent : (X : Type 0) (objects : List Declared) (h : History) (p : List Decision) (budget : Option ℕ) → budget ≡ Some 0 → SpentBy objects h p 0 → Reports {X = X} objects h p budget outcome.Spent
reports-spent X objects h p None none spent = absurd (cc)
reports-spent X objects h p (Some whole) none spent = let zero_left : 0 ≡ whole = cc in subst (λ n. SpentBy objects h p n) zero_left spent

pub reports-from : (N X : Type 0) (noted : N → List Decision → Type 0) (objects : List Declared) (h : History) (p : List Decision) (budget left : Option ℕ) (o : SearchEnd N X) → IsOneLess budget left → ReportsFrom objects h noted p left o →
    Reports {X = X} objects h p budget (outcome_of o)
reports-from N X noted objects h p budget left (ended.Refuted note) less reported = reported.0
reports-from N X noted objects h p budget left (ended.Witness q) less reported = reported
reports-from N X noted objects h p None None ended.Spent less reported = absurd reported
reports-from N X noted objects h p (Some whole) (Some left) ended.Spent less reported =
    let fewer : whole ≡ left + 1 = less in subst (λ n. SpentBy objects h p n) (sym fewer) reported
reports-from N X noted objects h p None (Some left) ended.Spent less reported = absurd less
reports-from N X noted objects h p (Some whole) None ended.Spent less reported = absurd less

-- # The loop

abbrev pub next_of : Frame → ℕ
next_of t = t.next

abbrev pub states_of : Frame → Option ℕ
states_of t = t.states

pub more-frames : {X : Type 0} (f : Frame → X) (old new : List Frame) (t : Frame) → new ≡ old ++ t ∷ [] → map f new ≡ map f old ++ f t ∷ []
more-frames f old new t is = ap (map f) is ∙ map-append f old (t ∷ [])

-- the choice that was followed
pub record Follows (start cur new : CursorOf) (cs : List Choice) (next k : ℕ) : Type 0 where
  pub choice : Choice
  pub past : next ≤ k
  pub inside : k < length cs
  pub at : slice_get cs k ≡ Some choice
  pub tried : AreTried (objects_of start.shape) (history_of start.shape) cs cur.path k
  pub good : IsGood (objects_of start.shape) (history_of start.shape) (cur.path ++ choice.decision ∷ [])
  pub shape : new.shape ≡ start.shape
  pub path : new.path ≡ cur.path ++ choice.decision ∷ []

good-here : (start cur : CursorOf) (d : Decision) → cur.shape ≡ start.shape → IsGoodAt cur d → IsGoodNext (objects_of start.shape) (history_of start.shape) cur.path d
good-here start cur d same good = subst (λ (s : ShapeOf). IsGoodNext (objects_of s) (history_of s) cur.path d) same good

here-good : (start cur : CursorOf) (d : Decision) → cur.shape ≡ start.shape → IsGoodNext (objects_of start.shape) (history_of start.shape) cur.path d → IsGoodAt cur d
here-good start cur d same good = subst (λ (s : ShapeOf). IsGoodNext (objects_of s) (history_of s) cur.path d) (sym same) good

pub follows : (start cur new : CursorOf) (cs : List Choice) (used next k : ℕ) (gs : List ℕ) → cur.shape ≡ start.shape →
    IsSearching (objects_of start.shape) (history_of start.shape) start.path cs used cur.path next gs → FindsFirstGood cur new cs next (Some k) → Follows start cur new cs next k
follows start cur new cs used next k gs same s (c, (past, inside, at, good, is, bad)) = record {
  choice = c;
  past = past;
  inside = inside;
  at = at;
  tried = tried-more (objects_of start.shape) (history_of start.shape) cs cur.path next k s.tried (λ j e behind below there ok. bad j e behind below there (here-good start cur e.decision same ok));
  good = IsGood-push (objects_of start.shape) (history_of start.shape) cur.path c.decision (s.opens cur.path s.here).0 (good-here start cur c.decision same good);
  shape = ap (λ (v : CursorOf). v.shape) is ∙ same;
  path = ap (λ (v : CursorOf). v.path) is;
}

full-here : (start cur new : CursorOf) (cs : List Choice) (next k : ℕ) (f : Follows start cur new cs next k) → IsFull (history_of start.shape) (cur.path ++ f.choice.decision ∷ []) → IsFull (history_of new.shape) new.path
full-here start cur new cs next k f full =
    subst (λ (s : ShapeOf). IsFull (history_of s) new.path) (sym f.shape) (subst (λ l. IsFull (history_of start.shape) l) (sym f.path) full)

pub loop-witness : (start cur new : CursorOf) (cs : List Choice) (used next k : ℕ) (gs : List ℕ) (w : List Decision) → IsSearching (objects_of start.shape) (history_of start.shape) start.path cs used cur.path next gs →
    Follows start cur new cs next k → IsFull (history_of new.shape) new.path → w ≡ new.path → BeginsWith start.path w × Shows (objects_of start.shape) (history_of start.shape) w
loop-witness start cur new cs used next k gs w s f full is =
    let whole : w ≡ cur.path ++ f.choice.decision ∷ [] = is ∙ f.path in
    let all : IsFull (history_of start.shape) (cur.path ++ f.choice.decision ∷ []) = subst (λ l. IsFull (history_of start.shape) l) f.path (subst (λ (s : ShapeOf). IsFull (history_of s) new.path) f.shape full) in (
      subst (λ l. BeginsWith start.path l) (sym whole) (search-begins (objects_of start.shape) (history_of start.shape) start.path cs used cur.path next gs f.choice.decision s),
      subst (λ l. Shows (objects_of start.shape) (history_of start.shape) l) (sym whole) (Shows-from_IsGood (objects_of start.shape) (history_of start.shape) (cur.path ++ f.choice.decision ∷ []) all f.good),
    )

pub loop-spent : (start cur new : CursorOf) (cs : List Choice) (used next k : ℕ) (gs : List ℕ) → IsSearching (objects_of start.shape) (history_of start.shape) start.path cs used cur.path next gs →
    Follows start cur new cs next k → (IsFull (history_of new.shape) new.path → ⊥) → SpentBy (objects_of start.shape) (history_of start.shape) start.path used
loop-spent start cur new cs used next k gs s f unfull =
    search-spent (objects_of start.shape) (history_of start.shape) start.path cs used cur.path next gs k f.choice s f.past f.at f.good (λ full. unfull (full-here start cur new cs next k f full))

-- the search ends with a prefix that shows the history
pub reports-witness : (N X : Type 0) (noted : N → List Decision → Type 0) (objects : List Declared) (h : History) (p q : List Decision) (budget : Option ℕ) (e : SearchEnd N X) → IsWitnessOf q e → BeginsWith p q × Shows objects h q →
    ReportsFrom {N = N} {X = X} objects h noted p budget e
reports-witness N X noted objects h p q budget (ended.Refuted note) is reported = absurd is
reports-witness N X noted objects h p q budget (ended.Witness w) is reported = subst (λ l. BeginsWith p l × Shows objects h l) (sym is) reported
reports-witness N X noted objects h p q budget ended.Spent is reported = absurd is

reverse-push : (xs : List ℕ) (x : ℕ) → reverse (xs ++ x ∷ []) ≡ x ∷ reverse xs
reverse-push xs x = reverse-append xs (x ∷ [])

-- what the search needs of its history, and of its choices
pub record Grounds (shape : ShapeOf) (cs : List Choice) : Type 0 where
  pub fine : IsWellFormed (history_of shape)
  pub within : IsWithinLimits (plan_of shape) (history_of shape)
  pub choices : AreChoices (history_of shape) cs

followed-tried : (start cur new : CursorOf) (cs : List Choice) (next k g : ℕ) → Grounds start.shape cs → (f : Follows start cur new cs next k) → IsNextPlace cs k g →
    Refuted (objects_of start.shape) (history_of start.shape) (cur.path ++ f.choice.decision ∷ []) → AreTried (objects_of start.shape) (history_of start.shape) cs cur.path g
followed-tried start cur new cs next k g on f behind refuted =
    tried-after (plan_of start.shape) (history_of start.shape) cs cur.path k g f.choice on.fine on.within on.choices behind f.at f.tried
    (IsGood-last (objects_of start.shape) (history_of start.shape) cur.path f.choice.decision f.good) refuted

pub loop-deeper : (start cur new : CursorOf) (cs : List Choice) (used next k g : ℕ) (below more : List ℕ) → Grounds start.shape cs →
    IsSearching (objects_of start.shape) (history_of start.shape) start.path cs used cur.path next (reverse below) →
    Follows start cur new cs next k → (IsFull (history_of new.shape) new.path → ⊥) → IsNextPlace cs k g → more ≡ below ++ g ∷ [] →
    IsSearching (objects_of start.shape) (history_of start.shape) start.path cs (used + 1) new.path 0 (reverse more)
loop-deeper start cur new cs used next k g below more on s f unfull behind grown =
    subst (λ l. IsSearching (objects_of start.shape) (history_of start.shape) start.path cs (used + 1) new.path 0 l) (sym (ap reverse grown ∙ reverse-push below g))
    (subst (λ l. IsSearching (objects_of start.shape) (history_of start.shape) start.path cs (used + 1) l 0 (g ∷ reverse below)) (sym f.path)
    (search-deeper (objects_of start.shape) (history_of start.shape) start.path cs used cur.path next (reverse below) k g f.choice on.choices s f.past behind.past f.at (followed-tried start cur new cs next k g on f behind) f.good (λ full. unfull (full-here start cur new cs next k f full))))

-- a followed prefix that is known to be refuted
followed-refuted : (start cur new : CursorOf) (cs : List Choice) (next k : ℕ) → (f : Follows start cur new cs next k) → Refuted (objects_of new.shape) (history_of new.shape) new.path →
    Refuted (objects_of start.shape) (history_of start.shape) (cur.path ++ f.choice.decision ∷ [])
followed-refuted start cur new cs next k f refuted =
    subst (λ l. Refuted (objects_of start.shape) (history_of start.shape) l) f.path (subst (λ (s : ShapeOf). Refuted (objects_of s) (history_of s) new.path) f.shape refuted)

-- the cursor goes on and back
pub went-back : (start cur new popped : CursorOf) (cs : List Choice) (next k : ℕ) → Follows start cur new cs next k → popped ≡ record { shape = new.shape; path = take (length new.path - 1) new.path } →
    (popped.shape ≡ start.shape) × (popped.path ≡ cur.path)
went-back start cur new popped cs next k f is = (
  ap (λ (v : CursorOf). v.shape) is ∙ f.shape,
  ap (λ (v : CursorOf). v.path) is ∙ ap (λ l. take (length l - 1) l) f.path ∙ take-push cur.path f.choice.decision,
)

-- a choice is passed over, as its prefix is known to be refuted
pub loop-known : (start cur new popped : CursorOf) (cs : List Choice) (used next k g : ℕ) (below : List ℕ) → Grounds start.shape cs →
    IsSearching (objects_of start.shape) (history_of start.shape) start.path cs used cur.path next (reverse below) →
    Follows start cur new cs next k → IsNextPlace cs k g → Refuted (objects_of new.shape) (history_of new.shape) new.path →
    popped ≡ record { shape = new.shape; path = take (length new.path - 1) new.path } →
    IsSearching (objects_of start.shape) (history_of start.shape) start.path cs used popped.path g (reverse below)
loop-known start cur new popped cs used next k g below on s f behind refuted is =
    let past = f.past in let further = behind.past in
    subst (λ l. IsSearching (objects_of start.shape) (history_of start.shape) start.path cs used l g (reverse below)) (sym (went-back start cur new popped cs next k f is).1)
    (search-on (objects_of start.shape) (history_of start.shape) start.path cs used cur.path next (reverse below) g s (omega arith)
    (followed-tried start cur new cs next k g on f behind (followed-refuted start cur new cs next k f refuted)))

-- the followed choice is a step on from a prefix after which the states have the number
pub step-at : {V : Type 0} (start cur new : CursorOf) (cs : List Choice) (next k : ℕ) (memo : MemoOf V) (n : Option ℕ) (ns : List (Option ℕ)) → Grounds start.shape cs → Follows start cur new cs next k → memo.shape ≡ start.shape →
    NameWay start.shape memo.states (n ∷ ns) cur.path → IsStep memo n (slice_index_or cs k no_choice) new
step-at start cur new cs next k memo n ns on f same way =
    let there : slice_get cs k ≡ Some picked = choice-at cs k f.inside in
    let own : f.choice ≡ picked = (let a = f.at in cc) in record {
      shape = same ∙ sym f.shape;
      path = cur.path;
      on = f.path ∙ ap (λ (c : Choice). cur.path ++ c.decision ∷ []) own;
      names = subst (λ (s : ShapeOf). Names memo.states n (states_reached s cur.path)) (sym f.shape) way.0;
      silent = λ quiet. subst (λ (s : ShapeOf). silent_fate (history_of s) picked.decision.tx ≡ Some picked.decision.fate) (sym f.shape) (on.choices.silent k picked there quiet);
    }
  where
    picked : Choice
    picked = slice_index_or cs k no_choice

abbrev pub weight : ShapeOf → List Choice → List Decision → ℕ → List ℕ → ℕ
weight shape cs path next below = weigh (length cs) (length (transactions (history_of shape))) (length path) next (reverse below)

pub loop-deeper-lighter : (start cur new : CursorOf) (cs : List Choice) (next k g : ℕ) (below more : List ℕ) →
    Follows start cur new cs next k → k < g → more ≡ below ++ g ∷ [] → weight start.shape cs new.path 0 more < weight start.shape cs cur.path next below
loop-deeper-lighter start cur new cs next k g below more f behind grown =
    let long : length new.path ≡ length cur.path + 1 = ap length f.path ∙ length-push cur.path f.choice.decision in
    let short : length (cur.path ++ f.choice.decision ∷ []) ≤ length (transactions (history_of start.shape)) = length-good (objects_of start.shape) (history_of start.shape) (cur.path ++ f.choice.decision ∷ []) f.good in
    let one : length (cur.path ++ f.choice.decision ∷ []) ≡ length cur.path + 1 = length-push cur.path f.choice.decision in
    subst (λ l. weigh (length cs) (length (transactions (history_of start.shape))) (length new.path) 0 l < weight start.shape cs cur.path next below) (sym (ap reverse grown ∙ reverse-push below g))
    (subst (λ n. weigh (length cs) (length (transactions (history_of start.shape))) n 0 (g ∷ reverse below) < weight start.shape cs cur.path next below) (sym long)
    (lighter-deeper (length cs) (length (transactions (history_of start.shape))) (length cur.path) next k g (reverse below) (omega arith) f.past f.inside behind))

pub loop-known-lighter : (start cur new popped : CursorOf) (cs : List Choice) (next k g : ℕ) (below : List ℕ) →
    Follows start cur new cs next k → k < g → popped ≡ record { shape = new.shape; path = take (length new.path - 1) new.path } → weight start.shape cs popped.path g below < weight start.shape cs cur.path next below
loop-known-lighter start cur new popped cs next k g below f behind is =
    subst (λ l. weight start.shape cs l g below < weight start.shape cs cur.path next below) (sym (went-back start cur new popped cs next k f is).1)
    (lighter-on (length cs) (length (transactions (history_of start.shape))) (length cur.path) next k g (reverse below) f.past f.inside behind)

pub loop-refuted : (start cur new : CursorOf) (cs : List Choice) (used next : ℕ) (gs : List ℕ) → cur.shape ≡ start.shape → AreChoices (history_of start.shape) cs →
    IsSearching (objects_of start.shape) (history_of start.shape) start.path cs used cur.path next gs → FindsFirstGood cur new cs next None → Refuted (objects_of start.shape) (history_of start.shape) cur.path
loop-refuted start cur new cs used next gs same choices s (_, bad) =
    refuted-here (objects_of start.shape) (history_of start.shape) start.path cs used cur.path next gs choices s
    (tried-more (objects_of start.shape) (history_of start.shape) cs cur.path next (length cs) s.tried (λ j e behind below there ok. bad j e behind there (here-good start cur e.decision same ok)))

pub loop-over : (start cur new : CursorOf) (cs : List Choice) (used next : ℕ) (below : List ℕ) → cur.shape ≡ start.shape → AreChoices (history_of start.shape) cs →
    IsSearching (objects_of start.shape) (history_of start.shape) start.path cs used cur.path next (reverse below) → FindsFirstGood cur new cs next None → below ≡ [] →
    Refuted (objects_of start.shape) (history_of start.shape) start.path
loop-over start cur new cs used next below same choices s found none =
    search-refuted (objects_of start.shape) (history_of start.shape) start.path cs used cur.path next
    (subst (λ l. IsSearching (objects_of start.shape) (history_of start.shape) start.path cs used cur.path next l) (ap reverse none) s)
    (loop-refuted start cur new cs used next (reverse below) same choices s found)

-- taking back at the empty prefix is as taking nothing
pub back-same : (old new : CursorOf) (b : Bool) → (b ≡ false → (old.path ≡ []) × (new ≡ old)) → (b ≡ true → (old.path ≡ [] → ⊥) × (new ≡ record { shape = old.shape; path = take (length old.path - 1) old.path })) →
    new ≡ record { shape = old.shape; path = take (length old.path - 1) old.path }
back-same old new true root back = (back refl).1
back-same old new false root back =
    let (none, is) = root refl in
    let nothing : take (length old.path - 1) old.path ≡ old.path = ap (λ l. take (length l - 1) l) none ∙ sym none in
    is ∙ (λ i. record { shape = old.shape; path = sym nothing i })

pub loop-back : (start cur mid new : CursorOf) (cs : List Choice) (used next g : ℕ) (below less : List ℕ) → cur.shape ≡ start.shape → AreChoices (history_of start.shape) cs →
    IsSearching (objects_of start.shape) (history_of start.shape) start.path cs used cur.path next (reverse below) → FindsFirstGood cur mid cs next None → below ≡ less ++ g ∷ [] →
    new ≡ record { shape = mid.shape; path = take (length mid.path - 1) mid.path } →
    (new.shape ≡ start.shape) × IsSearching (objects_of start.shape) (history_of start.shape) start.path cs used new.path g (reverse less) × (new.path ≡ take (length cur.path - 1) cur.path)
loop-back start cur mid new cs used next g below less same choices s found shorter is =
    let refuted = loop-refuted start cur mid cs used next (reverse below) same choices s found in
    let stayed : mid ≡ cur = found.0 in
    let path : new.path ≡ take (length cur.path - 1) cur.path = ap (λ (v : CursorOf). v.path) is ∙ ap (λ (v : CursorOf). take (length v.path - 1) v.path) stayed in (
      ap (λ (v : CursorOf). v.shape) is ∙ ap (λ (v : CursorOf). v.shape) stayed ∙ same,
      subst (λ l. IsSearching (objects_of start.shape) (history_of start.shape) start.path cs used l g (reverse less)) (sym path)
          (search-back (objects_of start.shape) (history_of start.shape) start.path cs used cur.path next g (reverse less)
          (subst (λ l. IsSearching (objects_of start.shape) (history_of start.shape) start.path cs used cur.path next l) (ap reverse shorter ∙ reverse-push less g) s) refuted),
      path,
    )

length-shorter : (path : List Decision) → length (take (length path - 1) path) ≡ length path - 1
length-shorter [] = refl
length-shorter (x ∷ path) =
    let all : length (x ∷ path) - 1 ≡ length path = omega arith in
    ap (λ n. length (take n (x ∷ path))) all ∙ front x path ∙ sym all
  where
    front : (x : Decision) (path : List Decision) → length (take (length path) (x ∷ path)) ≡ length path
    front x [] = refl
    front x (y ∷ path) = ap suc (front y path)

pub loop-back-lighter : (shape : ShapeOf) (cur mid new : CursorOf) (cs : List Choice) (next g : ℕ) (below less : List ℕ) → mid ≡ cur → below ≡ less ++ g ∷ [] →
    new ≡ record { shape = mid.shape; path = take (length mid.path - 1) mid.path } → weight shape cs new.path g less < weight shape cs cur.path next below
loop-back-lighter shape cur mid new cs next g below less stayed shorter is =
    let n = length (transactions (history_of shape)) in
    let path : length new.path ≡ length cur.path - 1 = ap (λ (v : CursorOf). length v.path) is ∙ ap (λ (v : CursorOf). length (take (length v.path - 1) v.path)) stayed ∙ length-shorter cur.path in
    subst (λ l. weight shape cs new.path g less < weigh (length cs) n (length cur.path) next l) (sym (ap reverse shorter ∙ reverse-push less g))
    (subst (λ m. weigh (length cs) n m g (reverse less) < weigh (length cs) n (length cur.path) next (g ∷ reverse less)) (sym path)
    (lighter-back (length cs) n (length cur.path) next g (reverse less)))

-- # The whole search

abbrev pub cursor_at : ShapeOf → List Decision → CursorOf
cursor_at shape p = record { shape = shape; path = p }

pub whole-witness : (shape : ShapeOf) (cur : CursorOf) (p w : List Decision) → cur ≡ cursor_at shape p → IsGood (objects_of cur.shape) (history_of cur.shape) cur.path → IsFull (history_of cur.shape) cur.path → w ≡ p →
    BeginsWith p w × Shows (objects_of shape) (history_of shape) w
whole-witness shape cur p w is good full same =
    let shown : Shows (objects_of shape) (history_of shape) p = subst (λ (v : CursorOf). Shows (objects_of v.shape) (history_of v.shape) v.path) is (Shows-from_IsGood (objects_of cur.shape) (history_of cur.shape) cur.path full good) in
    (([], same ∙ sym (append-nil p)), subst (λ l. Shows (objects_of shape) (history_of shape) l) (sym same) shown)

pub whole-spent : (X : Type 0) (shape : ShapeOf) (cur : CursorOf) (p : List Decision) (budget : Option ℕ) → cur ≡ cursor_at shape p → IsGood (objects_of cur.shape) (history_of cur.shape) cur.path →
    (IsFull (history_of cur.shape) cur.path → ⊥) → budget ≡ Some 0 → Reports {X = X} (objects_of shape) (history_of shape) p budget outcome.Spent
whole-spent X shape cur p budget is good unfull none =
    reports-spent X (objects_of shape) (history_of shape) p budget none
    (subst (λ (v : CursorOf). SpentBy (objects_of v.shape) (history_of v.shape) v.path 0) is (search-unspent (objects_of cur.shape) (history_of cur.shape) cur.path good unfull))

pub whole-reported : (N X : Type 0) (noted : N → List Decision → Type 0) (shape : ShapeOf) (cur : CursorOf) (p : List Decision) (budget left : Option ℕ) (o : SearchEnd N X) (w : Outcome X) → cur ≡ cursor_at shape p → IsOneLess budget left →
    ReportsFrom (objects_of cur.shape) (history_of cur.shape) noted cur.path left o → w ≡ outcome_of o → Reports {X = X} (objects_of shape) (history_of shape) p budget w
whole-reported N X noted shape cur p budget left o w is less reported same =
    subst (λ (x : Outcome X). Reports {X = X} (objects_of shape) (history_of shape) p budget x) (sym same)
    (reports-from N X noted (objects_of shape) (history_of shape) p budget left o less
    (subst (λ (v : CursorOf). ReportsFrom (objects_of v.shape) (history_of v.shape) noted v.path left o) is reported))

-- Choices that are passed over, as they are known to be refuted.
use Rattle.std.specs.Prelude.{◌≡◌, ℕ, ◌+◌, ◌<◌, ◌≤◌, nat_lt, List, [], ◌∷◌, ◌++◌, length, Option, Some, false, slice_get, slice_index_or}
use Rattle.std.proofs.Common.{sym, ◌∙◌, ap, subst, inl, inr, arith}
use Rattle.std.proofs.lemmas.Bool.Decides.{nat_tests}
use Rattle.base_values.proofs.Bools.{split}
use Rattle.aud_witness.specs.declared.decision.Decision.{Decision}
use Rattle.aud_witness.specs.Orders.{Refuted}
use Rattle.aud_order.specs.Shapes.{ShapeOf, objects_of, history_of}
use Rattle.aud_order.specs.Cursors.{CursorOf}
use Rattle.search_memo.specs.declared.choice.Choice.{Choice}
use Rattle.search_memo.specs.Choices.{AreChoices}
use Rattle.search_prefix.specs.Levels.{AreTried, IsSearching}
use Rattle.search_memo.specs.Memos.{MemoOf, states_reached, Names, IsNext}
use Rattle.search_prefix.specs.Readiness.{ReadyOf, IsReady}
use Rattle.search_prefix.specs.Tried.{FindsFirstGood, ArePassed}
use Rattle.search_prefix.proofs.Levels.{search-on}
use Rattle.search_prefix.proofs.Readiness.{bad-until}
use Rattle.search_memo.proofs.Refuting.{refuted-bad}
use Rattle.search_prefix.proofs.Steps.{Follows, follows, bad-none, choice-at, no_choice}

-- the choice at a place is of its row's transaction
pub next-at : {V : Type 0} (memo : MemoOf V) (n : Option ℕ) (at : CursorOf) (cs : List Choice) (k : ℕ) → AreChoices (history_of at.shape) cs → k < length cs → memo.shape ≡ at.shape → Names memo.states n (states_reached at.shape at.path) →
    IsNext memo n (slice_index_or cs k no_choice) at
next-at memo n at cs k choices inside same names = record {
  shape = same;
  names = names;
  silent = choices.silent k (slice_index_or cs k no_choice) (choice-at cs k inside);
  row = choices.rows k (slice_index_or cs k no_choice) (choice-at cs k inside);
}

-- what is known of the choice at a place
known-at : (at : CursorOf) (cs : List Choice) (k j : ℕ) (c : Choice) → k < length cs → j ≡ k → slice_get cs j ≡ Some c → Refuted (objects_of at.shape) (history_of at.shape) (at.path ++ (slice_index_or cs k no_choice).decision ∷ []) →
    Refuted (objects_of at.shape) (history_of at.shape) (at.path ++ c.decision ∷ [])
known-at at cs k j c inside here there known =
    let some : Some (slice_index_or cs k no_choice) ≡ Some c = sym (choice-at cs k inside) ∙ ap (slice_get cs) (sym here) ∙ there in
    let own : slice_index_or cs k no_choice ≡ c = cc in
    subst (λ (x : Choice). Refuted (objects_of at.shape) (history_of at.shape) (at.path ++ x.decision ∷ [])) own known

-- one more choice is passed over, and those before it that are not marked
pub passed-more : (r : ReadyOf) (at : CursorOf) (cs : List Choice) (from next k : ℕ) → AreChoices (history_of at.shape) cs → r.choices ≡ cs → IsReady r at → ((j : ℕ) → next ≤ j → j < k → slice_index_or r.marks j false ≡ false) → next ≤ k → k < length cs →
    Refuted (objects_of at.shape) (history_of at.shape) (at.path ++ (slice_index_or cs k no_choice).decision ∷ []) → ArePassed at cs from next → ArePassed at cs from (k + 1)
passed-more r at cs from next k choices same ready none on inside known (past, passed) = (
  omega arith,
  (λ j c behind below there. elim (split (nat_lt j next)) [
    | inl before ↦ let low : j < next = grind (arith, nat_tests) in passed j c behind low there
    | inr after ↦ elim (split (nat_lt j k)) [
      | inl short ↦
          let high : next ≤ j = grind (arith, nat_tests) in
          let low : j < k = grind (arith, nat_tests) in
          refuted-bad (objects_of at.shape) (history_of at.shape) at.path c.decision (bad-until r at cs next next k choices same ready (bad-none at cs next) none j c high low there)
      | inr far ↦ (let here : j ≡ k = grind (arith, nat_tests) in known-at at cs k j c inside here there known)
    ]
  ]),
)

-- # The loop

seen-here : (start cur : CursorOf) (d : Decision) → cur.shape ≡ start.shape → Refuted (objects_of cur.shape) (history_of cur.shape) (cur.path ++ d ∷ []) → Refuted (objects_of start.shape) (history_of start.shape) (cur.path ++ d ∷ [])
seen-here start cur d same refuted = subst (λ (s : ShapeOf). Refuted (objects_of s) (history_of s) (cur.path ++ d ∷ [])) same refuted

-- what was tried, with what was passed over
tried-passed : (start cur : CursorOf) (cs : List Choice) (next from : ℕ) → cur.shape ≡ start.shape → AreTried (objects_of start.shape) (history_of start.shape) cs cur.path next → ArePassed cur cs next from →
    AreTried (objects_of start.shape) (history_of start.shape) cs cur.path from
tried-passed start cur cs next from same tried (past, passed) j c below there =
    elim (split (nat_lt j next)) [
      | inl before ↦ let low : j < next = grind (arith, nat_tests) in tried j c low there
      | inr after ↦ let high : next ≤ j = grind (arith, nat_tests) in seen-here start cur c.decision same (passed j c high below there)
    ]

-- the search goes on after what was passed over
pub passed-search : (start cur : CursorOf) (cs : List Choice) (used next from : ℕ) (gs : List ℕ) → cur.shape ≡ start.shape → IsSearching (objects_of start.shape) (history_of start.shape) start.path cs used cur.path next gs → ArePassed cur cs next from →
    IsSearching (objects_of start.shape) (history_of start.shape) start.path cs used cur.path from gs
passed-search start cur cs used next from gs same s passed =
    search-on (objects_of start.shape) (history_of start.shape) start.path cs used cur.path next gs from s passed.0 (tried-passed start cur cs next from same s.tried passed)

-- the choice that is followed stands after them
pub passed-follows : (start cur new : CursorOf) (cs : List Choice) (used next from k : ℕ) (gs : List ℕ) → cur.shape ≡ start.shape → IsSearching (objects_of start.shape) (history_of start.shape) start.path cs used cur.path next gs → ArePassed cur cs next from →
    FindsFirstGood cur new cs from (Some k) → Follows start cur new cs next k
passed-follows start cur new cs used next from k gs same s passed found =
    let f = follows start cur new cs used from k gs same (passed-search start cur cs used next from gs same s passed) found in
    let before : next ≤ from = passed.0 in
    record {
      choice = f.choice;
      past = (let after = f.past in omega arith);
      inside = f.inside;
      at = f.at;
      tried = f.tried;
      good = f.good;
      shape = f.shape;
      path = f.path;
    }

-- States under numbers, kept whole or by the blocks that lead to them.
use Rattle.std.specs.Prelude.{◌≡◌, ℕ, List, [], ◌∷◌, ◌++◌, Option, Some, None, unwrap_or, slice_get, slice_index_or, MatchOption, reverse}
use Rattle.aud_kinds.specs.Objects.{ObjState}
use Rattle.aud_object.specs.Replayed.{replayed}
use Rattle.aud_history.specs.Histories.{History}
use Rattle.aud_history.specs.Table.{row_of}
use Rattle.search_memo.specs.declared.stored_states.StoredStates.{StoredStates}
use Rattle.search_memo.specs.declared.stored_states.StoredStates.TheVariants.{Whole, After}
use Rattle.search_memo.specs.declared.stored_states.BlockStep.{BlockStep}

-- the states that are kept, where those of the earlier numbers are known
abbrev pub state_from : {A : Type 0} → History → List (List ObjState) → StoredStates A → List ObjState
state_from h all (Whole s) = s.now
state_from h all (After step cost) = unwrap_or (replayed (slice_index_or all step.from []) (row_of h step.tx).block) []

-- the states of more numbers, after those that are known
abbrev pub states_on : {A : Type 0} → History → List (List ObjState) → List (StoredStates A) → List (List ObjState)
states_on h all [] = all
states_on h all (k ∷ ks) = states_on h (all ++ state_from h all k ∷ []) ks

-- the states of all numbers
abbrev pub states_of : {A : Type 0} → History → List (StoredStates A) → List (List ObjState)
states_of h ks = states_on h [] ks

-- the states after the blocks of the transactions, if each recorded answer is the object's
abbrev pub run_way : History → List ObjState → List ℕ → Option (List ObjState)
run_way h states [] = Some states
run_way h states (tx ∷ way) = elim (replayed states (row_of h tx).block) [ None ↦ None | Some next ↦ run_way h next way ]

-- wherever the blocks lead from the states of the first number, those of the last are
abbrev pub IsWay : History → List (List ObjState) → ℕ → List ℕ → ℕ → Type 0
IsWay h all first way last = (states : List ObjState) → run_way h (slice_index_or all first []) way ≡ Some states → slice_get all last ≡ Some states

-- the blocks of the transactions, the last one first, lead from the states of the number that was found, if one was, to those of another
abbrev pub IsWayTo : {A : Type 0} → List (StoredStates A) → ℕ → List ℕ → Option ℕ → Type 0
IsWayTo kept number way found = MatchOption found (Unit {0}) (λ first. (h : History) → IsWay h (states_of h kept) first (reverse way) number)

-- the block of the step leads to the states, where there is a step
abbrev pub LeadsTo : History → List (List ObjState) → Option BlockStep → List ObjState → Type 0
LeadsTo h all None states = Unit {0}
LeadsTo h all (Some step) states = (before : List ObjState) × ((slice_get all step.from ≡ Some before) × (replayed before (row_of h step.tx).block ≡ Some states))

-- the blocks lead from whole states to others
abbrev pub LeadsFrom : {A : Type 0} → History → StoredStates A → List ℕ → List ObjState → Type 0
LeadsFrom h (Whole s) way states = run_way h s.now way ≡ Some states
LeadsFrom h (After step cost) way states = ⊥

-- some more after the others
abbrev pub IsMoreOf : {X : Type 0} → List X → List X → Type 0
IsMoreOf {X} old new = (more : List X) × (new ≡ old ++ more)

-- the states are kept, if they are, after those of the earlier numbers
abbrev pub IsKeptOf : {A : Type 0} → History → List (StoredStates A) → List ObjState → Option (StoredStates A) → Type 0
IsKeptOf h earlier states kept = MatchOption kept (Unit {0}) (λ fresh. state_from h (states_of h earlier) fresh ≡ states)

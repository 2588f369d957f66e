-- What is still open below a cover.
use Rattle.std.specs.Prelude.{◌≡◌, ◌↔◌, ◌≤◌, ◌⊎◌, List, [], ◌∷◌, ◌++◌, length}
use Rattle.std.specs.List.{Contains}
use Rattle.std.specs.List.Sorted.{IsStrictlySortedBy}
use Rattle.std.specs.Cmp.Lexicographic.{slice_cmp}
use Rattle.aud_event.specs.Meanings.{Declared}
use Rattle.aud_history.specs.Histories.{History}
use Rattle.aud_history.specs.Table.{transactions}
use Rattle.aud_witness.specs.declared.decision.Decision.{Decision}
use Rattle.aud_witness.specs.DecisionOrder.{decision_cmp}
use Rattle.aud_witness.specs.Prefixes.{BeginsWith}
use Rattle.aud_witness.specs.Orders.{IsGood}
use Rattle.aud_cover.specs.Closings.{IsCovered, IsInside, IsClosed}

-- p is good, a proper beginning of a member, and the cover has no beginning of it
pub record IsInner (objects : List Declared) (h : History) (cover : List (List Decision)) (p : List Decision) : Type 0 where
  pub good : IsGood objects h p
  pub inside : IsInside cover p
  pub uncovered : IsCovered cover p → ⊥

-- p is empty, or its parent is inner
abbrev pub IsReached : List Declared → History → List (List Decision) → List Decision → Type 0
IsReached objects h cover p = (p ≡ []) ⊎ ((q : List Decision) × ((d : Decision) × ((p ≡ q ++ d ∷ []) × IsInner objects h cover q)))

-- p is good, has no beginning in the cover, is no proper beginning of a member, and is empty or has a parent that is inner
pub record IsOpen (objects : List Declared) (h : History) (cover : List (List Decision)) (p : List Decision) : Type 0 where
  pub good : IsGood objects h p
  pub uncovered : IsCovered cover p → ⊥
  pub outside : IsInside cover p → ⊥
  pub reached : IsReached objects h cover p

-- exactly the open prefixes, each once, the least first
pub record AreOpen (objects : List Declared) (h : History) (cover : List (List Decision)) (list : List (List Decision)) : Type 0 where
  pub each : (p : List Decision) → Contains list p ↔ IsOpen objects h cover p
  pub rising : IsStrictlySortedBy (slice_cmp decision_cmp) list

-- no member has more decisions than the history has transactions
abbrev pub AreShortEnough : History → List (List Decision) → Type 0
AreShortEnough h cover = (p : List Decision) → Contains cover p → length p ≤ length (transactions h)

-- where the cover's members are short enough, the list is empty exactly where the cover closes the empty prefix
abbrev pub IsEmptyWhereClosed : List Declared → History → List (List Decision) → List (List Decision) → Type 0
IsEmptyWhereClosed objects h cover list = AreShortEnough h cover → (list ≡ []) ↔ IsClosed objects h cover []

-- to a list are added exactly the open prefixes that begin with p, each once, the least first
pub record AreAdded (objects : List Declared) (h : History) (cover : List (List Decision)) (p : List Decision) (old new : List (List Decision)) : Type 0 where
  pub more : List (List Decision)
  pub grown : new ≡ old ++ more
  pub each : (q : List Decision) → Contains more q ↔ (IsOpen objects h cover q × BeginsWith p q)
  pub rising : IsStrictlySortedBy (slice_cmp decision_cmp) more

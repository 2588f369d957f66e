-- The rule of the queue of a pool: what was put is what was taken and what the queue still holds.
use Rattle.std.specs.Prelude.{◌≡◌, ℕ, ◌+◌, Bool, true, false, List, [], ◌∷◌, ◌++◌, Option, None, Some}
use Rattle.std.specs.List.Sorted.{IsPermutation}
use mathlib.Core.Option.{some}
use lib.ListN.{get_elem?}
use Rattle.node_pool.specs.declared.rule.Tally.{Tally}

-- the pool and its workers have so many parts of the queue together
abbrev pub all_parts : ℕ
all_parts = 1024

abbrev pub either_stopped : Bool → Bool → Bool
either_stopped true b = true
either_stopped false b = b

module _ {T : Type 0} where
  abbrev pub tally : ℕ → Bool → List T → List T → Bool → Tally T
  tally parts open_ put taken stopped = record { parts = parts; fresh = open_; put = put; taken = taken; stopped = stopped }

  abbrev pub idle : Tally T
  idle = tally 0 false [] [] false

  -- the tasks in the queue, without the marks that end it
  abbrev pub tasks_in : List (Option T) → List T
  tasks_in [] = []
  tasks_in (None ∷ xs) = tasks_in xs
  tasks_in (Some x ∷ xs) = x ∷ tasks_in xs

  -- no task stands after a mark
  abbrev pub MarksLast : List (Option T) → Type 0
  MarksLast [] = Unit {0}
  MarksLast (None ∷ xs) = tasks_in xs ≡ []
  MarksLast (Some x ∷ xs) = MarksLast xs

  abbrev pub NoMark : List (Option T) → Type 0
  NoMark [] = Unit {0}
  NoMark (None ∷ xs) = ⊥
  NoMark (Some x ∷ xs) = NoMark xs

  -- what f gives of each view, joined
  abbrev pub gathered : (Tally T → List T) → List (Tally T) → List T
  gathered f [] = []
  gathered f (v ∷ vs) = f v ++ gathered f vs

  abbrev pub parts_of : List (Tally T) → ℕ
  parts_of [] = 0
  parts_of (v ∷ vs) = v.parts + parts_of vs

  abbrev pub puts : List (Tally T) → List T
  puts views = gathered (λ v. v.put) views

  abbrev pub takes : List (Tally T) → List T
  takes views = gathered (λ v. v.taken) views

  -- a view with no part is idle; while a view is fresh it has every part, and no mark was put; once a view has taken a mark there is no task left
  abbrev pub Fits : List (Option T) → Tally T → Type 0
  Fits items v = (v.parts ≡ 0 → v ≡ idle) × (v.fresh ≡ true → (v.parts ≡ all_parts) × (v.stopped ≡ false) × NoMark items) × (v.stopped ≡ true → tasks_in items ≡ [])

  abbrev pub Shared : List (Option T) → List (Tally T) → Type 0
  Shared items views =
      (parts_of views ≡ all_parts)
      × IsPermutation (puts views) (takes views ++ tasks_in items)
      × MarksLast items
      × ((port : ℕ) (v : Tally T) → get_elem? views port ≡ some v → Fits items v)

  -- the view after the first of xs was taken
  abbrev pub after_take : Tally T → List (Option T) → Tally T
  after_take v [] = v
  after_take v (None ∷ xs) = tally v.parts v.fresh v.put v.taken true
  after_take v (Some x ∷ xs) = tally v.parts v.fresh v.put (v.taken ++ x ∷ []) v.stopped

  abbrev pub after_put : Tally T → List (Option T) → Tally T
  after_put v [] = v
  after_put v (None ∷ xs) = tally v.parts false v.put v.taken v.stopped
  after_put v (Some x ∷ xs) = tally v.parts v.fresh (v.put ++ x ∷ []) v.taken v.stopped

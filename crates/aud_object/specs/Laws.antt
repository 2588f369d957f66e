-- The laws of the tables, and those that tie replays to legality.
use Rattle.std.specs.Prelude.{◌≡◌, ◌≢◌, ◌↔◌, ℕ, true, false, List, ◌++◌, map, MatchOption}
use Rattle.aud_event.specs.declared.fact.Event.{Event}
use Rattle.aud_event.specs.declared.object.Op.{Op}
use Rattle.aud_event.specs.declared.object.Answer.TheVariants.{Done}
use Rattle.aud_event.specs.Meanings.{Declared}
use Rattle.aud_event.specs.declared.object.OpName.{OpName}
use Rattle.aud_event.specs.Objects.{name_of, is_of_kind, observes}
use Rattle.aud_kinds.specs.Objects.{ObjState, kind_of, answer_of, after_op, opening_of, on_object, IsLegal}
use Rattle.aud_object.specs.Executions.{AreExecutions, states_after, IsLegalFrom}
use Rattle.aud_object.specs.Blocks.{BlockOf, events_of_block, AreThere}
use Rattle.aud_object.specs.Replayed.{replayed}

-- whether objects that hold the state have the operation
abbrev pub IsOf : ObjState → Op → Type 0
IsOf s op = is_of_kind (kind_of s) (name_of op) ≡ true

-- each operation that does not observe changes some state of its kind, with some arguments
abbrev pub EachOtherChanges : Type 0
EachOtherChanges =
    (n : OpName) → observes n ≡ false → (op : Op) × ((s : ObjState) × ((name_of op ≡ n) × IsOf s op × (after_op s op ≢ s)))

-- each operation that observes is answered differently in two states of its kind, with some arguments
abbrev pub EachObservingTells : Type 0
EachObservingTells =
    (n : OpName) → observes n ≡ true → (op : Op) × ((s : ObjState) × ((t : ObjState) × ((name_of op ≡ n) × IsOf s op × IsOf t op × (answer_of s op ≢ answer_of t op))))

-- an operation of another kind is done at once, and changes nothing
abbrev pub OtherKindsStay : Type 0
OtherKindsStay = (s : ObjState) (op : Op) → is_of_kind (kind_of s) (name_of op) ≡ false → (answer_of s op ≡ Done) × (after_op s op ≡ s)

-- a replay fails exactly where the block's events are not legal, and else leads to the states after them
abbrev pub ReplayIsLegality : Type 0
ReplayIsLegality = (states : List ObjState) (block : BlockOf) → AreThere states block.executions →
    MatchOption (replayed states block)
    (IsLegalFrom states (events_of_block block) → ⊥)
    (λ after. IsLegalFrom states (events_of_block block) × (after ≡ states_after states (events_of_block block)))

-- from the opening states on, legal is what is legal for the plan
abbrev pub OpeningIsLegality : Type 0
OpeningIsLegality = (objects : List Declared) (es : List Event) → IsLegal objects es ↔ IsLegalFrom (map opening_of objects) es

-- on each object the events are executions, none without its response
abbrev pub AreExecutionsOnEach : List Event → Type 0
AreExecutionsOnEach es = (ob : ℕ) → AreExecutions (on_object ob es)

-- events after whole executions are legal exactly where both are, the later ones from the states after the earlier ones
abbrev pub LegalityIsByParts : Type 0
LegalityIsByParts = (states : List ObjState) (es later : List Event) → AreExecutionsOnEach es →
    (IsLegalFrom states (es ++ later) ↔ (IsLegalFrom states es × IsLegalFrom (states_after states es) later))
    × (states_after states (es ++ later) ≡ states_after (states_after states es) later)

-- a block after whole executions that are legal: its replay from the states after them decides whether all is legal
abbrev pub BlocksReplayInTurn : Type 0
BlocksReplayInTurn = (states : List ObjState) (es : List Event) (block : BlockOf) → AreExecutionsOnEach es → IsLegalFrom states es → AreThere states block.executions →
    MatchOption (replayed (states_after states es) block)
    (IsLegalFrom states (es ++ events_of_block block) → ⊥)
    (λ after. IsLegalFrom states (es ++ events_of_block block) × (after ≡ states_after states (es ++ events_of_block block)))

-- Well-formedness by states: what each next event of a transaction does to its state, or which rule it breaks.
use Rattle.std.specs.Prelude.{ℕ, Bool, ◌&&◌, if◌then◌else◌, nat_eq, bytes_eq, List, [], ◌∷◌, Result, Ok, Err}
use Rattle.aud_event.specs.declared.object.Op.{Op}
use Rattle.aud_event.specs.declared.object.OpName.{OpName}
use Rattle.aud_event.specs.declared.fact.Event.{Event}
use Rattle.aud_event.specs.declared.fact.Event.TheVariants.{Inv, Ret, TryC, TryA, Commit, Abort}
use Rattle.aud_event.specs.Objects.{name_of, word_of_op}
use Rattle.aud_history.specs.declared.state.TxState.{TxState}
use Rattle.aud_history.specs.declared.state.TxState.TheVariants.{Idle, Pending, TriedCommit, TriedAbort, Ended}
use Rattle.aud_history.specs.declared.rule.Rule.{Rule}
use Rattle.aud_history.specs.declared.rule.Rule.TheVariants.{AfterEnd, InvWhilePending, RetWithoutInv, RetMismatch, TryWhilePending, AfterTry, CommitWithoutTry, AbortWithoutCause}

-- the rules by number
abbrev pub rule_number : Rule → ℕ
rule_number AfterEnd = 1
rule_number InvWhilePending = 2
rule_number RetWithoutInv = 3
rule_number RetMismatch = 4
rule_number TryWhilePending = 5
rule_number AfterTry = 6
rule_number CommitWithoutTry = 7
rule_number AbortWithoutCause = 8

-- a response is that of the pending invocation: on its object, with the word of its operation
abbrev pub is_match : ℕ → Op → ℕ → OpName → Bool
is_match ob op o name = nat_eq o ob && bytes_eq (word_of_op name) (word_of_op (name_of op))

-- what an event does to a state, or the rule that it breaks there
abbrev pub after : TxState → Event → Result TxState Rule
after Idle (Inv ob op) = Ok (Pending ob op)
after Idle (Ret _ _ _) = Err RetWithoutInv
after Idle TryC = Ok TriedCommit
after Idle TryA = Ok TriedAbort
after Idle Commit = Err CommitWithoutTry
after Idle Abort = Err AbortWithoutCause
after (Pending ob op) (Inv _ _) = Err InvWhilePending
after (Pending ob op) (Ret o name _) = if is_match ob op o name then Ok Idle else Err RetMismatch
after (Pending ob op) TryC = Err TryWhilePending
after (Pending ob op) TryA = Err TryWhilePending
after (Pending ob op) Commit = Err CommitWithoutTry
after (Pending ob op) Abort = Ok Ended
after TriedCommit (Inv _ _) = Err AfterTry
after TriedCommit (Ret _ _ _) = Err AfterTry
after TriedCommit TryC = Err AfterTry
after TriedCommit TryA = Err AfterTry
after TriedCommit Commit = Ok Ended
after TriedCommit Abort = Ok Ended
after TriedAbort (Inv _ _) = Err AfterTry
after TriedAbort (Ret _ _ _) = Err AfterTry
after TriedAbort TryC = Err AfterTry
after TriedAbort TryA = Err AfterTry
after TriedAbort Commit = Err CommitWithoutTry
after TriedAbort Abort = Ok Ended
after Ended _ = Err AfterEnd

-- the state after a list of events, or the first rule that is broken
abbrev pub run : TxState → List Event → Result TxState Rule
run s [] = Ok s
run s (e ∷ es) = elim (after s e) [ Ok next ↦ run next es | Err rule ↦ Err rule ]

-- no rule is broken
abbrev pub Passes : TxState → List Event → Type 0
Passes s [] = Unit {0}
Passes s (e ∷ es) = elim (after s e) [ Ok next ↦ Passes next es | Err _ ↦ ⊥ ]

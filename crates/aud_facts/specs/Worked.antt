-- Worked sets of facts: what their status is, and what the history of a sealed one.
use Rattle.std.specs.Prelude.{◌≡◌, ℕ, pos, List, [], ◌∷◌, refl}
use Rattle.aud_event.specs.declared.object.Op.TheVariants as op
use Rattle.aud_event.specs.declared.object.OpName.TheVariants as word
use Rattle.aud_event.specs.declared.object.Answer.TheVariants.{Done, Int}
use Rattle.aud_event.specs.declared.fact.Event.{Event}
use Rattle.aud_event.specs.declared.fact.Event.TheVariants.{Inv, Ret, TryC, Commit}
use Rattle.aud_event.specs.declared.fact.Fact.{Fact}
use Rattle.aud_event.specs.declared.fact.Fact.TheVariants.{Rec, End}
use Rattle.aud_facts.specs.declared.status.Kind.TheVariants.{TwoRecords, StampTwice, TwoCounts, PastCount, StampOrder}
use Rattle.aud_facts.specs.declared.status.FactStatus.TheVariants.{Conflict, Waiting, Gap, Sealed}
use Rattle.aud_facts.specs.Status.{fact_status, hist}

-- a record of log l at place a, with stamp s, of transaction t
abbrev rec : ℕ → ℕ → ℕ → ℕ → Event → Fact
rec l a s t e = Rec (record { log = l; at = a; stamp = s; tx = t; event = e })

-- the end mark of log l with count c
abbrev end : ℕ → ℕ → Fact
end l c = End (record { log = l; count = c })

-- T1 writes 1 and commits, and T2 reads it and commits, in one log
abbrev one_log : List Fact
one_log =
    rec 0 0 0 1 (Inv 0 (op.Write (pos 1))) ∷ rec 0 1 1 1 (Ret 0 word.Write Done) ∷ rec 0 2 2 1 TryC ∷ rec 0 3 3 1 Commit ∷
    rec 0 4 4 2 (Inv 0 op.Read) ∷ rec 0 5 5 2 (Ret 0 word.Read (Int (pos 1))) ∷ rec 0 6 6 2 TryC ∷ rec 0 7 7 2 Commit ∷ end 0 8 ∷ []

-- the same with T1 in log 0 and T2 in log 1, but the record at place 1 of log 1, and then other facts
abbrev two_logs : List Fact → List Fact
two_logs late =
    rec 0 0 0 1 (Inv 0 (op.Write (pos 1))) ∷ rec 0 1 1 1 (Ret 0 word.Write Done) ∷ rec 0 2 2 1 TryC ∷ rec 0 3 3 1 Commit ∷
    rec 1 0 4 2 (Inv 0 op.Read) ∷ rec 1 2 6 2 TryC ∷ rec 1 3 7 2 Commit ∷ end 0 4 ∷ end 1 4 ∷ late

empty_log : fact_status 1 (end 0 0 ∷ []) ≡ Sealed
empty_log = refl

whole_log : fact_status 1 one_log ≡ Sealed
whole_log = refl

whole_history : hist one_log ≡ (1, Inv 0 (op.Write (pos 1))) ∷ (1, Ret 0 word.Write Done) ∷ (1, TryC) ∷ (1, Commit) ∷
    (2, Inv 0 op.Read) ∷ (2, Ret 0 word.Read (Int (pos 1))) ∷ (2, TryC) ∷ (2, Commit) ∷ []
whole_history = refl

record_is_missing : fact_status 2 (two_logs []) ≡ Waiting 1
record_is_missing = refl

record_came_late : fact_status 2 (two_logs (rec 1 1 5 2 (Ret 0 word.Read (Int (pos 1))) ∷ [])) ≡ Sealed
record_came_late = refl

two_records_at_a_place : fact_status 1 (rec 0 0 0 1 (Inv 0 (op.Write (pos 2))) ∷ one_log) ≡ Conflict TwoRecords 0 0
two_records_at_a_place = refl

stamp_twice : fact_status 1 (rec 0 0 0 1 TryC ∷ rec 0 1 0 1 Commit ∷ []) ≡ Conflict StampTwice 0 0
stamp_twice = refl

two_counts : fact_status 1 (end 0 9 ∷ one_log) ≡ Conflict TwoCounts 0 8
two_counts = refl

past_its_count : fact_status 1 (rec 0 3 0 1 TryC ∷ end 0 2 ∷ []) ≡ Conflict PastCount 0 3
past_its_count = refl

stamp_falls : fact_status 1 (rec 0 0 1 1 TryC ∷ rec 0 1 0 1 Commit ∷ end 0 2 ∷ []) ≡ Conflict StampOrder 0 1
stamp_falls = refl

stamp_is_missing : fact_status 1 (rec 0 0 1 1 TryC ∷ end 0 1 ∷ []) ≡ Gap 0
stamp_is_missing = refl

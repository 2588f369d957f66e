-- Worked histories: small runs, each named for what it shows.
use Rattle.std.specs.Prelude.{ℕ, ℤ, pos, true, List, [], ◌∷◌, ◌++◌}
use Rattle.aud_event.specs.declared.object.ObjKind.{ObjKind}
use Rattle.aud_event.specs.declared.object.ObjKind.TheVariants as kind
use Rattle.aud_event.specs.declared.object.Op.{Op}
use Rattle.aud_event.specs.declared.object.Op.TheVariants.{Read, Write, Inc, Get, Add, Enq, Deq}
use Rattle.aud_event.specs.declared.object.Answer.{Answer}
use Rattle.aud_event.specs.declared.object.Answer.TheVariants.{Done, Int, Flag, Empty}
use Rattle.aud_event.specs.declared.fact.Event.TheVariants.{Inv, Ret, TryC, Commit, Abort}
use Rattle.aud_event.specs.Meanings.{Declared}
use Rattle.aud_event.specs.Objects.{name_of}
use Rattle.aud_history.specs.Histories.{History}

-- an invocation by transaction t on object ob, and its answer
abbrev pub executed : ℕ → ℕ → Op → Answer → History
executed t ob op answer = (t, Inv ob op) ∷ (t, Ret ob (name_of op) answer) ∷ []

-- t asks to commit, and does
abbrev pub commits : ℕ → History
commits t = (t, TryC) ∷ (t, Commit) ∷ []

-- t asks to commit, and is aborted
abbrev pub is_refused_commit : ℕ → History
is_refused_commit t = (t, TryC) ∷ (t, Abort) ∷ []

-- an object called by one letter, given by its code
abbrev pub declared_as : ℕ → ObjKind → ℤ → Declared
declared_as letter k v = record { name = letter ∷ []; kind = k; opening = v }

-- register x opens at 0
abbrev pub x_at_0 : List Declared
x_at_0 = declared_as 120 kind.Register (pos 0) ∷ []

-- register x opens at 5
abbrev pub x_at_5 : List Declared
x_at_5 = declared_as 120 kind.Register (pos 5) ∷ []

-- registers x and y open at 0
abbrev pub x_and_y_at_0 : List Declared
x_and_y_at_0 = declared_as 120 kind.Register (pos 0) ∷ declared_as 121 kind.Register (pos 0) ∷ []

-- counter c opens at 0
abbrev pub counter_at_0 : List Declared
counter_at_0 = declared_as 99 kind.Counter (pos 0) ∷ []

-- set s opens empty
abbrev pub empty_set : List Declared
empty_set = declared_as 115 kind.SetOf (pos 0) ∷ []

-- queue q opens empty
abbrev pub empty_queue : List Declared
empty_queue = declared_as 113 kind.Queue (pos 0) ∷ []

-- T1 writes 1 to x
abbrev pub one_is_written : History
one_is_written = executed 1 0 (Write (pos 1)) Done

-- T2 reads what T1 committed, and commits
abbrev pub reader_after_commit : History
reader_after_commit = one_is_written ++ commits 1 ++ executed 2 0 Read (Int (pos 1)) ++ commits 2

-- T2 sees x from before T1 and y from after it. That it aborts does not excuse it
abbrev pub torn_read_then_abort : History
torn_read_then_abort =
    executed 2 0 Read (Int (pos 0)) ++ one_is_written ++ executed 1 1 (Write (pos 1)) Done ++ commits 1
    ++ executed 2 1 Read (Int (pos 1)) ++ is_refused_commit 2

-- T2 sees what commit-pending T1 wrote, so T1 commits
abbrev pub pending_commit_is_seen : History
pending_commit_is_seen = one_is_written ++ (1, TryC) ∷ [] ++ executed 2 0 Read (Int (pos 1)) ++ commits 2

-- T2 does not see what commit-pending T1 wrote
abbrev pub pending_commit_is_unseen : History
pending_commit_is_unseen = one_is_written ++ (1, TryC) ∷ [] ++ executed 2 0 Read (Int (pos 0)) ++ commits 2

-- T2 begins after the commit of T1 and misses what it wrote
abbrev pub stale_read_after_commit : History
stale_read_after_commit = one_is_written ++ commits 1 ++ executed 2 0 Read (Int (pos 0)) ++ commits 2

-- T2 sees what T1 wrote, which never asked to commit
abbrev pub live_write_is_seen : History
live_write_is_seen = one_is_written ++ executed 2 0 Read (Int (pos 1)) ++ commits 2

-- T2 reads before T1 commits, which it then does. A beginning of this history is not opaque, the whole is
abbrev pub read_before_commit : History
read_before_commit = one_is_written ++ executed 2 0 Read (Int (pos 1)) ++ commits 1 ++ commits 2

-- T2 takes from the queue what T1 put there, and T3 finds the queue empty
abbrev pub item_is_passed_on : History
item_is_passed_on =
    (2, Inv 0 Deq) ∷ [] ++ executed 1 0 (Enq (pos 5)) Done ++ commits 1 ++ executed 3 0 Deq Empty ++ commits 3
    ++ (2, Ret 0 (name_of Deq) (Int (pos 5))) ∷ [] ++ commits 2

-- T1 writes the opening value, but has to stand after T2 all the same
abbrev pub idle_write_stands_later : History
idle_write_stands_later =
    (1, Inv 0 (Write (pos 5))) ∷ [] ++ executed 2 0 (Write (pos 7)) Done ++ commits 2 ++ executed 3 0 Read (Int (pos 5)) ++ commits 3
    ++ (1, Ret 0 (name_of (Write (pos 5))) Done) ∷ [] ++ commits 1

-- T2 sees the count of commit-pending T1, and T3 after it does not
abbrev pub count_is_lost : History
count_is_lost =
    executed 1 0 Inc Done ++ (1, TryC) ∷ [] ++ executed 2 0 Get (Int (pos 1)) ++ commits 2 ++ executed 3 0 Get (Int (pos 0)) ++ commits 3

-- T1 and T2 both find 3 absent; T2 aborts
abbrev pub both_find_it_absent : History
both_find_it_absent =
    executed 1 0 (Add (pos 3)) (Flag true) ++ executed 2 0 (Add (pos 3)) (Flag true) ++ commits 1 ++ is_refused_commit 2

-- an answer that nobody asked for
abbrev pub answer_unasked : History
answer_unasked = (1, Ret 0 (name_of Read) (Int (pos 0))) ∷ []

-- T1 aborts with nothing pending
abbrev pub abort_while_idle : History
abort_while_idle = one_is_written ++ (1, Abort) ∷ []

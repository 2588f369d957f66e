use Rattle.std.proofs.Common.{◌≡◌, ◌≤◌, ◌+◌, ◌++◌, map, length, vec_len, vec_capacity}
use Rattle.aud_split.proofs.ends.note_all.Given as goal

abbrev pub invariant-loop-task : goal.invariant-loop-task
invariant-loop-task g l =
    (l.drawn.items ≡ l.initial.drawn.items ++ map (λ t. (l.worker, t)) l.yielded)
    × (vec_len l.drawn ≡ vec_len l.initial.drawn + length l.yielded)
    × (vec_capacity l.initial.drawn ≤ vec_capacity l.drawn)

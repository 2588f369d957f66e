-- One read, one write, and what many of them come to.
use Rattle.std.specs.Prelude.{◌≡◌, ◌≤◌, ◌<◌, ◌++◌, ◌==◌, ◌&&◌, ℕ, Bool, List, [], length, take, nat_lt, if◌then◌else◌}

-- a read took n bytes off the front of what was left; where it took none into a buffer with room, none are left
pub record ReadsInto (old new buf : List ℕ) (n : ℕ) : Type 0 where
  pub within : n ≤ length buf
  pub bytes : old ≡ take n buf ++ new
  pub ends : n ≡ 0 → 0 < length buf → new ≡ []

-- a write took the first n bytes of the slice
pub record Writes (old new buf : List ℕ) (n : ℕ) : Type 0 where
  pub within : n ≤ length buf
  pub bytes : new ≡ old ++ take n buf

-- to take nothing of something is one failure
abbrev pub nothing_taken : ℕ → ℕ → ℕ
nothing_taken n len = if (n == 0) && nat_lt 0 len then 1 else 0

-- a beginning of the text went out, and no more
pub record BeginsOnly (old new text : List ℕ) : Type 0 where
  pub went : List ℕ
  pub stayed : List ℕ
  pub parts : text ≡ went ++ stayed
  pub bytes : new ≡ old ++ went

-- what a sink in memory holds, and whether it failed
pub record HeldBytes : Type 0 where
  pub bytes : List ℕ
  pub failed : Bool

-- The limits of the formats, in figures. Every limit is on one fact or on the plan; none is on totals.
use Rattle.std.specs.Prelude.{ℕ, ℤ, pos, negsuc}
use Rattle.aud_event.specs.declared.signature.Format.{Format}
use Rattle.aud_event.specs.declared.signature.Format.TheVariants.{One, Two}

-- a plan has at least one log, and at most these
abbrev pub most_logs : ℕ
most_logs = 64

abbrev pub most_objects : ℕ
most_objects = 256

-- in bytes; a name has at least one
abbrev pub longest_name : ℕ
longest_name = 32

-- places in a log are below this, and an end mark counts at most these
abbrev pub places : ℕ
places = 4096

-- stamps are below this
abbrev pub stamps : ℕ
stamps = 262144

-- transactions' numbers are below this, by format
abbrev pub transactions : Format → ℕ
transactions One = 1024
transactions Two = 4096

-- and below this in any
abbrev pub most_transactions : ℕ
most_transactions = 4096

-- a counter opens at -2^62 at the least
abbrev pub least_opening : ℤ
least_opening = negsuc 4611686018427387903

-- and at 2^62 at the most
abbrev pub greatest_opening : ℤ
greatest_opening = pos 4611686018427387904

-- a counter is added at least this at once, -2^31
abbrev pub least_addend : ℤ
least_addend = negsuc 2147483647

-- and at most this, 2^31
abbrev pub greatest_addend : ℤ
greatest_addend = pos 2147483648

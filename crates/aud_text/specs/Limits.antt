-- The limits of texts, in bytes.
use Rattle.std.specs.Prelude.{ℕ}

-- a line of a header, of an object or of a fact, without its line feed
abbrev pub longest_line : ℕ
longest_line = 4096

-- an order text
abbrev pub longest_order : ℕ
longest_order = 32768

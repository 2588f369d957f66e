-- The limit of a certificate's lines, in bytes.
use Rattle.std.specs.Prelude.{ℕ}

-- a line, without its line feed
abbrev pub longest_cert_line : ℕ
longest_cert_line = 65536

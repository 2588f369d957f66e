use Rattle.std.specs.Io.KnownBytes.{Consumes}
use Rattle.cli_lines.proofs.reading.read_whole.Given as goal

-- what was read so far and what is left are what there was
abbrev pub invariant-loop : goal.invariant-loop
invariant-loop g l = Consumes (g.R.Read.remaining l.initial.reader) (g.R.Read.remaining l.reader) l.bytes.items

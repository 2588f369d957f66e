use Rattle.std.proofs.Common.{rules}
use Rattle.cli_lines.proofs.Consuming.{unread, read_more, read_none, read_all}
use Rattle.cli_lines.proofs.reading.read_whole.Goals.{in-Ok+else-is_err, in-Err}
use Rattle.cli_lines.proofs.reading.read_whole.Goals as goal

pub loop-init : goal.loop-init
loop-init g c = search (rules, unread)

pub returns-in-Ok-eq0-clause-bytes : goal.returns-in-Ok-eq0-clause-bytes
returns-in-Ok-eq0-clause-bytes g c = read_all _ _ _ c.read.result c.loop.bytes.items c.read.new.buf c.loop.invariant c.read.ensures.bytes (search rules) (search rules)

pub loop-preserved : goal.loop-preserved
loop-preserved g c = elim c.match-read.branch [
  | in-Ok+else-is_err w ↦ read_more _ _ _ c.read.result w.in-Ok.count c.loop.bytes.items c.read.new.buf c.match-read.bytes.items c.loop.invariant c.read.ensures.bytes w.in-Ok.is (search rules)
  | in-Err w ↦ read_none _ _ _ c.read.result w.in-Err.error c.loop.bytes.items c.read.new.buf c.match-read.bytes.items c.loop.invariant c.read.ensures.bytes w.in-Err.is (search rules)
]

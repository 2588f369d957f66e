use Rattle.std.proofs.Common.{take, All}
use Rattle.aud_node.specs.Logs.{written_of}
use Rattle.aud_node.specs.Meanings.{Agrees}
use Rattle.aud_node.proofs.desk.Desk.agrees_with_all.Given as goal

abbrev pub invariant-loop-pass : goal.invariant-loop-pass
invariant-loop-pass g l = All (Agrees (written_of l.self.log.items)) (take l.pass-index l.passes)

use Rattle.aud_cert.proofs.Recording.{kids-line, silent-line, same-line}
use Rattle.aud_cert.proofs.lines.LinesRecorderUsize.note.Goals as goal

pub add-requires : goal.add-requires
add-requires g c = kids-line c.args.self.now c.args.prefix.now c.in_ok-own.own c.in_ok-own.ensures (rw c.in-Kids.is at c.requires)

pub add-requires-in-Silent : goal.add-requires-in-Silent
add-requires-in-Silent g c = silent-line c.args.self.now c.args.prefix.now c.in_ok-own.own c.in_ok-own.ensures c.in-Silent.decision (rw c.in-Silent.is at c.requires)

pub add-requires-in-Same : goal.add-requires-in-Same
add-requires-in-Same g c = same-line c.args.self.now c.args.prefix.now c.in_ok-own.own c.in_ok-own.ensures c.in-Same.note c.in_ok-other-in-Same.other c.in_ok-other-in-Same.ensures (rw c.in-Same.is at c.requires)

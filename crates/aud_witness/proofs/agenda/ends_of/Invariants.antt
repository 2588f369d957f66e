use Rattle.std.proofs.Common.{◌≡◌, take}
use Rattle.aud_witness.specs.Agendas.{ends_from}
use Rattle.aud_witness.proofs.agenda.ends_of.Given as goal

abbrev pub invariant-loop-place : goal.invariant-loop-place
invariant-loop-place g l = l.ends.items ≡ ends_from 0 (take l.place l.fn.rows)

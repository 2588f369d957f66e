use Rattle.std.proofs.Common.{◌≡◌, length}
use Rattle.cli_audit.specs.Seats.{Each}
use Rattle.cli_audit.proofs.mesh.open_all.Given as goal

abbrev pub invariant-loop-number : goal.invariant-loop-number
invariant-loop-number l = (length l.all.items ≡ l.number) × Each (λ k o. o.number ≡ k) l.all.items

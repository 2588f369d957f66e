use Rattle.cli_audit.proofs.Connecting.{ConnectedTo}
use Rattle.cli_audit.proofs.meeting.connect.Given as goal

abbrev pub invariant-loop-place : goal.invariant-loop-place
invariant-loop-place g l = ConnectedTo l.place l.initial.crews l.crews

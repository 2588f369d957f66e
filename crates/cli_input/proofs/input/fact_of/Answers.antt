use Rattle.std.proofs.Common.{◌≡◌, Ok, rules}
use Rattle.cli_input.specs.Inputs.{fact_at}
use Rattle.cli_input.proofs.Checked.{read_passes}
use Rattle.cli_input.proofs.input.fact_of.Goals as goal

pub returns-in-Ok-clause-sound : goal.returns-in-Ok-clause-sound
returns-in-Ok-clause-sound c =
    let read : fact_at c.args.plan.now c.args.number c.args.line.now ≡ Ok c.in-Ok.fact = search rules in
    read_passes c.args.plan.now c.in-Ok.fact c.args.number c.args.line.now read

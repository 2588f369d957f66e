use Rattle.aud_cli.proofs.Ending.{said-outcome}
use Rattle.aud_cli.proofs.command.run_command.Goals as goal

pub returns-in-Ok : goal.returns-in-Ok
returns-in-Ok g c = said-outcome c.args.command.now c.args.input.items c.in-Ok.answer.0.items c.in-Ok.answer.1 c.in-Ok.ensures.answer

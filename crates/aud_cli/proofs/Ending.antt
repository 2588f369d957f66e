-- A command that says a line ends by the line, and so it did not fail.
use Rattle.std.specs.Prelude.{ℕ, List}
use Rattle.cli_lines.specs.declared.ended.Ended.{Ended}
use Rattle.cli_lines.specs.declared.ended.Ended.TheVariants as ended
use Rattle.cli_lines.specs.declared.job.Command.{Command}
use Rattle.cli_lines.specs.declared.job.Command.TheVariants.{Audit, Lines}
use Rattle.cli_lines.proofs.Ends.{line-ends}
use Rattle.aud_cli.specs.Commands.{CommandSays, CommandOutcome}

pub said-outcome : (command : Command) (input out : List ℕ) (e : Ended) → CommandSays command input out e → CommandOutcome command input out e
said-outcome command input out ended.Opaque says = says
said-outcome command input out ended.NotOpaque says = says
said-outcome command input out ended.Unfinished says = says
said-outcome command input out ended.Refused says = says
said-outcome (Lines job) input out (ended.Failed cause) says = absurd (line-ends says.0 cause says.1.2)
said-outcome (Audit job) input out (ended.Failed cause) says = absurd (line-ends says.0 cause says.1.1.1)

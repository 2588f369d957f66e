use Rattle.std.proofs.Common.{◌≡◌, ◌∙◌, ◌⊎◌, List, ap, subst, map, string_bytes, MatchResult}
use Rattle.clap.specs.Words.{Text}
use Rattle.cli_words.specs.Orders.{order_joined}
use Rattle.cli_words.specs.Words.{AskedIn}
use Rattle.cli_words.specs.declared.usage.Usage.TheVariants.{OutOfMemory}
use Rattle.cli_lines.specs.declared.job.Command.{Command}
use Rattle.cli_words.proofs.words.job_of.Goals as goal

pub returns-in-Ok-clause-asked : goal.returns-in-Ok-clause-asked
returns-in-Ok-clause-asked c =
    let same : map string_bytes c.deref.result.now ≡ order_joined (map string_bytes c.args.words.now) = ap (map string_bytes) c.deref.ensures.value ∙ c.in-Ok.ensures in
    subst (λ (ws : List Text). MatchResult c.job_in.result (AskedIn ws) (λ usage. (usage ≡ OutOfMemory) ⊎ ((command : Command) → AskedIn ws command → ⊥))) same c.job_in.ensures.asked

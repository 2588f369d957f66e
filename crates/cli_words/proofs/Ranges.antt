-- Commands that words ask for have their numbers in range.
use Rattle.std.specs.Prelude.{◌≤◌, ℕ, List, Option, Some, None, IfSome}
use Rattle.clap.specs.Words.{Row, Text}
use Rattle.cli_lines.specs.Jobs.{IsInRange, most_nodes, most_workers, most_budget}
use Rattle.cli_words.specs.Words.{Commands, IsBudget, IsCount}
use Rattle.cli_lines.specs.declared.job.Command.{Command}
use Rattle.cli_lines.specs.declared.job.Command.TheVariants.{Lines, Audit}

count-range : (most : ℕ) (o : Option Text) (n : ℕ) → IsCount most o n → (1 ≤ n) × (n ≤ most)
count-range most None n is = absurd is
count-range most (Some t) n is = (is.1, is.0.1.1)

budget-range : (o : Option Text) (b : Option ℕ) → IsBudget o b → IfSome b (λ n. n ≤ most_budget)
budget-range None None is = tt
budget-range None (Some n) is = absurd is
budget-range (Some t) None is = absurd is
budget-range (Some t) (Some n) is = is.1.1

pub in-range : (name : Text) (rows : List Row) (command : Command) → Commands name rows command → IsInRange command
in-range name rows (Lines job) asks = tt
in-range name rows (Audit job) asks = (count-range most_nodes _ job.nodes asks.1.0, (count-range most_workers _ job.workers asks.1.1.0, budget-range _ job.budget asks.1.1.1))

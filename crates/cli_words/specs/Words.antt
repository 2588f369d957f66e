-- What the words ask for.
use Rattle.std.specs.Prelude.{◌≡◌, ◌≤◌, ℕ, List, [], Option, Some, None, Bool, true, false, bytes_eq, codes, ⊤, IfSome, string_bytes}
use Rattle.std.specs.Str.Parse.{IsNumeral, digits_value, without_leading_plus}
use Rattle.clap.specs.Words.{Row, Text, first_of, subcommand_of, fault_of}
use Rattle.cli_words.specs.CommandLine.{opaq_app}
use Rattle.cli_words.specs.Orders.{order_joined}
use Rattle.cli_lines.specs.declared.job.Job.{Job}
use Rattle.cli_lines.specs.declared.job.Job.TheVariants.{Check, Decide, Verify, Refute, Confirm}
use Rattle.cli_lines.specs.declared.job.AuditJob.{AuditJob}
use Rattle.cli_lines.specs.declared.job.Command.{Command}
use Rattle.cli_lines.specs.declared.job.Command.TheVariants.{Lines, Audit}
use Rattle.cli_words.specs.declared.usage.Usage.{Usage}
use Rattle.cli_words.specs.declared.usage.Usage.TheVariants.{Printed, OutOfMemory}
use Rattle.cli_lines.specs.Jobs.{most_nodes, most_workers, most_budget}

-- the text is digits, perhaps after a plus, and they say the number, which is at most so great
abbrev pub IsNumberUpTo : ℕ → Text → ℕ → Type 0
IsNumberUpTo most t n = IsNumeral 10 (without_leading_plus t) × ((n ≡ digits_value 10 (without_leading_plus t)) × (n ≤ most))

-- an option that may be absent: how many expansions there may be at most
abbrev pub IsBudget : Option Text → Option ℕ → Type 0
IsBudget None None = ⊤
IsBudget None (Some n) = ⊥
IsBudget (Some t) None = ⊥
IsBudget (Some t) (Some n) = IsNumberUpTo most_budget t n

-- an option that stands: how many there are, at least 1 and at most so many
abbrev pub IsCount : ℕ → Option Text → ℕ → Type 0
IsCount most None n = ⊥
IsCount most (Some t) n = IsNumberUpTo most t n × (1 ≤ n)

-- a flag that stands
abbrev pub is_true : Option Text → Bool
is_true None = false
is_true (Some t) = bytes_eq t (codes "true")

-- a subcommand and its options ask for the job
abbrev pub AsksFor : Text → List Row → Job → Type 0
AsksFor name rows (Check order) = (name ≡ codes "check") × (first_of (codes "order") rows ≡ Some (string_bytes order))
AsksFor name rows (Decide budget certifying) = (name ≡ codes "decide") × (IsBudget (first_of (codes "budget") rows) budget × (certifying ≡ is_true (first_of (codes "cert") rows)))
AsksFor name rows Verify = name ≡ codes "verify"
AsksFor name rows Refute = name ≡ codes "refute"
AsksFor name rows Confirm = name ≡ codes "confirm"

-- a subcommand and its options ask for the audit
abbrev pub AsksForAudit : Text → List Row → AuditJob → Type 0
AsksForAudit name rows job = (name ≡ codes "audit") × (IsCount most_nodes (first_of (codes "nodes") rows) job.nodes × (IsCount most_workers (first_of (codes "workers") rows) job.workers × IsBudget (first_of (codes "budget") rows) job.budget))

abbrev pub Commands : Text → List Row → Command → Type 0
Commands name rows (Lines job) = AsksFor name rows job
Commands name rows (Audit job) = AsksForAudit name rows job

-- `clap` takes the words, and the subcommand that it reads in them, with its options, asks for the command
pub record AskedIn (words : List Text) (command : Command) : Type 0 where
  pub name : Text
  pub rows : List Row
  pub taken : fault_of opaq_app words ≡ []
  pub read : subcommand_of opaq_app words ≡ Some (name, rows)
  pub asks : Commands name rows command

-- the same where a text of an order may begin with a hyphen
abbrev pub Asked : List Text → Command → Type 0
Asked words command = AskedIn (order_joined words) command

-- what the user reads
abbrev pub usage_text : Usage → List ℕ
usage_text (Printed text) = string_bytes text
usage_text OutOfMemory = codes "opaq: out of memory\n"

use Rattle.std.proofs.Common.{◌≡◌, ◌+◌, ◌≤◌, length, nat_lt, All, None}
use Rattle.std.specs.List.{filter}
use Rattle.aud_event.specs.Facts.{first_fact_fault}
use Rattle.aud_text.specs.Lines.{filled_left}
use Rattle.cli_input.specs.Inputs.{facts_read, lines_after}
use Rattle.cli_input.proofs.Read.{onto}
use Rattle.cli_input.proofs.input.read_facts.Given as goal

abbrev pub invariant-loop-next : goal.invariant-loop-next
invariant-loop-next l = record {
  same : facts_read l.plan (lines_after l.used l.text) ≡ onto l.facts.items (facts_read l.plan (filter (λ f. nat_lt l.used f.ends) (filled_left (length l.text) l.number l.rest)));
  within : length l.rest ≤ length l.text;
  room : l.number + length l.rest ≤ length l.text + 1;
  sound : All (λ f. first_fact_fault l.plan f ≡ None) l.facts.items;
}

abbrev pub decreases-loop-next : goal.decreases-loop-next
decreases-loop-next l = length (filled_left (length l.text) l.number l.rest)

use Rattle.std.proofs.Common.{◌≡◌, ◌≤◌, drop, min}
use Rattle.std.specs.Str.Parse.{digits_value, digits_value_after}
use Rattle.aud_text.proofs.word.capped_value.Given as goal
use Rattle.aud_event.specs.Limits.{most_transactions}

abbrev pub invariant-loop-digit : goal.invariant-loop-digit
invariant-loop-digit l = record {
  so_far : min (digits_value_after 10 l.value (drop l.digit-index l.digits)) most_transactions ≡ min (digits_value 10 l.digits) most_transactions;
  small : l.value ≤ most_transactions;
}

-- The facts of a share of the logs.
use Rattle.std.specs.Prelude.{ℕ, ◌%◌, Bool, nat_eq, List}
use Rattle.std.specs.List.{filter}
use Rattle.aud_event.specs.declared.fact.Fact.{Fact}
use Rattle.aud_event.specs.declared.fact.Fact.TheVariants.{Rec, End}

-- the number of the fact's log, divided by how many shares there are, leaves the number of the share
abbrev pub is_of_share : ℕ → ℕ → Fact → Bool
is_of_share shares number (Rec r) = nat_eq (r.log % shares) number
is_of_share shares number (End e) = nat_eq (e.log % shares) number

-- the facts of the share
abbrev pub share_of : ℕ → ℕ → List Fact → List Fact
share_of shares number facts = filter (is_of_share shares number) facts

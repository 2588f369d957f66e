-- The numbers of the kinds of conflict.
use Rattle.std.specs.Prelude.{ℕ}
use Rattle.aud_facts.specs.declared.status.Kind.{Kind}
use Rattle.aud_facts.specs.declared.status.Kind.TheVariants.{TwoRecords, StampTwice, TwoCounts, PastCount, StampOrder}

abbrev pub kind_number : Kind → ℕ
kind_number TwoRecords = 1
kind_number StampTwice = 2
kind_number TwoCounts = 3
kind_number PastCount = 4
kind_number StampOrder = 5

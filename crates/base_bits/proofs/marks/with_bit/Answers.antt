use Rattle.std.specs.Prelude.{nat_eq}
use Rattle.std.specs.Int.{w64}
use Rattle.std.proofs.Common.{ap}
use Rattle.std.proofs.lemmas.Nat.Bits.{bit_at_set_same, bit_at_set_other}
use Rattle.base_bits.proofs.marks.with_bit.Goals as goal

pub returns : goal.returns
returns c = (ap (λ n. nat_eq n 1) (bit_at_set_same w64 c.args.word c.args.place c.requires), (λ i below ne. bit_at_set_other w64 c.args.word c.args.place c.requires i ne))

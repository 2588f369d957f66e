use Rattle.std.proofs.Common.{◌∙◌, arith}
use Rattle.aud_text.proofs.Digits.{one_more}
use Rattle.aud_text.proofs.word.capped_value.Goals as goal

pub loop-digit-preserved : goal.loop-digit-preserved
loop-digit-preserved c = record {
  so_far = one_more c.args.digits.now c.loop-digit.digit-index c.loop-digit.value c.min-value.result (omega arith) c.requires c.min-value.ensures ∙ c.loop-digit.invariant.so_far;
  small = omega (arith, c.min-value.ensures);
}

use Rattle.std.specs.Prelude.{◌≡◌, ℤ, pos, Bool, true, false, ◌&&◌}
use Rattle.std.proofs.Common.{cond, subst, w64}
use Rattle.std.proofs.lemmas.Int.{to_z-of_z}
use Rattle.std.proofs.lemmas.Option.{IfSome_then}
use Rattle.judge_sums.specs.Rests.{HasRest}
use Rattle.judge_sums.specs.declared.remainder.Remainder.{Remainder}
use Rattle.judge_sums.proofs.remainder.RemainderEstimate.share.Goals as goal

either : (e : Remainder) (w : ℤ) (b : Bool) → HasRest e w × HasRest e (pos 0) → HasRest e (cond b w (pos 0))
either e w true h = h.0
either e w false h = h.1

pub returns-in_default : goal.returns-in_default
returns-in_default c = IfSome_then c.unknown.result c.unknown.ensures (λ own has k b p q. subst (λ w. HasRest own (cond (k && b) w (pos 0))) (to_z-of_z w64 c.args.weight c.ranges.weight) (either own _ (k && b) has))

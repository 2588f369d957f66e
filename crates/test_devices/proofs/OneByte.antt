-- A read of one byte.
use Rattle.std.proofs.Common.{◌≡◌, ◌<◌, ◌+◌, ℕ, List, [], ◌∷◌, length, take, drop, get_or, slice_set, refl, arith, add-one, drop-cons}
use Rattle.std.proofs.lemmas.Grind.{common_steps}
use Rattle.aud_report.specs.Devices.{ReadsInto}

front : (buf : List ℕ) (x : ℕ) → 0 < length buf → take 1 (slice_set buf 0 x) ≡ x ∷ []
front [] x h = absurd (omega arith)
front (b ∷ bs) x h = refl

pub one_byte : (xs buf : List ℕ) (at x : ℕ) → at < length xs → 0 < length buf → x ≡ get_or xs at 0 → ReadsInto (drop at xs) (drop (at + 1) xs) (slice_set buf 0 x) 1
one_byte xs buf at x h some is = record {
  within = grind (arith, common_steps);
  bytes = rw (front buf x some, is, add-one, drop-cons xs at 0) refl;
  ends = λ e g. absurd (omega arith);
}

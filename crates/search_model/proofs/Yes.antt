-- What an answer says that is yes or no.
use Rattle.std.specs.Prelude.{◌≡◌, Bool, true, false, refl}
use Rattle.aud_event.specs.declared.object.Answer.{Answer}
use Rattle.aud_event.specs.declared.object.Answer.TheVariants.{Done, Int, Flag, Empty}
use Rattle.aud_object.specs.Replayed.{same_answer}
use Rattle.search_model.specs.Quantities.{is_yes}

pub yes-of : (b : Bool) (answer : Answer) → same_answer (Flag b) answer ≡ true → is_yes answer ≡ b
yes-of true (Flag true) is = refl
yes-of true (Flag false) is = absurd (cc)
yes-of false (Flag true) is = absurd (cc)
yes-of false (Flag false) is = refl
yes-of true Done is = absurd (cc)
yes-of true (Int v) is = absurd (cc)
yes-of true Empty is = absurd (cc)
yes-of false Done is = absurd (cc)
yes-of false (Int v) is = absurd (cc)
yes-of false Empty is = absurd (cc)

use Rattle.std.specs.Prelude.{ℤ, ◌-ℤ◌, ◌≡◌, Option, Some, None, IfSome}
use Rattle.std.specs.Option.{SomeIff}
use Rattle.std.proofs.Common.{sym, ◌∙◌, subst, rules, w64, arith}
use Rattle.std.proofs.lemmas.Int.{ints, to_z-of_z}
use mir.Val.{SFits}
use Rattle.search_model.specs.declared.quantity.Quantity.TheVariants.{Count}
use Rattle.judge_sums.specs.Laws.{ComesTo}
use Rattle.judge_sums.specs.Room.{HasRoomForAll}
use Rattle.judge_sums.proofs.Lawful.{count-comes}
use Rattle.judge_sums.proofs.law.counted.Goals as goal

if-some : (o : Option ℤ) (P : Type 0) (Q : ℤ → Type 0) (m n : ℤ) → SomeIff o P m → m ≡ n → Q n → IfSome o Q
if-some None P Q m n is same q = tt
if-some (Some x) P Q m n is same q = subst Q (sym (is.1 ∙ same)) q

pub returns : goal.returns
returns g c =
    let f = c.args.facts.now in
    let x = c.args.counter in
    let v0 = c.in_ok-opening.opening in
    let w = c.in_ok-wanted.wanted in
    let fits_v0 : SFits w64 v0 = search rules in
    let fits_w : SFits w64 w = search rules in
    let room : HasRoomForAll f x v0 = subst (HasRoomForAll f x) (to_z-of_z w64 v0 fits_v0) (c.has_room.ensures c.if-not-has_room.false) in
    let comes : ComesTo f (Count x) c.args.reader (w -ℤ v0) =
    count-comes f c.history-history.ensures.sound c.history-history.ensures.within c.args.reader x v0 w c.in_ok-opening.ensures c.in_ok-wanted.ensures room in
    if-some c.checked_sub.result _ (ComesTo f (Count x) c.args.reader) _ (w -ℤ v0) c.checked_sub.ensures (omega (arith, ints, to_z-of_z w64 v0 fits_v0, to_z-of_z w64 w fits_w)) comes

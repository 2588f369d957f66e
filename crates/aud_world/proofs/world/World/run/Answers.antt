use Rattle.std.proofs.Common.{refl, sym, ◌∙◌, subst, List, length, ◌≡◌, take}
use Rattle.std.specs.List.{AllByRecursion}
use Rattle.std.proofs.lemmas.Option.{slice_get_read}
use Rattle.std.proofs.lemmas.List.{take_all}
use Rattle.aud_world.specs.Moves.{IsTrueMove}
use Rattle.aud_world.specs.Worlds.{WorldOf}
use Rattle.aud_world.specs.Faults.{IsFaultOf}
use Rattle.aud_world.specs.Headline.{KeepsHeadline}
use Rattle.aud_world.specs.declared.moves.Move.{Move}
use Rattle.aud_world.proofs.Running.{Leads, Allows, leads_more, led_back, all_more, keeps, allows_more}
use Rattle.aud_world.proofs.world.World.run.Goals as goal

-- the move at the place is made, and it was true
pub loop-place-preserved : goal.loop-place-preserved
loop-place-preserved g c = (
  leads_more c.args.self.now c.loop-place.self c.step.new.self c.args.moves.now c.loop-place.place c.index-moves-place.result c.loop-place-test.true c.index-moves-place.is c.loop-place.invariant.0 c.in_default.ensures.moved,
  all_more (IsTrueMove c.args.self.now.plan) c.args.moves.now c.loop-place.place c.index-moves-place.result c.loop-place-test.true c.index-moves-place.is c.loop-place.invariant.1
      (subst (λ p. IsTrueMove p c.index-moves-place.result) c.loop-place.invariant.2 c.in_default.ensures.truth),
  c.step.ensures.plan ∙ c.loop-place.invariant.2,
  c.step.ensures.len ∙ c.loop-place.invariant.3,
  allows_more c.args.self.now c.loop-place.self c.args.moves.now c.loop-place.place c.index-moves-place.result c.loop-place-test.true c.index-moves-place.is c.loop-place.invariant.0 c.loop-place.invariant.2 c.loop-place.invariant.4 c.in_default.ensures.fault,
)

-- of the moves before the one that is refused
pub returns-in-Err-clause-moved : goal.returns-in-Err-clause-moved
returns-in-Err-clause-moved g c = led_back c.args.self.now c.loop-place.self c.step.new.self (take c.loop-place.place c.args.moves.now) c.in-Err.ensures.err c.loop-place.invariant.0

pub returns-in-Err-clause-plan : goal.returns-in-Err-clause-plan
returns-in-Err-clause-plan g c = c.step.ensures.plan ∙ c.loop-place.invariant.2

pub returns-in-Err-clause-len : goal.returns-in-Err-clause-len
returns-in-Err-clause-len g c = c.step.ensures.len ∙ c.loop-place.invariant.3

pub returns-in-Err-clause-stopped : goal.returns-in-Err-clause-stopped
returns-in-Err-clause-stopped g c = (
  c.index-moves-place.result,
  slice_get_read c.args.moves.now (length c.args.moves.now) c.loop-place.place c.index-moves-place.result refl c.loop-place-test.true c.index-moves-place.is,
  subst (λ (v : WorldOf). IsFaultOf v c.index-moves-place.result c.in-Err.fault) (sym c.in-Err.ensures.err) c.in-Err.ensures.fault,
)

pub returns-in-Err-clause-truth : goal.returns-in-Err-clause-truth
returns-in-Err-clause-truth g c = c.loop-place.invariant.1

pub returns-in-Err-clause-allowed : goal.returns-in-Err-clause-allowed
returns-in-Err-clause-allowed g c = c.loop-place.invariant.4

pub returns-in-Err-clause-headline : goal.returns-in-Err-clause-headline
returns-in-Err-clause-headline g c =
    keeps c.headline_holds.ensures c.args.self.now c.step.new.self (take c.loop-place.place c.args.moves.now) (c.step.ensures.plan ∙ c.loop-place.invariant.2)
    (led_back c.args.self.now c.loop-place.self c.step.new.self (take c.loop-place.place c.args.moves.now) c.in-Err.ensures.err c.loop-place.invariant.0) c.loop-place.invariant.1

-- of all
pub returns-clause-moved : goal.returns-clause-moved
returns-clause-moved g c =
    subst (λ (done : List (Move g.row.A.Denot)). Leads c.args.self.now done c.loop-place.self) (take_all c.loop-place.place c.args.moves.now c.loop-place-test.false) c.loop-place.invariant.0

pub returns-clause-plan : goal.returns-clause-plan
returns-clause-plan g c = c.loop-place.invariant.2

pub returns-clause-len : goal.returns-clause-len
returns-clause-len g c = c.loop-place.invariant.3

pub returns-clause-truth : goal.returns-clause-truth
returns-clause-truth g c =
    subst (λ (done : List (Move g.row.A.Denot)). AllByRecursion (IsTrueMove c.args.self.now.plan) done) (take_all c.loop-place.place c.args.moves.now c.loop-place-test.false) c.loop-place.invariant.1

pub returns-clause-headline : goal.returns-clause-headline
returns-clause-headline g c =
    let all : take c.loop-place.place c.args.moves.now ≡ c.args.moves.now = take_all c.loop-place.place c.args.moves.now c.loop-place-test.false in
    subst (λ (done : List (Move g.row.A.Denot)). KeepsHeadline c.args.self.now done c.loop-place.self) all
    (keeps c.headline_holds.ensures c.args.self.now c.loop-place.self (take c.loop-place.place c.args.moves.now) c.loop-place.invariant.2 c.loop-place.invariant.0 c.loop-place.invariant.1)

pub returns-clause-allowed : goal.returns-clause-allowed
returns-clause-allowed g c =
    let all : take c.loop-place.place c.args.moves.now ≡ c.args.moves.now = take_all c.loop-place.place c.args.moves.now c.loop-place-test.false in
    subst (λ (done : List (Move g.row.A.Denot)). Allows c.args.self.now done) all c.loop-place.invariant.4

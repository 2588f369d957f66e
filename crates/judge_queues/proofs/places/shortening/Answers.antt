use Rattle.std.specs.Prelude.{[], ◌≡◌, ℤ, pos, ◌-ℤ◌, Option, Some, None, IfSome}
use Rattle.std.specs.Option.{SomeIff}
use Rattle.std.proofs.Common.{subst, sym, ◌∙◌, arith}
use Rattle.std.proofs.lemmas.Int.{ints}
use Rattle.aud_event.specs.declared.object.Answer.{Answer}
use Rattle.aud_event.specs.declared.object.Answer.TheVariants.{Empty}
use Rattle.search_model.specs.declared.quantity.Quantity.TheVariants.{Shortening}
use Rattle.judge_sums.specs.Laws.{ComesTo}
use Rattle.judge_queues.specs.Laws.{AsksIn}
use Rattle.judge_queues.proofs.Lawful.{empty-comes}
use Rattle.judge_queues.proofs.places.shortening.Goals as goal

if-some : (o : Option ℤ) (P : Type 0) (Q : ℤ → Type 0) (m n : ℤ) → SomeIff o P m → m ≡ n → Q n → IfSome o Q
if-some None P Q m n is same q = tt
if-some (Some x) P Q m n is same q = subst Q (sym (is.1 ∙ same)) q

pub returns : goal.returns
returns g c =
    let f = c.args.facts.now in
    let takes = c.in_ok-asked.asked.takes in
    let additions = c.in_ok-asked.asked.additions in
    let asks : AsksIn f c.args.taker c.args.queue takes additions Empty =
    subst (λ (a : Answer). AsksIn f c.args.taker c.args.queue takes additions a) c.in-Empty.is c.in_ok-asked.ensures in
    let comes : ComesTo f (Shortening c.args.queue) c.args.taker (pos additions -ℤ pos takes) =
    empty-comes f [] c.history-history.ensures.sound c.history-history.ensures.within c.args.taker c.args.queue takes additions (c.is_queue.ensures c.if-not-is_queue.false) asks in
    let one = c.in-Ok.ensures in
    let two = c.in-Ok-try_from.ensures in
    if-some c.checked_sub.result _ (ComesTo f (Shortening c.args.queue) c.args.taker) _ (pos additions -ℤ pos takes) c.checked_sub.ensures (omega (arith, ints, one, two)) comes

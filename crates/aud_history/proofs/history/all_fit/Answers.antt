use Rattle.std.specs.Prelude.{◌≡◌, ℕ, true, false, All, refl}
use Rattle.std.proofs.Common.{sym, ◌∙◌, subst, take, get_or}
use Rattle.std.proofs.lemmas.List.{take_more, take_all}
use Rattle.std.proofs.lemmas.List.Elements.{All-push}
use Rattle.aud_event.specs.declared.object.Op.TheVariants.{Read}
use Rattle.aud_event.specs.declared.fact.Event.{Event}
use Rattle.aud_event.specs.declared.fact.Event.TheVariants.{Inv}
use Rattle.aud_history.specs.FirstFault.{FitsPlan}
use Rattle.aud_history.proofs.history.all_fit.Goals as goal

abbrev none : ℕ × Event
none = (0, Inv 0 Read)

pub returns-then-not-fits : goal.returns-then-not-fits
returns-then-not-fits g c = (
  λ t. absurd (let wrong : false ≡ true = t in cc),
  λ all. sym c.if-not-fits.true ∙ c.fits.ensures.1 (all c.loop-entry.entry-index none c.loop-entry-test.true),
)

pub loop-entry-preserved : goal.loop-entry-preserved
loop-entry-preserved g c =
    let events = c.args.events.now in
    let i = c.loop-entry.entry-index in
    subst (λ l. All (FitsPlan c.args.plan.now) l) (sym (take_more events i none c.loop-entry-test.true))
    (All-push (FitsPlan c.args.plan.now) (take i events) (get_or events i none) c.loop-entry.invariant (c.fits.ensures.0 c.if-not-fits.false))

pub returns : goal.returns
returns g c =
    (λ _. subst (λ l. All (FitsPlan c.args.plan.now) l) (take_all c.loop-entry.entry-index c.args.events.now c.loop-entry-test.false) c.loop-entry.invariant, λ _. refl)

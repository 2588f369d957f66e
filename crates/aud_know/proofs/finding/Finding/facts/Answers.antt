use Rattle.std.proofs.Common.{◌≡◌, subst, ap, ◌∙◌}
use Rattle.aud_history.specs.WellFormed.{IsWellFormed}
use Rattle.aud_facts.specs.Order.{AreOrdered}
use Rattle.aud_facts.specs.Sets.{FactsOf, SealedOf, AreSound, IsSealedWith}
use Rattle.aud_order.specs.Shapes.{ShapeOf, history_of}
use Rattle.aud_know.proofs.finding.Finding.facts.Goals as goal

pub returns-clause-is_true : goal.returns-clause-is_true
returns-clause-is_true g c =
    let sealed : c.sealed.result.now ≡ c.self.inside.shape.value.sealed = c.sealed.ensures ∙ ap (λ (s : ShapeOf). s.sealed) c.deref-2.ensures in
    let facts : c.facts-facts.result.now ≡ c.self.inside.shape.value.sealed.facts = c.facts-facts.ensures.facts ∙ ap (λ (s : SealedOf). s.facts) sealed in
    let with_history : IsSealedWith c.self.inside.shape.value.sealed.facts c.self.inside.shape.value.sealed.history =
    subst (λ (s : SealedOf). IsSealedWith s.facts s.history) sealed c.facts-facts.ensures.sealed in
    let well : IsWellFormed c.self.inside.shape.value.sealed.history = subst (λ (s : ShapeOf). IsWellFormed (history_of s)) c.deref.ensures c.history-history.ensures.sound in
    rw (← c.self.view_is) (record {
      ordered = subst (λ (f : FactsOf). AreOrdered f.facts) facts c.set-set.ensures.ordered;
      sound = subst (λ (f : FactsOf). AreSound f.plan f.facts) facts c.set-set.ensures.sound;
      whole = record { sealed = with_history.sealed; well_formed = subst IsWellFormed with_history.events well };
      holds = c.self.invariant;
    })

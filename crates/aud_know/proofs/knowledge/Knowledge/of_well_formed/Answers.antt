use Rattle.std.specs.Prelude.{◌≡◌}
use Rattle.std.proofs.Common.{ap, subst, ◌∙◌}
use Rattle.aud_history.specs.WellFormed.{IsWellFormed}
use Rattle.aud_facts.specs.Sets.{FactsOf, SealedOf, IsSealedWith}
use Rattle.aud_facts.specs.Status.{fact_status, hist}
use Rattle.aud_facts.specs.declared.status.FactStatus.TheVariants.{Sealed}
use Rattle.aud_know.specs.Known.{KnowledgeOf}
use Rattle.aud_know.proofs.Judging.{says_not_opaque, says_unfinished, closed_same}
use Rattle.aud_know.proofs.knowledge.Knowledge.of_well_formed.Goals as goal

pub returns-then-branch : goal.returns-then-branch
returns-then-branch g c =
    let with_history : IsSealedWith c.args.sealed.value.facts c.args.sealed.value.history = subst (λ (s : SealedOf). IsSealedWith s.facts s.history) c.deref.ensures c.facts-facts.ensures.sealed in
    let sealed : fact_status c.args.self.now.plan.logs c.args.self.now.held.facts ≡ Sealed = subst (λ (f : FactsOf). fact_status f.plan.logs f.facts ≡ Sealed) c.requires.facts with_history.sealed in
    let events : c.args.sealed.value.history ≡ hist c.args.self.now.held.facts = with_history.events ∙ ap (λ (f : FactsOf). hist f.facts) c.requires.facts in
    let covers = c.deref-2.ensures ∙ ap (λ (k : KnowledgeOf). k.held.cover) c.self.view_is in
    let closed = closed_same c.in_ok-shape.shape c.args.sealed.value c.args.self.now c.deref-2.result.now c.empty-empty.result c.in_ok-shape.ensures c.requires.facts events covers c.empty-empty.ensures in
    says_not_opaque g.row.A.Denot c.args.self.now sealed (subst IsWellFormed events c.requires.well_formed) c.requires.no_witness (closed.0 (c.in_ok-closed.ensures.0 c.if-branch.true))

pub returns : goal.returns
returns g c =
    let with_history : IsSealedWith c.args.sealed.value.facts c.args.sealed.value.history = subst (λ (s : SealedOf). IsSealedWith s.facts s.history) c.deref.ensures c.facts-facts.ensures.sealed in
    let sealed : fact_status c.args.self.now.plan.logs c.args.self.now.held.facts ≡ Sealed = subst (λ (f : FactsOf). fact_status f.plan.logs f.facts ≡ Sealed) c.requires.facts with_history.sealed in
    let events : c.args.sealed.value.history ≡ hist c.args.self.now.held.facts = with_history.events ∙ ap (λ (f : FactsOf). hist f.facts) c.requires.facts in
    let covers = c.deref-2.ensures ∙ ap (λ (k : KnowledgeOf). k.held.cover) c.self.view_is in
    let closed = closed_same c.in_ok-shape.shape c.args.sealed.value c.args.self.now c.deref-2.result.now c.empty-empty.result c.in_ok-shape.ensures c.requires.facts events covers c.empty-empty.ensures in
    says_unfinished g.row.A.Denot c.args.self.now sealed (subst IsWellFormed events c.requires.well_formed) c.requires.no_witness (λ it. let there = c.in_ok-closed.ensures.1 (closed.1 it) in let not_there = c.if-branch.false in cc)

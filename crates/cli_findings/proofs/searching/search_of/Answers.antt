use Rattle.std.proofs.Common.{◌≡◌, [], rules, subst, sym}
use Rattle.aud_facts.specs.Sets.{IsSealedWith, SealedOf}
use Rattle.aud_history.specs.WellFormed.{IsWellFormed}
use Rattle.aud_order.specs.Shapes.{objects_of, history_of}
use Rattle.aud_split.specs.Tasks.{AreTasks}
use Rattle.cli_findings.proofs.searching.search_of.Goals as goal

pub returns-clause-some : goal.returns-clause-some
returns-clause-some c =
    let s = c.in_ok-shape.shape.value in
    let facts : s.sealed.facts ≡ c.args.facts.now = search rules in
    let sealed : IsSealedWith c.args.facts.now s.sealed.history = search rules in
    let same : s.sealed ≡ c.in-Ok.sealed.value = search rules in
    let read : IsWellFormed c.in-Ok.sealed.value.history = search rules in
    let well : IsWellFormed s.sealed.history = subst (λ (v : SealedOf). IsWellFormed v.history) (sym same) read in
    let tasks : AreTasks (objects_of s) (history_of s) [] 2 c.in_ok-tasks.tasks.items = search rules in
    (c.budget_of.ensures, record { facts_are = facts; sealed = sealed; well_formed = well; split = tasks })

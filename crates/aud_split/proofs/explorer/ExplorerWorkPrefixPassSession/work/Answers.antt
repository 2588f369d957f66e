use Rattle.std.proofs.Common.{OnOk, Result, Option, sym, subst}
use Rattle.base_values.specs.declared.memory.OutOfMemory.{OutOfMemory}
use Rattle.aud_know.specs.Findings.{FindingOf}
use Rattle.aud_node.specs.Meanings.{PassOf}
use Rattle.node_task.specs.Found.{IsFound}
use Rattle.aud_split.specs.Pools.{HasSearched, IsSettled}
use Rattle.aud_split.specs.Settling.{searched_onward}
use Rattle.aud_split.proofs.Settling.{known_settles, settled_by, searched_read, searched_offered}
use Rattle.aud_split.proofs.explorer.ExplorerWorkPrefixPassSession.work.Goals.{in-Ok-offer, in-Err-default-OutOfMemory}
use Rattle.aud_split.proofs.explorer.ExplorerWorkPrefixPassSession.work.Goals as goal

pub returns-then-is_known-clause-done : goal.returns-then-is_known-clause-done
returns-then-is_known-clause-done g c =
    known_settles c.args.self.now.shape.now.value c.args.self.now.budget c.args.self.now.node.now.plan c.knows.new.pass.view c.args.task.now (c.in-Ok.ensures.knows.0 c.if-is_known.true)

pub returns-clause-done : goal.returns-clause-done
returns-clause-done g c =
    let s = c.args.self.now.shape.now.value in
    let budget = c.args.self.now.budget in
    let task = c.args.task.now in
    let P : Result (Unit {0}) OutOfMemory → Type 0 = λ r. OnOk r (IsSettled s budget c.offer.new.pass.view task) in
    let found = subst (λ (o : Option FindingOf). IsFound s budget task o) c.in-Some.is c.in_ok-finding.ensures.found in
    elim c.match-offer.branch [
      | in-Ok-offer w ↦ subst P (sym w.result-is) (settled_by s budget c.knows.new.pass.view c.offer.new.pass.view c.knows.new.pass.seat c.in-Some.finding task w.in-Ok-offer.ensures.view found.1)
      | in-Err-default-OutOfMemory w ↦ subst P (sym w.result-is) tt
    ]

pub returns-clause-grows : goal.returns-clause-grows
returns-clause-grows g c =
    let s = c.args.self.now.shape.now.value in
    let budget = c.args.self.now.budget in
    let read = searched_read s c.args.pass.now c.knows.new.pass c.knows.ensures.view in
    let found = subst (λ (o : Option FindingOf). IsFound s budget c.args.task.now o) c.in-Some.is c.in_ok-finding.ensures.found in
    elim c.match-offer.branch [
      | in-Ok-offer w ↦
          let said = w.in-Ok-offer.ensures in
          searched_onward s c.args.pass.now c.knows.new.pass c.offer.new.pass read
          (searched_offered s c.knows.new.pass c.offer.new.pass c.in-Some.finding said.view said.mine said.offers said.same found.0)
      | in-Err-default-OutOfMemory w ↦
          subst (λ (p : PassOf). HasSearched s c.args.pass.now p) (sym w.in-Err-default-OutOfMemory.ensures.back.1) read
    ]

use Rattle.std.proofs.Common.{refl, sym, subst, ap, List, slice_index_or}
use Rattle.aud_node.specs.Logs.{Entry, written_of}
use Rattle.aud_node.specs.Meanings.{Agrees}
use Rattle.aud_node.proofs.node.finished.Goals as goal

pub returns-in-Ok-clause-passes : goal.returns-in-Ok-clause-passes
returns-in-Ok-clause-passes g c k d below =
    subst (λ (log : List Entry). Agrees log (slice_index_or c.args.passes.now k d)) (ap written_of (sym c.end.ensures)) (c.if-not-agrees_with_all.ensures refl k d below)

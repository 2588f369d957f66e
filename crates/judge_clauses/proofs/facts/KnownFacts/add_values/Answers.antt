use Rattle.std.specs.Prelude.{◌≡◌, Some, length, slice_get}
use Rattle.std.proofs.Common.{arith, sym, ◌∙◌, ap, subst, get_or}
use Rattle.std.proofs.lemmas.Option.{slice_get-get_or}
use Rattle.std.proofs.lemmas.List.{length-set}
use Rattle.judge_clauses.specs.Values.{atom_of, AreValues}
use Rattle.judge_clauses.proofs.Valued.{valued-set}
use Rattle.judge_clauses.proofs.facts.KnownFacts.add_values.Goals as goal

pub loop-literal-preserved : goal.loop-literal-preserved
loop-literal-preserved g c =
    let f = c.args.self.now in
    let at : slice_get c.args.clause.now c.loop-literal.literal-index ≡ Some (get_or c.args.clause.now c.loop-literal.literal-index _) = slice_get-get_or c.args.clause.now c.loop-literal.literal-index _ (omega arith) in (
      ap length c.put.ensures ∙ length-set c.loop-literal.values c.in-Some.place (Some c.in-Some.value) ∙ c.loop-literal.invariant.0,
      subst (AreValues f c.args.clause.now (atom_of c.args.question)) (sym c.put.ensures)
          (valued-set f c.args.clause.now (atom_of c.args.question) c.loop-literal.values c.loop-literal.literal-index c.in-Some.place _ c.in-Some.value at c.in-Some.ensures c.loop-literal.invariant.1),
    )

use Rattle.std.proofs.Common.{◌≡◌, ◌+◌, ◌-◌, ◌∷◌, ◌++◌, [], length, nat_lt, true, All, None, ap, sym, ◌∙◌, subst, arith, rules}
use Rattle.std.proofs.lemmas.Bool.{lt-ltb}
use Rattle.std.proofs.lemmas.List.Elements.{All-push}
use Rattle.std.specs.List.{filter}
use Rattle.aud_event.specs.Facts.{first_fact_fault}
use Rattle.aud_text.specs.Lines.{filled_left, filled_at}
use Rattle.cli_input.specs.Inputs.{facts_read}
use Rattle.cli_input.proofs.Read.{onto, one_more}
use Rattle.cli_input.proofs.input.read_facts.Goals as goal

pub loop-next-preserved-else-is_err : goal.loop-next-preserved-else-is_err
loop-next-preserved-else-is_err c =
    let text = c.args.text.now in
    let plan = c.args.plan.now in
    let after = c.in-Some.next in
    let behind : nat_lt c.args.used (length text - length after.rest.now) ≡ true = lt-ltb c.args.used (length text - length after.rest.now) c.if-text-rest.true in
    let pushed : c.push.new.self.items ≡ c.loop-next.facts.items ++ c.in-Ok.fact ∷ [] = search rules in
    record {
      same = c.loop-next.invariant.same ∙ (one_more plan (λ f. nat_lt c.args.used f.ends) c.loop-next.facts.items c.in-Ok.fact (filled_left (length text) c.loop-next.number c.loop-next.rest.now)
          (filled_left (length text) (after.number + 1) after.rest.now) (filled_at (length text) after.number after.line.now after.rest.now) (c.in-Some.ensures.some (length text) c.loop-next.invariant.within) behind c.in-Ok.ensures.read
          ∙ ap (λ fs. onto fs (facts_read plan (filter (λ f. nat_lt c.args.used f.ends) (filled_left (length text) (after.number + 1) after.rest.now)))) (sym pushed));
      within = omega (arith, c.in-Some.ensures.nearer, c.loop-next.invariant.room);
      room = omega (arith, c.in-Some.ensures.nearer, c.loop-next.invariant.room);
      sound = subst (All (λ f. first_fact_fault plan f ≡ None)) (sym pushed) (All-push (λ f. first_fact_fault plan f ≡ None) c.loop-next.facts.items c.in-Ok.fact c.loop-next.invariant.sound c.in-Ok.ensures.sound);
    }

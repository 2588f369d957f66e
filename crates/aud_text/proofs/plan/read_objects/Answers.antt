use Rattle.std.proofs.Common.{◌≡◌, ◌+◌, ◌-◌, ◌∷◌, ◌++◌, [], suc, length, Err, inl, inr, ap, sym, ◌∙◌, arith, rules}
use Rattle.aud_text.specs.Lines.{lines_of, filled_left, filled_at}
use Rattle.aud_text.specs.PlanText.{objects_left}
use Rattle.aud_text.proofs.Objects.{onto, one_more, refused, missing}
use Rattle.aud_text.proofs.plan.read_objects.Goals as goal

pub returns-in_default : goal.returns-in_default
returns-in_default c =
    let text = c.args.text.now in
    let rest = c.loop-i.rest.now in
    let k = c.args.header.objects - c.loop-i.i in
    let next : k ≡ suc (c.args.header.objects - (c.loop-i.i + 1)) = omega arith in
    inr (c.loop-i.invariant.same ∙ (missing c.args.header.format (length (lines_of text) + 1) (length text - length rest) k (c.args.header.objects - (c.loop-i.i + 1)) c.loop-i.objects.items (filled_left (length text) c.loop-i.line rest)
    next (c.in_default.ensures.none (length text) c.loop-i.invariant.within) ∙ ap Err (sym c.ends_early.ensures)))

pub returns-in-Err : goal.returns-in-Err
returns-in-Err c =
    let text = c.args.text.now in
    let rest = c.loop-i.rest.now in
    let k = c.args.header.objects - c.loop-i.i in
    let after = c.in-Some.next in
    let next : k ≡ suc (c.args.header.objects - (c.loop-i.i + 1)) = omega arith in
    elim c.in-Err.ensures [
      | inl e ↦ inl e
      | inr e ↦ inr (c.loop-i.invariant.same ∙ refused c.args.header.format (length (lines_of text) + 1) (length text - length rest) k (c.args.header.objects - (c.loop-i.i + 1)) c.loop-i.objects.items c.in-Err.fault (filled_left (length text) c.loop-i.line rest)
          (filled_left (length text) (after.number + 1) after.rest.now) (filled_at (length text) after.number after.line.now after.rest.now) next (c.in-Some.ensures.some (length text) c.loop-i.invariant.within) e)
    ]

pub loop-i-preserved : goal.loop-i-preserved
loop-i-preserved c =
    let text = c.args.text.now in
    let rest = c.loop-i.rest.now in
    let k = c.args.header.objects - c.loop-i.i in
    let j = c.args.header.objects - (c.loop-i.i + 1) in
    let after = c.in-Some.next in
    let next : k ≡ suc j = omega arith in
    let pushed : c.push.new.self.items ≡ c.loop-i.objects.items ++ c.in-Ok.object ∷ [] = search rules in
    record {
      same = c.loop-i.invariant.same ∙ (one_more c.args.header.format (length (lines_of text) + 1) (length text - length rest) k j c.loop-i.objects.items c.in-Ok.object (filled_left (length text) c.loop-i.line rest)
          (filled_left (length text) (after.number + 1) after.rest.now) (filled_at (length text) after.number after.line.now after.rest.now) next (c.in-Some.ensures.some (length text) c.loop-i.invariant.within) c.in-Ok.ensures
          ∙ ap (λ ds. onto ds (objects_left c.args.header.format text after.rest.now (after.number + 1) j)) (sym pushed));
      within = omega (arith, c.in-Some.ensures.nearer);
      room = omega (arith, c.in-Some.ensures.nearer);
    }

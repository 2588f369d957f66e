use Rattle.std.proofs.Common.{◌≡◌, ◌+◌, ◌-◌, ◌∷◌, ◌++◌, [], suc, length, map, Err, inl, inr, ap, sym, ◌∙◌, arith, rules}
use Rattle.aud_text.specs.Lines.{lines_of, filled_left, filled_at}
use Rattle.cert_accept.specs.Acceptance.{elsewhere}
use Rattle.aud_cert.specs.CertText.{lines_left}
use Rattle.aud_cert.proofs.Reading.{onto, one-pushed, one-more, refused, missing, ended, one-too_many}
use Rattle.aud_cert.proofs.read.read_lines.Goals as goal

pub returns-in_default-next_filled : goal.returns-in_default-next_filled
returns-in_default-next_filled g c =
    let text = c.args.text.now in
    let rest = c.loop-i.rest.now in
    let k = c.args.count - c.loop-i.i in
    let next : k ≡ suc (c.args.count - (c.loop-i.i + 1)) = omega arith in
    inr (c.loop-i.invariant.same ∙ (missing (length (lines_of text) + 1) k (c.args.count - (c.loop-i.i + 1)) (map elsewhere c.loop-i.lines.items) (filled_left (length text) c.loop-i.line rest)
    next (c.in_default-next_filled.ensures.none (length text) c.loop-i.invariant.within) ∙ ap Err (sym c.ends_early.ensures)))

pub returns-in-Err : goal.returns-in-Err
returns-in-Err g c =
    let text = c.args.text.now in
    let rest = c.loop-i.rest.now in
    let k = c.args.count - c.loop-i.i in
    let after = c.in-Some.next in
    let next : k ≡ suc (c.args.count - (c.loop-i.i + 1)) = omega arith in
    elim c.in-Err.ensures [
      | inl e ↦ inl e
      | inr e ↦ inr (c.loop-i.invariant.same ∙ refused (length (lines_of text) + 1) k (c.args.count - (c.loop-i.i + 1)) (map elsewhere c.loop-i.lines.items) c.in-Err.fault (filled_left (length text) c.loop-i.line rest)
          (filled_left (length text) (after.number + 1) after.rest.now) (filled_at (length text) after.number after.line.now after.rest.now) next (c.in-Some.ensures.some (length text) c.loop-i.invariant.within) e)
    ]

pub loop-i-preserved : goal.loop-i-preserved
loop-i-preserved g c =
    let text = c.args.text.now in
    let rest = c.loop-i.rest.now in
    let k = c.args.count - c.loop-i.i in
    let j = c.args.count - (c.loop-i.i + 1) in
    let after = c.in-Some.next in
    let next : k ≡ suc j = omega arith in
    let pushed : map elsewhere c.push.new.self.items ≡ map elsewhere c.loop-i.lines.items ++ elsewhere c.in-Ok-read_line.read ∷ [] = one-pushed c.loop-i.lines.items c.push.new.self.items c.in-Ok-read_line.read (search rules) in
    record {
      same = c.loop-i.invariant.same ∙ (one-more (length (lines_of text) + 1) k j (map elsewhere c.loop-i.lines.items) (elsewhere c.in-Ok-read_line.read) (filled_left (length text) c.loop-i.line rest)
          (filled_left (length text) (after.number + 1) after.rest.now) (filled_at (length text) after.number after.line.now after.rest.now) next (c.in-Some.ensures.some (length text) c.loop-i.invariant.within) c.in-Ok-read_line.ensures
          ∙ ap (λ ds. onto ds (lines_left text after.rest.now (after.number + 1) j)) (sym pushed));
      within = omega (arith, c.in-Some.ensures.nearer);
      room = omega (arith, c.in-Some.ensures.nearer);
    }

pub returns-in-None : goal.returns-in-None
returns-in-None g c =
    let text = c.args.text.now in
    let k = c.args.count - c.loop-i.i in
    c.loop-i.invariant.same
    ∙ ended (length (lines_of text) + 1) k (map elsewhere c.loop-i.lines.items) (filled_left (length text) c.loop-i.line c.loop-i.rest.now) (omega (arith, c.loop-i-test.false))
    (c.in-None.ensures.none (length text) c.loop-i.invariant.within)

pub returns : goal.returns
returns g c =
    let text = c.args.text.now in
    let k = c.args.count - c.loop-i.i in
    let after = c.in-Some-next_filled.more in
    inr (c.loop-i.invariant.same
    ∙ one-too_many (length (lines_of text) + 1) k (map elsewhere c.loop-i.lines.items) (filled_left (length text) c.loop-i.line c.loop-i.rest.now)
    (filled_left (length text) (after.number + 1) after.rest.now) (filled_at (length text) after.number after.line.now after.rest.now) (omega (arith, c.loop-i-test.false))
    (c.in-Some-next_filled.ensures.some (length text) c.loop-i.invariant.within))

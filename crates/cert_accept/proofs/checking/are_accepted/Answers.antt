use Rattle.std.specs.Prelude.{◌≡◌, ◌↔◌, ◌⊎◌, ◌<◌, ◌≤◌, length, map, List, IfSome}
use Rattle.std.specs.List.{Contains}
use Rattle.std.proofs.Common.{◌∙◌, ap, sym, subst, get_or}
use Rattle.aud_witness.specs.declared.decision.Decision.{Decision}
use Rattle.aud_order.specs.Shapes.{ShapeOf, objects_of, history_of}
use Rattle.cert_accept.specs.Acceptance.{prefix_in, EndsEmpty}
use Rattle.cert_earlier.specs.Beginnings.{EarlierOf}
use Rattle.cert_earlier.specs.Landings.{IsLandingOf}
use Rattle.aud_order.specs.Cursors.{CursorOf}
use Rattle.cert_accept.proofs.Lines.{passed-none, passed-more, passed-bad, passed-all}
use Rattle.cert_accept.proofs.checking.are_accepted.Goals as goal

pub returns-then-not-branch : goal.returns-then-not-branch
returns-then-not-branch g c =
    let shape = c.args.shape.now in
    let lines = c.args.lines.now in
    let at = c.loop-line in
    let line = c.line-item.result in
    passed-bad (objects_of shape) (history_of shape) lines at.line-index line at.earlier.prefixes c.in_ok-accepts.field-0 at.invariant.passed
    c.loop-line-test.true
    c.line-item.is
    c.in_ok-accepts.ensures.judged c.if-not-branch.true

pub loop-line-init : goal.loop-line-init
loop-line-init g c =
    let shape = c.args.shape.now in record {
      cursor = c.requires.cursor;
      other = c.requires.other;
      kept = c.requires.earlier;
      passed = passed-none (objects_of shape) (history_of shape) c.args.lines.now c.args.earlier.now.prefixes c.requires.none;
    }

pub add-requires : goal.add-requires
add-requires g c =
    let at = c.loop-line in
    subst (λ (s : ShapeOf). IfSome c.landing_of-landing.result (IsLandingOf s c.decisions.result.now)) (c.in_ok-accepts.ensures.cursor ∙ sym at.invariant.kept)
    (subst (λ (p : List Decision). IfSome c.landing_of-landing.result (IsLandingOf c.accepts.new.cursor.shape p)) (sym (c.decisions.ensures ∙ c.prefix.ensures)) c.landing_of-landing.ensures)

pub loop-line-preserved : goal.loop-line-preserved
loop-line-preserved g c =
    let shape = c.args.shape.now in
    let lines = c.args.lines.now in
    let at = c.loop-line in
    let line = c.line-item.result in
    let item = c.decisions.ensures ∙ c.prefix.ensures in record {
      cursor = c.in_ok-accepts.ensures.cursor;
      other = c.in_ok-accepts.ensures.other;
      kept = c.in_ok-add.ensures.shape ∙ at.invariant.kept;
      passed = passed-more (objects_of shape) (history_of shape) lines at.line-index line at.earlier.prefixes c.add.new.self.prefixes at.invariant.passed
          c.loop-line-test.true
          c.line-item.is
          (c.in_ok-accepts.ensures.judged.0 c.if-not-branch.false)
          (subst (λ (q : List Decision). (p : List Decision) → Contains c.add.new.self.prefixes p ↔ (Contains at.earlier.prefixes p ⊎ (p ≡ q))) item c.in_ok-add.ensures.prefixes);
    }

pub returns : goal.returns
returns g c =
    let shape = c.args.shape.now in
    let lines = c.args.lines.now in
    let at = c.loop-line in
    passed-all (objects_of shape) (history_of shape) lines at.line-index at.earlier.prefixes at.invariant.passed
    c.loop-line-test.false
    c.requires.last

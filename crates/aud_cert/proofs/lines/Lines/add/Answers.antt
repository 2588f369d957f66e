use Rattle.std.specs.Prelude.{◌≡◌, [], map, length, slice_get}
use Rattle.std.proofs.Common.{sym, ◌∙◌, ap, subst, arith}
use Rattle.std.proofs.lemmas.List.{append-nil}
use Rattle.aud_order.specs.Shapes.{objects_of, history_of}
use Rattle.cert_accept.specs.Acceptance.{prefix_in, IsAcceptedLine, AreAccepted}
use Rattle.aud_cert.specs.Recorded.{LinesOf}
use Rattle.aud_cert.proofs.Recording.{last-line, accepted-push}
use Rattle.aud_cert.proofs.lines.Lines.add.Goals as goal

pub returns-in_err-push-clause-grows : goal.returns-in_err-push-clause-grows
returns-in_err-push-clause-grows g c = record {
  shape = ap (λ (l : LinesOf _). l.shape) c.self.view_is;
  more = [];
  lines = c.in_err-push.ensures.items ∙ ap (λ (l : LinesOf _). l.lines) c.self.view_is ∙ sym (append-nil c.args.self.now.lines);
}

pub invariant_of-self-2 : goal.invariant_of-self-2
invariant_of-self-2 g c =
    let i = c.self.inside in
    subst (λ l. AreAccepted (objects_of i.shape.now) (history_of i.shape.now) [] l) (sym c.in_ok-push.ensures.items) (
    accepted-push (objects_of i.shape.now) (history_of i.shape.now) i.lines.items [] c.args.line c.self.invariant
    (subst (λ (l : LinesOf _). IsAcceptedLine (objects_of l.shape) (history_of l.shape) (map prefix_in l.lines) c.args.line) (sym c.self.view_is) c.requires))

pub returns-clause-noted : goal.returns-clause-noted
returns-clause-noted g c =
    let long : c.len-note.result ≡ length c.self.inside.lines.items = omega (arith, c.len-note.ensures, c.self.inside.lines.ok.0) in
    ap (λ n. slice_get (map prefix_in c.push.new.self.items) n) long ∙ last-line c.self.inside.lines.items c.push.new.self.items c.args.line c.in_ok-push.ensures.items

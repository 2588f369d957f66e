use Rattle.std.specs.Prelude.{◌≡◌, ◌<◌, ◌+◌, Some, [], map, length, refl, slice_get}
use Rattle.std.proofs.Common.{sym, subst, arith}
use Rattle.aud_order.specs.Shapes.{objects_of, history_of}
use Rattle.cert_accept.specs.Acceptance.{prefix_in, IsAccepted}
use Rattle.aud_cert.specs.Recorded.{LinesOf}
use Rattle.aud_cert.proofs.Recording.{accepted-up_to, inside-line}
use Rattle.aud_cert.proofs.lines.Lines.up_to.Goals as goal

pub overflow_add-last : goal.overflow_add-last
overflow_add-last g c =
    let i = c.self.inside in
    let inside : c.args.last < length i.lines.items = inside-line i.lines.items c.args.last [] (subst (λ (l : LinesOf _). slice_get (map prefix_in l.lines) c.args.last ≡ Some []) (sym c.self.view_is) c.requires) in
    omega (arith, i.lines.ok.0, c.len-few.ensures, c.len-few.type_inv)

pub returns : goal.returns
returns g c =
    let i = c.self.inside in
    subst (λ (l : LinesOf _). IsAccepted (objects_of l.shape) (history_of l.shape) c.truncate.new.self.items) c.self.view_is
    (accepted-up_to (objects_of i.shape.now) (history_of i.shape.now) i.lines.items c.truncate.new.self.items c.args.last (c.args.last + 1) c.self.invariant
    (subst (λ (l : LinesOf _). slice_get (map prefix_in l.lines) c.args.last ≡ Some []) (sym c.self.view_is) c.requires) refl c.truncate.ensures.items)

use Rattle.std.proofs.Common.{◌≡◌, ◌≤◌, ◌++◌, ◌∷◌, [], ◌∙◌, ap, subst, arith, length}
use Rattle.std.specs.Arc.{arc_value}
use Rattle.aud_node.specs.Logs.{own, written_of}
use Rattle.aud_node.specs.Meanings.{FrontOf, PassOf}
use Rattle.aud_node.proofs.Own.{own_grows, own_offered, same_offer}
use Rattle.aud_node.proofs.desk.Desk.offer.Goals as goal

pub gain-requires-clause-counted : goal.gain-requires-clause-counted
gain-requires-clause-counted g c =
    let me = c.args.pass.now in
    let log = written_of c.args.self.now.log.items in
    let held = c.ready.new.self.held.latest.front.log in
    let theirs = c.widen-readers.result.pass.latest.front.log in
    let is : theirs ≡ log ++ (me.seat, c.args.item) ∷ [] = same_offer theirs held log c.pass.inside.seat me.seat (arc_value c.in_ok-known.item) c.args.item (ap (λ (f : FrontOf). f.log) c.widen-readers.ensures.pass) (c.ready.new.self.whole ∙ ap written_of c.ready.ensures.log) (ap (λ (p : PassOf). p.seat) c.pass.view_is) c.in_ok-known.ensures.item in
    omega (arith, own_grows me.seat c.args.item log theirs is, c.requires.counted)

pub returns-clause-own : goal.returns-clause-own
returns-clause-own g c =
    let me = c.args.pass.now in
    let log = written_of c.args.self.now.log.items in
    let held = c.ready.new.self.held.latest.front.log in
    let theirs = c.widen-readers.result.pass.latest.front.log in
    let is : theirs ≡ log ++ (me.seat, c.args.item) ∷ [] = same_offer theirs held log c.pass.inside.seat me.seat (arc_value c.in_ok-known.item) c.args.item (ap (λ (f : FrontOf). f.log) c.widen-readers.ensures.pass) (c.ready.new.self.whole ∙ ap written_of c.ready.ensures.log) (ap (λ (p : PassOf). p.seat) c.pass.view_is) c.in_ok-known.ensures.item in
    let counted : me.offers ≤ length (own me.seat me.view) = subst (λ (p : PassOf). p.offers ≤ length (own p.seat p.view)) c.pass.view_is c.pass.invariant in
    own_offered me.seat me.offers c.args.item me.view log c.gain.new.self.view c.requires.agrees.0 counted c.requires.counted (c.gain.ensures.view ∙ is)

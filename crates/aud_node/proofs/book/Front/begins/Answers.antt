use Rattle.std.proofs.Common.{◌≤◌, ap, subst, arith, length, List}
use mathlib.Core.List.{IsPrefix}
use Rattle.aud_node.specs.declared.book.OfferedItem.{OfferedItem}
use Rattle.aud_node.specs.Logs.{Entry}
use Rattle.aud_node.proofs.Fronts.{prefix_shorter, prefix_map}
use Rattle.aud_node.proofs.book.Front.begins.Goals as goal

pub returns : goal.returns
returns c =
    let mine = c.self.inside.seen.log in
    let theirs = c.other.inside.seen.log in
    let both = c.learn.new.self.log in
    let this : IsPrefix mine both = subst (λ (l : List OfferedItem). IsPrefix l both) (ap (λ s. s.log) c.again-both.ensures) c.learn.ensures.2 in
    let less : length mine ≤ length theirs = omega (arith, c.self.invariant, c.other.invariant, c.if-self-other.false) in
    let said : OfferedItem → Entry = λ p. (p.seat, p.item.value) in
    rw (← c.self.view_is, ← c.other.view_is) (prefix_map said mine theirs (prefix_shorter mine theirs both this c.learn.ensures.3 less))

pub returns-then-self-other : goal.returns-then-self-other
returns-then-self-other c =
    let mine = c.self.inside.seen.log in
    let theirs = c.other.inside.seen.log in
    let both = c.learn.new.self.log in
    let this : IsPrefix mine both = subst (λ (l : List OfferedItem). IsPrefix l both) (ap (λ s. s.log) c.again-both.ensures) c.learn.ensures.2 in
    let less : length theirs ≤ length mine = omega (arith, c.self.invariant, c.other.invariant, c.if-self-other.true) in
    let said : OfferedItem → Entry = λ p. (p.seat, p.item.value) in
    rw (← c.self.view_is, ← c.other.view_is) (prefix_map said theirs mine (prefix_shorter theirs mine both c.learn.ensures.3 this less))

-- Offers of packets, one receiving after another.
use Rattle.std.proofs.Common.{◌≡◌, ℕ, ◌+◌, ◌-◌, ◌∙◌, ◌++◌, ◌∷◌, [], List, sym, ap, refl, arith, append_assoc, length-append}
use Rattle.std.proofs.lemmas.List.{append-nil}
use Rattle.std.proofs.lemmas.List.Elements.{All-append, All-cons, All-nil}
use Rattle.std.specs.declared.alloc.Global.{Global}
use Rattle.aud_event.specs.Meanings.{PlanOf}
use Rattle.aud_know.specs.declared.item.Item.{Item}
use Rattle.aud_know.specs.declared.item.Item.TheVariants as item
use Rattle.aud_node.specs.Meanings.{PassOf, mine}
use Rattle.aud_node.specs.declared.pass.Packet.{Packet}
use Rattle.aud_node.proofs.Fronts.{prefix_self, prefix_trans}
use Rattle.aud_gossip.specs.Receiving.{AddsPackets, GoesFurther, HasOffered, HasOfferedIt, HasPlan, IsKnownOfPlan}

adds_more : (plan : PlanOf) (old mid new : List (Item Global)) (m n k : ℕ) → AddsPackets plan old mid m → AddsPackets plan mid new n → k ≡ m + n → AddsPackets plan old new k
adds_more plan old mid new m n k (xs, p, here, all) (ys, q, there, others) is = (
  xs ++ ys,
  q ∙ ap (λ l. l ++ ys) p ∙ append_assoc old xs ys,
  omega (arith, length-append xs ys, here, there, is),
  All-append (IsKnownOfPlan plan) xs ys all others,
)

-- a pass that was not used has offered none
pub offered_none : (plan : PlanOf) (old : PassOf) → HasOffered plan old old 0
offered_none plan old = (([], sym (append-nil _), refl, All-nil (IsKnownOfPlan plan)), omega arith)

-- after one packet more, as many as the pass's offers grew
pub offered_more : (plan : PlanOf) (p : Packet) (old mid new : PassOf) (count : ℕ) → HasOffered plan old mid count → HasPlan plan p → HasOfferedIt p mid new → HasOffered plan old new (new.offers - old.offers)
offered_more plan p old mid new count (here, so_far) is (there, one) =
    let it : AddsPackets plan (mine mid) (mine new) 1 = (item.Known p.known ∷ [], there, refl, All-cons (IsKnownOfPlan plan) (item.Known p.known) [] is (All-nil (IsKnownOfPlan plan))) in
    (adds_more plan (mine old) (mine mid) (mine new) count 1 (new.offers - old.offers) here it (omega (arith, so_far, one)), omega (arith, so_far, one))

pub further_self : (old : PassOf) → GoesFurther old old
further_self old = (prefix_self old.view, refl, refl)

pub further_trans : (old mid new : PassOf) → GoesFurther old mid → GoesFurther mid new → GoesFurther old new
further_trans old mid new (p, number, seat) (q, number', seat') =
    (prefix_trans old.view mid.view new.view p q, number' ∙ number, seat' ∙ seat)

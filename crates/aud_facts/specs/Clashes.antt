-- Conflicts in a set of facts. A set is the list of its facts, least first.
use Rattle.std.specs.Prelude.{ℕ, Bool, false, not, ◌&&◌, ◌||◌, if◌then◌else◌, List, [], ◌∷◌, map, Option, Some, None, nat_eq, nat_lt, nat_le}
use Rattle.std.specs.List.{list_any, filter}
use Rattle.std.specs.Ordering.{eq_by_cmp}
use Rattle.aud_event.specs.declared.fact.Record.{Record}
use Rattle.aud_event.specs.declared.fact.Fact.{Fact}
use Rattle.aud_event.specs.declared.fact.Fact.TheVariants.{Rec, End}
use Rattle.aud_event.specs.contracts.fact.FactOrd.TheImpl as fact
use Rattle.aud_facts.specs.declared.status.Kind.{Kind}
use Rattle.aud_facts.specs.declared.status.Kind.TheVariants.{TwoRecords, StampTwice, TwoCounts, PastCount, StampOrder}

-- a log, and a place in it
abbrev pub Place : Type 0
Place = ℕ × ℕ

-- the place that is reported of a fact
abbrev pub place_of : Fact → Place
place_of (Rec r) = (r.log, r.at)
place_of (End e) = (e.log, e.count)

-- the same fact
abbrev pub is_same : Fact → Fact → Bool
is_same f g = eq_by_cmp fact.ghosts.cmp f g

-- at the same place of the same log
abbrev pub is_place : Record → Record → Bool
is_place r s = nat_eq r.log s.log && nat_eq r.at s.at

-- The five conditions on two facts. The place of the first is reported.
abbrev pub clashes : Kind → Fact → Fact → Bool
clashes TwoRecords (Rec r) (Rec s) = is_place r s && not (is_same (Rec r) (Rec s))
clashes StampTwice (Rec r) (Rec s) = nat_eq s.stamp r.stamp && not (is_place r s)
clashes TwoCounts (End e) (End g) = nat_eq e.log g.log && not (nat_eq e.count g.count)
clashes PastCount (Rec r) (End e) = nat_eq e.log r.log && nat_le e.count r.at
clashes StampOrder (Rec r) (Rec s) = nat_eq s.log r.log && nat_lt s.at r.at && nat_le r.stamp s.stamp
clashes _ _ _ = false

-- f, with some fact of the set
abbrev pub is_against : Kind → List Fact → Fact → Bool
is_against k facts f = list_any (clashes k f) facts

-- the least of some places: by the log, then by the place in it
abbrev pub lesser : Place → Place → Place
lesser p q = if nat_lt p.0 q.0 || (nat_eq p.0 q.0 && nat_le p.1 q.1) then p else q

-- the lesser of a place and another one, if there is another
abbrev pub least_with : Place → Option Place → Option Place
least_with p None = Some p
least_with p (Some q) = Some (lesser p q)

-- the least of some places
abbrev pub least_place : List Place → Option Place
least_place [] = None
least_place (p ∷ ps) = least_with p (least_place ps)

-- the place reported of a kind
abbrev pub conflict : Kind → List Fact → Option Place
conflict k facts = least_place (map place_of (filter (is_against k facts) facts))

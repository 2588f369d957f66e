-- Crews that get their senders one after another.
use Rattle.std.proofs.Common.{◌≡◌, ◌≢◌, ◌<◌, ◌≤◌, ◌+◌, ℕ, List, length, get_or, set, sym, ap, subst, refl, ◌∙◌, arith}
use Rattle.std.proofs.lemmas.List.{get_or_default, get_or-set_same, get_or-set_other, length-set}
use mathlib.Core.Logic.{dite}
use native.Mathlib.Decide.{ℕ_discrete}
use Rattle.cli_audit.specs.Seats.{AreConnected, AreMatched, CrewOf, IsConnected, IsCrewAt, AreCrews, with_senders}
use Rattle.aud_node.specs.Meanings.{NodeOf}

-- those before the place are connected, the others as they were
pub record ConnectedTo (place : ℕ) (old new : List CrewOf) : Type 0 where
  pub count : length new ≡ length old
  pub before : (k : ℕ) (c d : CrewOf) → k < length old → k < place → IsConnected (length old) (get_or old k c) (get_or new k d)
  pub after : (k : ℕ) (c d : CrewOf) → k < length old → place ≤ k → get_or new k d ≡ get_or old k c

pub connected_none : (all : List CrewOf) → ConnectedTo 0 all all
connected_none all = record {
  count = refl;
  before = λ k c d lt low. absurd (omega (arith, low));
  after = λ k c d lt high. get_or_default all k d c lt;
}

pub connected_more : (place : ℕ) (old mid : List CrewOf) (x : CrewOf) → place < length old → x.senders + 1 ≡ length old →
    ((d : CrewOf) → x ≡ with_senders x.senders (get_or mid place d)) → ConnectedTo place old mid → ConnectedTo (place + 1) old (set mid place x)
connected_more place old mid x lt many is so = record {
  count = length-set mid place x ∙ so.count;
  before = λ k c d inside low. dite (ℕ_discrete k place) (here k c d inside) (λ ne. there k c d inside ne (omega (arith, low, ne)));
  after = λ k c d inside high.
      let ne : k ≢ place = λ e. omega (arith, high, e) in
      get_or-set_other mid place k x d ne ∙ so.after k c d inside (omega (arith, high));
}
  where
    here : (k : ℕ) (c d : CrewOf) → k < length old → k ≡ place → IsConnected (length old) (get_or old k c) (get_or (set mid place x) k d)
    here k c d inside e =
        let count = so.count in
        let at : place < length mid = omega (arith, lt, count) in
        let new : get_or (set mid place x) k d ≡ x = ap (λ (i : ℕ). get_or (set mid place x) i d) e ∙ get_or-set_same mid place x d at in
        let was : get_or mid place d ≡ get_or old k c = so.after place c d lt (omega arith) ∙ ap (λ (i : ℕ). get_or old i c) (sym e) in
        subst (λ (v : CrewOf). IsConnected (length old) (get_or old k c) v) (sym new) (many, is d ∙ ap (with_senders x.senders) was)

    there : (k : ℕ) (c d : CrewOf) → k < length old → k ≢ place → k < place → IsConnected (length old) (get_or old k c) (get_or (set mid place x) k d)
    there k c d inside ne low = subst (λ (v : CrewOf). IsConnected (length old) (get_or old k c) v) (sym (get_or-set_other mid place k x d ne)) (so.before k c d inside low)

pub connected_all : (place : ℕ) (old new : List CrewOf) → length old ≤ place → ConnectedTo place old new → AreConnected old new
connected_all place old new all so = record { count = so.count; each = λ k c d lt. so.before k c d lt (omega (arith, lt, all)) }

-- # Crews of nodes

crew_connected : (n : NodeOf) (count : ℕ) (old new : CrewOf) → IsConnected count old new → IsCrewAt n old → IsCrewAt n new
crew_connected n count old new (many, is) at = subst (IsCrewAt n) (sym is) (record { seats = at.seats; count = at.count; workers = at.workers; taken = at.taken })

pub crews_connected : (nodes : List NodeOf) (old new : List CrewOf) → AreConnected old new → AreCrews nodes old → AreCrews nodes new
crews_connected nodes old new connected all = record {
  count = connected.count ∙ all.count;
  each = λ k n c lt.
      let count = all.count in
      crew_connected (get_or nodes k n) (length old) (get_or old k c) (get_or new k c) (connected.each k c c (omega (arith, lt, count))) (all.each k n c lt);
}

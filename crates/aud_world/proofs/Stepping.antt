-- What each kind of move leaves, and why it is made or not.
use Rattle.std.proofs.Common.{◌≡◌, ℕ, ◌<◌, ◌≤◌, List, [], ◌∷◌, ◌++◌, length, map, sym, ap, subst, ◌∙◌, arith}
use Rattle.std.specs.Prelude.{Some, None, slice_get, Result, Ok, Err, IsErr, IsErrAnd, OnOk, OnErr, MatchResult}
use Rattle.std.proofs.lemmas.Result.{IfOk-from_err}
use Rattle.aud_event.specs.Meanings.{PlanOf}
use Rattle.aud_event.specs.Facts.{first_fact_fault}
use Rattle.aud_event.specs.declared.fact.Fact.{Fact}
use Rattle.aud_facts.specs.Sets.{FactsOf}
use Rattle.aud_know.specs.Norms.{fact, atoms_of}
use Rattle.aud_know.specs.Known.{KnowledgeOf}
use Rattle.aud_know.specs.Findings.{FindingOf, found, IsTrueFinding}
use Rattle.aud_know.specs.Laws.{NormAbsorbs}
use Rattle.aud_world.specs.Clouds.{Cloud, Gains}
use Rattle.aud_world.specs.Moves.{after_move, IsTrueMove}
use Rattle.aud_world.specs.Worlds.{WorldOf, IsWorldOf, AreOfPlan}
use Rattle.aud_world.specs.Faults.{node_of, HasPacket, IsOfWorld, IsAllowed, IsFaultOf, IsTakeFault}
use Rattle.aud_world.specs.declared.moves.Move.{Move}
use Rattle.aud_world.specs.declared.moves.Move.TheVariants.{Feed, Find, Post, Deliver}
use Rattle.aud_world.specs.declared.moves.MoveFault.{MoveFault}
use Rattle.aud_world.specs.declared.moves.MoveFault.TheVariants.{NoNode, NoPacket, PlanMismatch, OutOfMemory}
use Rattle.aud_world.proofs.Gaining.{taken, posted, delivered, as_many, of_plan_at, of_plan_push}

module _ {X : Type 0} (w w' : WorldOf) (c : Cloud) (m : Move X) (number n : ℕ) (s : IsWorldOf w c) (at : number ≡ node_of m) (plan : w'.plan ≡ w.plan) where
  pub fed : (f : Fact) → m ≡ Feed n f → w'.packets ≡ w.packets → Gains number (fact f ∷ []) w.nodes w'.nodes → IsWorldOf w' (after_move c m)
  fed f is packets gained =
      subst (λ (m : Move X). IsWorldOf w' (after_move c m)) (sym is)
      (taken w w' c n (fact f ∷ []) s plan packets (subst (λ k. Gains k (fact f ∷ []) w.nodes w'.nodes) (at ∙ ap node_of is) gained))

  pub found_by : (g : FindingOf) → m ≡ Find n g → w'.packets ≡ w.packets → Gains number (found g) w.nodes w'.nodes → IsWorldOf w' (after_move c m)
  found_by g is packets gained =
      subst (λ (m : Move X). IsWorldOf w' (after_move c m)) (sym is)
      (taken w w' c n (found g) s plan packets (subst (λ k. Gains k (found g) w.nodes w'.nodes) (at ∙ ap node_of is) gained))

  pub posted_by : (node : KnowledgeOf) → m ≡ Post n → slice_get w.nodes number ≡ Some node → w'.nodes ≡ w.nodes → w'.packets ≡ w.packets ++ node ∷ [] → IsWorldOf w' (after_move c m)
  posted_by node is there nodes packets =
      subst (λ (m : Move X). IsWorldOf w' (after_move c m)) (sym is)
      (posted w w' c n node s (subst (λ k. slice_get w.nodes k ≡ Some node) (at ∙ ap node_of is) there) plan nodes packets)

  pub delivered_to : NormAbsorbs → (k : ℕ) (packet : KnowledgeOf) → m ≡ Deliver k n → slice_get w.packets k ≡ Some packet → w'.packets ≡ w.packets → Gains number (atoms_of packet.held) w.nodes w'.nodes → IsWorldOf w' (after_move c m)
  delivered_to absorbs k packet is there packets gained =
      subst (λ (m : Move X). IsWorldOf w' (after_move c m)) (sym is)
      (delivered absorbs w w' c k n packet s there plan packets (subst (λ k. Gains k (atoms_of packet.held) w.nodes w'.nodes) (at ∙ ap node_of is) gained))

module _ {X : Type 0} (w : WorldOf) (m : Move X) (node : node_of m < length w.nodes) where
  pub fed_allowed : (n : ℕ) (f : Fact) → m ≡ Feed n f → first_fact_fault w.plan f ≡ None → IsAllowed w m
  fed_allowed n f is fits = allowed (sym is) node fits
    where
      allowed : {m : Move X} → Feed n f ≡ m → node_of m < length w.nodes → first_fact_fault w.plan f ≡ None → IsAllowed w m
      allowed same = subst (λ (m : Move X). node_of m < length w.nodes → first_fact_fault w.plan f ≡ None → IsAllowed w m) same (λ lt fits. record { node = lt; packet = tt; of_world = fits })

  pub fed_fault : (n : ℕ) (f : Fact) (e : MoveFault) → m ≡ Feed n f → IsTakeFault (first_fact_fault w.plan f ≡ None) e → IsFaultOf w m e
  fed_fault n f NoNode is h = absurd h
  fed_fault n f NoPacket is h = absurd h
  fed_fault n f PlanMismatch is h = subst (λ (m : Move X). node_of m < length w.nodes → IsFaultOf w m PlanMismatch) (sym is) (λ lt. (lt, tt, h)) node
  fed_fault n f OutOfMemory is h = fed_allowed n f is h

pub fed_true : {X : Type 0} (plan : PlanOf) (m : Move X) (n : ℕ) (f : Fact) → m ≡ Feed n f → first_fact_fault plan f ≡ None → IsTrueMove plan m
fed_true {X} plan m n f is fits = subst (λ (m : Move X). IsTrueMove plan m) (sym is) fits

pub found_true : {X : Type 0} (plan : PlanOf) (m : Move X) (n : ℕ) (g : FindingOf) → m ≡ Find n g → g.facts.plan ≡ plan → IsTrueFinding g → IsTrueMove plan m
found_true {X} plan m n g is same t = subst (λ (m : Move X). IsTrueMove plan m) (sym is) (same, t)

-- # What the moves that are not fed leave and report

module _ {X : Type 0} (w : WorldOf) (m : Move X) (node : node_of m < length w.nodes) where
  pub found_allowed : (n : ℕ) (g : FindingOf) → m ≡ Find n g → g.facts.plan ≡ w.plan → IsAllowed w m
  found_allowed n g is same = record { node = node; packet = subst (λ (m : Move X). HasPacket w m) (sym is) tt; of_world = subst (λ (m : Move X). IsOfWorld w m) (sym is) same }

  pub found_fault : (n : ℕ) (g : FindingOf) → m ≡ Find n g → (g.facts.plan ≡ w.plan → ⊥) → IsFaultOf w m PlanMismatch
  found_fault n g is other = (node, subst (λ (m : Move X). HasPacket w m) (sym is) tt, λ h. other (subst (λ (m : Move X). IsOfWorld w m) is h))

  pub posted_allowed : (n : ℕ) → m ≡ Post n → IsAllowed w m
  posted_allowed n is = record { node = node; packet = subst (λ (m : Move X). HasPacket w m) (sym is) tt; of_world = subst (λ (m : Move X). IsOfWorld w m) (sym is) tt }

  pub delivered_allowed : (k n : ℕ) → m ≡ Deliver k n → k < length w.packets → IsAllowed w m
  delivered_allowed k n is lt = record { node = node; packet = subst (λ (m : Move X). HasPacket w m) (sym is) lt; of_world = subst (λ (m : Move X). IsOfWorld w m) (sym is) tt }

  pub delivered_fault : (k n : ℕ) → m ≡ Deliver k n → (k < length w.packets → ⊥) → IsFaultOf w m NoPacket
  delivered_fault k n is far = (node, λ h. far (subst (λ (m : Move X). HasPacket w m) is h))

pub posted_true : {X : Type 0} (plan : PlanOf) (m : Move X) (n : ℕ) → m ≡ Post n → IsTrueMove plan m
posted_true {X} plan m n is = subst (λ (m : Move X). IsTrueMove plan m) (sym is) tt

pub delivered_true : {X : Type 0} (plan : PlanOf) (m : Move X) (k n : ℕ) → m ≡ Deliver k n → IsTrueMove plan m
delivered_true {X} plan m k n is = subst (λ (m : Move X). IsTrueMove plan m) (sym is) tt

-- # What is returned where a call was refused

module _ {T E : Type 0} where
  pub nothing_made : (r : Result T E) (P : Type 0) → IsErr r → OnOk r P
  nothing_made r P h = IfOk-from_err r (λ _. P) h

  pub left : (r : Result T E) (P : Type 0) → P → OnErr r P
  left (Ok x) P h = tt
  left (Err e) P h = h

  pub reported : (r : Result T E) (d e : E) (P : T → Type 0) (Q : E → Type 0) → IsErrAnd r (λ y. y ≡ d) → d ≡ e → Q e → MatchResult r P Q
  reported (Ok x) d e P Q h same q = absurd h
  reported (Err y) d e P Q h same q = subst Q (sym (h ∙ same)) q

-- # What is seen of a world, whose fields are those of w

module _ (w seen : WorldOf) (is : w ≡ seen) where
  pub plan_seen : w.plan ≡ seen.plan
  plan_seen = ap (λ (v : WorldOf). v.plan) is

  pub nodes_seen : length w.nodes ≡ length seen.nodes
  nodes_seen = ap (λ (v : WorldOf). length v.nodes) is

  packets_seen : (ks : List KnowledgeOf) → ks ≡ w.packets → length ks ≡ length seen.packets
  packets_seen ks e = ap length e ∙ ap (λ (v : WorldOf). length v.packets) is

  -- equal plans, so as many nodes
  pub as_many_seen : (ks : List KnowledgeOf) → map (λ (k : KnowledgeOf). k.plan) ks ≡ map (λ (k : KnowledgeOf). k.plan) w.nodes → length ks ≡ length seen.nodes
  as_many_seen ks e = as_many w.nodes ks e ∙ nodes_seen

  -- a refused call left the nodes, or the packets
  pub nodes_left : (ks : List KnowledgeOf) → ks ≡ w.nodes → Path WorldOf (record { plan = w.plan; nodes = ks; packets = w.packets }) seen
  nodes_left ks e = (λ i. record { plan = w.plan; nodes = e i; packets = w.packets }) ∙ is

  pub packets_left : (ks : List KnowledgeOf) → ks ≡ w.packets → Path WorldOf (record { plan = w.plan; nodes = w.nodes; packets = ks }) seen
  packets_left ks e = (λ i. record { plan = w.plan; nodes = w.nodes; packets = e i }) ∙ is

  -- whether there is a node of the number, from a test of the length
  pub node_there : (n node len : ℕ) → n ≡ node → len ≡ length w.nodes → n < len → node < length seen.nodes
  node_there n node len at e lt = subst (λ l. node < l) (e ∙ nodes_seen) (subst (λ k. k < len) at lt)

  pub no_node : (n node len : ℕ) → n ≡ node → len ≡ length w.nodes → len ≤ n → node < length seen.nodes → ⊥
  no_node n node len at e le lt = let same : length w.nodes ≡ length seen.nodes = nodes_seen in omega (arith, at, e, le, lt, same)

  pub packet_there : (ks : List KnowledgeOf) (k : ℕ) → ks ≡ w.packets → k < length ks → k < length seen.packets
  packet_there ks k e lt = subst (λ l. k < l) (packets_seen ks e) lt

  pub no_packet : (ks : List KnowledgeOf) (k : ℕ) → ks ≡ w.packets → length ks ≤ k → k < length seen.packets → ⊥
  no_packet ks k e le lt = let same : length ks ≡ length seen.packets = packets_seen ks e in omega (arith, le, lt, same)

  -- the plan of facts that were read, and the world's, as they were compared
  pub same_plan : (facts read : FactsOf) (p q : PlanOf) → read ≡ facts → p ≡ read.plan → q ≡ w.plan → p ≡ q → facts.plan ≡ seen.plan
  same_plan facts read p q f of_read of_world e = sym (ap (λ (s : FactsOf). s.plan) f) ∙ sym of_read ∙ e ∙ of_world ∙ plan_seen

  pub other_plan : (facts read : FactsOf) (p q : PlanOf) → read ≡ facts → p ≡ read.plan → q ≡ w.plan → (p ≡ q → ⊥) → facts.plan ≡ seen.plan → ⊥
  other_plan facts read p q f of_read of_world other e = other (of_read ∙ ap (λ (s : FactsOf). s.plan) f ∙ e ∙ sym plan_seen ∙ sym of_world)

  pub of_plan_seen : (ks : List KnowledgeOf) (plan : PlanOf) → plan ≡ seen.plan → AreOfPlan w.plan ks → AreOfPlan plan ks
  of_plan_seen ks plan e all = subst (λ p. AreOfPlan p ks) (sym (e ∙ sym plan_seen)) all

-- the packet of a node has the plan of the nodes
pub of_plan_posted : (plan : PlanOf) (nodes packets new : List KnowledgeOf) (n : ℕ) (k : KnowledgeOf) → slice_get nodes n ≡ Some k → new ≡ packets ++ k ∷ [] → AreOfPlan plan nodes → AreOfPlan plan packets → AreOfPlan plan new
of_plan_posted plan nodes packets new n k there e of_nodes of_packets =
    subst (λ ks. AreOfPlan plan ks) (sym e) (of_plan_push plan packets k of_packets (of_plan_at plan nodes n k of_nodes there))

-- The headline, from the laws of what it speaks of.
use Rattle.std.proofs.Common.{◌≡◌, ℕ, ◌<◌, List, [], ◌∷◌, ◌++◌, map, length, take, sym, ap, subst, ◌∙◌, inl, inr}
use Rattle.std.specs.Prelude.{Some, slice_get}
use Rattle.std.specs.List.{Contains, AllByRecursion}
use Rattle.std.proofs.lemmas.List.Elements.{Contains-append_left, Contains-append_right, Contains-append_cases}
use Rattle.aud_event.specs.Meanings.{PlanOf}
use Rattle.aud_event.specs.declared.fact.Fact.{Fact}
use Rattle.aud_facts.specs.Sets.{AreSound}
use Rattle.aud_facts.specs.Status.{hist}
use Rattle.aud_facts.specs.Quiet.{AreQuiet, PartsAreQuiet, SealedIsAll}
use Rattle.aud_witness.specs.declared.decision.Decision.{Decision}
use Rattle.aud_witness.specs.Orders.{Refuted, Shows}
use Rattle.aud_know.specs.Norms.{fact, refuted, shown, facts_of}
use Rattle.aud_know.specs.Known.{KnownAtom, KnowledgeOf, knowing, norm_of}
use Rattle.aud_know.specs.Truth.{AreWhole, IsKnowledge}
use Rattle.aud_know.specs.Findings.{FindingOf, found, Holds, IsTrueFinding}
use Rattle.aud_know.specs.Laws.{NormIsOfSet, VerdictIsOne, OpaqueIsShown, NotOpaqueIsRefuted}
use Rattle.aud_know.specs.Verdicts.{IsVerdict}
use Rattle.aud_know.specs.declared.verdict.Verdict.TheVariants as verdict
use Rattle.aud_world.specs.Moves.{after_moves, at_first, atoms, brought, brought_by, IsTrueMove}
use Rattle.aud_world.specs.Worlds.{WorldOf, IsWorldOf}
use Rattle.aud_world.specs.Headline.{Headline, held_at}
use Rattle.aud_world.specs.Took.{TookSame}
use Rattle.aud_world.proofs.Tracing.{atoms_taken}
use Rattle.aud_world.specs.declared.moves.Move.{Move}
use Rattle.aud_world.specs.declared.moves.Move.TheVariants.{Feed, Find, Post, Deliver}
use Rattle.aud_world.proofs.Gaining.{at_known}
use Rattle.aud_world.proofs.Knowing.{first, later, nowhere, head_or_later, fact_there, IsBacked, AreBacked, norm_facts, norm_ordered, norm_sound, is_knowledge}
use Rattle.aud_world.proofs.Moving.{all_take, all_map, of_node, as_many_nodes, length_replicate}

-- what is backed among some atoms is backed among more
widened : (plan : PlanOf) (xs ys : List KnownAtom) (a : KnownAtom) → ((f : Fact) → Contains xs (fact f) → Contains ys (fact f)) → IsBacked plan xs a → IsBacked plan ys a
widened plan xs ys (fact f) more h = h
widened plan xs ys (refuted p) more h = record { finding = h.finding; is_true = h.is_true; of_plan = h.of_plan; claims = h.claims; among = λ f k. more f (h.among f k) }
widened plan xs ys (shown p) more h = record { finding = h.finding; is_true = h.is_true; of_plan = h.of_plan; claims = h.claims; among = λ f k. more f (h.among f k) }

backed_none : (plan : PlanOf) → AreBacked plan []
backed_none plan a h = absurd (nowhere a h)

backed_both : (plan : PlanOf) (xs ys : List KnownAtom) → AreBacked plan xs → AreBacked plan ys → AreBacked plan (xs ++ ys)
backed_both plan xs ys b c a h = elim (Contains-append_cases xs ys a h) [
  | inl left ↦ widened plan xs (xs ++ ys) a (λ f k. Contains-append_left xs ys (fact f) k) (b a left)
  | inr right ↦ widened plan ys (xs ++ ys) a (λ f k. Contains-append_right xs ys (fact f) k) (c a right)
]

abbrev fact_atoms : List Fact → List KnownAtom
fact_atoms fs = map fact fs

-- the facts of a finding are among its atoms
in_map : (fs : List Fact) (f : Fact) → Contains fs f → Contains (fact_atoms fs) (fact f)
in_map [] f h = absurd (nowhere f h)
in_map (e ∷ fs) f h = elim (head_or_later e fs f h) [
  | inl same ↦ subst (λ (z : Fact). Contains (fact e ∷ fact_atoms fs) (fact z)) (sym same) (first (fact e) (fact_atoms fs))
  | inr rest ↦ later (fact e) (fact_atoms fs) (fact f) (in_map fs f rest)
]

backed_facts : (plan : PlanOf) (fs : List Fact) (ys : List KnownAtom) → AreSound plan fs → (a : KnownAtom) → Contains (fact_atoms fs) a → IsBacked plan ys a
backed_facts plan [] ys sound a h = absurd (nowhere a h)
backed_facts plan (f ∷ fs) ys sound a h = elim (head_or_later (fact f) (fact_atoms fs) a h) [
  | inl same ↦ subst (λ (z : KnownAtom). IsBacked plan ys z) (sym same) sound.0
  | inr rest ↦ backed_facts plan fs ys sound.1 a rest
]

claim_backed : (plan : PlanOf) (g : FindingOf) (a : KnownAtom) → IsTrueFinding g → g.facts.plan ≡ plan → a ≡ g.claim → IsBacked plan (found g) a
claim_backed plan g (fact f) t e same = absurd (subst (λ (z : KnownAtom). Holds g.facts z) (sym same) t.holds)
claim_backed plan g (refuted p) t e same = record { finding = g; is_true = t; of_plan = e; claims = sym same; among = λ f h. later g.claim (fact_atoms g.facts.facts) (fact f) (in_map g.facts.facts f h) }
claim_backed plan g (shown p) t e same = record { finding = g; is_true = t; of_plan = e; claims = sym same; among = λ f h. later g.claim (fact_atoms g.facts.facts) (fact f) (in_map g.facts.facts f h) }

found_backed : (plan : PlanOf) (g : FindingOf) → IsTrueFinding g → g.facts.plan ≡ plan → AreBacked plan (found g)
found_backed plan g t e a h = elim (head_or_later g.claim (fact_atoms g.facts.facts) a h) [
  | inl same ↦ claim_backed plan g a t e same
  | inr rest ↦ backed_facts plan g.facts.facts (found g) (subst (λ (p : PlanOf). AreSound p g.facts.facts) e t.sound) a rest
]

-- what a true move brings is backed
brought_backed : {X : Type 0} (plan : PlanOf) (m : Move X) → IsTrueMove plan m → AreBacked plan (brought_by m)
brought_backed plan (Feed n f) t a h = elim (head_or_later (fact f) [] a h) [ inl same ↦ subst (λ (z : KnownAtom). IsBacked plan (fact f ∷ []) z) (sym same) t | inr rest ↦ absurd (nowhere a rest) ]
brought_backed plan (Find n g) t a h = found_backed plan g t.1 t.0 a h
brought_backed plan (Post n) t a h = absurd (nowhere a h)
brought_backed plan (Deliver k n) t a h = absurd (nowhere a h)

-- all that was brought is backed, and so is what each node took
all_backed : {X : Type 0} (plan : PlanOf) (ms : List (Move X)) → AllByRecursion (IsTrueMove plan) ms → AreBacked plan (brought ms)
all_backed plan [] h = backed_none plan
all_backed plan (m ∷ ms) h = backed_both plan (brought_by m) (brought ms) (brought_backed plan m h.0) (all_backed plan ms h.1)

node_backed : {X : Type 0} (plan : PlanOf) (count : ℕ) (ms : List (Move X)) (n : ℕ) → AllByRecursion (IsTrueMove plan) ms → AreBacked plan (atoms count ms n)
node_backed plan count ms n h =
    of_node (AreBacked plan) (backed_none plan) (backed_both plan) count ms n
    (all_map (IsTrueMove plan) (λ m. AreBacked plan (brought_by m)) (brought_backed plan) ms h)

-- the atoms of a node are among all that was brought
abbrev Among : List KnownAtom → List KnownAtom → Type 0
Among all xs = (a : KnownAtom) → Contains xs a → Contains all a

among_none : (all : List KnownAtom) → Among all []
among_none all a h = absurd (nowhere a h)

among_both : (all xs ys : List KnownAtom) → Among all xs → Among all ys → Among all (xs ++ ys)
among_both all xs ys b c a h = elim (Contains-append_cases xs ys a h) [ inl left ↦ b a left | inr right ↦ c a right ]

among_each : {X : Type 0} (all : List KnownAtom) (ms : List (Move X)) → Among all (brought ms) → AllByRecursion (λ m. Among all (brought_by m)) ms
among_each all [] h = tt
among_each all (m ∷ ms) h =
    (λ a k. h a (Contains-append_left (brought_by m) (brought ms) a k), among_each all ms (λ a k. h a (Contains-append_right (brought_by m) (brought ms) a k)))

node_among : {X : Type 0} (count : ℕ) (ms : List (Move X)) (i n : ℕ) → Among (brought ms) (atoms count (take i ms) n)
node_among count ms i n =
    of_node (Among (brought ms)) (among_none (brought ms)) (among_both (brought ms)) count (take i ms) n
    (all_take (λ m. Among (brought ms) (brought_by m)) ms i (among_each (brought ms) ms (λ a h. h)))

module _ {X : Type 0} (of_set : NormIsOfSet) (one : VerdictIsOne X) (shows : OpaqueIsShown X) (refutes : NotOpaqueIsRefuted X) (parts : PartsAreQuiet) (all : SealedIsAll)
    (count : ℕ) (moves : List (Move X)) (w : WorldOf) (truth : AllByRecursion (IsTrueMove w.plan) moves) where
  knowledge : (i n : ℕ) → IsKnowledge w.plan (norm_of (atoms count (take i moves) n))
  knowledge i n = is_knowledge all w.plan (atoms count (take i moves) n) (node_backed w.plan count (take i moves) n (all_take (IsTrueMove w.plan) moves i truth))

  held_in : (ms : List (Move X)) (v : WorldOf) → IsWorldOf v (after_moves (at_first count) ms) → (n : ℕ) → n < count → slice_get v.nodes n ≡ Some (knowing v.plan (atoms count ms n))
  held_in ms v s n lt =
      let cloud = after_moves (at_first count) ms in
      let many : length cloud.nodes ≡ count = as_many_nodes (at_first count) ms ∙ length_replicate count [] in
      ap (λ l. slice_get l n) s.nodes ∙ at_known v.plan cloud.nodes n (subst (λ k. n < k) (sym many) lt)

  held_then : (i n : ℕ) (v : WorldOf) → n < count → v.plan ≡ w.plan → IsWorldOf v (after_moves (at_first count) (take i moves)) → slice_get v.nodes n ≡ Some (held_at w.plan count moves i n)
  held_then i n v lt e s = held_in (take i moves) v s n lt ∙ ap (λ p. Some (knowing p (atoms count (take i moves) n))) e

  equal : (i n j m : ℕ) → TookSame count moves i n j m → held_at w.plan count moves i n ≡ held_at w.plan count moves j m
  equal i n j m same =
      let norms = of_set (atoms count (take i moves) n) (atoms count (take j moves) m)
      (λ a h. (atoms_taken count moves j m a).1 ((same a).0 ((atoms_taken count moves i n a).0 h)))
      (λ a h. (atoms_taken count moves i n a).1 ((same a).1 ((atoms_taken count moves j m a).0 h))) in
      λ k. record { plan = w.plan; held = norms k }

  opaque_shown : (i n : ℕ) (p : List Decision) → IsVerdict {X = X} (held_at w.plan count moves i n) (verdict.Opaque p) →
      AreWhole w.plan (held_at w.plan count moves i n).held.facts × Shows w.plan.objects (hist (held_at w.plan count moves i n).held.facts) p
  opaque_shown i n p v = shows (held_at w.plan count moves i n) p (knowledge i n) v

  refuted_all : (i n : ℕ) → IsVerdict {X = X} (held_at w.plan count moves i n) verdict.NotOpaque →
      AreWhole w.plan (held_at w.plan count moves i n).held.facts × Refuted w.plan.objects (hist (held_at w.plan count moves i n).held.facts) []
  refuted_all i n v = refutes (held_at w.plan count moves i n) (knowledge i n) v

  -- sealed facts of a node are all that was brought, where these conflict nowhere
  all_brought : (i n : ℕ) → AreQuiet (facts_of (brought moves)) → AreWhole w.plan (held_at w.plan count moves i n).held.facts → (norm_of (brought moves)).facts ≡ (held_at w.plan count moves i n).held.facts
  all_brought i n quiet whole =
      all w.plan (norm_of (atoms count (take i moves) n)).facts (norm_of (brought moves)).facts (norm_ordered (atoms count (take i moves) n)) (norm_ordered (brought moves))
      (norm_sound w.plan (brought moves) (all_backed w.plan moves truth)) whole.sealed
      (λ f h. (norm_facts (brought moves) f).1 (node_among count moves i n (fact f) ((norm_facts (atoms count (take i moves) n) f).0 h)))
      (parts (norm_of (brought moves)).facts (facts_of (brought moves)) (λ f h. fact_there (brought moves) f ((norm_facts (brought moves) f).0 h)) quiet)

  agreeing : AreQuiet (facts_of (brought moves)) → (i n j m : ℕ) (p : List Decision) →
      IsVerdict {X = X} (held_at w.plan count moves i n) (verdict.Opaque p) → IsVerdict {X = X} (held_at w.plan count moves j m) verdict.NotOpaque → ⊥
  agreeing quiet i n j m p u v =
      let opaque = opaque_shown i n p u in
      let none = refuted_all j m v in
      let same : (held_at w.plan count moves i n).held.facts ≡ (held_at w.plan count moves j m).held.facts = sym (all_brought i n quiet opaque.0) ∙ all_brought j m quiet none.0 in
      none.1 p (subst (λ (fs : List Fact). Shows w.plan.objects (hist fs) p) same opaque.1)

  pub headline : IsWorldOf w (after_moves (at_first count) moves) → Headline count moves w
  headline s = record {
    held = held_in moves w s;
    moments = held_then;
    equal_states = equal;
    one_verdict = λ i n j m same u v a b. one (held_at w.plan count moves j m) u v (subst (λ (k : KnowledgeOf). IsVerdict k u) (equal i n j m same) a) b;
    opaque = opaque_shown;
    not_opaque = refuted_all;
    agree = agreeing;
  }

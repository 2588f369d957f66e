-- A Knowledge whose facts conflict nowhere, made of its facts and of findings of its history.
use Rattle.std.proofs.Common.{◌≡◌, zero, List, [], ◌∷◌, ◌++◌, map, refl, sym, ap, subst, ◌∙◌, inl, inr, append_assoc}
use Rattle.std.specs.Prelude.{Option, Some, None}
use Rattle.std.specs.List.{Contains, AllByRecursion}
use Rattle.std.proofs.lemmas.List.Elements.{Contains-append_left, Contains-append_right, Contains-append_cases}
use Rattle.aud_event.specs.Meanings.{PlanOf}
use Rattle.aud_event.specs.declared.fact.Fact.{Fact}
use Rattle.aud_facts.specs.Sets.{AreSound}
use Rattle.aud_facts.specs.Order.{AreOrdered}
use Rattle.aud_facts.specs.Quiet.{AreQuiet}
use Rattle.aud_witness.specs.declared.decision.Decision.{Decision}
use Rattle.aud_know.specs.Norms.{fact, refuted, shown, atoms_of, witness_atoms}
use Rattle.aud_know.specs.Known.{Held, KnownAtom, KnowledgeOf, norm_of}
use Rattle.aud_know.specs.Truth.{AreWhole, IsKnowledge}
use Rattle.aud_know.specs.Findings.{FindingOf, Holds}
use Rattle.aud_know.specs.Laws.{NormIsOfSet, KnowledgeIsNorm}
use Rattle.aud_world.specs.Moves.{brought, brought_by, IsTrueMove}
use Rattle.aud_world.specs.Logs.{IsMade}
use Rattle.aud_world.specs.declared.moves.Move.{Move}
use Rattle.aud_world.specs.declared.moves.Move.TheVariants.{Feed, Find}
use Rattle.aud_world.proofs.Knowing.{first, later, nowhere, head_or_later}
use Rattle.aud_world.proofs.Moving.{all_append}

-- among all atoms
abbrev Among : List KnownAtom → List KnownAtom → Type 0
Among all xs = (a : KnownAtom) → Contains xs a → Contains all a

among_both : (all xs ys : List KnownAtom) → Among all xs → Among all ys → Among all (xs ++ ys)
among_both all xs ys b c a h = elim (Contains-append_cases xs ys a h) [ inl left ↦ b a left | inr right ↦ c a right ]

among_head : (all : List KnownAtom) (x : KnownAtom) (xs : List KnownAtom) → Contains all x → Among all xs → Among all (x ∷ xs)
among_head all x xs here rest a h = elim (head_or_later x xs a h) [ inl same ↦ subst (λ (z : KnownAtom). Contains all z) (sym same) here | inr more ↦ rest a more ]

brought_append : {X : Type 0} (ms ns : List (Move X)) → brought (ms ++ ns) ≡ brought ms ++ brought ns
brought_append [] ns = refl
brought_append (m ∷ ms) ns = ap (λ l. brought_by m ++ l) (brought_append ms ns) ∙ sym (append_assoc (brought_by m) (brought ms) (brought ns))

abbrev fact_atoms : List Fact → List KnownAtom
fact_atoms fs = map fact fs

abbrev refuted_atoms : List (List Decision) → List KnownAtom
refuted_atoms ps = map refuted ps

from_refuted : (ps : List (List Decision)) (a : KnownAtom) → Contains (refuted_atoms ps) a → (p : List Decision) × Contains ps p × (a ≡ refuted p)
from_refuted [] a h = absurd (nowhere a h)
from_refuted (p ∷ ps) a h = elim (head_or_later (refuted p) (refuted_atoms ps) a h) [
  | inl same ↦ (p, first p ps, same)
  | inr rest ↦ let found = from_refuted ps a rest in (found.0, later p ps found.0 found.1, found.2)
]

from_witness : (w : Option (List Decision)) (a : KnownAtom) → Contains (witness_atoms w) a → (p : List Decision) × (w ≡ Some p) × (a ≡ shown p)
from_witness None a h = absurd (nowhere a h)
from_witness (Some p) a h = elim (head_or_later (shown p) [] a h) [ inl same ↦ (p, refl, same) | inr rest ↦ absurd (nowhere a rest) ]

-- what the atom says holds of the history of the facts
abbrev IsSaid : PlanOf → List Fact → KnownAtom → Type 0
IsSaid plan facts a = AreWhole plan facts × Holds (record { plan = plan; facts = facts }) a

abbrev finding : PlanOf → List Fact → KnownAtom → FindingOf
finding plan facts claim = record { facts = record { plan = plan; facts = facts }; claim = claim }

-- each fact is fed to a node, and each claim on their history is found there
module _ (X : Type 0) (plan : PlanOf) (facts : List Fact) where
  abbrev feeds : List Fact → List (Move X)
  feeds [] = []
  feeds (f ∷ fs) = Feed zero f ∷ feeds fs

  abbrev finds : List KnownAtom → List (Move X)
  finds [] = []
  finds (a ∷ claims) = Find zero (finding plan facts a) ∷ finds claims

  brought_feeds : (fs : List Fact) → brought (feeds fs) ≡ fact_atoms fs
  brought_feeds [] = refl
  brought_feeds (f ∷ fs) = ap (λ l. fact f ∷ l) (brought_feeds fs)

  brought_all : (claims : List KnownAtom) → brought (feeds facts ++ finds claims) ≡ fact_atoms facts ++ brought (finds claims)
  brought_all claims = brought_append (feeds facts) (finds claims) ∙ ap (λ l. l ++ brought (finds claims)) (brought_feeds facts)

  -- what the findings bring are the claims and the facts
  among_found : (all claims : List KnownAtom) → Among all claims → Among all (fact_atoms facts) → Among all (brought (finds claims))
  among_found all [] claimed given a h = absurd (nowhere a h)
  among_found all (c ∷ claims) claimed given a h =
      among_both all (c ∷ fact_atoms facts) (brought (finds claims)) (among_head all c (fact_atoms facts) (claimed c (first c claims)) given)
      (among_found all claims (λ b i. claimed b (later c claims b i)) given) a h

  claims_found : (claims : List KnownAtom) → Among (brought (finds claims)) claims
  claims_found [] a h = absurd (nowhere a h)
  claims_found (c ∷ claims) a h =
      let all = brought (finds (c ∷ claims)) in
      among_head all c claims (first c (fact_atoms facts ++ brought (finds claims)))
      (λ b i. Contains-append_right (c ∷ fact_atoms facts) (brought (finds claims)) b (claims_found claims b i)) a h

  true_feeds : (fs : List Fact) → AreSound plan fs → AllByRecursion (IsTrueMove plan) (feeds fs)
  true_feeds [] t = tt
  true_feeds (f ∷ fs) t = (t.0, true_feeds fs t.1)

  true_finds : AreOrdered facts → AreSound plan facts → (claims : List KnownAtom) → ((a : KnownAtom) → Contains claims a → IsSaid plan facts a) → AllByRecursion (IsTrueMove plan) (finds claims)
  true_finds ordered sound [] each = tt
  true_finds ordered sound (c ∷ claims) each =
      let said = each c (first c claims) in
      ((refl, record { ordered = ordered; sound = sound; whole = said.0; holds = said.1 }), true_finds ordered sound claims (λ a h. each a (later c claims a h)))

abbrev claims_of : Held → List KnownAtom
claims_of held = refuted_atoms held.cover ++ witness_atoms held.witness

each_said : (plan : PlanOf) (held : Held) → IsKnowledge plan held → AreQuiet held.facts → (a : KnownAtom) → Contains (claims_of held) a → IsSaid plan held.facts a
each_said plan held k quiet a h = elim (Contains-append_cases (refuted_atoms held.cover) (witness_atoms held.witness) a h) [
  | inl left ↦ let said = from_refuted held.cover a left in subst (λ (z : KnownAtom). IsSaid plan held.facts z) (sym said.2) (k.true_for.refuted quiet said.0 said.1)
  | inr right ↦ let said = from_witness held.witness a right in subst (λ (z : KnownAtom). IsSaid plan held.facts z) (sym said.2) (k.true_for.shown quiet said.0 said.1)
]

pub made : (X : Type 0) → NormIsOfSet → KnowledgeIsNorm → (plan : PlanOf) (held : Held) → IsKnowledge plan held → AreQuiet held.facts → IsMade X plan held
made X of_set is_norm plan held k quiet =
    let claims = claims_of held in
    let all = atoms_of held in
    let moves : List (Move X) = feeds X plan held.facts held.facts ++ finds X plan held.facts claims in
    let given = brought (finds X plan held.facts claims) in
    let forth : Among (fact_atoms held.facts ++ given) all =
    among_both (fact_atoms held.facts ++ given) (fact_atoms held.facts) claims (λ a h. Contains-append_left (fact_atoms held.facts) given a h)
    (λ a h. Contains-append_right (fact_atoms held.facts) given a (claims_found X plan held.facts claims a h)) in
    let back : Among all (fact_atoms held.facts ++ given) =
    among_both all (fact_atoms held.facts) given (λ a h. Contains-append_left (fact_atoms held.facts) claims a h)
    (among_found X plan held.facts all claims (λ a h. Contains-append_right (fact_atoms held.facts) claims a h) (λ a h. Contains-append_left (fact_atoms held.facts) claims a h)) in
    let own : held ≡ norm_of all = ap (λ (r : KnowledgeOf). r.held) (is_norm (record { plan = plan; held = held }) k) in (
      moves,
      all_append (IsTrueMove plan) (feeds X plan held.facts held.facts) (finds X plan held.facts claims) (true_feeds X plan held.facts held.facts k.sound) (true_finds X plan held.facts k.normal.facts k.sound claims (each_said plan held k quiet)),
      own ∙ of_set all (fact_atoms held.facts ++ given) forth back ∙ ap norm_of (sym (brought_all X plan held.facts claims)),
    )

-- The ends of tasks: of a share, later, and at a closed node.
use Rattle.std.proofs.Common.{◌≡◌, ◌<◌, ◌%◌, ◌++◌, ◌⊎◌, [], ℕ, List, length, map, get_or, All, Contains, Option, Some, None, IfSome, ◌==◌, ◌∷◌, Bool, sym, ap, subst, refl, ◌∙◌, arith, inl, inr, true, ◌+◌}
use Rattle.std.proofs.lemmas.List.Elements.{All-contains, Contains-append_left, Contains-get_or, Contains-push_cases}
use Rattle.std.specs.List.Sorted.{IsPermutation}
use mathlib.Core.List.{IsPrefix}
use Rattle.base_values.proofs.Bools.{nat_eq-is}
use Rattle.aud_event.specs.Meanings.{PlanOf}
use Rattle.aud_facts.specs.Sets.{FactsOf}
use Rattle.aud_witness.specs.declared.decision.Decision.{Decision}
use Rattle.aud_order.specs.Shapes.{ShapeOf, objects_of, history_of}
use Rattle.aud_know.specs.Known.{KnownAtom, KnowledgeOf}
use Rattle.aud_node.specs.Logs.{Entry, atoms_in, state_of}
use Rattle.aud_node.specs.Meanings.{Agrees, PassOf}
use Rattle.aud_node.proofs.Own.{atoms-append}
use Rattle.aud_gossip.specs.Receiving.{GoesFurther}
use Rattle.aud_split.specs.Ends.{faulted}
use Rattle.aud_split.specs.Laws.{KnownIsKept, PoolEndsAll}
use Rattle.aud_split.specs.Pools.{AreSettled}
use Rattle.aud_split.specs.Searched.{IsEndedBy}
use Rattle.aud_split.specs.declared.fault.PoolFault.{PoolFault}
use Rattle.cli_findings.specs.Searches.{IsSearchOf, KnowsEnd, WasSearched, task_budget}
use Rattle.cli_findings.specs.declared.searching.TaskSearch.{TaskSearch}
use Rattle.cli_findings.proofs.Ending.{ended_in, knows_norm}
use Rattle.cli_audit.specs.Seats.{AreLater, CrewOf}
use Rattle.cli_audit.specs.Searches.{HasEnded, HaveEnded, HaveEndedShare, IsShare}
use Rattle.cli_audit.proofs.Sharing.{share_has}

-- # Later

ended_further : (s : ShapeOf) (budget : ℕ) (t : List Decision) (v w : List Entry) → IsPrefix v w →
    IsEndedBy (atoms_in v) (objects_of s) (history_of s) budget t → IsEndedBy (atoms_in w) (objects_of s) (history_of s) budget t
ended_further s budget t v w p =
    ended_in s budget t (atoms_in v) (atoms_in w)
    (λ a there. subst (λ (l : List KnownAtom). Contains l a) (sym (atoms-append v p.0) ∙ ap atoms_in p.1) (Contains-append_left (atoms_in v) (atoms_in p.0) a there))

-- # Passes

pub ended_later : (s : ShapeOf) (budget : ℕ) (old new : List PassOf) (t : List Decision) → AreLater old new → HasEnded s budget old t → HasEnded s budget new t
ended_later s budget old new t later (p, ((k, lt, is), ended)) =
    let count = later.count in
    let q = get_or new k p in
    let further : GoesFurther p q = subst (λ (x : PassOf). GoesFurther x q) is (later.each k p p lt) in
    (q, (Contains-get_or new k p (omega (arith, lt, count)), ended_further s budget t p.view q.view further.0 ended))

pub share_later : (s : ShapeOf) (budget : ℕ) (tasks : List (List Decision)) (nodes number : ℕ) (old new : List PassOf) → AreLater old new →
    HaveEndedShare s budget tasks nodes number old → HaveEndedShare s budget tasks nodes number new
share_later s budget tasks nodes number old new later ended k d lt is = ended_later s budget old new (get_or tasks k d) later (ended k d lt is)

-- where a pool met no fault, each task of the share ended
pub share_ended : PoolEndsAll → (s : ShapeOf) (budget : ℕ) (tasks share left : List (List Decision)) (nodes number n : ℕ) (passes : List PassOf) (drawn : List (ℕ × List Decision)) (faults : List (ℕ × PoolFault)) →
    IsShare tasks nodes number share → n ≡ length passes → 0 < n → IsPermutation share (map (λ d. d.1) drawn ++ left) →
    (left ≡ []) ⊎ ((w : ℕ) → w < n → faulted w faults ≡ true) → All (λ d. d.0 < n) drawn →
    AreSettled s budget passes faults drawn → faults ≡ [] → HaveEndedShare s budget tasks nodes number passes
share_ended law s budget tasks share left nodes number n passes drawn faults shared count some all empty below settled none k d lt is =
    law s budget share left passes drawn (subst (λ (m : ℕ). 0 < m) count some) all
    (subst (λ (m : ℕ). (left ≡ []) ⊎ ((w : ℕ) → w < m → faulted w [] ≡ true)) count
    (subst (λ (f : List (ℕ × PoolFault)). (left ≡ []) ⊎ ((w : ℕ) → w < n → faulted w f ≡ true)) none empty))
    (subst (λ (m : ℕ). All (λ (e : ℕ × List Decision). e.0 < m) drawn) count below)
    (subst (λ (f : List (ℕ × PoolFault)). AreSettled s budget passes f drawn) none settled)
    (get_or tasks k d)
    (let same : k ≡ 0 + k = omega arith in
    subst (λ (l : List (List Decision)). Contains l (get_or tasks k d)) (sym shared) (share_has nodes number tasks 0 k d lt (subst (λ (n : ℕ). n % nodes ≡ number) same is)))

-- # What is known

module _ (kept : KnownIsKept) (s : ShapeOf) (budget : ℕ) (t : List Decision) where
  -- what a pass has seen that a closed node agrees with is known by the node
  pub closed_knows : (passes all rest : List PassOf) (plan : PlanOf) (log : List Entry) (k : KnowledgeOf) → all ≡ passes ++ rest → All (Agrees log) all → k ≡ state_of plan log →
      HasEnded s budget passes t → KnowsEnd s budget k t
  closed_knows passes all rest plan log k is agrees known (p, (there, ended)) =
      let among : Contains all p = subst (λ (l : List PassOf). Contains l p) (sym is) (Contains-append_left passes rest p there) in
      let view : IsPrefix p.view log = (All-contains (Agrees log) all p agrees among).0 in
      knows_norm kept s budget t k (atoms_in log) (ap (λ (j : KnowledgeOf). j.held) known) (ended_further s budget t p.view log view ended)

-- # Lists

pub none_of : {T : Type 0} (b : Bool) (n : ℕ) (xs : List T) → b ≡ (n == 0) → n ≡ length xs → b ≡ true → xs ≡ []
none_of b n [] reported long is = refl
none_of b n (x ∷ xs) reported long is = let none : n ≡ 0 = nat_eq-is n 0 (sym reported ∙ is) in absurd (omega (arith, none, long))

-- # One crew more

pub ended_cases : (s : ShapeOf) (budget : ℕ) (t : List Decision) (all crews : List CrewOf) (c : CrewOf) → all ≡ crews ++ c ∷ [] → HaveEnded s budget all t → HaveEnded s budget crews t ⊎ HasEnded s budget c.passes t
ended_cases s budget t all crews c is (d, (there, ended)) =
    elim (Contains-push_cases crews c d (subst (λ (l : List CrewOf). Contains l d) is there)) [
      | inl before ↦ inl (d, (before, ended))
      | inr same ↦ inr (subst (λ (e : CrewOf). HasEnded s budget e.passes t) (sym same) ended)
    ]

pub none_ended : (s : ShapeOf) (budget : ℕ) (t : List Decision) (crews : List CrewOf) → crews ≡ [] → HaveEnded s budget crews t → ⊥
none_ended s budget t crews is (d, (there, ended)) = let (k, lt, at) = subst (λ (l : List CrewOf). Contains l d) is there in absurd (omega arith)

-- # What was searched

-- where the end of each task of a search is known, it was searched
pub was_searched : (facts : FactsOf) (budget : Option ℕ) (known : KnowledgeOf) (found : Option TaskSearch) (crews : List CrewOf) →
    IfSome found (λ s. (s.budget ≡ task_budget budget) × IsSearchOf facts s.shape.value s.tasks.items) →
    IfSome found (λ s. (t : List Decision) → Contains s.tasks.items t → HaveEnded s.shape.value s.budget crews t) →
    ((s : ShapeOf) (b : ℕ) (t : List Decision) → HaveEnded s b crews t → KnowsEnd s b known t) → WasSearched facts budget known found
was_searched facts budget known None crews is ended knows = tt
was_searched facts budget known (Some s) crews (of_budget, of_facts) ended knows = (of_budget, (of_facts, λ t there. knows s.shape.value s.budget t (ended t there)))

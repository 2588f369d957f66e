-- Packets and deltas, one after another.
use Rattle.std.proofs.Common.{◌≡◌, ◌∙◌, ◌++◌, ◌∷◌, [], List, Option, Some, None, map, sym, ap, subst, inl, inr}
use Rattle.std.specs.List.{Contains}
use Rattle.std.proofs.lemmas.List.Elements.{Contains-append_left, Contains-append_right, Contains-append_cases}
use mathlib.Core.List.{IsPrefix}
use Rattle.aud_event.specs.Meanings.{PlanOf}
use Rattle.aud_know.specs.Known.{KnownAtom, KnowledgeOf, norm_of}
use Rattle.aud_know.specs.Norms.{atoms_of}
use Rattle.aud_know.specs.Laws.{NormAbsorbs, NormIsOfSet}
use Rattle.aud_node.specs.Logs.{Entry, atoms_in, state_of}
use Rattle.aud_gossip.specs.Deltas.{joined, joined_all, Took, GoOn}
use Rattle.aud_node.proofs.Own.{atoms-append}

-- the join of the deltas is the join of the packets
packets_join : (old : Option KnowledgeOf) (steps : List (KnowledgeOf × KnowledgeOf)) (new : Option KnowledgeOf) → Took old steps new → new ≡ joined_all old (map (λ step. step.0) steps)
packets_join old [] new e = e
packets_join old (step ∷ steps) new (between, packet, delta, rest) = packets_join between steps new rest ∙ ap (λ k. joined_all k (map (λ s. s.0) steps)) packet

deltas_join : (old : Option KnowledgeOf) (steps : List (KnowledgeOf × KnowledgeOf)) (new : Option KnowledgeOf) → Took old steps new → new ≡ joined_all old (map (λ step. step.1) steps)
deltas_join old [] new e = e
deltas_join old (step ∷ steps) new (between, packet, delta, rest) = deltas_join between steps new rest ∙ ap (λ k. joined_all k (map (λ s. s.1) steps)) delta

pub deltas_enough : (steps : List (KnowledgeOf × KnowledgeOf)) (new : Option KnowledgeOf) → Took None steps new → (new ≡ joined_all None (map (λ step. step.0) steps)) × (new ≡ joined_all None (map (λ step. step.1) steps))
deltas_enough steps new took = (packets_join None steps new took, deltas_join None steps new took)

module _ (absorbs : NormAbsorbs) (same : NormIsOfSet) where
  twice : (xs ys : List KnownAtom) → norm_of ((xs ++ ys) ++ xs) ≡ norm_of (xs ++ ys)
  twice xs ys = same ((xs ++ ys) ++ xs) (xs ++ ys)
      (λ a h. elim (Contains-append_cases (xs ++ ys) xs a h) [ inl there ↦ there | inr there ↦ Contains-append_left xs ys a there ])
      (λ a h. Contains-append_left (xs ++ ys) xs a h)

  swapped : (xs ys : List KnownAtom) → norm_of (xs ++ ys) ≡ norm_of (ys ++ xs)
  swapped xs ys = same (xs ++ ys) (ys ++ xs) (swap xs ys) (swap ys xs)
    where
      swap : (xs ys : List KnownAtom) (a : KnownAtom) → Contains (xs ++ ys) a → Contains (ys ++ xs) a
      swap xs ys a h = elim (Contains-append_cases xs ys a h) [ inl there ↦ Contains-append_right ys xs a there | inr there ↦ Contains-append_left ys xs a there ]

  -- what is known of a beginning adds nothing
  absorbed : (xs ys : List KnownAtom) → norm_of (atoms_of (norm_of xs) ++ atoms_of (norm_of (xs ++ ys))) ≡ norm_of (xs ++ ys)
  absorbed xs ys =
      absorbs (xs ++ ys) (atoms_of (norm_of xs))
      ∙ swapped (atoms_of (norm_of xs)) (xs ++ ys)
      ∙ absorbs xs (xs ++ ys)
      ∙ twice xs ys

  later_state : (plan : PlanOf) (old new : List Entry) → IsPrefix old new → joined (Some (state_of plan old)) (state_of plan new) ≡ Some (state_of plan new)
  later_state plan old new (rest, e) = subst (λ (log : List Entry). joined (Some (state_of plan old)) (state_of plan log) ≡ Some (state_of plan log)) e whole
    where
      whole : joined (Some (state_of plan old)) (state_of plan (old ++ rest)) ≡ Some (state_of plan (old ++ rest))
      whole =
          let all = (λ i. norm_of (atoms_of (norm_of (atoms_in old)) ++ atoms_of (norm_of (atoms-append old rest i)))) ∙ absorbed (atoms_in old) (atoms_in rest) ∙ ap norm_of (sym (atoms-append old rest)) in
          λ i. Some (record { plan = plan; held = all i })

  pub last_join : (plan : PlanOf) (log : List Entry) (logs : List (List Entry)) (last : List Entry) → GoOn log logs last → joined_all (Some (state_of plan log)) (map (state_of plan) logs) ≡ Some (state_of plan last)
  last_join plan log [] last e = ap (λ l. Some (state_of plan l)) (sym e)
  last_join plan log (next ∷ logs) last (begun, rest) = ap (λ k. joined_all k (map (state_of plan) logs)) (later_state plan log next begun) ∙ last_join plan next logs last rest

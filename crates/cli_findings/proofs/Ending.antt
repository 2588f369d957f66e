-- The ends of tasks in what is known, and in what two know together.
use Rattle.std.proofs.Common.{◌≡◌, ◌++◌, ℕ, List, Contains, ap, subst, sym, inl, inr}
use Rattle.std.proofs.lemmas.List.Elements.{Contains-append_left, Contains-append_right}
use Rattle.aud_witness.specs.declared.decision.Decision.{Decision}
use Rattle.aud_order.specs.Shapes.{ShapeOf, objects_of, history_of}
use Rattle.aud_cover.specs.Closings.{IsCovered}
use Rattle.aud_know.specs.Norms.{atoms_of, refuted, shown}
use Rattle.aud_know.specs.Known.{Held, KnownAtom, KnowledgeOf, Takes, norm_of}
use Rattle.aud_know.specs.Laws.{KnowledgeIsNorm}
use Rattle.aud_know.specs.Truth.{IsKnowledge}
use Rattle.aud_split.specs.Laws.{KnownIsKept}
use Rattle.aud_split.specs.Searched.{HasWitness, IsEndedBy}
use Rattle.cli_findings.specs.Searches.{KnowsEnd}

pub ended_in : (s : ShapeOf) (budget : ℕ) (t : List Decision) (xs ys : List KnownAtom) → ((a : KnownAtom) → Contains xs a → Contains ys a) →
    IsEndedBy xs (objects_of s) (history_of s) budget t → IsEndedBy ys (objects_of s) (history_of s) budget t
ended_in s budget t xs ys more (inl (q, (rest, (there, is)))) = inl (q, (rest, (more (refuted q) there, is)))
ended_in s budget t xs ys more (inr (inl (q, there))) = inr (inl (q, more (shown q) there))
ended_in s budget t xs ys more (inr (inr spent)) = inr (inr spent)

module _ (kept : KnownIsKept) (s : ShapeOf) (budget : ℕ) (t : List Decision) where
  -- an end by atoms is known by their normal form
  pub knows_norm : (k : KnowledgeOf) (xs : List KnownAtom) → k.held ≡ norm_of xs → IsEndedBy xs (objects_of s) (history_of s) budget t → KnowsEnd s budget k t
  knows_norm k xs took (inl there) = inl (subst (λ (h : Held). IsCovered h.cover t) (sym took) (((kept xs).refuted t).0 there))
  knows_norm k xs took (inr (inl some)) = inr (inl (subst HasWitness (sym took) ((kept xs).shown.0 some)))
  knows_norm k xs took (inr (inr spent)) = inr (inr spent)

  -- and the other way
  pub norm_knows : (k : KnowledgeOf) (xs : List KnownAtom) → k.held ≡ norm_of xs → KnowsEnd s budget k t → IsEndedBy xs (objects_of s) (history_of s) budget t
  norm_knows k xs took (inl there) = inl (((kept xs).refuted t).1 (subst (λ (h : Held). IsCovered h.cover t) took there))
  norm_knows k xs took (inr (inl some)) = inr (inl ((kept xs).shown.1 (subst HasWitness took some)))
  norm_knows k xs took (inr (inr spent)) = inr (inr spent)

  module _ (norm : KnowledgeIsNorm) (one other new : KnowledgeOf) (truth : IsKnowledge one.plan one.held) (also_true : IsKnowledge other.plan other.held) (takes : Takes one.held new.held (atoms_of other.held)) where
    both : new.held ≡ norm_of (atoms_of one.held ++ atoms_of other.held)
    both = takes (atoms_of one.held) (ap (λ (j : KnowledgeOf). j.held) (norm one truth))

    pub knows_one : KnowsEnd s budget one t → KnowsEnd s budget new t
    knows_one knows =
        knows_norm new (atoms_of one.held ++ atoms_of other.held) both
        (ended_in s budget t (atoms_of one.held) (atoms_of one.held ++ atoms_of other.held) (Contains-append_left (atoms_of one.held) (atoms_of other.held))
        (norm_knows one (atoms_of one.held) (ap (λ (j : KnowledgeOf). j.held) (norm one truth)) knows))

    pub knows_other : KnowsEnd s budget other t → KnowsEnd s budget new t
    knows_other knows =
        knows_norm new (atoms_of one.held ++ atoms_of other.held) both
        (ended_in s budget t (atoms_of other.held) (atoms_of one.held ++ atoms_of other.held) (Contains-append_right (atoms_of one.held) (atoms_of other.held))
        (norm_knows other (atoms_of other.held) (ap (λ (j : KnowledgeOf). j.held) (norm other also_true)) knows))

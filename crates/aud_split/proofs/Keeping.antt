-- What was taken of a refuted beginning and of a witness stays.
use Rattle.std.specs.Prelude.{◌≡◌, List, ◌++◌, Option, Some, None, refl}
use Rattle.std.proofs.Common.{◌∙◌, subst}
use Rattle.aud_event.specs.Exactness.{fact_exact}
use Rattle.aud_lattice.specs.Covers.{begins}
use Rattle.base_sorted.proofs.Strict.{some_passes, one_passes}
use Rattle.aud_witness.specs.declared.decision.Decision.{Decision}
use Rattle.aud_witness.specs.DecisionOrder.{decision_cmp, decisions_total, decision_exact}
use Rattle.aud_cover.specs.Closings.{IsCovered}
use Rattle.aud_know.specs.Norms.{refuted_of}
use Rattle.aud_know.specs.Known.{KnownAtom, norm_of}
use Rattle.aud_know.specs.Members.{IsLeastShown}
use Rattle.aud_know.proofs.Keeping.{fact_total}
use Rattle.aud_know.proofs.Norming.{there_refuted, covers-norm}
use Rattle.aud_know.proofs.Exact.{norm_exact}
use Rattle.aud_split.specs.Searched.{IsRefutedBy, HasShown}
use Rattle.aud_split.specs.Laws.{KnownIsKept}
use Rattle.aud_cover.proofs.Beginnings.{begins-rest, begins-longer}

-- a beginning that an atom refutes has a beginning in the cover
kept_refuted : (atoms : List KnownAtom) (t : List Decision) → IsRefutedBy atoms t → IsCovered (norm_of atoms).cover t
kept_refuted atoms t (q, (rest, (there, is))) =
    let found =
    some_passes (λ p. begins decision_cmp p (q ++ rest)) (norm_of atoms).cover
    (covers-norm fact_total fact_exact decisions_total decision_exact atoms (q ++ rest)
    ∙ one_passes (λ p. begins decision_cmp p (q ++ rest)) (refuted_of atoms) q (there_refuted atoms q there) (begins-longer q rest)) in
    let after = begins-rest found.0 (q ++ rest) found.2 in
    (found.0, (after.0, (found.1, is ∙ after.1)))

-- the least witness is the witness of an atom, and there is one where an atom is a witness
kept_shown : (atoms : List KnownAtom) (w : Option (List Decision)) → IsLeastShown atoms w → HasShown atoms → (p : List Decision) × (w ≡ Some p)
kept_shown atoms None none (q, there) = absurd (none q there)
kept_shown atoms (Some p) least some = (p, refl)

pub known_kept : KnownIsKept
known_kept atoms =
    let exact = (norm_exact atoms (norm_of atoms)).0 refl in record {
      refuted = λ t. (kept_refuted atoms t, λ (q, (rest, (member, is))). (q, (rest, (((exact.cover q).0 member).there, is))));
      shown = (
        kept_shown atoms (norm_of atoms).witness exact.witness,
        λ (q, is). (q, (subst (λ (w : Option (List Decision)). IsLeastShown atoms w) is exact.witness).0),
      );
    }

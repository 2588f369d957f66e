use Rattle.std.proofs.Common.{refl, inl, inr}
use Rattle.aud_lattice.specs.declared.mark.Mark.TheVariants.{Covered}
use Rattle.aud_cover.proofs.Beginnings.{marked-covered, marked-inner, marked-outside}
use Rattle.aud_know.proofs.knowledge.Knowledge.knows.Goals as goal

pub returns-in-Covered : goal.returns-in-Covered
returns-in-Covered g c =
    rw (← c.self.view_is, ← c.deref.ensures, ← c.decisions.ensures)
    ((λ _. marked-covered c.deref.result.now c.decisions.result.now Covered c.in-Covered.ensures.covered c.in-Covered.ensures.inner refl), λ _. refl)

pub returns-in-Inner : goal.returns-in-Inner
returns-in-Inner g c =
    rw (← c.self.view_is, ← c.deref.ensures, ← c.decisions.ensures) (
      (λ e. absurd (cc)),
      λ there. absurd (elim c.in-Inner.is [
        | inl is ↦ (marked-inner c.deref.result.now c.decisions.result.now c.mark.result c.mark.ensures.covered c.mark.ensures.inner is).0 there
        | inr is ↦ (marked-outside c.deref.result.now c.decisions.result.now c.mark.result c.mark.ensures.covered c.mark.ensures.inner is).0 there
      ]),
    )

-- What a mark says of the members of a cover.
use Rattle.std.proofs.Common.{◌≡◌, Bool, true, false, List, refl, sym, ap, ◌∙◌, ◌↔◌, if◌then◌else◌}
use mathlib.Core.Bool.{true≢false}
use Rattle.std.specs.declared.cmp.Ordering.{Ordering}
use Rattle.aud_lattice.specs.declared.mark.Mark.TheVariants.{Covered, Inner, Outside}
use Rattle.aud_lattice.specs.Covers.{begins, covers, extends, HasBeginning, BeginsOne}
use Rattle.aud_lattice.specs.Marks.{mark_of}
use Rattle.base_sorted.proofs.Strict.{some_passes, one_passes}

covered_only : (b c : Bool) → (if b then Covered else (if c then Inner else Outside)) ≡ Covered → b ≡ true
covered_only true c e = refl
covered_only false true e = cc
covered_only false false e = cc

inner_only : (b c : Bool) → (if b then Covered else (if c then Inner else Outside)) ≡ Inner → (b ≡ false) × (c ≡ true)
inner_only true c e = cc
inner_only false true e = (refl, refl)
inner_only false false e = cc

inner_at : (b c : Bool) → (b ≡ true → ⊥) → c ≡ true → (if b then Covered else (if c then Inner else Outside)) ≡ Inner
inner_at true c f e = absurd (f refl)
inner_at false true f e = refl
inner_at false false f e = absurd (true≢false (sym e))

pub inner≢covered : Inner ≡ Covered → ⊥
inner≢covered e = cc

pub outside≢covered : Outside ≡ Covered → ⊥
outside≢covered e = cc

module _ {D : Type 0} (R : D → D → Ordering) (ps : List (List D)) (q : List D) where
  pub covered_is : (mark_of R ps q ≡ Covered) ↔ HasBeginning R ps q
  covered_is = (
    λ e. some_passes (λ p. begins R p q) ps (covered_only (covers R ps q) (extends R ps q) e),
    λ h. ap (λ b. if b then Covered else (if extends R ps q then Inner else Outside)) (one_passes (λ p. begins R p q) ps h.0 h.1 h.2),
  )

  pub inner_is : (mark_of R ps q ≡ Inner) ↔ ((¬ HasBeginning R ps q) × BeginsOne R ps q)
  inner_is = (
    λ e. let both = inner_only (covers R ps q) (extends R ps q) e in (
      λ h. true≢false (sym (one_passes (λ p. begins R p q) ps h.0 h.1 h.2) ∙ both.0),
      some_passes (λ p. begins R q p) ps both.1,
    ),
    λ h. inner_at (covers R ps q) (extends R ps q) (λ e. h.0 (some_passes (λ p. begins R p q) ps e)) (one_passes (λ p. begins R q p) ps h.1.0 h.1.1 h.1.2),
  )

  pub covered_mark : covers R ps q ≡ true → mark_of R ps q ≡ Covered
  covered_mark e = ap (λ b. if b then Covered else (if extends R ps q then Inner else Outside)) e

use Rattle.std.proofs.Common.{◌∙◌, List, sym, subst, Contains, ◌↔◌}
use Rattle.aud_lattice.specs.Covers.{cover_union, IsCover, IsKept}
use Rattle.aud_lattice.proofs.Minimal.{kept, keeps}
use Rattle.aud_lattice.proofs.Normed.{norm_of_join}
use Rattle.base_values.proofs.Results.{on_ok}
use Rattle.aud_lattice.proofs.cover.CoverLattice.join.Goals as goal

pub returns-clause-kept : goal.returns-clause-kept
returns-clause-kept g c =
    let o = g.met.D.Ord.total in
    let ex = g.met.D.Key.exact in
    let cover = subst (IsCover g.D.Ord.cmp) c.other.view_is c.join_with.ensures.cover in
    on_ok c.join_with.result _ _
    (λ all. subst (λ z. (p : List g.row.D.Denot) → Contains z p ↔ IsKept g.D.Ord.cmp c.args.self.now c.args.other.now p)
    (sym (all ∙ (λ i. cover_union g.D.Ord.cmp (c.self.view_is i) (c.other.view_is i))))
    (λ p. (kept o ex c.args.self.now c.args.other.now cover p, keeps o ex c.args.self.now c.args.other.now cover p)))
    c.join_with.ensures.ok

pub returns-clause-norm : goal.returns-clause-norm
returns-clause-norm g c =
    let cover = subst (IsCover g.D.Ord.cmp) c.other.view_is c.join_with.ensures.cover in
    on_ok c.join_with.result _ _
    (λ all. all ∙ (λ i. cover_union g.D.Ord.cmp (c.self.view_is i) (c.other.view_is i)) ∙ norm_of_join g.met.D.Ord.total g.met.D.Key.exact c.args.self.now c.args.other.now cover)
    c.join_with.ensures.ok

use Rattle.std.proofs.Common.{ap, ◌∙◌, sym, subst}
use Rattle.aud_lattice.specs.Covers.{begins}
use Rattle.aud_lattice.specs.Eithers.{either}
use Rattle.aud_lattice.specs.Walks.{walk, IsTrie}
use Rattle.aud_lattice.proofs.Tries.{member_is_good, member_keeps, nil_covers}
use Rattle.base_values.proofs.Results.{on_ok, on_err}
use Rattle.aud_lattice.proofs.trie.Trie.put.Goals as goal

pub returns-in-Member-clause-ok : goal.returns-in-Member-clause-ok
returns-in-Member-clause-ok g c =
    let was = sym c.in-Member.is ∙ c.replace.ensures.value in
    ap (walk g.D.Ord.cmp) c.replace.ensures.after ∙ member_keeps g.D.Ord.cmp (begins g.D.Ord.cmp c.args.list.now) ∙ (λ i. either (begins g.D.Ord.cmp c.args.list.now) (walk g.D.Ord.cmp (was i)))

pub returns-in-None-clause-good : goal.returns-in-None-clause-good
returns-in-None-clause-good g c = subst (IsTrie g.D.Ord.cmp) (sym c.replace.ensures.after) (member_is_good g.D.Ord.cmp)

pub returns-in-None-clause-ok : goal.returns-in-None-clause-ok
returns-in-None-clause-ok g c = ap (walk g.D.Ord.cmp) c.replace.ensures.after ∙ nil_covers g.D.Ord.cmp c.args.list.now (walk g.D.Ord.cmp c.args.self.now) c.in-None.ensures.cases

pub returns-in-Some-clause-ok : goal.returns-in-Some-clause-ok
returns-in-Some-clause-ok g c =
    let was = sym c.in-Fork.is ∙ c.replace.ensures.value in
    on_ok c.put_under-done.result _ _ (λ e. e ∙ (λ i. either (begins g.D.Ord.cmp (sym c.in-Some.ensures.cases.0 i)) (walk g.D.Ord.cmp (was i)))) c.put_under-done.ensures.ok

pub returns-in-Some-clause-err : goal.returns-in-Some-clause-err
returns-in-Some-clause-err g c =
    let was = sym c.in-Fork.is ∙ c.replace.ensures.value in
    on_err c.put_under-done.result _ _ (λ e. e ∙ ap (walk g.D.Ord.cmp) was) c.put_under-done.ensures.err

use Rattle.std.proofs.Common.{◌≡◌, ◌∙◌, subst}
use Rattle.aud_lattice.specs.Eithers.{either}
use Rattle.aud_lattice.specs.Walks.{walk, now_of, IsTrie}
use Rattle.aud_lattice.proofs.Tries.{either_swap}
use Rattle.aud_lattice.proofs.Pathed.{join_paths, cover-paths}
use Rattle.aud_lattice.proofs.cover.join_with.Goals as goal

pub returns-in_err-joined-clause-cover : goal.returns-in_err-joined-clause-cover
returns-in_err-joined-clause-cover g c = cover-paths g.D.Ord.cmp g.met.D.Ord.total g.met.D.Key.exact c.args.other.now c.requires.other

pub returns-in-Some-clause-ok : goal.returns-in-Some-clause-ok
returns-in-Some-clause-ok g c =
    let x = c.args.root.now in
    let y = c.args.other.now in
    let good : IsTrie g.D.Ord.cmp c.in-Some.joined = subst (λ j. IsTrie g.D.Ord.cmp (now_of x j)) c.in-Some.is c.in_ok-joined.ensures.good in
    let both : walk g.D.Ord.cmp c.in-Some.joined ≡ either (walk g.D.Ord.cmp y) (walk g.D.Ord.cmp x) =
    subst (λ j. walk g.D.Ord.cmp (now_of x j) ≡ either (walk g.D.Ord.cmp y) (walk g.D.Ord.cmp x)) c.in-Some.is c.in_ok-joined.ensures.both in
    join_paths g.D.Ord.cmp g.met.D.Ord.total g.met.D.Key.exact x y c.in-Some.joined c.requires.root c.requires.other good (both ∙ either_swap (walk g.D.Ord.cmp y) (walk g.D.Ord.cmp x))

pub returns-in-Some-clause-cover : goal.returns-in-Some-clause-cover
returns-in-Some-clause-cover g c = cover-paths g.D.Ord.cmp g.met.D.Ord.total g.met.D.Key.exact c.args.other.now c.requires.other

pub returns-in_default-clause-ok : goal.returns-in_default-clause-ok
returns-in_default-clause-ok g c =
    let x = c.args.root.now in
    let y = c.args.other.now in
    let both : walk g.D.Ord.cmp x ≡ either (walk g.D.Ord.cmp y) (walk g.D.Ord.cmp x) =
    subst (λ j. walk g.D.Ord.cmp (now_of x j) ≡ either (walk g.D.Ord.cmp y) (walk g.D.Ord.cmp x)) c.in_default.is c.in_ok-joined.ensures.both in
    join_paths g.D.Ord.cmp g.met.D.Ord.total g.met.D.Key.exact x y x c.requires.root c.requires.other c.requires.root (both ∙ either_swap (walk g.D.Ord.cmp y) (walk g.D.Ord.cmp x))

pub returns-in_default-clause-cover : goal.returns-in_default-clause-cover
returns-in_default-clause-cover g c = cover-paths g.D.Ord.cmp g.met.D.Ord.total g.met.D.Key.exact c.args.other.now c.requires.other

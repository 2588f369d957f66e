use Rattle.std.proofs.Common.{◌≡◌, true, All, refl, sym, ◌∙◌}
use Rattle.aud_lattice.specs.Covers.{covers}
use Rattle.aud_witness.specs.DecisionOrder.{decision_cmp}
use Rattle.aud_know.proofs.Staying.{joined_covered, covered_joined}
use Rattle.aud_know.proofs.parts.covers_joined.Goals as goal

pub returns-then-covers_all : goal.returns-then-covers_all
returns-then-covers_all g c =
    let all : All (λ q. covers decision_cmp c.args.ours.now.value q ≡ true) c.args.theirs.now.value = rw (c.deref.ensures, c.deref-2.ensures) at (c.if-covers_all.ensures.0 refl) in
    c.in_ok-try_clone.ensures ∙ sym (joined_covered c.args.ours.now.value c.args.theirs.now.value c.requires.ours c.requires.theirs all)

pub returns-then-covers_all-2 : goal.returns-then-covers_all-2
returns-then-covers_all-2 g c =
    let all : All (λ q. covers decision_cmp c.args.theirs.now.value q ≡ true) c.args.ours.now.value = rw (c.deref-3.ensures, c.deref-4.ensures) at (c.if-covers_all-2.ensures.0 refl) in
    c.in_ok-try_clone-2.ensures ∙ sym (covered_joined c.args.ours.now.value c.args.theirs.now.value c.requires.theirs all)

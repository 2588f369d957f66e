use Rattle.std.proofs.Common.{refl, sym, ◌∙◌}
use Rattle.aud_know.proofs.Staying.{covered_stays}
use Rattle.aud_know.proofs.parts.cover_with.Goals as goal

pub returns-in_ok-try_clone-in-Covered : goal.returns-in_ok-try_clone-in-Covered
returns-in_ok-try_clone-in-Covered g c =
    c.in_ok-try_clone-in-Covered.ensures
    ∙ sym (covered_stays c.args.cover.now.value c.args.prefix.now c.requires (rw (c.deref.ensures, c.decisions.ensures) at (c.in-Covered.ensures.covered.0 refl)))

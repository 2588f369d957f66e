use Rattle.std.proofs.Common.{ap}
use Rattle.std.specs.Map.{keys_of}
use Rattle.aud_kinds.specs.Objects.{set_of}
use Rattle.base_undo.specs.Keeps.{entries_in}
use Rattle.aud_kinds.proofs.Sets.{same-keys}
use Rattle.aud_kinds.proofs.set_kind.SetOfObjectSpec.same.Goals as goal

pub returns : goal.returns
returns g c =
    (λ same. ap (λ es. set_of (keys_of es)) (c.same.ensures.0 same), λ e. c.same.ensures.1 (same-keys (entries_in c.args.state.now) (entries_in c.args.other.now) (cc)))

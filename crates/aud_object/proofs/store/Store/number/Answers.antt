use Rattle.std.specs.Prelude.{map, slice_get}
use Rattle.std.proofs.Common.{◌∙◌, ap}
use Rattle.aud_object.specs.Meanings.{StoreOf}
use Rattle.aud_object.specs.States.{meaning, number_of}
use Rattle.aud_object.proofs.Places.{stands-at}
use Rattle.aud_object.proofs.store.Store.number.Goals as goal

pub returns : goal.returns
returns g c =
    let i = c.args.object in
    let found = c.in_ok-state.ensures.lookup in
    c.number.ensures ∙ ap number_of (stands-at meaning c.deref.result.now i c.in_ok-state.state.now found.3.0 found.1)
    ∙ ap (λ l. number_of (slice_get (map meaning l) i)) c.deref.ensures.value ∙ ap (λ (v : StoreOf). number_of (slice_get v.now i)) c.self.view_is

use Rattle.std.specs.Prelude.{map, option_map, slice_get, Some}
use Rattle.std.proofs.Common.{◌∙◌, ap}
use Rattle.aud_kinds.specs.Objects.{items_of}
use Rattle.aud_object.specs.Meanings.{StoreOf}
use Rattle.aud_object.specs.States.{meaning}
use Rattle.aud_object.proofs.Places.{mapped-at, mapped-past}
use Rattle.aud_object.proofs.store.Store.items.Goals as goal

pub returns-in-Some : goal.returns-in-Some
returns-in-Some g c =
    let i = c.args.object in
    let found = c.in-Some.ensures.lookup in
    ap Some c.items.ensures ∙ mapped-at meaning items_of c.deref.result.now i c.in-Some.state.now found.3.0 found.1
    ∙ ap (λ l. option_map items_of (slice_get (map meaning l) i)) c.deref.ensures.value ∙ ap (λ (v : StoreOf). option_map items_of (slice_get v.now i)) c.self.view_is

pub returns-in-None : goal.returns-in-None
returns-in-None g c =
    let i = c.args.object in
    mapped-past meaning items_of c.deref.result.now i c.in-None.ensures.lookup.3
    ∙ ap (λ l. option_map items_of (slice_get (map meaning l) i)) c.deref.ensures.value ∙ ap (λ (v : StoreOf). option_map items_of (slice_get v.now i)) c.self.view_is

-- What clause learning tells.
use Rattle.std.specs.Prelude.{List}
use Rattle.aud_event.specs.Meanings.{Declared}
use Rattle.aud_history.specs.Histories.{History}
use Rattle.aud_witness.specs.Orders.{Shows, Opaque}
use Rattle.aud_search.specs.declared.learning.Learned.{Learned}
use Rattle.aud_search.specs.declared.learning.Learned.TheVariants as learned

-- an order that shows the history; or, with a refutation, that none does; or nothing
abbrev pub IsLearned : List Declared → History → Learned → Type 0
IsLearned objects h (learned.Opaque p) = Shows objects h p
IsLearned objects h (learned.NotOpaque r) = Opaque objects h → ⊥
IsLearned objects h learned.Unknown = Unit {0}

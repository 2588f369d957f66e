use Rattle.aud_history.proofs.StateTable.{Passes-from_IsTransaction}
use Rattle.aud_history.proofs.RowLaws.{on_object-block_of}
use Rattle.aud_history.proofs.laws.block_is_events.Goals as goal

pub returns : goal.returns
returns c = λ es goes ob. on_object-block_of es (Passes-from_IsTransaction es goes) ob

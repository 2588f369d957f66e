-- What is kept of the seats beside a log.
use Rattle.std.specs.Prelude.{◌≡◌, ℕ, ◌<◌, List, length, All, slice_index}
use Rattle.aud_node.specs.Logs.{Entry, own}
use Rattle.aud_node.specs.Meanings.{PassOf}

-- each number is how many of the log's entries are of the seat of its place
abbrev pub AreSeatCounts : List ℕ → List Entry → Type 0
AreSeatCounts counts log = (k : ℕ) → k < length counts → slice_index counts k ≡ length (own k log)

-- each entry's seat has a count
abbrev pub AreSeated : List ℕ → List Entry → Type 0
AreSeated counts log = All (λ e. e.0 < length counts) log

-- the pass has offered as often as the log says
abbrev pub IsCounted : List Entry → PassOf → Type 0
IsCounted log p = p.offers ≡ length (own p.seat log)

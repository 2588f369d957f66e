-- What a transaction sees, once more, closer to the words: by selection from the joined blocks.
use Rattle.std.specs.Prelude.{ℕ, Bool, ◌||◌, if◌then◌else◌, nat_eq, List, [], ◌∷◌, ◌++◌, map, filter}
use Rattle.aud_event.specs.declared.fact.Event.{Event}
use Rattle.aud_witness.specs.declared.decision.Decision.{Decision}
use Rattle.aud_history.specs.Histories.{History}
use Rattle.aud_witness.specs.Orders.{block, is_kept, is_named}

-- S(H, p): the blocks of p joined in p's order, each event with its transaction
abbrev pub joined : History → List Decision → History
joined h [] = []
joined h (d ∷ p) = map (λ e. (d.tx, e)) (block h d) ++ joined h p

-- the decisions that stand before T
abbrev pub standing_before : List Decision → ℕ → List Decision
standing_before [] t = []
standing_before (d ∷ p) t = if nat_eq d.tx t then [] else d ∷ standing_before p t

-- whether an event of S(H, p) is of T, or of a transaction that stands before T with fate C
abbrev pub is_seen : List Decision → ℕ → ℕ × Event → Bool
is_seen p t e = nat_eq e.0 t || is_named (filter is_kept (standing_before p t)) e.0

abbrev pub seen : History → List Decision → ℕ → List Event
seen h p t = map (λ e. e.1) (filter (is_seen p t) (joined h p))

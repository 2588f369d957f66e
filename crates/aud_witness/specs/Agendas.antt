-- The rows of a history's transactions, and the order in which they ended.
use Rattle.std.specs.Prelude.{◌≡◌, ℕ, suc, ◌<◌, ◌≤◌, true, false, if◌then◌else◌, List, [], ◌∷◌, length, slice_get, slice_index_or, Some, Bool}
use Rattle.aud_history.specs.Table.{RowOf}
use Rattle.aud_witness.specs.declared.end.End.{End}
use Rattle.aud_witness.specs.Configurations.{is_ended}

-- how contracts see an agenda
pub record AgendaOf : Type 0 where
  pub rows : List RowOf
  pub ends : List End

-- the ends of the rows that ended, by the rows' places from n on
abbrev pub ends_from : ℕ → List RowOf → List End
ends_from n [] = []
ends_from n (r ∷ rs) = if is_ended r.status then record { last = r.last; row = n } ∷ ends_from (suc n) rs else ends_from (suc n) rs

-- the ends of all rows that ended, the earliest first
pub record AreEnds (rows : List RowOf) (ends : List End) : Type 0 where
  pub rising : (j k : ℕ) (d : End) → j < k → k < length ends → (slice_index_or ends j d).last ≤ (slice_index_or ends k d).last
  pub sound : (k : ℕ) (d : End) → k < length ends →
      (r : RowOf) × ((slice_get rows (slice_index_or ends k d).row ≡ Some r) × (is_ended r.status ≡ true) × (r.last ≡ (slice_index_or ends k d).last))
  pub whole : (i : ℕ) (r : RowOf) (d : End) → slice_get rows i ≡ Some r → is_ended r.status ≡ true →
      (k : ℕ) × ((k < length ends) × ((slice_index_or ends k d).row ≡ i))

-- the first e of the ends are placed, and the next one is not
pub record IsEarliest (ends : List End) (placed : List Bool) (e : ℕ) : Type 0 where
  pub within : e ≤ length ends
  pub before : (k : ℕ) (d : End) → k < e → slice_index_or placed (slice_index_or ends k d).row false ≡ true
  pub here : (d : End) → e < length ends → slice_index_or placed (slice_index_or ends e d).row false ≡ false

-- Real time once more, closer to the words: by places.
use Rattle.std.specs.Prelude.{◌≡◌, ℕ, true, false, ◌++◌}
use Rattle.aud_history.specs.Histories.{History, is_in, is_completed}

-- T is completed, U is in H, and H can be cut so that T's events stand in front of the cut and U's after it
abbrev pub IsBefore : History → ℕ → ℕ → Type 0
IsBefore h t u =
    (is_completed h t ≡ true) × (is_in h u ≡ true)
    × ((a : History) × ((b : History) × ((h ≡ a ++ b) × (is_in b t ≡ false) × (is_in a u ≡ false))))

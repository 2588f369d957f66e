-- The numbers that are stirred together for values and for entries.
use Rattle.std.specs.Prelude.{ℕ, ℤ, ◌*◌, ◌/◌, ◌%◌, ◌^◌, List, [], ◌∷◌}
use Rattle.std.specs.Int.Bits.{bit_xor}
use Rattle.std.specs.Int.{w64, cast_unsigned}

-- one more word of a digest
unfoldable pub stirred : ℕ → ℕ → ℕ
stirred digest word = bit_xor ((bit_xor digest word * 11400714819323198485) % 2 ^ 64) (((bit_xor digest word * 11400714819323198485) % 2 ^ 64) / 2 ^ 29)

-- more values of a digest
abbrev pub digest_values : ℕ → List ℤ → ℕ
digest_values digest [] = digest
digest_values digest (v ∷ vs) = digest_values (stirred digest (cast_unsigned w64 v)) vs

-- more entries of a digest: of each its key, and its value as the kind stirs values
abbrev pub digest_entries : {V : Type 0} → (ℕ → V → ℕ) → ℕ → List (ℤ × V) → ℕ
digest_entries stirs digest [] = digest
digest_entries stirs digest (e ∷ es) = digest_entries stirs (stirs (stirred digest (cast_unsigned w64 e.0)) e.1) es

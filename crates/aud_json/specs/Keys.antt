-- What stands at the keys of a JSON value, and tests of keys and types.
use Rattle.std.specs.Prelude.{ℕ, ℤ, List, ◌&&◌, Bool, true, Option, Some, None, nat_lt, if◌then◌else◌, is_some, option_and_then, bytes_eq}
use Rattle.std.specs.List.{list_all, list_any}
use Rattle.serde_json.specs.Data.{Data, Members, no_members, member}
use Rattle.serde_json.specs.Find.{get, as_number, as_str, as_u64, as_i64}

abbrev pub Key : Type 0
Key = List ℕ

-- ---- keys

-- the key stands in the value
abbrev pub has : Key → Data → Bool
has k d = is_some (get k d)

-- each of the keys stands in the value
abbrev pub has_all : List Key → Data → Bool
has_all ks d = list_all (λ k. has k d) ks

abbrev pub is_one_of : List Key → Key → Bool
is_one_of ks k = list_any (λ x. bytes_eq x k) ks

-- no key stands in the object but these
abbrev pub has_only : List Key → Members → Bool
has_only ks no_members = true
has_only ks (member k d ms) = is_one_of ks k && has_only ks ms

-- ---- what stands at a key

abbrev pub below_2_32 : ℕ → Option ℕ
below_2_32 n = if nat_lt n 4294967296 then Some n else None

-- a whole number from 0 to 4,294,967,295
abbrev pub small : Data → Option ℕ
small d = option_and_then below_2_32 (option_and_then as_u64 (as_number d))

-- a whole number of i64
abbrev pub whole : Data → Option ℤ
whole d = option_and_then as_i64 (as_number d)

abbrev pub word_at : Key → Data → Option (List ℕ)
word_at k d = option_and_then as_str (get k d)

abbrev pub small_at : Key → Data → Option ℕ
small_at k d = option_and_then small (get k d)

abbrev pub whole_at : Key → Data → Option ℤ
whole_at k d = option_and_then whole (get k d)

-- ---- types

-- what stands at the key passes the test, or nothing stands there
abbrev pub fits_at : (Data → Bool) → Key → Data → Bool
fits_at fits k d = fits_if fits (get k d)
  where
    fits_if : (Data → Bool) → Option Data → Bool
    fits_if fits None = true
    fits_if fits (Some e) = fits e

abbrev pub small_fits : Key → Data → Bool
small_fits k d = fits_at (λ e. is_some (small e)) k d

abbrev pub text_fits : Key → Data → Bool
text_fits k d = fits_at (λ e. is_some (as_str e)) k d

abbrev pub whole_fits : Key → Data → Bool
whole_fits k d = fits_at (λ e. is_some (whole e)) k d

-- Which JSON value a line is.
use Rattle.std.proofs.Common.{◌≡◌, ℕ, List, Bool, true, false, None, cond, refl, ap}
use Rattle.std.specs.Str.{IsUtf8, is_utf8}
use Rattle.std.proofs.lemmas.Str.{is_utf8-from_IsUtf8, IsUtf8-from_is_utf8}
use Rattle.serde_json.specs.Read.{read}
use Rattle.aud_text.specs.Json.{json_of}

pub json_of-text : (line : List ℕ) → IsUtf8 line → json_of line ≡ read line
json_of-text line h = ap (λ b. cond b (read line) None) (is_utf8-from_IsUtf8 line h)

pub json_of-other : (line : List ℕ) → (IsUtf8 line → ⊥) → json_of line ≡ None
json_of-other line h = by_test (is_utf8 line) refl
  where
    by_test : (b : Bool) → is_utf8 line ≡ b → cond b (read line) None ≡ None
    by_test true e = absurd (h (IsUtf8-from_is_utf8 line e))
    by_test false e = refl

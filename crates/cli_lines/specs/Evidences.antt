-- Where a certificate or a refutation begins in an input.
use Rattle.std.specs.Prelude.{◌≡◌, ℕ, List, [], ◌∷◌, ◌++◌, ◌&&◌, Bool, false, Option, Some, Result, Ok, Err, length, take, drop, codes, is_some, flat_map}
use Rattle.std.specs.List.{position_from}
use Rattle.serde_json.specs.Data.{Data}
use Rattle.serde_json.specs.Find.{as_object}
use Rattle.aud_json.specs.declared.fault.TextFault.{TextFault}
use Rattle.aud_text.specs.Json.{json_read}
use Rattle.aud_json.specs.Keys.{Key, has}
use Rattle.cli_lines.specs.declared.evidence.Evidence.{Evidence}
use Rattle.cli_lines.specs.declared.evidence.Evidence.TheVariants.{Certificate, Refutation}
use Rattle.aud_text.specs.Lines.{lines_of}
use Rattle.aud_text.specs.Limits.{longest_line}

-- the key of the line that begins it
abbrev pub key_of : Evidence → Key
key_of Certificate = codes "cert"
key_of Refutation = codes "refutation"

-- an object with the key
abbrev pub has_key : Key → Result Data TextFault → Bool
has_key k (Err e) = false
has_key k (Ok d) = is_some (as_object d) && has k d

-- the line of at most 4,096 bytes begins it
abbrev pub begins : Evidence → List ℕ → Bool
begins e line = has_key (key_of e) (json_read longest_line line)

-- how many lines stand before the first that begins it
abbrev pub place_of : Evidence → List ℕ → Option ℕ
place_of e text = position_from (begins e) 0 (lines_of text)

-- the first lines of a text, each with its line feed
abbrev pub text_before : List ℕ → ℕ → List ℕ
text_before text n = flat_map (λ l. l ++ 10 ∷ []) (take n (lines_of text))

-- the text from the next line on
abbrev pub text_from : List ℕ → ℕ → List ℕ
text_from text n = drop (length (text_before text n)) text

-- so many lines stand before the first that begins it; this is the text before it, and this the text from it on
abbrev pub IsCutAt : Evidence → List ℕ → ℕ → List ℕ → List ℕ → Type 0
IsCutAt e text lines before evidence = (place_of e text ≡ Some lines) × ((before ≡ text_before text lines) × (evidence ≡ text_from text lines))

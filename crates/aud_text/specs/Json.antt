-- A line as a JSON value.
use Rattle.std.specs.Prelude.{ℕ, List, Option, Some, None, Result, Ok, Err, nat_le, if◌then◌else◌, length}
use Rattle.std.specs.Str.{is_utf8}
use Rattle.serde_json.specs.Data.{Data}
use Rattle.serde_json.specs.Read.{read}
use Rattle.aud_json.specs.declared.fault.TextFault.{TextFault}
use Rattle.aud_json.specs.declared.fault.TextFault.TheVariants as fault

-- the JSON value that a line is, if it is one
abbrev pub json_of : List ℕ → Option Data
json_of line = if is_utf8 line then read line else None

abbrev pub json_or_fault : Option Data → Result Data TextFault
json_or_fault None = Err fault.NotJson
json_or_fault (Some d) = Ok d

-- the JSON value of a line of at most so many bytes
abbrev pub json_read : ℕ → List ℕ → Result Data TextFault
json_read limit line = if nat_le (length line) limit then json_or_fault (json_of line) else Err fault.TooLong

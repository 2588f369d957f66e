-- The words that texts of a format have for operations and kinds.
use Rattle.std.specs.Prelude.{ℕ, List, Option, Some, None, if◌then◌else◌}
use Rattle.aud_event.specs.Objects.{has_since, is_in_format, row_of_kind, op_of_word, kind_of_word}
use Rattle.aud_event.specs.declared.signature.Format.{Format}
use Rattle.aud_event.specs.declared.object.ObjKind.{ObjKind}
use Rattle.aud_event.specs.declared.object.OpName.{OpName}

abbrev pub op_in : Format → Option OpName → Option OpName
op_in format None = None
op_in format (Some o) = if is_in_format format o then Some o else None

-- the operation of a word in a format
abbrev pub op_of_word_in : Format → List ℕ → Option OpName
op_of_word_in format w = op_in format (op_of_word w)

abbrev pub kind_in : Format → Option ObjKind → Option ObjKind
kind_in format None = None
kind_in format (Some k) = if has_since format (row_of_kind k).since then Some k else None

-- the kind of a word in a format
abbrev pub kind_of_word_in : Format → List ℕ → Option ObjKind
kind_of_word_in format w = kind_in format (kind_of_word w)

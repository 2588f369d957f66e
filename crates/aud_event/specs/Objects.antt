-- Kinds of objects, their operations, the words for them and the answers that each can have: tables, and what follows from their rows.
use Rattle.std.specs.Prelude.{ℕ, Bool, true, false, ◌&&◌, List, Option, Some, None, int_le, codes, bytes_eq, if◌then◌else◌}
use Rattle.aud_event.specs.declared.object.ObjKind.{ObjKind}
use Rattle.aud_event.specs.declared.object.ObjKind.TheVariants.{Register, Counter, SetOf, Queue, MapOf}
use Rattle.aud_event.specs.declared.object.Op.{Op}
use Rattle.aud_event.specs.declared.object.Op.TheVariants as op
use Rattle.aud_event.specs.declared.object.OpName.{OpName}
use Rattle.aud_event.specs.declared.object.OpName.TheVariants as word
use Rattle.aud_event.specs.declared.object.Answer.{Answer}
use Rattle.aud_event.specs.declared.object.Answer.TheVariants.{Done, Int, Flag, Empty}
use Rattle.aud_event.specs.declared.signature.Args.{Args}
use Rattle.aud_event.specs.declared.signature.Args.TheVariants as args
use Rattle.aud_event.specs.declared.signature.Format.{Format}
use Rattle.aud_event.specs.declared.signature.Format.TheVariants.{One, Two}
use Rattle.aud_event.specs.declared.signature.Gives.{Gives}
use Rattle.aud_event.specs.declared.signature.Gives.TheVariants as gives
use Rattle.aud_event.specs.declared.signature.KindRow.{KindRow}
use Rattle.aud_event.specs.declared.signature.Opens.{Opens}
use Rattle.aud_event.specs.declared.signature.Opens.TheVariants as opens
use Rattle.aud_event.specs.declared.signature.Signature.{Signature}
use Rattle.aud_event.specs.declared.signature.Takes.{Takes}
use Rattle.aud_event.specs.declared.signature.Takes.TheVariants as takes
use Rattle.aud_event.specs.Limits.{least_addend, greatest_addend}

-- ---- the tables

abbrev pub row : ObjKind → Takes → Gives → Bool → Format → Signature
row kind takes gives observes since = record { kind = kind; takes = takes; gives = gives; observes = observes; since = since }

abbrev pub observing : Bool
observing = true

abbrev pub changing : Bool
changing = false

-- an operation: its kind, what it takes and gives, whether it observes, and the first format that has it
abbrev pub signature_of : OpName → Signature
signature_of word.Read = row Register takes.Nothing gives.Int observing One
signature_of word.Write = row Register takes.Number gives.Done changing One
signature_of word.Inc = row Counter takes.Nothing gives.Done changing One
signature_of word.Dec = row Counter takes.Nothing gives.Done changing One
signature_of word.Get = row Counter takes.Nothing gives.Int observing One
signature_of word.Add = row SetOf takes.Number gives.Flag changing One
signature_of word.Remove = row SetOf takes.Number gives.Flag changing One
signature_of word.Contains = row SetOf takes.Number gives.Flag observing One
signature_of word.Enq = row Queue takes.Number gives.Done changing One
signature_of word.Deq = row Queue takes.Nothing gives.IntOrEmpty changing One
signature_of word.Plus = row Counter takes.Addend gives.Done changing Two
signature_of word.Put = row MapOf takes.Pair gives.Done changing Two
signature_of word.Look = row MapOf takes.Number gives.IntOrEmpty observing Two
signature_of word.Del = row MapOf takes.Number gives.Flag changing Two

abbrev pub kind_row : Opens → Format → KindRow
kind_row opens since = record { opens = opens; since = since }

-- a kind: where its objects open, and the first format that has it
abbrev pub row_of_kind : ObjKind → KindRow
row_of_kind Register = kind_row opens.Anywhere One
row_of_kind Counter = kind_row opens.InRange One
row_of_kind SetOf = kind_row opens.Empty One
row_of_kind Queue = kind_row opens.Empty One
row_of_kind MapOf = kind_row opens.Empty Two

-- the word of an operation
abbrev pub word_of_op : OpName → List ℕ
word_of_op word.Read = codes "read"
word_of_op word.Write = codes "write"
word_of_op word.Inc = codes "inc"
word_of_op word.Dec = codes "dec"
word_of_op word.Get = codes "get"
word_of_op word.Add = codes "add"
word_of_op word.Remove = codes "remove"
word_of_op word.Contains = codes "contains"
word_of_op word.Enq = codes "enq"
word_of_op word.Deq = codes "deq"
word_of_op word.Plus = codes "plus"
word_of_op word.Put = codes "put"
word_of_op word.Look = codes "look"
word_of_op word.Del = codes "del"

-- the operation of a word, if it is the word of one
abbrev pub op_of_word : List ℕ → Option OpName
op_of_word w =
    if bytes_eq w (codes "read") then Some word.Read
    else (if bytes_eq w (codes "write") then Some word.Write
    else (if bytes_eq w (codes "inc") then Some word.Inc
    else (if bytes_eq w (codes "dec") then Some word.Dec
    else (if bytes_eq w (codes "get") then Some word.Get
    else (if bytes_eq w (codes "add") then Some word.Add
    else (if bytes_eq w (codes "remove") then Some word.Remove
    else (if bytes_eq w (codes "contains") then Some word.Contains
    else (if bytes_eq w (codes "enq") then Some word.Enq
    else (if bytes_eq w (codes "deq") then Some word.Deq
    else (if bytes_eq w (codes "plus") then Some word.Plus
    else (if bytes_eq w (codes "put") then Some word.Put
    else (if bytes_eq w (codes "look") then Some word.Look
    else (if bytes_eq w (codes "del") then Some word.Del
    else None)))))))))))))

-- the word of a kind
abbrev pub word_of_kind : ObjKind → List ℕ
word_of_kind Register = codes "register"
word_of_kind Counter = codes "counter"
word_of_kind SetOf = codes "set"
word_of_kind Queue = codes "queue"
word_of_kind MapOf = codes "map"

-- the kind of a word, if it is the word of one
abbrev pub kind_of_word : List ℕ → Option ObjKind
kind_of_word w =
    if bytes_eq w (codes "register") then Some Register
    else (if bytes_eq w (codes "counter") then Some Counter
    else (if bytes_eq w (codes "set") then Some SetOf
    else (if bytes_eq w (codes "queue") then Some Queue
    else (if bytes_eq w (codes "map") then Some MapOf
    else None))))

-- ---- an operation is its name and its arguments

abbrev pub name_of : Op → OpName
name_of op.Read = word.Read
name_of (op.Write _) = word.Write
name_of op.Inc = word.Inc
name_of op.Dec = word.Dec
name_of op.Get = word.Get
name_of (op.Add _) = word.Add
name_of (op.Remove _) = word.Remove
name_of (op.Contains _) = word.Contains
name_of (op.Enq _) = word.Enq
name_of op.Deq = word.Deq
name_of (op.Plus _) = word.Plus
name_of (op.Put _ _) = word.Put
name_of (op.Look _) = word.Look
name_of (op.Del _) = word.Del

abbrev pub args_of : Op → Args
args_of op.Read = args.Nothing
args_of (op.Write v) = args.Number v
args_of op.Inc = args.Nothing
args_of op.Dec = args.Nothing
args_of op.Get = args.Nothing
args_of (op.Add v) = args.Number v
args_of (op.Remove v) = args.Number v
args_of (op.Contains v) = args.Number v
args_of (op.Enq v) = args.Number v
args_of op.Deq = args.Nothing
args_of (op.Plus v) = args.Number v
args_of (op.Put key value) = args.Pair key value
args_of (op.Look key) = args.Number key
args_of (op.Del key) = args.Number key

-- the operation of a name with arguments, if it takes such
abbrev pub op_with : OpName → Args → Option Op
op_with word.Read args.Nothing = Some op.Read
op_with word.Write (args.Number v) = Some (op.Write v)
op_with word.Inc args.Nothing = Some op.Inc
op_with word.Dec args.Nothing = Some op.Dec
op_with word.Get args.Nothing = Some op.Get
op_with word.Add (args.Number v) = Some (op.Add v)
op_with word.Remove (args.Number v) = Some (op.Remove v)
op_with word.Contains (args.Number v) = Some (op.Contains v)
op_with word.Enq (args.Number v) = Some (op.Enq v)
op_with word.Deq args.Nothing = Some op.Deq
op_with word.Plus (args.Number v) = Some (op.Plus v)
op_with word.Put (args.Pair key value) = Some (op.Put key value)
op_with word.Look (args.Number key) = Some (op.Look key)
op_with word.Del (args.Number key) = Some (op.Del key)
op_with _ _ = None

-- ---- what follows from the rows

-- whether a format has what came with another
abbrev pub has_since : Format → Format → Bool
has_since One One = true
has_since One Two = false
has_since Two One = true
has_since Two Two = true

-- whether a format has the operation
abbrev pub is_in_format : Format → OpName → Bool
is_in_format format name = has_since format (signature_of name).since

abbrev pub same_kind : ObjKind → ObjKind → Bool
same_kind Register Register = true
same_kind Counter Counter = true
same_kind SetOf SetOf = true
same_kind Queue Queue = true
same_kind MapOf MapOf = true
same_kind _ _ = false

-- the operations that objects of a kind have
abbrev pub is_of_kind : ObjKind → OpName → Bool
is_of_kind kind name = same_kind (signature_of name).kind kind

abbrev pub gives_answer : Gives → Answer → Bool
gives_answer gives.Done Done = true
gives_answer gives.Int (Int _) = true
gives_answer gives.Flag (Flag _) = true
gives_answer gives.IntOrEmpty (Int _) = true
gives_answer gives.IntOrEmpty Empty = true
gives_answer _ _ = false

-- the answers that an operation can have
abbrev pub is_answer_of : OpName → Answer → Bool
is_answer_of name answer = gives_answer (signature_of name).gives answer

-- the operations that leave every state as it is
abbrev pub observes : OpName → Bool
observes name = (signature_of name).observes

abbrev pub is_observing : Op → Bool
is_observing o = observes (name_of o)

-- whether what takes such takes as many arguments, whatever their range
abbrev pub takes_kind : Takes → Args → Bool
takes_kind takes.Nothing args.Nothing = true
takes_kind takes.Number (args.Number _) = true
takes_kind takes.Addend (args.Number _) = true
takes_kind takes.Pair (args.Pair _ _) = true
takes_kind _ _ = false

-- whether what takes such takes these arguments
abbrev pub args_fit : Takes → Args → Bool
args_fit takes.Nothing args.Nothing = true
args_fit takes.Number (args.Number _) = true
args_fit takes.Addend (args.Number v) = int_le least_addend v && int_le v greatest_addend
args_fit takes.Pair (args.Pair _ _) = true
args_fit _ _ = false

-- whether the operation's arguments are such as it takes
abbrev pub has_fitting_args : Op → Bool
has_fitting_args o = args_fit (signature_of (name_of o)).takes (args_of o)

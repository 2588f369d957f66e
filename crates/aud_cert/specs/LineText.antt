-- What a line of a certificate says.
use Rattle.std.specs.Prelude.{ℕ, List, [], ◌∷◌, ◌&&◌, ◌||◌, Bool, true, false, not, Option, Some, None, Result, Ok, Err, if◌then◌else◌, codes, bytes_eq, option_map, option_and_then, is_some}
use Rattle.serde_json.specs.Data.{Data, Members}
use Rattle.serde_json.specs.Find.{as_object}
use Rattle.std.specs.declared.alloc.Global.{Global}
use Rattle.aud_witness.specs.declared.decision.Decision.{Decision}
use Rattle.aud_json.specs.declared.fault.TextFault.{TextFault}
use Rattle.aud_json.specs.declared.fault.TextFault.TheVariants as fault
use Rattle.aud_text.specs.Json.{json_read}
use Rattle.aud_json.specs.Keys.{Key, has_all, has_only, word_at, text_fits}
use Rattle.aud_text.specs.Orders.{order_read}
use Rattle.cert_accept.specs.declared.cert.CertLine.{CertLine}
use Rattle.cert_accept.specs.declared.cert.CertLine.TheVariants.{Kids, Silent, Same}
use Rattle.aud_cert.specs.declared.line.OrderTexts.{OrderTexts}
use Rattle.aud_cert.specs.declared.reason.ByWord.{ByWord}
use Rattle.aud_cert.specs.declared.reason.ByWord.TheVariants as by
use Rattle.aud_cert.specs.Limits.{longest_cert_line}

-- a line that is read, its prefixes in memory of the program's own allocator
abbrev pub OwnCertLine : Type 0
OwnCertLine = CertLine Global

-- ---- the reason

abbrev pub word_of_reason : ByWord → List ℕ
word_of_reason by.Kids = codes "kids"
word_of_reason by.Silent = codes "silent"
word_of_reason by.Same = codes "same"

abbrev pub reason_of_word : List ℕ → Option ByWord
reason_of_word w =
    if bytes_eq w (codes "kids") then Some by.Kids
    else (if bytes_eq w (codes "silent") then Some by.Silent
    else (if bytes_eq w (codes "same") then Some by.Same
    else None))

-- the reason, where `by` has the word of one
abbrev pub reason_at : Data → Option ByWord
reason_at d = option_and_then reason_of_word (word_at (codes "by") d)

-- the keys that must stand
abbrev pub required : Option ByWord → List Key
required None = codes "by" ∷ codes "p" ∷ []
required (Some by.Kids) = codes "by" ∷ codes "p" ∷ []
required (Some by.Silent) = codes "by" ∷ codes "d" ∷ codes "p" ∷ []
required (Some by.Same) = codes "as" ∷ codes "by" ∷ codes "p" ∷ []

-- the keys that may stand: no others than those that must, where the reason is known
abbrev pub allowed : Option ByWord → List Key
allowed None = codes "as" ∷ codes "by" ∷ codes "d" ∷ codes "p" ∷ []
allowed (Some reason) = required (Some reason)

-- ---- the order texts

abbrev pub OrderText : Type 0
OrderText = Option (Result (List Decision) TextFault)

-- what an order text at the key says, where a text stands there
abbrev pub order_at_key : Key → Data → OrderText
order_at_key k d = option_map order_read (word_at k d)

abbrev pub is_long : OrderText → Bool
is_long (Some (Err fault.TooLong)) = true
is_long _ = false

abbrev pub is_out_of_range : OrderText → Bool
is_out_of_range (Some (Err fault.TypeOrRange)) = true
is_out_of_range _ = false

-- the one decision of an order of one
abbrev pub only_of : List Decision → Option Decision
only_of (d ∷ []) = Some d
only_of _ = None

-- the order, where it is read
abbrev pub read_order : OrderText → Option (List Decision)
read_order (Some (Ok ds)) = Some ds
read_order _ = None

-- an order that is read has one decision
abbrev pub is_one : OrderText → Bool
is_one (Some (Ok ds)) = is_some (only_of ds)
is_one _ = true

-- ---- the line

abbrev pub all_texts : Data → Bool
all_texts d = text_fits (codes "as") d && (text_fits (codes "by") d && (text_fits (codes "d") d && text_fits (codes "p") d))

-- the line of a reason, where the order texts that it needs are read
abbrev pub line_of : Option ByWord → OrderText → OrderText → OrderText → Option OwnCertLine
line_of None p d q = None
line_of (Some by.Kids) p d q = option_map (λ l. Kids l) (read_order p)
line_of (Some by.Silent) p d q = option_and_then (λ l. option_map (λ e. Silent l e) (option_and_then only_of (read_order d))) (read_order p)
line_of (Some by.Same) p d q = option_and_then (λ l. option_map (λ m. Same l m) (read_order q)) (read_order p)

-- the least fault of a line that is an object: of its keys, by the reason, of the types, and of the order texts `p`, `d` and `as`
abbrev pub fault_of : Data → Members → Option ByWord → OrderText → OrderText → OrderText → Option TextFault
fault_of e ms reason p d q =
    if is_long p || (is_long d || is_long q) then Some fault.TooLong
    else (if not (has_all (required reason) e) then Some fault.KeyMissing
    else (if not (has_only (allowed reason) ms) then Some fault.KeyUnknown
    else (if not (all_texts e) || (is_out_of_range p || (is_out_of_range d || (is_out_of_range q || not (is_one d)))) then Some fault.TypeOrRange
    else None)))

-- the same of the order texts together
abbrev pub fault_with : Data → Members → Option ByWord → OrderTexts → Option TextFault
fault_with e ms reason texts = fault_of e ms reason texts.prefix texts.decision texts.other

-- where there is no such fault, only a word is unknown if there is no line
abbrev pub line_unless : Option TextFault → Option OwnCertLine → Result OwnCertLine TextFault
line_unless (Some e) line = Err e
line_unless None (Some line) = Ok line
line_unless None None = Err fault.UnknownWord

abbrev pub line_by : Data → Members → Option ByWord → OrderText → OrderText → OrderText →
    Result OwnCertLine TextFault
line_by e ms reason p d q = line_unless (fault_of e ms reason p d q) (line_of reason p d q)

abbrev pub line_members : Data → Option Members → Result OwnCertLine TextFault
line_members e None = Err fault.NotObject
line_members e (Some ms) = line_by e ms (reason_at e) (order_at_key (codes "p") e) (order_at_key (codes "d") e) (order_at_key (codes "as") e)

abbrev pub line_judged : Data → Result OwnCertLine TextFault
line_judged e = line_members e (as_object e)

abbrev pub line_json : Result Data TextFault → Result OwnCertLine TextFault
line_json (Err e) = Err e
line_json (Ok e) = line_judged e

-- what a line of at most 65,536 bytes says
abbrev pub line_read : List ℕ → Result OwnCertLine TextFault
line_read line = line_json (json_read longest_cert_line line)

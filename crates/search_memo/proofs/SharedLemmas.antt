-- What searches of several threads share.
use Rattle.std.specs.Prelude.{◌≡◌, ℕ, ◌<◌, ◌≤◌, Bool, true, List, [], ◌∷◌, length, Option, Some, None, refl}
use Rattle.std.proofs.Common.{sym, ◌∙◌, ap, subst, arith, get_or, set}
use Rattle.std.proofs.lemmas.List.{length-set}
use Rattle.base_bits.specs.Marked.{marks_of}
use Rattle.aud_kinds.specs.Objects.{ObjState}
use Rattle.aud_history.specs.Table.{transactions}
use Rattle.aud_order.specs.Shapes.{ShapeOf, history_of}
use Rattle.search_visited.specs.Visited.{WithPlace, with_place}
use Rattle.search_visited.proofs.Visiting.{marks-with}
use Rattle.search_memo.specs.Known.{IsMarkedBy, IsRefutedTo, IsRefutedAtWord}

-- the words are one
pub only-word : (words : List ℕ) (d : ℕ) → 1 ≤ length words → length words < 2 → words ≡ get_or words 0 d ∷ []
only-word [] d some few = absurd (omega arith)
only-word (w ∷ []) d some few = refl
only-word (w ∷ v ∷ ws) d some few = absurd (omega arith)

-- the marks with one further
pub marked-further : (word own place : ℕ) (words : List ℕ) (marks : List Bool) → words ≡ word ∷ [] → marks ≡ marks_of words (length marks) → place < length marks → WithPlace (word ∷ []) (own ∷ []) place → IsMarkedBy own (set marks place true)
marked-further word own place words marks only is inside more =
    let one : marks_of (word ∷ []) (length marks) ≡ marks = ap (λ (l : List ℕ). marks_of l (length marks)) (sym only) ∙ sym is in
    let long : length (set marks place true) ≡ length marks = length-set marks place true in
    ap (λ (l : List Bool). set l place true) (sym one) ∙ sym (marks-with (word ∷ []) (own ∷ []) (length marks) place inside more) ∙ ap (marks_of (own ∷ [])) (sym long)

-- of what the word marks, where there are as many marks as rows
pub refuted-marks : (shape : ShapeOf) (states : List ObjState) (word : ℕ) (marks : List Bool) → IsMarkedBy word marks → length marks ≡ length (transactions (history_of shape)) → IsRefutedAtWord shape states word → IsRefutedTo shape states marks
refuted-marks shape states word marks is rows k = subst (IsRefutedTo shape states) (ap (marks_of (word ∷ [])) (sym rows) ∙ sym is) k

-- one further leaves as many marks
pub length-further : (marks : List Bool) (further : Option ℕ) → length (with_place marks further) ≡ length marks
length-further marks None = refl
length-further marks (Some place) = length-set marks place true

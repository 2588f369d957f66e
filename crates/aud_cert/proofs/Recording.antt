-- The lines that a search writes are accepted.
use Rattle.std.specs.Prelude.{◌≡◌, ℕ, zero, suc, ◌+◌, ◌<◌, true, List, [], ◌∷◌, ◌++◌, map, length, take, Some, slice_get, refl}
use Rattle.std.specs.List.{Contains}
use Rattle.std.proofs.Common.{sym, ◌∙◌, ap, subst, arith, append_assoc}
use Rattle.std.proofs.lemmas.List.{append-nil, length-map}
use Rattle.std.proofs.lemmas.Option.{slice_get_within, get_or_from_slice_get}
use Rattle.aud_event.specs.Meanings.{Declared}
use Rattle.aud_history.specs.Histories.{History}
use Rattle.aud_witness.specs.declared.decision.Decision.{Decision}
use Rattle.aud_order.specs.Shapes.{ShapeOf, objects_of, history_of}
use Rattle.aud_order.specs.Cursors.{CursorOf}
use Rattle.search_memo.specs.Recorders.{HasNote, IsHearable, IsNotedAlike}
use Rattle.search_memo.specs.Recorders as heard
use Rattle.cert_accept.specs.declared.cert.CertLine.{CertLine}
use Rattle.cert_accept.specs.declared.cert.CertLine.TheVariants.{Kids, Silent, Same}
use Rattle.cert_accept.specs.Acceptance.{prefix_in, IsAcceptedLine, AreAccepted, EndsEmpty, IsAccepted}
use Rattle.cert_earlier.specs.Resting.{LeadAlike}
use Rattle.cert_earlier.proofs.Alike.{placed_at, are-alike}
use Rattle.aud_cert.specs.Recorded.{LinesOf}
use Rattle.search_memo.proofs.MemoLemmas.{last-there}

-- # Lists

there : {X : Type 0} (xs : List X) (k : ℕ) (x : X) → slice_get xs k ≡ Some x → Contains xs x
there xs k x at = (k, slice_get_within xs k x at, get_or_from_slice_get xs k x x at)

map-push : {X : Type 0} (ls : List (CertLine X)) (l : CertLine X) → map prefix_in (ls ++ l ∷ []) ≡ map prefix_in ls ++ prefix_in l ∷ []
map-push [] l = refl
map-push (x ∷ ls) l = ap (λ (ps : List (List Decision)). prefix_in x ∷ ps) (map-push ls l)

-- the number of the last line
pub last-line : {X : Type 0} (ls new : List (CertLine X)) (l : CertLine X) → new ≡ ls ++ l ∷ [] → slice_get (map prefix_in new) (length ls) ≡ Some (prefix_in l)
last-line ls new l grown =
    let long : length (map prefix_in ls) ≡ length ls = length-map ls prefix_in in
    (λ i. slice_get ((ap (λ x. map prefix_in x) grown ∙ map-push ls l) i) (sym long i)) ∙ last-there (map prefix_in ls) (prefix_in l)

pub inside-line : {X : Type 0} (ls : List (CertLine X)) (k : ℕ) (p : List Decision) → slice_get (map prefix_in ls) k ≡ Some p → k < length ls
inside-line ls k p at = let long : length (map prefix_in ls) ≡ length ls = length-map ls prefix_in in let low = slice_get_within (map prefix_in ls) k p at in omega arith

-- # Lines that are accepted

module _ {X : Type 0} (objects : List Declared) (h : History) where
  pub accepted-push : (lines : List (CertLine X)) (earlier : List (List Decision)) (line : CertLine X) → AreAccepted objects h earlier lines → IsAcceptedLine objects h (earlier ++ map prefix_in lines) line →
      AreAccepted objects h earlier (lines ++ line ∷ [])
  accepted-push [] earlier line all new = (subst (λ l. IsAcceptedLine objects h l line) (append-nil earlier) new, tt)
  accepted-push (first ∷ lines) earlier line (one, more) new = (
    one,
    accepted-push lines (earlier ++ prefix_in first ∷ []) line more
        (subst (λ l. IsAcceptedLine objects h l line) (sym (append_assoc earlier (prefix_in first ∷ []) (map prefix_in lines))) new),
  )

  accepted-front : (lines : List (CertLine X)) (earlier : List (List Decision)) (count : ℕ) → AreAccepted objects h earlier lines → AreAccepted objects h earlier (take count lines)
  accepted-front lines earlier zero all = tt
  accepted-front [] earlier (suc count) all = tt
  accepted-front (first ∷ lines) earlier (suc count) (one, more) = (one, accepted-front lines (earlier ++ prefix_in first ∷ []) count more)

  ends-at : (lines : List (CertLine X)) (k : ℕ) → slice_get (map prefix_in lines) k ≡ Some [] → EndsEmpty (map prefix_in (take (suc k) lines))
  ends-at [] k at = absurd (cc)
  ends-at (x ∷ lines) zero at = ([], (let same : prefix_in x ≡ [] = cc in ap (λ (l : List Decision). l ∷ []) same))
  ends-at (x ∷ lines) (suc k) at = let (before, is) = ends-at lines k at in (prefix_in x ∷ before, ap (λ (ps : List (List Decision)). prefix_in x ∷ ps) is)

  -- those up to one that refutes the empty prefix
  pub accepted-up_to : (lines new : List (CertLine X)) (k n : ℕ) → AreAccepted objects h [] lines → slice_get (map prefix_in lines) k ≡ Some [] → n ≡ k + 1 → new ≡ take n lines → IsAccepted objects h new
  accepted-up_to lines new k n all at next is =
      let whole : new ≡ take (suc k) lines = is ∙ (let one : n ≡ suc k = omega arith in ap (λ m. take m lines) one) in
      subst (λ l. IsAccepted objects h l) (sym whole) (record { each = accepted-front lines [] (suc k) all; last = ends-at lines k at })

-- # What the recorder hears

abbrev pub Numbers : {X : Type 0} → LinesOf X → ℕ → List Decision → Type 0
Numbers r note p = slice_get (map prefix_in r.lines) note ≡ Some p

-- a line that is accepted for the shape is for the one of the lines
module _ {X : Type 0} (r : LinesOf X) (p q : List Decision) (same : q ≡ p) where
  abbrev Accepts : ShapeOf → CertLine X → Type 0
  Accepts shape line = IsAcceptedLine (objects_of shape) (history_of shape) (map prefix_in r.lines) line

  pub kids-line : IsHearable (λ shape. r.shape ≡ shape) p (λ shape. heard.HasKids shape (HasNote (Numbers r)) p) → Accepts r.shape (Kids q)
  kids-line hears =
      subst (λ (s : ShapeOf). Accepts s (Kids q)) (sym hears.own) (subst (λ (l : List Decision). Accepts hears.shape (Kids l)) (sym same) (record {
        good = hears.good;
        rests = record { unfull = hears.refuted.unfull; kids = λ d next. let (note, at) = hears.refuted.kids d next in there (map prefix_in r.lines) note (p ++ d ∷ []) at };
      }))

  pub silent-line : (d : Decision) → IsHearable (λ shape. r.shape ≡ shape) p (λ shape. heard.HasSilent shape (HasNote (Numbers r)) p d) → Accepts r.shape (Silent q d)
  silent-line d hears =
      subst (λ (s : ShapeOf). Accepts s (Silent q d)) (sym hears.own) (subst (λ (l : List Decision). Accepts hears.shape (Silent l d)) (sym same) (record {
        good = hears.good;
        rests = record { silent = hears.refuted.silent; good = hears.refuted.good; line = there (map prefix_in r.lines) hears.refuted.noted.0 (p ++ d ∷ []) hears.refuted.noted.1 };
      }))

  pub same-line : (note : ℕ) (other : List Decision) → slice_get (map prefix_in r.lines) note ≡ Some other → IsHearable (λ shape. r.shape ≡ shape) p (λ shape. IsNotedAlike shape (Numbers r note) p) → Accepts r.shape (Same q other)
  same-line note other at hears =
      subst (λ (s : ShapeOf). Accepts s (Same q other)) (sym hears.own) (subst (λ (l : List Decision). Accepts hears.shape (Same l other)) (sym same) (record {
        good = hears.good;
        rests = record { line = there (map prefix_in r.lines) note other at; alike = subst (λ (l : List Decision). LeadAlike (objects_of hears.shape) (history_of hears.shape) p l) (sym own) alike };
      }))
    where
      own : other ≡ hears.refuted.other
      own = let a = at in let b = hears.refuted.noted in cc

      alike : LeadAlike (objects_of hears.shape) (history_of hears.shape) p hears.refuted.other
      alike =
          let here : CursorOf = record { shape = hears.shape; path = p } in
          let far : CursorOf = record { shape = hears.shape; path = hears.refuted.other } in
          (are-alike here far (placed_at here) (placed_at far) true _ _ true refl hears.good hears.refuted.good refl refl ((λ e. hears.refuted.placed), λ e. refl) refl refl refl ((λ e. hears.refuted.states), λ e. refl)).0 refl

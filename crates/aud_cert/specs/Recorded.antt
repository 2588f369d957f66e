-- The lines that a search writes.
use Rattle.std.specs.Prelude.{◌≡◌, ℕ, List, [], ◌++◌, map, Some, slice_get, refl}
use Rattle.std.proofs.Common.{sym, ◌∙◌, ap, append_assoc}
use Rattle.std.proofs.lemmas.List.{append-nil, map-append}
use Rattle.aud_witness.specs.declared.decision.Decision.{Decision}
use Rattle.aud_order.specs.Shapes.{ShapeOf}
use Rattle.cert_accept.specs.declared.cert.CertLine.{CertLine}
use Rattle.cert_accept.specs.Acceptance.{prefix_in}
use Rattle.search_memo.proofs.MemoLemmas.{get-front}

-- how contracts see them: the shape that they are of, and the lines in their order
pub record LinesOf (X : Type 0) : Type 0 where
  pub shape : ShapeOf
  pub lines : List (CertLine X)

-- some lines came after the others
pub record IsLonger {X : Type 0} (old new : LinesOf X) : Type 0 where
  pub shape : new.shape ≡ old.shape
  pub more : List (CertLine X)
  pub lines : new.lines ≡ old.lines ++ more

-- # What stays once lines came

pub noted_later : {X : Type 0} (r s : LinesOf X) (note : ℕ) (p : List Decision) → IsLonger r s → slice_get (map prefix_in r.lines) note ≡ Some p → slice_get (map prefix_in s.lines) note ≡ Some p
noted_later r s note p on was =
    ap (λ l. slice_get (map prefix_in l) note) on.lines ∙ ap (λ (l : List (List Decision)). slice_get l note) (map-append prefix_in r.lines on.more) ∙ get-front (map prefix_in r.lines) (map prefix_in on.more) note p was

pub shape_later : {X : Type 0} (r s : LinesOf X) (shape : ShapeOf) → IsLonger r s → r.shape ≡ shape → s.shape ≡ shape
shape_later r s shape on was = on.shape ∙ was

pub longer_itself : {X : Type 0} (r : LinesOf X) → IsLonger r r
longer_itself r = record { shape = refl; more = []; lines = sym (append-nil r.lines) }

pub longer_onward : {X : Type 0} (r s t : LinesOf X) → IsLonger r s → IsLonger s t → IsLonger r t
longer_onward r s t first second = record {
  shape = second.shape ∙ first.shape;
  more = first.more ++ second.more;
  lines = second.lines ∙ ap (λ l. l ++ second.more) first.lines ∙ append_assoc r.lines first.more second.more;
}

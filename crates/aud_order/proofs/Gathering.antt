-- The kids of a cursor's list, gathered row by row.
use Rattle.std.specs.Prelude.{◌≡◌, ℕ, zero, suc, ◌+◌, ◌<◌, ◌≤◌, true, false, List, [], ◌∷◌, ◌++◌, map, length, slice_index_or, refl}
use Rattle.std.proofs.Common.{sym, ◌∙◌, ap, subst, arith, get_or, take, drop}
use Rattle.std.proofs.Math.ListN.{length-map}
use Rattle.std.proofs.lemmas.List.{append-nil, take_more, take_all, take-append-drop}
use Rattle.aud_event.specs.Meanings.{Declared}
use Rattle.aud_history.specs.Histories.{History}
use Rattle.aud_history.specs.Table.{RowOf, transactions, row_of, table_of}
use Rattle.aud_witness.specs.declared.decision.Decision.{Decision}
use Rattle.aud_witness.specs.Orders.{is_named}
use Rattle.aud_witness.specs.OrderFaults.{is_enabled, kids}
use Rattle.aud_witness.specs.Placings.{PlacingOf}
use Rattle.aud_order.specs.Shapes.{ShapeOf, objects_of, history_of}
use Rattle.aud_order.specs.Cursors.{IsAt}
use Rattle.aud_order.specs.Kids.{goods}
use Rattle.aud_order.proofs.KidLemmas.{IsBarren, barren-named, barren-late, goods-barren, goods-append, late-after}
use Rattle.aud_order.proofs.Standing.{placed-there}

get_or-take : (ts : List ℕ) (n k d e : ℕ) → k < length (take n ts) → (k < n) × ((k < length ts) × (get_or (take n ts) k d ≡ get_or ts k e))
get_or-take [] zero k d e inside = absurd (omega arith)
get_or-take [] (suc n) k d e inside = absurd (omega arith)
get_or-take (t ∷ ts) zero k d e inside = absurd (omega arith)
get_or-take (t ∷ ts) (suc n) zero d e inside = (omega arith, (omega arith, refl))
get_or-take (t ∷ ts) (suc n) (suc k) d e inside = let (below, (there, is)) = get_or-take ts n k d e (omega arith) in (omega arith, (omega arith, is))

get_or-dropped : (ts : List ℕ) (n k d e : ℕ) → k < length (drop n ts) → (n + k < length ts) × (get_or (drop n ts) k d ≡ get_or ts (n + k) e)
get_or-dropped [] zero k d e inside = absurd (omega arith)
get_or-dropped [] (suc n) k d e inside = absurd (omega arith)
get_or-dropped (t ∷ ts) zero k d e inside = let still : 0 + k ≡ k = omega arith in (omega arith, first (t ∷ ts) k inside ∙ ap (λ m. get_or (t ∷ ts) m e) (sym still))
  where
    first : (ts : List ℕ) (k : ℕ) → k < length ts → get_or ts k d ≡ get_or ts k e
    first [] k inside = absurd (omega arith)
    first (t ∷ ts) zero inside = refl
    first (t ∷ ts) (suc k) inside = first ts k (omega arith)
get_or-dropped (t ∷ ts) (suc n) k d e inside =
    let (there, is) = get_or-dropped ts n k d e inside in
    let up : suc n + k ≡ suc (n + k) = omega arith in
    (omega arith, is ∙ ap (λ m. get_or (t ∷ ts) m e) (sym up))

-- the rows that are placed from the first one on have no kids
pub gathered-none : (shape : ShapeOf) (p : PlacingOf) (count : ℕ) → IsAt shape p count → goods (objects_of shape) (history_of shape) p.path (take count (transactions (history_of shape))) ≡ []
gathered-none shape p count at =
    let h = history_of shape in
    goods-barren (objects_of shape) h p.path (take count (transactions h)) (λ k d inside.
    let (below, (there, is)) = get_or-take (transactions h) count k d 0 inside in
    let within : k < length (table_of h) = subst (λ n. k < n) (sym (length-map (transactions h) (row_of h))) there in
    let named : is_named p.path (get_or (transactions h) k 0) ≡ true = sym (placed-there shape p count k at within) ∙ at.opens k below in
    subst (λ t. IsBarren (objects_of shape) h p.path t) (sym is) (barren-named (objects_of shape) h p.path (get_or (transactions h) k 0) named))

-- nor has another one that is placed
pub gathered-placed : (shape : ShapeOf) (p : PlacingOf) (count i t : ℕ) (ks : List Decision) → IsAt shape p count → i < length (table_of (history_of shape)) → t ≡ slice_index_or (transactions (history_of shape)) i 0 →
    true ≡ slice_index_or p.configuration.placed i false → ks ≡ ks ++ goods (objects_of shape) (history_of shape) p.path (t ∷ [])
gathered-placed shape p count i t ks at inside is placed =
    let h = history_of shape in
    let named : is_named p.path t ≡ true = subst (λ n. is_named p.path n ≡ true) (sym is) (sym (placed-there shape p count i at inside) ∙ sym placed) in
    let none : goods (objects_of shape) h p.path (t ∷ []) ≡ [] = goods-barren (objects_of shape) h p.path (t ∷ []) (only t named) in
    sym (append-nil ks) ∙ ap (λ l. ks ++ l) (sym none)
  where
    only : (t : ℕ) → is_named p.path t ≡ true → (k d : ℕ) → k < length (t ∷ []) → IsBarren (objects_of shape) (history_of shape) p.path (get_or (t ∷ []) k d)
    only t named zero d inside = barren-named (objects_of shape) (history_of shape) p.path t named
    only t named (suc k) d inside = absurd (omega arith)

-- one more row
pub gathered-more : (objects : List Declared) (h : History) (p : List Decision) (i t : ℕ) (ks new : List Decision) → i < length (table_of h) → t ≡ slice_index_or (transactions h) i 0 →
    ks ≡ goods objects h p (take i (transactions h)) → new ≡ ks ++ goods objects h p (t ∷ []) → new ≡ goods objects h p (take (i + 1) (transactions h))
gathered-more objects h p i t ks new inside is so_far grown =
    let within : i < length (transactions h) = subst (λ n. i < n) (length-map (transactions h) (row_of h)) inside in
    let more : take (i + 1) (transactions h) ≡ take i (transactions h) ++ t ∷ [] = take_more (transactions h) i 0 within ∙ ap (λ x. take i (transactions h) ++ x ∷ []) (sym is) in
    grown ∙ ap (λ l. l ++ goods objects h p (t ∷ [])) so_far ∙ sym (ap (goods objects h p) more ∙ goods-append objects h p (take i (transactions h)) (t ∷ []))

-- all rows were looked at
pub gathered-all : (objects : List Declared) (h : History) (p : List Decision) (i : ℕ) (ks : List Decision) → length (table_of h) ≤ i → ks ≡ goods objects h p (take i (transactions h)) → ks ≡ kids objects h p
gathered-all objects h p i ks past so_far =
    so_far ∙ ap (goods objects h p) (take_all i (transactions h) (subst (λ n. n ≤ i) (length-map (transactions h) (row_of h)) past))

-- those from one on that is not enabled have no kids
pub gathered-late : (objects : List Declared) (h : History) (p : List Decision) (i : ℕ) (ks : List Decision) → false ≡ is_enabled h p (slice_index_or (transactions h) i 0) →
    ks ≡ goods objects h p (take i (transactions h)) → ks ≡ kids objects h p
gathered-late objects h p i ks late so_far =
    let none : goods objects h p (drop i (transactions h)) ≡ [] = goods-barren objects h p (drop i (transactions h)) (λ k d inside.
    let (within, is) = get_or-dropped (transactions h) i k d 0 inside in
    let after : is_enabled h p (get_or (transactions h) (i + k) 0) ≡ false = late-after h p i (i + k) 0 (omega arith) within (sym late) in
    subst (λ t. IsBarren objects h p t) (sym is) (barren-late objects h p (get_or (transactions h) (i + k) 0) after)) in
    so_far ∙ sym (append-nil (goods objects h p (take i (transactions h)))) ∙ ap (λ l. goods objects h p (take i (transactions h)) ++ l) (sym none)
    ∙ sym (goods-append objects h p (take i (transactions h)) (drop i (transactions h))) ∙ ap (goods objects h p) (take-append-drop i (transactions h))

tx-there : (h : History) (ts : List ℕ) (i : ℕ) (d : RowOf) → i < length ts → (get_or (map (row_of h) ts) i d).tx ≡ get_or ts i 0
tx-there h [] i d inside = absurd (omega arith)
tx-there h (t ∷ ts) zero d inside = refl
tx-there h (t ∷ ts) (suc i) d inside = tx-there h ts i d (omega arith)

-- the transaction of a row
pub row-tx : (h : History) (rows : List RowOf) (i : ℕ) (r : RowOf) (t : ℕ) → rows ≡ table_of h → i < length rows → r ≡ slice_index_or rows i r → t ≡ r.tx → t ≡ slice_index_or (transactions h) i 0
row-tx h rows i r t is inside at tx =
    let within : i < length (transactions h) = subst (λ n. i < n) (ap length is ∙ length-map (transactions h) (row_of h)) inside in
    tx ∙ ap (λ (x : RowOf). x.tx) (at ∙ ap (λ l. slice_index_or l i r) is) ∙ tx-there h (transactions h) i r within

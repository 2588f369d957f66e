-- A tree turned to its lighter side.
use Rattle.std.proofs.Common.{◌≡◌, ℕ, ◌+◌, ◌*◌, ◌<◌, ◌≤◌, List, ◌∷◌, ◌++◌, length, length-append, append_assoc, sym, ap, ◌∙◌, arith}
use Rattle.base_trees.specs.Trees.{AreBalanced, NearlyBalanced, IsHeavy, IsToPart}

-- one tree for three: those of the outer side and of a first part, of a second part and the light side, and of both
pub record AreTurned {T : Type 0} (first low high last : List T) (x z : T) : Type 0 where
  pub before : AreBalanced (length first) (length low)
  pub after : AreBalanced (length high) (length last)
  pub whole : AreBalanced (length (first ++ x ∷ low)) (length (high ++ z ∷ last))

length_around : {T : Type 0} (l : List T) (x : T) (r : List T) → length (l ++ x ∷ r) ≡ length l + length r + 1
length_around l x r = omega (arith, length-append l (x ∷ r))

-- the side of a heavy tree that is next to the light side is not the lighter one, and is parted
pub turned_right : {T : Type 0} (outer low high light near : List T) (x y z : T) → near ≡ low ++ y ∷ high → IsToPart (length outer) (length near) (length light) → AreBalanced (length low) (length high) → AreTurned outer low high light x z
turned_right outer low high light near x y z f ((heavier, most), inner, outside) inside =
    let n : length near ≡ length low + length high + 1 = ap length f ∙ length_around low y high in
    let b : length (outer ++ x ∷ low) ≡ length outer + length low + 1 = length_around outer x low in
    let a : length (high ++ z ∷ light) ≡ length high + length light + 1 = length_around high z light in
    record {
      before = (omega arith, omega arith);
      after = (omega arith, omega arith);
      whole = (omega arith, omega arith);
    }

pub turned_left : {T : Type 0} (outer low high light near : List T) (x y z : T) → near ≡ low ++ y ∷ high → IsToPart (length outer) (length near) (length light) → AreBalanced (length low) (length high) → AreTurned light low high outer z x
turned_left outer low high light near x y z f ((heavier, most), inner, outside) inside =
    let n : length near ≡ length low + length high + 1 = ap length f ∙ length_around low y high in
    let b : length (light ++ z ∷ low) ≡ length light + length low + 1 = length_around light z low in
    let a : length (high ++ x ∷ outer) ≡ length high + length outer + 1 = length_around high x outer in
    record {
      before = (omega arith, omega arith);
      after = (omega arith, omega arith);
      whole = (omega arith, omega arith);
    }

-- so it is where a tree is too heavy
pub to_part_right : {T : Type 0} (outer near heavy : List T) (x : T) (light : ℕ) → heavy ≡ outer ++ x ∷ near → IsHeavy (length heavy) light → 2 * (length outer + 1) ≤ length near + 1 → AreBalanced (length outer) (length near) → IsToPart (length outer) (length near) light
to_part_right outer near heavy x light e (heavier, most) inner outside =
    let h : length heavy ≡ length outer + length near + 1 = ap length e ∙ length_around outer x near in
    ((omega arith, omega arith), inner, outside)

pub to_part_left : {T : Type 0} (outer near heavy : List T) (x : T) (light : ℕ) → heavy ≡ near ++ x ∷ outer → IsHeavy (length heavy) light → 2 * (length outer + 1) ≤ length near + 1 → AreBalanced (length near) (length outer) → IsToPart (length outer) (length near) light
to_part_left outer near heavy x light e (heavier, most) inner outside =
    let h : length heavy ≡ length near + length outer + 1 = ap length e ∙ length_around near x outer in
    ((omega arith, omega arith), inner, (outside.1, outside.0))

-- that side is the lighter one, and goes over as it is
pub moved_right : {T : Type 0} (outer light near heavy : List T) (x z : T) → heavy ≡ outer ++ x ∷ near → IsHeavy (length heavy) (length light) → length near + 1 < 2 * (length outer + 1) → AreBalanced (length outer) (length near) → AreBalanced (length near) (length light) × AreBalanced (length outer) (length (near ++ z ∷ light))
moved_right outer light near heavy x z e (heavier, most) inner outside =
    let h : length heavy ≡ length outer + length near + 1 = ap length e ∙ length_around outer x near in
    let a : length (near ++ z ∷ light) ≡ length near + length light + 1 = length_around near z light in
    ((omega arith, omega arith), (omega arith, omega arith))

pub moved_left : {T : Type 0} (outer light near heavy : List T) (x z : T) → heavy ≡ near ++ x ∷ outer → IsHeavy (length heavy) (length light) → length near + 1 < 2 * (length outer + 1) → AreBalanced (length near) (length outer) → AreBalanced (length light) (length near) × AreBalanced (length (light ++ z ∷ near)) (length outer)
moved_left outer light near heavy x z e (heavier, most) inner outside =
    let h : length heavy ≡ length near + length outer + 1 = ap length e ∙ length_around near x outer in
    let b : length (light ++ z ∷ near) ≡ length light + length near + 1 = length_around light z near in
    ((omega arith, omega arith), (omega arith, omega arith))

-- a light tree joined to the inner side of a heavy one leaves a tree that is nearly balanced
pub joined_right : {T : Type 0} (outer near copy heavy light grown : List T) (x z : T) → heavy ≡ outer ++ x ∷ near → 3 * (length light + 1) < length heavy + 1 → AreBalanced (length outer) (length near) → copy ≡ near → grown ≡ copy ++ z ∷ light → NearlyBalanced (length outer) (length grown)
joined_right outer near copy heavy light grown x z e heavier inner s f =
    let h : length heavy ≡ length outer + length near + 1 = ap length e ∙ length_around outer x near in
    let a : length grown ≡ length copy + length light + 1 = ap length f ∙ length_around copy z light in
    let same : length copy ≡ length near = ap length s in
    (omega arith, omega arith)

pub joined_left : {T : Type 0} (outer near copy heavy light grown : List T) (x z : T) → heavy ≡ near ++ x ∷ outer → 3 * (length light + 1) < length heavy + 1 → AreBalanced (length near) (length outer) → copy ≡ near → grown ≡ light ++ z ∷ copy → NearlyBalanced (length grown) (length outer)
joined_left outer near copy heavy light grown x z e heavier inner s f =
    let h : length heavy ≡ length near + length outer + 1 = ap length e ∙ length_around near x outer in
    let a : length grown ≡ length light + length copy + 1 = ap length f ∙ length_around light z copy in
    let same : length copy ≡ length near = ap length s in
    (omega arith, omega arith)

pub joined_items_right : {T : Type 0} (outer near copy heavy light grown : List T) (x z : T) → heavy ≡ outer ++ x ∷ near → copy ≡ near → grown ≡ copy ++ z ∷ light → outer ++ x ∷ grown ≡ heavy ++ z ∷ light
joined_items_right outer near copy heavy light grown x z e s f = ap (λ l. outer ++ x ∷ l) (f ∙ ap (λ l. l ++ z ∷ light) s) ∙ sym (append_assoc outer (x ∷ near) (z ∷ light)) ∙ ap (λ l. l ++ z ∷ light) (sym e)

pub joined_items_left : {T : Type 0} (outer near copy heavy light grown : List T) (x z : T) → heavy ≡ near ++ x ∷ outer → copy ≡ near → grown ≡ light ++ z ∷ copy → grown ++ x ∷ outer ≡ light ++ z ∷ heavy
joined_items_left outer near copy heavy light grown x z e s f = ap (λ l. l ++ x ∷ outer) (f ∙ ap (λ l. light ++ z ∷ l) s) ∙ append_assoc light (z ∷ near) (x ∷ outer) ∙ ap (λ l. light ++ z ∷ l) (sym e)

pub turned_items : {T : Type 0} (first low high last : List T) (x y z : T) → (first ++ x ∷ low) ++ y ∷ (high ++ z ∷ last) ≡ first ++ x ∷ ((low ++ y ∷ high) ++ z ∷ last)
turned_items first low high last x y z = simp append_assoc

pub turned_items_right : {T : Type 0} (first low high last : List T) (x y z : T) → (first ++ x ∷ low) ++ y ∷ (high ++ z ∷ last) ≡ (first ++ x ∷ (low ++ y ∷ high)) ++ z ∷ last
turned_items_right first low high last x y z = simp append_assoc

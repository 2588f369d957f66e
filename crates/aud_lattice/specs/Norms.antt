-- The laws of the normal form, over plain lists of lists.
use Rattle.std.specs.Prelude.{◌≡◌, ◌↔◌, List, ◌++◌}
use Rattle.std.specs.declared.cmp.Ordering.{Ordering}
use Rattle.std.specs.List.{Contains}
use Rattle.aud_lattice.specs.Covers.{IsCover, cover_union, normal_form, IsFirst}

-- the cover of a union is the cover of the covers, which joining them makes
abbrev pub IsNormOfUnion : {D : Type 0} → (D → D → Ordering) → Type 0
IsNormOfUnion {D} cmp =
    (ps qs : List (List D)) →
    (normal_form cmp (ps ++ qs) ≡ normal_form cmp (normal_form cmp ps ++ normal_form cmp qs))
    × (normal_form cmp (ps ++ qs) ≡ cover_union cmp (normal_form cmp ps) (normal_form cmp qs))

-- what a cover left out of its lists is left out beside other lists too
abbrev pub IsNormWithNorm : {D : Type 0} → (D → D → Ordering) → Type 0
IsNormWithNorm {D} cmp = (ps qs : List (List D)) → normal_form cmp (qs ++ normal_form cmp ps) ≡ normal_form cmp (ps ++ qs)

-- the cover of some lists is a cover, and has those of them of which no proper beginning is there
abbrev pub IsNormOfFirsts : {D : Type 0} → (D → D → Ordering) → Type 0
IsNormOfFirsts {D} cmp = (ps : List (List D)) → IsCover cmp (normal_form cmp ps) × ((p : List D) → Contains (normal_form cmp ps) p ↔ IsFirst cmp ps p)

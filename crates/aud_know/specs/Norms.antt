-- Atoms of what may be known, and their normal form.
use Rattle.std.specs.Prelude.{List, [], ◌∷◌, ◌++◌, map, Option, Some, None}
use Rattle.std.specs.declared.cmp.Ordering.{Ordering}
use Rattle.std.specs.Cmp.Lexicographic.{slice_cmp}
use Rattle.std.specs.List.Sorted.{IsStrictlySortedBy}
use Rattle.base_sorted.specs.Sets.{union}
use Rattle.aud_lattice.specs.Covers.{IsCover, cover_union, normal_form}
use Rattle.aud_lattice.specs.Least.{least_of}

-- a fact, a refuted prefix, or an order that shows
pub data AtomOf (F D : Type 0) : Type 0 where
  fact : F → AtomOf F D
  refuted : List D → AtomOf F D
  shown : List D → AtomOf F D

-- the facts among some atoms
abbrev pub facts_of : {F D : Type 0} → List (AtomOf F D) → List F
facts_of [] = []
facts_of (fact f ∷ xs) = f ∷ facts_of xs
facts_of (refuted p ∷ xs) = facts_of xs
facts_of (shown p ∷ xs) = facts_of xs

-- the refuted prefixes among them
abbrev pub refuted_of : {F D : Type 0} → List (AtomOf F D) → List (List D)
refuted_of [] = []
refuted_of (fact f ∷ xs) = refuted_of xs
refuted_of (refuted p ∷ xs) = p ∷ refuted_of xs
refuted_of (shown p ∷ xs) = refuted_of xs

-- the witnesses among them
abbrev pub shown_of : {F D : Type 0} → List (AtomOf F D) → List (List D)
shown_of [] = []
shown_of (fact f ∷ xs) = shown_of xs
shown_of (refuted p ∷ xs) = shown_of xs
shown_of (shown p ∷ xs) = p ∷ shown_of xs

-- facts, refuted prefixes, and a witness
pub record Norm (F D : Type 0) : Type 0 where
  pub facts : List F
  pub cover : List (List D)
  pub witness : Option (List D)

-- the items of a list, each once, least first
abbrev pub set_of : {T : Type 0} → (T → T → Ordering) → List T → List T
set_of cmp xs = union cmp xs []

-- the least of a list
abbrev pub least_in : {T : Type 0} → (T → T → Ordering) → List T → Option T
least_in cmp [] = None
least_in cmp (x ∷ xs) = least_of cmp (Some x) (least_in cmp xs)

-- the normal form of atoms: their facts, the refuted prefixes of which none begins another, and the least witness
abbrev pub norm : {F D : Type 0} → (F → F → Ordering) → (D → D → Ordering) → List (AtomOf F D) → Norm F D
norm R S xs = record {
  facts = set_of R (facts_of xs);
  cover = normal_form S (refuted_of xs);
  witness = least_in (slice_cmp S) (shown_of xs);
}

-- two normal forms together
abbrev pub merge : {F D : Type 0} → (F → F → Ordering) → (D → D → Ordering) → Norm F D → Norm F D → Norm F D
merge R S n m = record {
  facts = union R n.facts m.facts;
  cover = cover_union S n.cover m.cover;
  witness = least_of (slice_cmp S) n.witness m.witness;
}

abbrev pub witness_atoms : {F D : Type 0} → Option (List D) → List (AtomOf F D)
witness_atoms None = []
witness_atoms (Some p) = shown p ∷ []

-- the atoms of a normal form: its facts, its refuted prefixes, and its witness
abbrev pub atoms_of : {F D : Type 0} → Norm F D → List (AtomOf F D)
atoms_of n = map fact n.facts ++ (map refuted n.cover ++ witness_atoms n.witness)

-- each part is in its own normal form
pub record IsNormal {F D : Type 0} (R : F → F → Ordering) (S : D → D → Ordering) (n : Norm F D) : Type 0 where
  pub facts : IsStrictlySortedBy R n.facts
  pub cover : IsCover S n.cover

-- Equal sets of atoms have equal normal forms.
use Rattle.std.specs.Prelude.{◌≡◌, zero, suc, Bool, true, ◌||◌, List, [], ◌∷◌, ◌++◌, Option, Some, None, map, ◌⊎◌, refl}
use Rattle.std.proofs.Common.{sym, ap, subst, ◌∙◌, arith, inl, inr}
use Rattle.std.specs.declared.cmp.Ordering.{Ordering}
use Rattle.std.specs.Ordering.{is_le}
use Rattle.std.specs.Cmp.{IsTotalOrder}
use Rattle.std.specs.Cmp.Lexicographic.{slice_cmp, lists_total}
use Rattle.std.specs.FinSet.{slice_cmp-IsAntisymmetric}
use Rattle.std.specs.List.{list_any, Contains}
use Rattle.std.specs.List.Sorted.{IsStrictlySortedBy}
use Rattle.base_values.specs.Exact.{IsExact}
use Rattle.base_sorted.specs.Sets.{has}
use Rattle.base_sorted.specs.Sorted.{has-union, sorted_union, same_sorted}
use Rattle.base_sorted.proofs.Strict.{some_passes, one_passes}
use Rattle.aud_lattice.specs.Covers.{covers, IsCover}
use Rattle.aud_lattice.specs.Covering.{cover_cover_union, covers-cover_union, same_cover}
use Rattle.aud_lattice.specs.Least.{reaches}
use Rattle.aud_lattice.specs.Leasts.{reaches-least_of, same_least}
use Rattle.aud_know.specs.Norms.{AtomOf, fact, refuted, shown, facts_of, refuted_of, shown_of, Norm, least_in, norm, merge, witness_atoms, atoms_of, IsNormal}
use Rattle.base_values.proofs.Bools.{or_nothing, or_assoc, same_bools}
use Rattle.std.proofs.lemmas.List.{append-nil}

any_append : {X : Type 0} (t : X → Bool) (xs ys : List X) → list_any t (xs ++ ys) ≡ (list_any t xs || list_any t ys)
any_append t [] ys = refl
any_append t (x ∷ xs) ys = ap (λ b. t x || b) (any_append t xs ys) ∙ sym (or_assoc (t x) (list_any t xs) (list_any t ys))

pub here : {X : Type 0} (x : X) (xs : List X) → Contains (x ∷ xs) x
here x xs = (0, omega arith, refl)

pub later : {X : Type 0} (x y : X) (xs : List X) → Contains xs y → Contains (x ∷ xs) y
later x y xs h = (suc h.0, (let lt = h.1 in omega arith), h.2)

pub first_or_later : {X : Type 0} (x y : X) (xs : List X) → Contains (x ∷ xs) y → (x ≡ y) ⊎ Contains xs y
first_or_later x y xs (zero, lt, e) = inl e
first_or_later x y xs (suc i, lt, e) = inr (i, omega (arith, lt), e)

any_within : {X : Type 0} (t : X → Bool) (xs ys : List X) → ((x : X) → Contains xs x → Contains ys x) → list_any t xs ≡ true → list_any t ys ≡ true
any_within t xs ys within e = let found = some_passes t xs e in one_passes t ys found.0 (within found.0 found.1) found.2

any_same : {X : Type 0} (t : X → Bool) (xs ys : List X) → ((x : X) → Contains xs x → Contains ys x) → ((x : X) → Contains ys x → Contains xs x) → list_any t xs ≡ list_any t ys
any_same t xs ys f g = same_bools (list_any t xs) (list_any t ys) (any_within t xs ys f) (any_within t ys xs g)

refuted-witness : (F D : Type 0) (w : Option (List D)) → refuted_of {F = F} (witness_atoms w) ≡ []
refuted-witness F D None = refl
refuted-witness F D (Some p) = refl

-- the parts of atoms
module _ {F D : Type 0} where
  pub facts-append : (X Y : List (AtomOf F D)) → facts_of (X ++ Y) ≡ facts_of X ++ facts_of Y
  facts-append [] Y = refl
  facts-append (fact f ∷ X) Y = ap (λ l. f ∷ l) (facts-append X Y)
  facts-append (refuted p ∷ X) Y = facts-append X Y
  facts-append (shown p ∷ X) Y = facts-append X Y

  pub refuted-append : (X Y : List (AtomOf F D)) → refuted_of (X ++ Y) ≡ refuted_of X ++ refuted_of Y
  refuted-append [] Y = refl
  refuted-append (fact f ∷ X) Y = refuted-append X Y
  refuted-append (refuted p ∷ X) Y = ap (λ l. p ∷ l) (refuted-append X Y)
  refuted-append (shown p ∷ X) Y = refuted-append X Y

  pub shown-append : (X Y : List (AtomOf F D)) → shown_of (X ++ Y) ≡ shown_of X ++ shown_of Y
  shown-append [] Y = refl
  shown-append (fact f ∷ X) Y = shown-append X Y
  shown-append (refuted p ∷ X) Y = shown-append X Y
  shown-append (shown p ∷ X) Y = ap (λ l. p ∷ l) (shown-append X Y)

  pub fact_there : (X : List (AtomOf F D)) (f : F) → Contains (facts_of X) f → Contains X (fact f)
  fact_there [] f h = absurd (let lt = h.1 in omega arith)
  fact_there (fact g ∷ X) f h = elim (first_or_later g f (facts_of X) h) [
    | inl e ↦ subst (λ x. Contains (fact g ∷ X) (fact x)) e (here (fact g) X)
    | inr rest ↦ later (fact g) (fact f) X (fact_there X f rest)
  ]
  fact_there (refuted p ∷ X) f h = later (refuted p) (fact f) X (fact_there X f h)
  fact_there (shown p ∷ X) f h = later (shown p) (fact f) X (fact_there X f h)

  pub refuted_there : (X : List (AtomOf F D)) (p : List D) → Contains (refuted_of X) p → Contains X (refuted p)
  refuted_there [] p h = absurd (let lt = h.1 in omega arith)
  refuted_there (refuted q ∷ X) p h = elim (first_or_later q p (refuted_of X) h) [
    | inl e ↦ subst (λ x. Contains (refuted q ∷ X) (refuted x)) e (here (refuted q) X)
    | inr rest ↦ later (refuted q) (refuted p) X (refuted_there X p rest)
  ]
  refuted_there (fact f ∷ X) p h = later (fact f) (refuted p) X (refuted_there X p h)
  refuted_there (shown q ∷ X) p h = later (shown q) (refuted p) X (refuted_there X p h)

  pub shown_there : (X : List (AtomOf F D)) (p : List D) → Contains (shown_of X) p → Contains X (shown p)
  shown_there [] p h = absurd (let lt = h.1 in omega arith)
  shown_there (shown q ∷ X) p h = elim (first_or_later q p (shown_of X) h) [
    | inl e ↦ subst (λ x. Contains (shown q ∷ X) (shown x)) e (here (shown q) X)
    | inr rest ↦ later (shown q) (shown p) X (shown_there X p rest)
  ]
  shown_there (fact f ∷ X) p h = later (fact f) (shown p) X (shown_there X p h)
  shown_there (refuted q ∷ X) p h = later (refuted q) (shown p) X (shown_there X p h)

  -- which fact, prefix or witness an atom is
  abbrev IsFact : F → AtomOf F D → Type 0
  IsFact f (fact g) = g ≡ f
  IsFact f (refuted p) = ⊥
  IsFact f (shown p) = ⊥

  abbrev IsRefuted : List D → AtomOf F D → Type 0
  IsRefuted p (fact g) = ⊥
  IsRefuted p (refuted q) = q ≡ p
  IsRefuted p (shown q) = ⊥

  abbrev IsShown : List D → AtomOf F D → Type 0
  IsShown p (fact g) = ⊥
  IsShown p (refuted q) = ⊥
  IsShown p (shown q) = q ≡ p

  back_fact : (f : F) (a : AtomOf F D) → a ≡ fact f → IsFact f a
  back_fact f a e = subst (IsFact f) (sym e) refl

  back_refuted : (p : List D) (a : AtomOf F D) → a ≡ refuted p → IsRefuted p a
  back_refuted p a e = subst (IsRefuted p) (sym e) refl

  back_shown : (p : List D) (a : AtomOf F D) → a ≡ shown p → IsShown p a
  back_shown p a e = subst (IsShown p) (sym e) refl

  pub there_fact : (X : List (AtomOf F D)) (f : F) → Contains X (fact f) → Contains (facts_of X) f
  there_fact [] f h = absurd (let lt = h.1 in omega arith)
  there_fact (fact x ∷ X) f h = elim (first_or_later (fact x) (fact f) X h) [
    | inl e ↦ subst (Contains (x ∷ facts_of X)) (back_fact f (fact x) e) (here x (facts_of X))
    | inr rest ↦ later x f (facts_of X) (there_fact X f rest)
  ]
  there_fact (refuted x ∷ X) f h = elim (first_or_later (refuted x) (fact f) X h) [
    | inl e ↦ absurd (back_fact f (refuted x) e)
    | inr rest ↦ there_fact X f rest
  ]
  there_fact (shown x ∷ X) f h = elim (first_or_later (shown x) (fact f) X h) [
    | inl e ↦ absurd (back_fact f (shown x) e)
    | inr rest ↦ there_fact X f rest
  ]

  pub there_refuted : (X : List (AtomOf F D)) (p : List D) → Contains X (refuted p) → Contains (refuted_of X) p
  there_refuted [] p h = absurd (let lt = h.1 in omega arith)
  there_refuted (fact x ∷ X) p h = elim (first_or_later (fact x) (refuted p) X h) [
    | inl e ↦ absurd (back_refuted p (fact x) e)
    | inr rest ↦ there_refuted X p rest
  ]
  there_refuted (refuted x ∷ X) p h = elim (first_or_later (refuted x) (refuted p) X h) [
    | inl e ↦ subst (Contains (x ∷ refuted_of X)) (back_refuted p (refuted x) e) (here x (refuted_of X))
    | inr rest ↦ later x p (refuted_of X) (there_refuted X p rest)
  ]
  there_refuted (shown x ∷ X) p h = elim (first_or_later (shown x) (refuted p) X h) [
    | inl e ↦ absurd (back_refuted p (shown x) e)
    | inr rest ↦ there_refuted X p rest
  ]

  pub there_shown : (X : List (AtomOf F D)) (p : List D) → Contains X (shown p) → Contains (shown_of X) p
  there_shown [] p h = absurd (let lt = h.1 in omega arith)
  there_shown (fact x ∷ X) p h = elim (first_or_later (fact x) (shown p) X h) [
    | inl e ↦ absurd (back_shown p (fact x) e)
    | inr rest ↦ there_shown X p rest
  ]
  there_shown (refuted x ∷ X) p h = elim (first_or_later (refuted x) (shown p) X h) [
    | inl e ↦ absurd (back_shown p (refuted x) e)
    | inr rest ↦ there_shown X p rest
  ]
  there_shown (shown x ∷ X) p h = elim (first_or_later (shown x) (shown p) X h) [
    | inl e ↦ subst (Contains (x ∷ shown_of X)) (back_shown p (shown x) e) (here x (shown_of X))
    | inr rest ↦ later x p (shown_of X) (there_shown X p rest)
  ]

  facts-map_fact : (fs : List F) (X : List (AtomOf F D)) → facts_of (map fact fs ++ X) ≡ fs ++ facts_of X
  facts-map_fact [] X = refl
  facts-map_fact (f ∷ fs) X = ap (λ l. f ∷ l) (facts-map_fact fs X)

  facts-map_refuted : (ps : List (List D)) (X : List (AtomOf F D)) → facts_of (map refuted ps ++ X) ≡ facts_of X
  facts-map_refuted [] X = refl
  facts-map_refuted (p ∷ ps) X = facts-map_refuted ps X

  facts-witness : (w : Option (List D)) → facts_of {F = F} (witness_atoms w) ≡ []
  facts-witness None = refl
  facts-witness (Some p) = refl

  refuted-map_fact : (fs : List F) (X : List (AtomOf F D)) → refuted_of (map fact fs ++ X) ≡ refuted_of X
  refuted-map_fact [] X = refl
  refuted-map_fact (f ∷ fs) X = refuted-map_fact fs X

  refuted-map_refuted : (ps : List (List D)) (X : List (AtomOf F D)) → refuted_of (map refuted ps ++ X) ≡ ps ++ refuted_of X
  refuted-map_refuted [] X = refl
  refuted-map_refuted (p ∷ ps) X = ap (λ l. p ∷ l) (refuted-map_refuted ps X)

  shown-map_fact : (fs : List F) (X : List (AtomOf F D)) → shown_of (map fact fs ++ X) ≡ shown_of X
  shown-map_fact [] X = refl
  shown-map_fact (f ∷ fs) X = shown-map_fact fs X

  shown-map_refuted : (ps : List (List D)) (X : List (AtomOf F D)) → shown_of (map refuted ps ++ X) ≡ shown_of X
  shown-map_refuted [] X = refl
  shown-map_refuted (p ∷ ps) X = shown-map_refuted ps X

  pub facts-atoms : (n : Norm F D) → facts_of (atoms_of n) ≡ n.facts
  facts-atoms n =
      facts-map_fact n.facts (map refuted n.cover ++ witness_atoms n.witness)
      ∙ ap (λ l. n.facts ++ l) (facts-map_refuted n.cover (witness_atoms n.witness) ∙ facts-witness n.witness)
      ∙ append-nil n.facts

  pub refuted-atoms : (n : Norm F D) → refuted_of (atoms_of n) ≡ n.cover
  refuted-atoms n =
      refuted-map_fact n.facts (map refuted n.cover ++ witness_atoms n.witness)
      ∙ refuted-map_refuted n.cover (witness_atoms n.witness)
      ∙ ap (λ l. n.cover ++ l) (refuted-witness F D n.witness)
      ∙ append-nil n.cover

  pub shown-atoms : (n : Norm F D) → shown_of (atoms_of n) ≡ shown_of {F = F} (witness_atoms n.witness)
  shown-atoms n =
      shown-map_fact n.facts (map refuted n.cover ++ witness_atoms n.witness)
      ∙ shown-map_refuted n.cover (witness_atoms n.witness)

-- the least of a list is reached where one of the list is
module _ {T : Type 0} {C : T → T → Ordering} (o : IsTotalOrder C) where
  pub reaches-least_in : (xs : List T) (q : T) → reaches C (least_in C xs) q ≡ list_any (λ x. is_le (C x q)) xs
  reaches-least_in [] q = refl
  reaches-least_in (x ∷ xs) q = reaches-least_of o (Some x) (least_in C xs) q ∙ ap (λ b. is_le (C x q) || b) (reaches-least_in xs q)

module _ {F D : Type 0} {R : F → F → Ordering} {S : D → D → Ordering} (o : IsTotalOrder R) (ex : IsExact R) (p : IsTotalOrder S) (ey : IsExact S) where
  abbrev L : List D → List D → Ordering
  L = slice_cmp S

  lo : IsTotalOrder (slice_cmp S)
  lo = lists_total p

  le : IsExact (slice_cmp S)
  le = slice_cmp-IsAntisymmetric ey

  -- two normal forms with the same facts, that cover the same and reach the same
  pub same_normal : (n m : Norm F D) → IsNormal R S n → IsNormal R S m →
      ((q : F) → has R n.facts q ≡ has R m.facts q) →
      ((q : List D) → covers S n.cover q ≡ covers S m.cover q) →
      ((q : List D) → reaches (slice_cmp S) n.witness q ≡ reaches (slice_cmp S) m.witness q) → n ≡ m
  same_normal n m a b f g h =
      let facts = same_sorted o ex n.facts m.facts a.facts b.facts f in
      let cover = same_cover p ey n.cover m.cover a.cover b.cover g in
      let witness = same_least lo le n.witness m.witness h in
      λ i. record { facts = facts i; cover = cover i; witness = witness i }

  sorted_none : IsStrictlySortedBy R []
  unfolding IsStrictlySortedBy
  sorted_none = tt

  cover_none : IsCover S []
  unfolding IsStrictlySortedBy
  cover_none = tt

  pub is_normal : (X : List (AtomOf F D)) → IsNormal R S (norm R S X)
  is_normal X = record {
    facts = sorted_union o (facts_of X) [] sorted_none;
    cover = cover_cover_union p (refuted_of X) [] cover_none;
  }

  pub merge_normal : (n m : Norm F D) → IsNormal R S m → IsNormal R S (merge R S n m)
  merge_normal n m a = record {
    facts = sorted_union o n.facts m.facts a.facts;
    cover = cover_cover_union p n.cover m.cover a.cover;
  }

  pub has-norm : (X : List (AtomOf F D)) (q : F) → has R (norm R S X).facts q ≡ has R (facts_of X) q
  has-norm X q = has-union o (facts_of X) [] q ∙ or_nothing (has R (facts_of X) q)

  pub covers-norm : (X : List (AtomOf F D)) (q : List D) → covers S (norm R S X).cover q ≡ covers S (refuted_of X) q
  covers-norm X q = covers-cover_union p (refuted_of X) [] q ∙ or_nothing (covers S (refuted_of X) q)

  pub reaches-norm : (X : List (AtomOf F D)) (q : List D) → reaches (slice_cmp S) (norm R S X).witness q ≡ list_any (λ x. is_le (slice_cmp S x q)) (shown_of X)
  reaches-norm X q = reaches-least_in lo (shown_of X) q

  -- equal sets of atoms, in any order and with repeats, have one normal form
  pub norm_same : (X Y : List (AtomOf F D)) → ((a : AtomOf F D) → Contains X a → Contains Y a) → ((a : AtomOf F D) → Contains Y a → Contains X a) → norm R S X ≡ norm R S Y
  norm_same X Y f g = same_normal (norm R S X) (norm R S Y) (is_normal X) (is_normal Y)
      (λ q. has-norm X q ∙ any_same _ (facts_of X) (facts_of Y) (λ x h. there_fact Y x (f (fact x) (fact_there X x h))) (λ x h. there_fact X x (g (fact x) (fact_there Y x h))) ∙ sym (has-norm Y q))
      (λ q. covers-norm X q ∙ any_same _ (refuted_of X) (refuted_of Y) (λ x h. there_refuted Y x (f (refuted x) (refuted_there X x h))) (λ x h. there_refuted X x (g (refuted x) (refuted_there Y x h))) ∙ sym (covers-norm Y q))
      (λ q. reaches-norm X q ∙ any_same _ (shown_of X) (shown_of Y) (λ x h. there_shown Y x (f (shown x) (shown_there X x h))) (λ x h. there_shown X x (g (shown x) (shown_there Y x h))) ∙ sym (reaches-norm Y q))

  -- the normal form of both is the two normal forms merged
  pub norm_append : (X Y : List (AtomOf F D)) → norm R S (X ++ Y) ≡ merge R S (norm R S X) (norm R S Y)
  norm_append X Y = same_normal (norm R S (X ++ Y)) (merge R S (norm R S X) (norm R S Y)) (is_normal (X ++ Y)) (merge_normal (norm R S X) (norm R S Y) (is_normal Y))
      (λ q.
      has-norm (X ++ Y) q ∙ ap (λ l. has R l q) (facts-append X Y) ∙ any_append _ (facts_of X) (facts_of Y)
      ∙ both (sym (has-norm X q)) (sym (has-norm Y q)) ∙ sym (has-union o (norm R S X).facts (norm R S Y).facts q))
      (λ q.
      covers-norm (X ++ Y) q ∙ ap (λ l. covers S l q) (refuted-append X Y) ∙ any_append _ (refuted_of X) (refuted_of Y)
      ∙ both (sym (covers-norm X q)) (sym (covers-norm Y q)) ∙ sym (covers-cover_union p (norm R S X).cover (norm R S Y).cover q))
      (λ q.
      reaches-norm (X ++ Y) q ∙ ap (λ l. list_any (λ x. is_le (slice_cmp S x q)) l) (shown-append X Y) ∙ any_append _ (shown_of X) (shown_of Y)
      ∙ both (sym (reaches-norm X q)) (sym (reaches-norm Y q)) ∙ sym (reaches-least_of lo (norm R S X).witness (norm R S Y).witness q))
    where
      both : {a b c d : Bool} → a ≡ c → b ≡ d → (a || b) ≡ (c || d)
      both e f = λ i. e i || f i

  witness-itself : (w : Option (List D)) → least_in (slice_cmp S) (shown_of {F = F} (witness_atoms w)) ≡ w
  witness-itself None = refl
  witness-itself (Some x) = refl

  -- a normal form is that of its own atoms
  pub norm_atoms : (n : Norm F D) → IsNormal R S n → norm R S (atoms_of n) ≡ n
  norm_atoms n a = same_normal (norm R S (atoms_of n)) n (is_normal (atoms_of n)) a
      (λ q. has-norm (atoms_of n) q ∙ ap (λ l. has R l q) (facts-atoms n))
      (λ q. covers-norm (atoms_of n) q ∙ ap (λ l. covers S l q) (refuted-atoms n))
      (λ q. ap (λ w. reaches (slice_cmp S) w q) (ap (least_in (slice_cmp S)) (shown-atoms n) ∙ witness-itself n.witness))

  -- what a normal form absorbed does not show
  pub norm_of_norm : (X Y : List (AtomOf F D)) → norm R S (Y ++ atoms_of (norm R S X)) ≡ norm R S (Y ++ X)
  norm_of_norm X Y = norm_append Y (atoms_of (norm R S X)) ∙ ap (merge R S (norm R S Y)) (norm_atoms (norm R S X) (is_normal X)) ∙ sym (norm_append Y X)

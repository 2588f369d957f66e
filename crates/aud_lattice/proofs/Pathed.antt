-- The paths of a trie are a cover, which covers what its walks do.
use Rattle.std.proofs.Common.{◌≡◌, ◌≢◌, ◌↔◌, All, get_or, Bool, true, false, ◌||◌, ◌&&◌, List, [], ◌∷◌, ◌++◌, map, length, arith, if◌then◌else◌, Option, Some, None, refl, sym, ap, subst, ◌∙◌, append_assoc}
use Rattle.std.specs.declared.cmp.Ordering.{Ordering}
use Rattle.std.specs.declared.cmp.Ordering.TheVariants.{Less}
use Rattle.std.specs.Ordering.{is_eq, ordering_then}
use Rattle.std.specs.Cmp.{IsTotalOrder, tied_itself, eq_by_cmp_equiv, both_ways}
use Rattle.std.specs.List.{AllByRecursion}
use Rattle.std.specs.List.Sorted.{IsStrictlySortedBy}
use Rattle.std.specs.Arc.{arc_value}
use Rattle.std.specs.declared.sync.Arc.{Arc}
use Rattle.std.specs.Map.{keys_of}
use Rattle.std.specs.declared.collections.BTreeMap.{BTreeMap}
use Rattle.base_values.specs.Exact.{IsExact}
use Rattle.aud_lattice.specs.Eithers.{either}
use Rattle.aud_lattice.specs.Covers.{cover_cmp, begins, covers, extends, IsCover, with_list, cover_union, HasBeginning}
use Rattle.base_sorted.proofs.Strict.{any_at, some_passes, one_passes}
use Rattle.aud_lattice.specs.Covering.{begins_itself, begins_trans, same_cover, cover_with_list, covers-with_list, cover_cover_union, covers-cover_union}
use Rattle.aud_lattice.specs.declared.trie.Trie.{Trie, out-Trie, roll-Trie, out-roll-Trie}
use Rattle.aud_lattice.specs.declared.trie.Trie.TheOpen.{Trie-F, Member, Fork}
use Rattle.aud_lattice.specs.declared.trie.Trie.TheFolds.{fold_out-Trie, map-Trie, ind-Trie}
use Rattle.aud_lattice.specs.Walks.{nodes_of, node_of, ends, IsLayer, is_member, child, walk_on, walk, walk_mark, mark_here, mark_on, end_mark, go_on, node_at, nothing, IsLive, IsTrie, IsWithin}
use Rattle.aud_lattice.specs.declared.trie.Trie.TheShapes.{former-Trie-Fork-0}
use Rattle.aud_lattice.specs.Marks.{mark_of}
use Rattle.aud_lattice.specs.declared.mark.Mark.TheVariants.{Covered, Inner, Outside}
use Rattle.aud_lattice.proofs.Marked.{inner≢covered}
use Rattle.aud_lattice.specs.Paths.{below, layer_paths, paths}
use Rattle.aud_lattice.proofs.Tries.{same_some, gone_on, any_by, any_by-get, good_here, good_child, live_child, parent_opened, fork_child, fork_member, pointwise, found_kids, sorted_nodes}
use Rattle.base_values.proofs.Bools.{is_false}
use Rattle.base_values.proofs.Results.{none≢some}

pub on_found : {X : Type 0} (f g : X → Bool) (o : Option X) → ((u : X) → o ≡ Some u → f u ≡ g u) → walk_on f o ≡ walk_on g o
on_found f g None h = refl
on_found f g (Some u) h = h u refl

pub and_none : (b c : Bool) → c ≡ ((b && false) || c)
and_none true c = refl
and_none false c = refl

pub and_more : (b x y z : Bool) → ((b && x) || ((b && y) || z)) ≡ ((b && (x || y)) || z)
and_more true true y z = refl
and_more true false y z = refl
and_more false x y z = refl

absorbs : (a b : Bool) → (a ≡ true → b ≡ true) → b ≡ (a || b)
absorbs true b h = h refl
absorbs false b h = refl

marked : (a b : Bool) (x y : Bool) → a ≡ x → b ≡ y → (if a then Covered else (if b then Inner else Outside)) ≡ (if x then Covered else (if y then Inner else Outside))
marked a b x y e f i = if e i then Covered else (if f i then Inner else Outside)

-- the lists are put one by one, each after the path
pub pushed : {D : Type 0} (P : List D) (x : D) (ps rest all : List (List D)) → (all ++ map (λ p. P ++ x ∷ p) ps) ++ map (λ p. P ++ p) rest ≡ all ++ map (λ p. P ++ p) (map (λ p. x ∷ p) ps ++ rest)
pushed P x ps rest all = append_assoc all (map (λ p. P ++ x ∷ p) ps) (map (λ p. P ++ p) rest) ∙ ap (λ z. all ++ z) (inner ps)
  where
    inner : (ps : List (List _)) → map (λ p. P ++ x ∷ p) ps ++ map (λ p. P ++ p) rest ≡ map (λ p. P ++ p) (map (λ p. x ∷ p) ps ++ rest)
    inner [] = refl
    inner (p ∷ ps) = ap (λ z. (P ++ x ∷ p) ∷ z) (inner ps)

pub longer_path : {D : Type 0} (P : List D) (x : D) (ps : List (List D)) → map (λ p. (P ++ x ∷ []) ++ p) ps ≡ map (λ p. P ++ x ∷ p) ps
longer_path P x [] = refl
longer_path P x (p ∷ ps) = λ i. append_assoc P (x ∷ []) p i ∷ longer_path P x ps i

pub no_path : {D : Type 0} (ps : List (List D)) → map (λ p. [] ++ p) ps ≡ ps
no_path [] = refl
no_path (p ∷ ps) = ap (λ z. p ∷ z) (no_path ps)

module _ {D : Type 0} (R : D → D → Ordering) where
  headed : (k : D) (ps rest : List (List D)) (y : D) (q : List D) → covers R (map (λ p. k ∷ p) ps ++ rest) (y ∷ q) ≡ ((is_eq (R k y) && covers R ps q) || covers R rest (y ∷ q))
  headed k [] rest y q = and_none (is_eq (R k y)) (covers R rest (y ∷ q))
  headed k (p ∷ ps) rest y q = ap (λ b. (is_eq (R k y) && begins R p q) || b) (headed k ps rest y q) ∙ and_more (is_eq (R k y)) (begins R p q) (covers R ps q) (covers R rest (y ∷ q))

  headed_nil : (k : D) (ps rest : List (List D)) → covers R (map (λ p. k ∷ p) ps ++ rest) [] ≡ covers R rest []
  headed_nil k [] rest = refl
  headed_nil k (p ∷ ps) rest = headed_nil k ps rest

  headed_begun : (k : D) (ps rest : List (List D)) → ps ≢ [] → extends R (map (λ p. k ∷ p) ps ++ rest) [] ≡ true
  headed_begun k [] rest h = absurd (h refl)
  headed_begun k (p ∷ ps) rest h = refl

  headed_begins : IsTotalOrder R → (k : D) (ps rest : List (List D)) (y : D) (q : List D) → extends R (map (λ p. k ∷ p) ps ++ rest) (y ∷ q) ≡ ((is_eq (R k y) && extends R ps q) || extends R rest (y ∷ q))
  headed_begins o k [] rest y q = and_none (is_eq (R k y)) (extends R rest (y ∷ q))
  headed_begins o k (p ∷ ps) rest y q = (λ i. ((eq_by_cmp_equiv o).symm y k i && begins R q p) || headed_begins o k ps rest y q i) ∙ and_more (is_eq (R k y)) (begins R q p) (extends R ps q) (extends R rest (y ∷ q))

  over_headed : (j k : D) (ps rest : List (List D)) → R j k ≡ Less → AllByRecursion (λ p. (q : List D) → cover_cmp R (j ∷ q) p ≡ Less) rest → AllByRecursion (λ p. (q : List D) → cover_cmp R (j ∷ q) p ≡ Less) (map (λ p. k ∷ p) ps ++ rest)
  over_headed j k [] rest e o = o
  over_headed j k (p ∷ ps) rest e o = (λ q. ap (λ r. ordering_then r (cover_cmp R q p)) e, over_headed j k ps rest e o)

  first_under : (k : D) (p : List D) (rest : List (List D)) → AllByRecursion (λ r. (q : List D) → cover_cmp R (k ∷ q) r ≡ Less) rest → AllByRecursion (λ r. cover_cmp R (k ∷ p) r ≡ Less) rest
  first_under k p [] o = tt
  first_under k p (r ∷ rest) o = (o.0 p, first_under k p rest o.1)

  under_both : (o : IsTotalOrder R) (k : D) (p : List D) (ps rest : List (List D)) → AllByRecursion (λ r. cover_cmp R p r ≡ Less) ps → AllByRecursion (λ r. cover_cmp R (k ∷ p) r ≡ Less) rest → AllByRecursion (λ r. cover_cmp R (k ∷ p) r ≡ Less) (map (λ r. k ∷ r) ps ++ rest)
  under_both o k p [] rest u v = v
  under_both o k p (r ∷ ps) rest u v = (ap (λ z. ordering_then z (cover_cmp R p r)) (tied_itself o k) ∙ u.0, under_both o k p ps rest u.1 v)

  cover_headed : (o : IsTotalOrder R) (k : D) (ps rest : List (List D)) → IsCover R ps → IsCover R rest → AllByRecursion (λ r. (q : List D) → cover_cmp R (k ∷ q) r ≡ Less) rest → IsCover R (map (λ p. k ∷ p) ps ++ rest)
  unfolding IsStrictlySortedBy
  cover_headed o k [] rest s t v = t
  cover_headed o k (p ∷ ps) rest s t v = (under_both o k p ps rest s.0 (first_under k p rest v), cover_headed o k ps rest s.1 t v)

module _ {D A : Type 0} (R : D → D → Ordering) where
  abbrev pub pathed : List (D × Trie D A) → List (List D)
  pathed es = below (map {B = D × List (List D)} (λ e. (e.0, paths e.1)) es)

  abbrev arc_map : {X Y : Type 0} → (X → Y) → Arc X A → Arc Y A
  arc_map f a = record { ptr = a.ptr; value = f a.value }

  mapped : (es : List (D × Arc (Trie D A) A)) → nodes_of (map {B = D × Arc (List (List D)) A} (λ e. (e.0, arc_map paths e.1)) es) ≡ map {B = D × List (List D)} (λ e. (e.0, paths e.1)) (nodes_of es)
  mapped [] = refl
  mapped (e ∷ es) = ap (λ r. (e.0, paths (arc_value e.1)) ∷ r) (mapped es)

  pub paths_member : (t : Trie D A) → out-Trie D A t ≡ Member → paths t ≡ [] ∷ []
  paths_member t e = fold_out-Trie D A (List (List D)) layer_paths t ∙ ap (λ o. layer_paths (map-Trie D A (Trie D A) (List (List D)) paths o)) e

  pub paths_fork : (t : Trie D A) (m : BTreeMap D (Arc (Trie D A) A) A) → out-Trie D A t ≡ Fork m → paths t ≡ pathed (nodes_of m.entries)
  paths_fork t m e = fold_out-Trie D A (List (List D)) layer_paths t ∙ ap (λ o. layer_paths (map-Trie D A (Trie D A) (List (List D)) paths o)) e ∙ ap below (mapped m.entries)

  pathed_nil : (es : List (D × Trie D A)) → covers R (pathed es) [] ≡ false
  pathed_nil [] = refl
  pathed_nil (e ∷ es) = headed_nil R e.0 (paths e.1) (pathed es) ∙ pathed_nil es

  pathed_more : (es : List (D × Trie D A)) (y : D) (q : List D) → covers R (pathed es) (y ∷ q) ≡ any_by R (λ t r. covers R (paths t) r) es (y ∷ q)
  pathed_more [] y q = refl
  pathed_more (e ∷ es) y q = headed R e.0 (paths e.1) (pathed es) y q ∙ ap (λ b. (is_eq (R e.0 y) && covers R (paths e.1) q) || b) (pathed_more es y q)

  -- below a trie that is no member a list stands as the rest of it stands under its first element
  opened_mark : (t : Trie D A) → is_member t ≡ false → (x : D) (q : List D) → walk_mark R t (x ∷ q) ≡ mark_on (λ u. walk_mark R u q) (child R t x)
  opened_mark t opened x q = ap (λ b. if b then Covered else mark_on (λ u. walk_mark R u q) (child R t x)) opened

  pub member_mark : (t : Trie D A) (x : D) (q : List D) → is_member t ≡ true → walk_mark R t (x ∷ q) ≡ Covered
  member_mark t x q e = ap (λ b. if b then Covered else mark_on (λ u. walk_mark R u q) (child R t x)) e

  module _ (o : IsTotalOrder R) (ex : IsExact R) where
    pub covers-paths : (q : List D) (t : Trie D A) → IsTrie R t → covers R (paths t) q ≡ walk R t q
    covers-paths [] t h = cases (out-Trie D A t) refl
      where
        cases : (l : Trie-F D A (Trie D A)) → out-Trie D A t ≡ l → covers R (paths t) [] ≡ is_member t
        cases Member e = ap (λ ps. covers R ps []) (paths_member t e) ∙ sym (ap ends e)
        cases (Fork m) e = ap (λ ps. covers R ps []) (paths_fork t m e) ∙ pathed_nil (nodes_of m.entries) ∙ sym (ap ends e)
    covers-paths (y ∷ q) t h = cases (λ u g. covers-paths q u g) (out-Trie D A t) refl
      where
        cases : ((u : Trie D A) → IsTrie R u → covers R (paths u) q ≡ walk R u q) → (l : Trie-F D A (Trie D A)) → out-Trie D A t ≡ l → covers R (paths t) (y ∷ q) ≡ walk R t (y ∷ q)
        cases further Member e = ap (λ ps. covers R ps (y ∷ q)) (paths_member t e) ∙ (λ i. ends (sym e i) || walk_on (λ u. walk R u q) (child R t y))
        cases further (Fork m) e =
            ap (λ ps. covers R ps (y ∷ q)) (paths_fork t m e)
            ∙ pathed_more (nodes_of m.entries) y q
            ∙ any_by-get R (λ u r. covers R (paths u) r) o ex (nodes_of m.entries) (sorted_nodes R m (subst (IsLayer R) e (good_here R t h))) y q
            ∙ on_found (λ u. covers R (paths u) q) (λ u. walk R u q) (node_of R m y) (λ u found. further u (good_child R t y u (fork_child R t m e y ∙ found) h))
            ∙ (λ i. ends (sym e i) || walk_on (λ u. walk R u q) (sym (fork_child R t m e y) i))

  -- the lists under one element, and then those under greater ones
  over_pathed : (j : D) (es : List (D × Trie D A)) → AllByRecursion (λ k. R j k ≡ Less) (keys_of es) → AllByRecursion (λ p. (q : List D) → cover_cmp R (j ∷ q) p ≡ Less) (pathed es)
  over_pathed j [] b = tt
  over_pathed j (e ∷ es) b = over_headed R j e.0 (paths e.1) (pathed es) b.0 (over_pathed j es b.1)

  cover_pathed : (o : IsTotalOrder R) (es : List (D × Trie D A)) → IsStrictlySortedBy R (keys_of es) → AllByRecursion (λ e. IsCover R (paths e.1)) es → IsCover R (pathed es)
  unfolding IsStrictlySortedBy
  cover_pathed o [] s c = tt
  cover_pathed o (e ∷ es) s c = cover_headed R o e.0 (paths e.1) (pathed es) c.0 (cover_pathed o es s.1 c.1) (over_pathed e.0 es s.0)

  module _ (o : IsTotalOrder R) (ex : IsExact R) where
    each_nodes : (t : Trie D A) (h : IsTrie R t) (es : List (D × Arc ((u : Trie D A) × (IsTrie R u → IsCover R (paths u))) A)) → AllByRecursion (λ e. child R t e.0 ≡ Some e.1) (nodes_of (map {B = D × Arc (Trie D A) A} (λ e. (e.0, arc_map (λ u. u.0) e.1)) es)) → AllByRecursion (λ e. IsCover R (paths e.1)) (nodes_of (map {B = D × Arc (Trie D A) A} (λ e. (e.0, arc_map (λ u. u.0) e.1)) es))
    each_nodes t h [] f = tt
    each_nodes t h (e ∷ es) f = ((arc_value e.1).1 (good_child R t e.0 (arc_value e.1).0 f.0 h), each_nodes t h es f.1)

    abbrev kept_nodes : (t : Trie D A) → BTreeMap D (Arc ((u : Trie D A) × (IsTrie R u → IsCover R (paths u))) A) A → BTreeMap D (Arc (Trie D A) A) A
    kept_nodes t m = (former-Trie-Fork-0 D A).map ((u : Trie D A) × (IsTrie R u → IsCover R (paths u))) (Trie D A) (λ e. e.0) m

    layer_cover : (y : Trie-F D A ((u : Trie D A) × (IsTrie R u → IsCover R (paths u)))) (t : Trie D A) → out-Trie D A t ≡ map-Trie D A ((u : Trie D A) × (IsTrie R u → IsCover R (paths u))) (Trie D A) (λ e. e.0) y → IsTrie R t → IsCover R (paths t)
    unfolding IsStrictlySortedBy
    layer_cover Member t e h = subst (IsCover R) (sym (paths_member t e)) (tt, tt)
    layer_cover (Fork m) t e h = subst (IsCover R) (sym (paths_fork t _ e)) (cover_pathed o _ (sorted_nodes R (kept_nodes t m) (subst (IsLayer R) e (good_here R t h))) (each_nodes t h m.entries (found_kids R o ex t _ e (subst (IsLayer R) e (good_here R t h)))))

    pub cover-paths : (t : Trie D A) → IsTrie R t → IsCover R (paths t)
    cover-paths = ind-Trie D A (λ t. IsTrie R t → IsCover R (paths t)) (λ x y is. layer_cover y (roll-Trie D A x) (out-roll-Trie D A x ∙ sym is))

    -- what the operations leave, as lists
    pub none_paths : (t : Trie D A) → IsTrie R t → walk R t ≡ nothing → paths t ≡ []
    unfolding IsStrictlySortedBy
    none_paths t h e = same_cover o ex (paths t) [] (cover-paths t h) tt (λ q. covers-paths o ex q t h ∙ (λ i. e i q))

    pub same_paths : (t u : Trie D A) → IsTrie R t → IsTrie R u → walk R u ≡ walk R t → paths u ≡ paths t
    same_paths t u h g e = same_cover o ex (paths u) (paths t) (cover-paths u g) (cover-paths t h) (λ q. covers-paths o ex q u g ∙ (λ i. e i q) ∙ sym (covers-paths o ex q t h))

    pub put_paths : (t u : Trie D A) (l : List D) → IsTrie R t → IsTrie R u → walk R u ≡ either (begins R l) (walk R t) → paths u ≡ with_list R l (paths t)
    put_paths t u l h g e = same_cover o ex (paths u) (with_list R l (paths t)) (cover-paths u g) (cover_with_list o l (paths t) (cover-paths t h))
        (λ q. covers-paths o ex q u g ∙ (λ i. e i q) ∙ (λ i. begins R l q || sym (covers-paths o ex q t h) i) ∙ sym (covers-with_list o l (paths t) q))

    pub join_paths : (x y z : Trie D A) → IsTrie R x → IsTrie R y → IsTrie R z → walk R z ≡ either (walk R x) (walk R y) → paths z ≡ cover_union R (paths x) (paths y)
    join_paths x y z h k g e = same_cover o ex (paths z) (cover_union R (paths x) (paths y)) (cover-paths z g) (cover_cover_union o (paths x) (paths y) (cover-paths y k))
        (λ q. covers-paths o ex q z g ∙ (λ i. e i q) ∙ (λ i. sym (covers-paths o ex q x h) i || sym (covers-paths o ex q y k) i) ∙ sym (covers-cover_union o (paths x) (paths y) q))

    -- a list that is covered adds nothing
    pub covered_stays : (t : Trie D A) (l : List D) → IsTrie R t → HasBeginning R (paths t) l → paths t ≡ with_list R l (paths t)
    covered_stays t l h b = same_cover o ex (paths t) (with_list R l (paths t)) (cover-paths t h) (cover_with_list o l (paths t) (cover-paths t h))
        (λ r. absorbs (begins R l r) (covers R (paths t) r) (λ e. one_passes (λ p. begins R p r) (paths t) b.0 b.1 (begins_trans o b.0 l r b.2 e)) ∙ sym (covers-with_list o l (paths t) r))

    -- all of the lists are covered where each that has a beginning in them has one
    pub all_within : (x y : Trie D A) → IsTrie R x → IsTrie R y → IsWithin (walk R y) (walk R x) ↔ All (λ list. covers R (paths x) list ≡ true) (paths y)
    all_within x y h g = (
      λ w k d lt. sym (sym (w.at (get_or (paths y) k d) (sym (covers-paths o ex _ y g) ∙ any_at (λ p. begins R p (get_or (paths y) k d)) (paths y) k d lt (begins_itself o (get_or (paths y) k d)))) ∙ sym (covers-paths o ex _ x h)),
      λ all. record { at = λ q e. sym (covers-paths o ex q x h) ∙ further all q (some_passes (λ p. begins R p q) (paths y) (covers-paths o ex q y g ∙ e)) },
    )
      where
        further : All (λ list. covers R (paths x) list ≡ true) (paths y) → (q : List D) → HasBeginning R (paths y) q → covers R (paths x) q ≡ true
        further all q b =
            let p = some_passes (λ p. begins R p b.0) (paths x) (ap (covers R (paths x)) (sym b.1.2) ∙ all b.1.0 b.0 b.1.1) in
            one_passes (λ p. begins R p q) (paths x) p.0 p.1 (begins_trans o p.0 b.0 q p.2 b.2)

    pathed_begins : (es : List (D × Trie D A)) (y : D) (q : List D) → extends R (pathed es) (y ∷ q) ≡ any_by R (λ t r. extends R (paths t) r) es (y ∷ q)
    pathed_begins [] y q = refl
    pathed_begins (e ∷ es) y q = headed_begins R o e.0 (paths e.1) (pathed es) y q ∙ ap (λ b. (is_eq (R e.0 y) && extends R (paths e.1) q) || b) (pathed_begins es y q)

    live_paths : (u : Trie D A) → IsTrie R u → IsLive R u → paths u ≢ []
    live_paths u h live e = live (λ q. sym (covers-paths o ex q u h) ∙ ap (λ ps. covers R ps q) e)

    end_marks : (t : Trie D A) (es : List (D × Trie D A)) → AllByRecursion (λ e. child R t e.0 ≡ Some e.1) es → IsTrie R t → end_mark es ≡ mark_of R (pathed es) []
    end_marks t [] f h = refl
    end_marks t (e ∷ es) f h = sym (marked (covers R (pathed (e ∷ es)) []) (extends R (pathed (e ∷ es)) []) false true
        (pathed_nil (e ∷ es))
        (headed_begun R e.0 (paths e.1) (pathed es) (live_paths e.1 (good_child R t e.0 e.1 f.0 h) (live_child R t e.0 e.1 f.0 h))))

    on_marks : (q : List D) (n : Option (Trie D A)) → ((u : Trie D A) → n ≡ Some u → walk_mark R u q ≡ mark_of R (paths u) q) → mark_on (λ u. walk_mark R u q) n ≡ (if walk_on (λ u. covers R (paths u) q) n then Covered else (if walk_on (λ u. extends R (paths u) q) n then Inner else Outside))
    on_marks q None h = refl
    on_marks q (Some u) h = h u refl

    pub marks : (q : List D) (t : Trie D A) → IsTrie R t → walk_mark R t q ≡ mark_of R (paths t) q
    marks [] t h = cases (out-Trie D A t) refl
      where
        cases : (l : Trie-F D A (Trie D A)) → out-Trie D A t ≡ l → walk_mark R t [] ≡ mark_of R (paths t) []
        cases Member e = ap mark_here e ∙ sym (ap (λ ps. mark_of R ps []) (paths_member t e))
        cases (Fork m) e = ap mark_here e ∙ end_marks t (nodes_of m.entries) (found_kids R o ex t m e (subst (IsLayer R) e (good_here R t h))) h ∙ sym (ap (λ ps. mark_of R ps []) (paths_fork t m e))
    marks (y ∷ q) t h = cases (λ u g. marks q u g) (out-Trie D A t) refl
      where
        cases : ((u : Trie D A) → IsTrie R u → walk_mark R u q ≡ mark_of R (paths u) q) → (l : Trie-F D A (Trie D A)) → out-Trie D A t ≡ l → walk_mark R t (y ∷ q) ≡ mark_of R (paths t) (y ∷ q)
        cases further Member e = member_mark t y q (ap ends e) ∙ sym (ap (λ ps. mark_of R ps (y ∷ q)) (paths_member t e))
        cases further (Fork m) e =
            opened_mark t (fork_member R t m e) y q
            ∙ ap (mark_on (λ u. walk_mark R u q)) (fork_child R t m e y)
            ∙ on_marks q (node_of R m y) (λ u found. further u (good_child R t y u (fork_child R t m e y ∙ found) h))
            ∙ sym (marked (covers R (pathed (nodes_of m.entries)) (y ∷ q)) (extends R (pathed (nodes_of m.entries)) (y ∷ q)) _ _
            (pathed_more (nodes_of m.entries) y q ∙ any_by-get R (λ u r. covers R (paths u) r) o ex (nodes_of m.entries) (sorted_nodes R m (subst (IsLayer R) e (good_here R t h))) y q)
            (pathed_begins (nodes_of m.entries) y q ∙ any_by-get R (λ u r. extends R (paths u) r) o ex (nodes_of m.entries) (sorted_nodes R m (subst (IsLayer R) e (good_here R t h))) y q))
            ∙ sym (ap (λ ps. mark_of R ps (y ∷ q)) (paths_fork t m e))

    pub both_within : (x y : Trie D A) → IsTrie R x → IsTrie R y → IsWithin (walk R x) (walk R y) → IsWithin (walk R y) (walk R x) → paths x ≡ paths y
    both_within x y h g v w = same_paths y x g h (pointwise (λ q. both_ways (walk R x q) (walk R y q) (v.at q) (w.at q)))

    pub paths_within : (x y : Trie D A) → IsTrie R x → IsTrie R y → paths x ≡ paths y → IsWithin (walk R x) (walk R y)
    paths_within x y h g e = record { at = λ q k. sym (covers-paths o ex q y g) ∙ ap (λ ps. covers R ps q) (sym e) ∙ covers-paths o ex q x h ∙ k }

    pub same_covered : (x y : Trie D A) → IsTrie R x → IsTrie R y → covers R (paths x) ≡ covers R (paths y) → paths x ≡ paths y
    same_covered x y h g e = same_cover o ex (paths x) (paths y) (cover-paths x h) (cover-paths y g) (λ q i. e i q)

  -- the answers of one node
  pub bare_end : (es : List (D × Arc (Trie D A) A)) → length es ≡ 0 → Outside ≡ end_mark (nodes_of es)
  bare_end [] z = refl
  bare_end (e ∷ es) z = absurd (omega (arith, z))

  pub full_end : (es : List (D × Arc (Trie D A) A)) → (length es ≡ 0 → ⊥) → Inner ≡ end_mark (nodes_of es)
  full_end [] z = absurd (z refl)
  full_end (e ∷ es) z = refl

  -- what stands inside is no member
  pub inner_opened : (t : Trie D A) → walk_mark R t [] ≡ Inner → is_member t ≡ false
  inner_opened t = cases (out-Trie D A t)
    where
      cases : (l : Trie-F D A (Trie D A)) → mark_here l ≡ Inner → ends l ≡ false
      cases Member e = absurd (inner≢covered (sym e))
      cases (Fork m) e = refl

  pub gone_mark : (t : Trie D A) (x : D) (q : List D) → is_member t ≡ false → child R t x ≡ None → walk_mark R t (x ∷ q) ≡ Outside
  gone_mark t x q opened gone = opened_mark t opened x q ∙ ap (mark_on (λ u. walk_mark R u q)) gone

  pub known_mark : (t : Trie D A) (x : D) (q : List D) (u : Trie D A) → child R t x ≡ Some u → walk_mark R t (x ∷ q) ≡ walk_mark R u q
  known_mark t x q u found = opened_mark t (parent_opened R t x u found) x q ∙ ap (mark_on (λ u. walk_mark R u q)) found

  -- what begins with a list stands to the trie as the rest of it stands to the node that the list leads to
  pub mark_under : (p : List D) (t u : Trie D A) → node_at R p t ≡ Some u → (q : List D) → walk_mark R t (p ++ q) ≡ walk_mark R u q
  mark_under [] t u e q = ap (λ w. walk_mark R w q) (same_some t u e)
  mark_under (x ∷ p) t u e q =
      let step = gone_on (λ w. node_at R p w) (child R t x) u e in
      known_mark t x (p ++ q) step.0 step.1 ∙ mark_under p step.0 u step.2 q

  -- where a list leads nowhere, it has a beginning in the trie or stands outside
  pub mark_nowhere : (p : List D) (t : Trie D A) → node_at R p t ≡ None → (walk_mark R t p ≡ Covered → ⊥) → walk_mark R t p ≡ Outside
  mark_nowhere [] t e apart = absurd (none≢some t (sym e))
  mark_nowhere (x ∷ p) t e apart = cases (λ w none far. mark_nowhere p w none far) (child R t x) refl e
    where
      cases : ((w : Trie D A) → node_at R p w ≡ None → (walk_mark R w p ≡ Covered → ⊥) → walk_mark R w p ≡ Outside) →
          (n : Option (Trie D A)) → child R t x ≡ n → go_on (λ w. node_at R p w) n ≡ None → walk_mark R t (x ∷ p) ≡ Outside
      cases further None found none = gone_mark t x p (is_false (is_member t) (λ member. apart (member_mark t x p member))) found
      cases further (Some w) found none =
          let same = known_mark t x p w found in
          same ∙ further w none (λ c. apart (same ∙ c))

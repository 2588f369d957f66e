-- Lists that lead to a member of a trie, and what is left of a trie without those of another.
use Rattle.std.proofs.Common.{◌≡◌, ◌↔◌, Bool, true, false, cond, not, ◌||◌, ◌&&◌, MatchBool, List, [], ◌∷◌, ◌++◌, map, length, Option, Some, None, refl, sym, ap, subst, ◌∙◌, arith}
use mathlib.Core.Bool.{true≢false}
use Rattle.std.specs.declared.cmp.Ordering.{Ordering}
use Rattle.std.specs.declared.cmp.Ordering.TheVariants.{Less}
use Rattle.std.specs.Ordering.{is_eq}
use Rattle.std.specs.Cmp.{IsTotalOrder, Equal-is, tied_itself}
use Rattle.std.specs.List.{AllByRecursion, Contains, list_any}
use Rattle.std.specs.List.Sorted.{IsStrictlySortedBy}
use Rattle.std.specs.BTreeMap.{IsOrdered, IsEmpty, is_at}
use Rattle.std.specs.Map.{lookup, keys_of}
use Rattle.std.specs.declared.sync.Arc.{Arc}
use Rattle.std.specs.declared.collections.BTreeMap.{BTreeMap}
use Rattle.base_values.specs.Exact.{IsExact}
use Rattle.aud_lattice.specs.Eithers.{either}
use Rattle.base_sorted.proofs.Strict.{some_passes, one_passes}
use Rattle.aud_lattice.specs.declared.trie.Trie.{Trie, out-Trie}
use Rattle.aud_lattice.specs.declared.trie.Trie.TheVariants.{Fork as made, outs-Fork}
use Rattle.aud_lattice.specs.declared.trie.Trie.TheOpen.{Trie-F, Member, Fork}
use Rattle.aud_lattice.specs.Walks.{nodes_of, node_of, ends, under, IsLayer, is_member, child, walk_on, walk, leads, nothing, but, after, starts, IsLive, IsTrie, AreAlikeBut}
use Rattle.aud_lattice.specs.Paths.{paths}
use Rattle.aud_lattice.proofs.Pathed.{pathed, paths_member, paths_fork, same_paths, none_paths, and_none, and_more, on_found}
use Rattle.aud_lattice.proofs.Tries.{pointwise, any_by, any_by-get, good_here, good_child, live_child, fork_child, fork_member, found_kids, sorted_nodes}
use Rattle.base_values.proofs.Bools.{or_nothing, and_true, is_false, and_yes}

-- whether the lists are one
abbrev pub alike : {D : Type 0} → (D → D → Ordering) → List D → List D → Bool
alike cmp [] [] = true
alike cmp [] (y ∷ q) = false
alike cmp (x ∷ p) [] = false
alike cmp (x ∷ p) (y ∷ q) = is_eq (cmp x y) && alike cmp p q

-- whether q is one of the lists
abbrev pub held : {D : Type 0} → (D → D → Ordering) → List (List D) → List D → Bool
held cmp ps q = list_any (λ p. alike cmp p q) ps

pub reported : (b : Bool) (P Q : Type 0) → (b ≡ true → P) → (b ≡ false → Q) → MatchBool b P Q
reported true P Q f g = f refl
reported false P Q f g = g refl

module _ {D : Type 0} (R : D → D → Ordering) where
  alike_itself : IsTotalOrder R → (p : List D) → alike R p p ≡ true
  alike_itself o [] = refl
  alike_itself o (x ∷ p) = (λ i. is_eq (tied_itself o x i) && alike R p p) ∙ alike_itself o p

  alike_is : IsExact R → (p q : List D) → alike R p q ≡ true → p ≡ q
  alike_is ex [] [] e = refl
  alike_is ex [] (y ∷ q) e = absurd (true≢false (sym e))
  alike_is ex (x ∷ p) [] e = absurd (true≢false (sym e))
  alike_is ex (x ∷ p) (y ∷ q) e =
      let both = and_true (is_eq (R x y)) (alike R p q) e in
      let heads = ex x y ((Equal-is (R x y)).0 both.0) in
      let tails = alike_is ex p q both.1 in
      λ i. heads i ∷ tails i

  pub held_member : IsTotalOrder R → (ps : List (List D)) (q : List D) → Contains ps q → held R ps q ≡ true
  held_member o ps q h = one_passes (λ p. alike R p q) ps q h (alike_itself o q)

  pub member_held : IsExact R → (ps : List (List D)) (q : List D) → held R ps q ≡ true → Contains ps q
  member_held ex ps q e = let found = some_passes (λ p. alike R p q) ps e in subst (Contains ps) (alike_is ex found.0 q found.2) found.1

  headed : (k : D) (ps rest : List (List D)) (y : D) (q : List D) → held R (map (λ p. k ∷ p) ps ++ rest) (y ∷ q) ≡ ((is_eq (R k y) && held R ps q) || held R rest (y ∷ q))
  headed k [] rest y q = and_none (is_eq (R k y)) (held R rest (y ∷ q))
  headed k (p ∷ ps) rest y q = ap (λ b. (is_eq (R k y) && alike R p q) || b) (headed k ps rest y q) ∙ and_more (is_eq (R k y)) (alike R p q) (held R ps q) (held R rest (y ∷ q))

  headed_nil : (k : D) (ps rest : List (List D)) → held R (map (λ p. k ∷ p) ps ++ rest) [] ≡ held R rest []
  headed_nil k [] rest = refl
  headed_nil k (p ∷ ps) rest = headed_nil k ps rest

module _ {D A : Type 0} (R : D → D → Ordering) where
  pathed_nil : (es : List (D × Trie D A)) → held R (pathed R es) [] ≡ false
  pathed_nil [] = refl
  pathed_nil (e ∷ es) = headed_nil R e.0 (paths e.1) (pathed R es) ∙ pathed_nil es

  pathed_more : (es : List (D × Trie D A)) (y : D) (q : List D) → held R (pathed R es) (y ∷ q) ≡ any_by R (λ t r. held R (paths t) r) es (y ∷ q)
  pathed_more [] y q = refl
  pathed_more (e ∷ es) y q = headed R e.0 (paths e.1) (pathed R es) y q ∙ ap (λ b. (is_eq (R e.0 y) && held R (paths e.1) q) || b) (pathed_more es y q)

  -- where no list leads to a member, no list has a beginning that does
  no_walk : (q : List D) (t : Trie D A) → ((p : List D) → leads R t p ≡ false) → walk R t q ≡ false
  no_walk [] t h = h []
  no_walk (x ∷ q) t h = (λ i. h [] i || walk_on (λ u. walk R u q) (child R t x)) ∙ on_none (λ u g. no_walk q u g) (child R t x) refl
    where
      on_none : ((u : Trie D A) → ((p : List D) → leads R u p ≡ false) → walk R u q ≡ false) → (n : Option (Trie D A)) → child R t x ≡ n → walk_on (λ u. walk R u q) n ≡ false
      on_none further None e = refl
      on_none further (Some u) e = further u (λ p. sym (ap (walk_on (λ w. leads R w p)) e) ∙ h (x ∷ p))

  pub live_leads : (t : Trie D A) → IsLive R t → leads R t ≡ nothing → ⊥
  live_leads t live e = live (λ q. no_walk q t (λ p i. e i p))

  module _ (o : IsTotalOrder R) (ex : IsExact R) where
    -- the lists of a trie lead to its members
    pub held-paths : (q : List D) (t : Trie D A) → IsTrie R t → held R (paths t) q ≡ leads R t q
    held-paths [] t h = cases (out-Trie D A t) refl
      where
        cases : (l : Trie-F D A (Trie D A)) → out-Trie D A t ≡ l → held R (paths t) [] ≡ is_member t
        cases Member e = ap (λ ps. held R ps []) (paths_member R t e) ∙ sym (ap ends e)
        cases (Fork m) e = ap (λ ps. held R ps []) (paths_fork R t m e) ∙ pathed_nil (nodes_of m.entries) ∙ sym (ap ends e)
    held-paths (y ∷ q) t h = cases (λ u g. held-paths q u g) (out-Trie D A t) refl
      where
        cases : ((u : Trie D A) → IsTrie R u → held R (paths u) q ≡ leads R u q) → (l : Trie-F D A (Trie D A)) → out-Trie D A t ≡ l → held R (paths t) (y ∷ q) ≡ leads R t (y ∷ q)
        cases further Member e = ap (λ ps. held R ps (y ∷ q)) (paths_member R t e) ∙ sym (ap (λ l. walk_on (λ u. leads R u q) (under R l y)) e)
        cases further (Fork m) e =
            ap (λ ps. held R ps (y ∷ q)) (paths_fork R t m e)
            ∙ pathed_more (nodes_of m.entries) y q
            ∙ any_by-get R (λ u r. held R (paths u) r) o ex (nodes_of m.entries) (sorted_nodes R m (subst (IsLayer R) e (good_here R t h))) y q
            ∙ on_found (λ u. held R (paths u) q) (λ u. leads R u q) (node_of R m y) (λ u found. further u (good_child R t y u (fork_child R t m e y ∙ found) h))
            ∙ ap (walk_on (λ u. leads R u q)) (sym (fork_child R t m e y))

    -- the lists of what is left
    pub left_members : (x y t : Trie D A) → IsTrie R x → IsTrie R y → IsTrie R t → leads R t ≡ but (leads R x) (leads R y) → (p : List D) → Contains (paths t) p ↔ (Contains (paths x) p × ¬ (Contains (paths y) p))
    left_members x y t gx gy gt e p = (from, to)
      where
        there : held R (paths t) p ≡ (held R (paths x) p && not (held R (paths y) p))
        there = held-paths p t gt ∙ (λ i. e i p) ∙ (λ i. sym (held-paths p x gx) i && not (sym (held-paths p y gy) i))

        from : Contains (paths t) p → Contains (paths x) p × ¬ (Contains (paths y) p)
        from h =
            let both = and_true (held R (paths x) p) (not (held R (paths y) p)) (sym there ∙ held_member R o (paths t) p h) in
            (member_held R ex (paths x) p both.0, λ k. true≢false (sym both.1 ∙ ap not (held_member R o (paths y) p k)))

        to : Contains (paths x) p × ¬ (Contains (paths y) p) → Contains (paths t) p
        to h = member_held R ex (paths t) p (there ∙ (λ i. held_member R o (paths x) p h.0 i && not (is_false (held R (paths y) p) (λ k. h.1 (member_held R ex (paths y) p k)) i)))

    -- tries with the same walks lead to the same lists
    pub same_leads : (t u : Trie D A) → IsTrie R t → IsTrie R u → walk R u ≡ walk R t → leads R u ≡ leads R t
    same_leads t u h g e = pointwise (λ q. sym (held-paths q u g) ∙ ap (λ ps. held R ps q) (same_paths R o ex t u h g e) ∙ held-paths q t h)

    pub bare_leads : (t : Trie D A) → IsTrie R t → paths t ≡ [] → leads R t ≡ nothing
    bare_leads t h e = pointwise (λ q. sym (held-paths q t h) ∙ ap (λ ps. held R ps q) e)

    pub nothing_leads : (t : Trie D A) → IsTrie R t → walk R t ≡ nothing → leads R t ≡ nothing
    nothing_leads t h e = bare_leads t h (none_paths R o ex t h e)

    -- a trie is bare where it has no paths
    pub bare_paths : (b : Bool) (t : Trie D A) → IsTrie R t → MatchBool b (leads R t ≡ nothing) (IsLive R t) → (b ≡ true) ↔ (paths t ≡ [])
    bare_paths true t h e = (λ _. none_paths R o ex t h (pointwise (λ q. no_walk q t (λ p i. e i p))), λ _. refl)
    bare_paths false t h live = (λ e. absurd (true≢false (sym e)), λ none. absurd (live_leads t live (bare_leads t h none)))

    module _ (t : Trie D A) (m : BTreeMap D (Arc (Trie D A) A) A) (at : out-Trie D A t ≡ Fork m) (s : IsOrdered R m) where
      nil_leads : (es : List (D × Trie D A)) → any_by R (leads R) es [] ≡ false
      nil_leads [] = refl
      nil_leads (d ∷ es) = nil_leads es

      pub any_leads : any_by R (leads R) (nodes_of m.entries) ≡ leads R t
      any_leads = pointwise each
        where
          each : (q : List D) → any_by R (leads R) (nodes_of m.entries) q ≡ leads R t q
          each [] = nil_leads (nodes_of m.entries) ∙ sym (fork_member R t m at)
          each (y ∷ q) = any_by-get R (leads R) o ex (nodes_of m.entries) (sorted_nodes R m s) y q ∙ ap (walk_on (λ w. leads R w q)) (sym (fork_child R t m at y))

      -- a node without an entry leads to nothing
      pub empty_leads : length m.entries ≡ 0 → leads R t ≡ nothing
      empty_leads e = sym any_leads ∙ none m.entries e
        where
          none : (es : List (D × Arc (Trie D A) A)) → length es ≡ 0 → any_by R (leads R) (nodes_of es) ≡ nothing
          none [] e = refl
          none (d ∷ es) e = absurd (omega (arith, e))

      -- a node with an entry is live
      pub full_live : IsTrie R t → (length m.entries ≡ 0 → ⊥) → IsLive R t
      full_live h full = first (nodes_of m.entries) (found_kids R o ex t m at s) (λ e. full (counted m.entries e))
        where
          counted : (es : List (D × Arc (Trie D A) A)) → length (nodes_of es) ≡ 0 → length es ≡ 0
          counted [] e = refl
          counted (d ∷ es) e = absurd (omega (arith, e))

          first : (es : List (D × Trie D A)) → AllByRecursion (λ e. child R t e.0 ≡ Some e.1) es → (length es ≡ 0 → ⊥) → IsLive R t
          first [] f some = absurd (some refl)
          first (d ∷ es) f some = λ none. live_child R t d.0 d.1 f.0 h (λ q. sym (ap (walk_on (λ w. walk R w q)) f.0) ∙ or_last (is_member t) _ (none (d.0 ∷ q)))
            where
              or_last : (a b : Bool) → (a || b) ≡ false → b ≡ false
              or_last true b e = absurd (true≢false e)
              or_last false b e = e

    -- a node put under x, where none was
    pub set_leads : (m n : BTreeMap D (Arc (Trie D A) A) A) (x : D) (u : Trie D A) → ((y : D) → node_of R n y ≡ cond (is_eq (R x y)) (Some u) (node_of R m y)) → node_of R m x ≡ None →
        leads R (made n) ≡ either (starts R x (leads R u)) (leads R (made m))
    set_leads m n x u kids absent = pointwise each
      where
        cases : (y : D) (q : List D) (b : Bool) → is_eq (R x y) ≡ b → walk_on (λ w. leads R w q) (cond b (Some u) (node_of R m y)) ≡ ((b && leads R u q) || walk_on (λ w. leads R w q) (node_of R m y))
        cases y q true e = sym (or_nothing (leads R u q)) ∙ (λ i. leads R u q || walk_on (λ w. leads R w q) ((sym absent ∙ ap (node_of R m) (ex x y ((Equal-is (R x y)).0 e))) i))
        cases y q false e = refl

        each : (q : List D) → leads R (made n) q ≡ (starts R x (leads R u) q || leads R (made m) q)
        each [] = fork_member R (made n) n (outs-Fork n) ∙ sym (fork_member R (made m) m (outs-Fork m))
        each (y ∷ q) =
            ap (walk_on (λ w. leads R w q)) (fork_child R (made n) n (outs-Fork n) y ∙ kids y)
            ∙ cases y q (is_eq (R x y)) refl
            ∙ (λ i. (is_eq (R x y) && leads R u q) || walk_on (λ w. leads R w q) (sym (fork_child R (made m) m (outs-Fork m) y) i))

  -- what is left under x
  there_leads : (m : BTreeMap D (Arc (Trie D A) A) A) (x : D) (q : List D) → leads R (made m) (x ∷ q) ≡ walk_on (λ w. leads R w q) (node_of R m x)
  there_leads m x q = ap (walk_on (λ w. leads R w q)) (fork_child R (made m) m (outs-Fork m) x)

  pub gone_left : (f : List D → Bool) (m : BTreeMap D (Arc (Trie D A) A) A) (x : D) → node_of R m x ≡ None → f ≡ but f (after x (leads R (made m)))
  gone_left f m x gone = pointwise (λ q. sym (and_yes (f q)) ∙ (λ i. f q && not (sym (there_leads m x q ∙ ap (walk_on (λ w. leads R w q)) gone) i)))

  pub known_left : (f : List D → Bool) (m : BTreeMap D (Arc (Trie D A) A) A) (x : D) (w : Trie D A) → node_of R m x ≡ Some w → but f (leads R w) ≡ but f (after x (leads R (made m)))
  known_left f m x w found = pointwise (λ q i. f q && not (sym (there_leads m x q ∙ ap (walk_on (λ w. leads R w q)) found) i))

  -- members
  pub member_leads : (t : Trie D A) → out-Trie D A t ≡ Member → (x : D) (q : List D) → leads R t (x ∷ q) ≡ false
  member_leads t e x q = ap (λ l. walk_on (λ u. leads R u q) (under R l x)) e

  pub member_from_member : (t u : Trie D A) → out-Trie D A t ≡ Member → out-Trie D A u ≡ Member → nothing ≡ but (leads R t) (leads R u)
  member_from_member t u e f = pointwise each
    where
      each : (q : List D) → false ≡ (leads R t q && not (leads R u q))
      each [] = λ i. ends (sym e i) && not (ends (sym f i))
      each (x ∷ q) = λ i. sym (member_leads t e x q) i && not (leads R u (x ∷ q))

  pub member_from_fork : (t u : Trie D A) (m : BTreeMap D (Arc (Trie D A) A) A) → out-Trie D A t ≡ Member → out-Trie D A u ≡ Fork m → leads R t ≡ but (leads R t) (leads R u)
  member_from_fork t u m e f = pointwise each
    where
      each : (q : List D) → leads R t q ≡ (leads R t q && not (leads R u q))
      each [] = sym (and_yes (ends (out-Trie D A t))) ∙ (λ i. ends (out-Trie D A t) && not (ends (sym f i)))
      each (x ∷ q) = member_leads t e x q ∙ (λ i. sym (member_leads t e x q) i && not (leads R u (x ∷ q)))

  pub fork_from_member : (t u : Trie D A) (m : BTreeMap D (Arc (Trie D A) A) A) → out-Trie D A t ≡ Fork m → out-Trie D A u ≡ Member → leads R t ≡ but (leads R t) (leads R u)
  fork_from_member t u m e f = pointwise each
    where
      each : (q : List D) → leads R t q ≡ (leads R t q && not (leads R u q))
      each [] = ap ends e ∙ (λ i. ends (sym e i) && not (is_member u))
      each (x ∷ q) = sym (and_yes (leads R t (x ∷ q))) ∙ (λ i. leads R t (x ∷ q) && not (sym (member_leads u f x q) i))

  -- keys that stay apart
  pub still_absent : (x : D) (m n : BTreeMap D (Arc (Trie D A) A) A) (es : List (D × Trie D A)) → AllByRecursion (λ k. R x k ≡ Less) (keys_of es) → AreAlikeBut R x m n →
      AllByRecursion (λ e. node_of R m e.0 ≡ None) es → AllByRecursion (λ e. node_of R n e.0 ≡ None) es
  still_absent x m n [] b others f = tt
  still_absent x m n (e ∷ es) b others f = (others e.0 (ap is_eq b.0) ∙ f.0, still_absent x m n es b.1 others f.1)

  pub absent_at_first : (m : BTreeMap D (Arc (Trie D A) A) A) → IsEmpty m → (es : List (D × Trie D A)) → AllByRecursion (λ e. node_of R m e.0 ≡ None) es
  absent_at_first m e [] = tt
  absent_at_first m e (d ∷ es) = (ap (λ l. lookup (is_at (R d.0)) (nodes_of l)) e, absent_at_first m e es)

module _ {D : Type 0} (R : D → D → Ordering) where
  -- what is left of the lists that begin with x
  pub starts_but : IsExact R → (x : D) (f g : List D → Bool) → starts R x (but f (after x g)) ≡ but (starts R x f) g
  starts_but ex x f g = pointwise each
    where
      cases : (y : D) (q : List D) (b : Bool) → is_eq (R x y) ≡ b → (b && (f q && not (g (x ∷ q)))) ≡ ((b && f q) && not (g (y ∷ q)))
      cases y q true e = λ i. f q && not (g (ex x y ((Equal-is (R x y)).0 e) i ∷ q))
      cases y q false e = refl

      each : (q : List D) → starts R x (but f (after x g)) q ≡ (starts R x f q && not (g q))
      each [] = refl
      each (y ∷ q) = cases y q (is_eq (R x y)) refl

  pub starts_nothing : (x : D) → starts R x nothing ≡ nothing
  starts_nothing x = pointwise each
    where
      and-false : (b : Bool) → (b && false) ≡ false
      and-false true = refl
      and-false false = refl

      each : (q : List D) → starts R x nothing q ≡ false
      each [] = refl
      each (y ∷ q) = and-false (is_eq (R x y))

-- a sorted list taken apart
pub rising : {K : Type 0} (R : K → K → Ordering) (k : K) (ks : List K) → IsStrictlySortedBy R (k ∷ ks) → AllByRecursion (λ y. R k y ≡ Less) ks × IsStrictlySortedBy R ks
unfolding IsStrictlySortedBy
rising R k ks s = s

pub either_nothing : {D : Type 0} (f : List D → Bool) → either f nothing ≡ f
either_nothing f = pointwise (λ q. or_nothing (f q))

pub passed_on : {D : Type 0} (a r g w : List D → Bool) → either (but r g) (either (but a g) w) ≡ either (but (either a r) g) w
passed_on a r g w = pointwise (λ q. each (a q) (r q) (g q) (w q))
  where
    each : (a r g w : Bool) → ((r && not g) || ((a && not g) || w)) ≡ (((a || r) && not g) || w)
    each true true true w = refl
    each true true false w = refl
    each true false true w = refl
    each true false false w = refl
    each false true true w = refl
    each false true false w = refl
    each false false g w = refl

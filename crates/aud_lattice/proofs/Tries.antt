-- One layer of a trie, and all below it.
use Rattle.std.proofs.Common.{◌≡◌, ◌≢◌, ℕ, ◌<◌, ◌≤◌, Bool, true, false, cond, ◌||◌, ◌&&◌, List, [], ◌∷◌, Option, Some, None, refl, sym, ap, subst, ◌∙◌, length, slice_get, IfSome, arith}
use mathlib.Core.Bool.{true≢false}
use Rattle.std.specs.declared.cmp.Ordering.{Ordering}
use Rattle.std.specs.declared.cmp.Ordering.TheVariants.{Less, Equal, Greater}
use Rattle.std.specs.Ordering.{is_eq, ordering_reverse}
use Rattle.std.specs.Cmp.{IsTotalOrder, Equal-is, tied_itself}
use Rattle.std.specs.List.{AllByRecursion}
use Rattle.std.specs.List.Sorted.{IsStrictlySortedBy}
use Rattle.std.specs.BTreeMap.{get, is_at, IsOrdered, IsEmpty}
use Rattle.std.specs.Arc.{arc_value}
use Rattle.std.specs.declared.sync.Arc.{Arc}
use Rattle.std.specs.Map.{lookup, keys_of, values_of}
use denote.Param.Weighed.{most}
use Rattle.std.specs.declared.collections.BTreeMap.{BTreeMap}
use Rattle.base_values.specs.Exact.{IsExact}
use Rattle.aud_lattice.specs.Covers.{begins}
use Rattle.aud_lattice.specs.Covering.{begins_itself}
use Rattle.aud_lattice.specs.declared.trie.Trie.{Trie, out-Trie, size-Trie, size_is-Trie}
use Rattle.aud_lattice.specs.declared.trie.Trie.TheBlock.{weighs-Trie, the_members, the_sigs, the_carrier, the_depth}
use denote.Hole.Carrier.{Values}
use Rattle.aud_lattice.specs.declared.trie.Trie.TheVariants.{Fork as made, outs-Fork, Member as made_member, outs-Member}
use Rattle.aud_lattice.specs.Eithers.{either}
use Rattle.aud_lattice.specs.declared.trie.Trie.TheOpen.{Trie-F, Member, Fork}
use Rattle.aud_lattice.specs.Walks.{nodes_of, node_of, ends, under, IsLayer, is_member, child, walk_on, walk, nothing, go_on, node_at, starts, IsLive, IsTrie, IsMet, IsWithin}
use Rattle.base_values.proofs.Bools.{or_nothing, is_false, or_always}
use Rattle.base_values.proofs.Results.{none≢some}

pub pointwise : {X Y : Type 0} {f g : X → Y} → ((x : X) → f x ≡ g x) → f ≡ g
pointwise h i x = h x i

some_of : {X : Type 0} → X → Option X → X
some_of d None = d
some_of d (Some x) = x

pub same_some : {X : Type 0} (x y : X) → Some x ≡ Some y → x ≡ y
unfolding some_of
same_some x y e = ap (some_of x) e

pub each_some : {X : Type 0} (o : Option X) (P Q : X → Type 0) → ((x : X) → P x → Q x) → IfSome o P → IfSome o Q
each_some None P Q f h = tt
each_some (Some x) P Q f h = f x h

pub one_alone : {X : Type 0} (xs : List X) (x : X) → length xs ≡ 1 → slice_get xs 0 ≡ Some x → xs ≡ x ∷ []
one_alone [] x one first = absurd (omega (arith, one))
one_alone (y ∷ []) x one first = ap (λ z. z ∷ []) (same_some y x first)
one_alone (y ∷ z ∷ zs) x one first = absurd (omega (arith, one))

pub more≢none : {X : Type 0} (x : X) (q : List X) → x ∷ q ≢ []
more≢none x q e = cc

-- what an answer gives, and where it comes from
pub gone_on : {X Y : Type 0} (f : X → Option Y) (o : Option X) (y : Y) → go_on f o ≡ Some y → (x : X) × (o ≡ Some x) × (f x ≡ Some y)
gone_on f None y e = absurd (none≢some y e)
gone_on f (Some x) y e = (x, refl, e)

or_left : (a b : Bool) → (a || b) ≡ false → a ≡ false
or_left true b e = e
or_left false b e = refl

module _ {D : Type 0} (R : D → D → Ordering) where
  pub begins-starts : (x : D) (p : List D) → begins R (x ∷ p) ≡ starts R x (begins R p)
  begins-starts x p = pointwise (each x p)
    where
      each : (x : D) (p q : List D) → begins R (x ∷ p) q ≡ starts R x (begins R p) q
      each x p [] = refl
      each x p (y ∷ q) = refl

  pub begins_live : IsTotalOrder R → (p : List D) → ((q : List D) → begins R p q ≡ false) → ⊥
  begins_live o p none = true≢false (sym (begins_itself o p) ∙ none p)

pub shift : {D : Type 0} (a r w : List D → Bool) → either r (either a w) ≡ either (either a r) w
shift a r w = pointwise (λ q. each (a q) (r q) (w q))
  where
    each : (x y z : Bool) → (y || (x || z)) ≡ ((x || y) || z)
    each true true z = refl
    each true false z = refl
    each false y z = refl

pub either_swap : {D : Type 0} (f g : List D → Bool) → either f g ≡ either g f
either_swap f g = pointwise (λ q. swap (f q) (g q))
  where
    swap : (a b : Bool) → (a || b) ≡ (b || a)
    swap true true = refl
    swap true false = refl
    swap false true = refl
    swap false false = refl

-- what is within another, test by test
pub nothing_within : {D : Type 0} (h : List D → Bool) → IsWithin nothing h
nothing_within h = record { at = λ q e. absurd (true≢false (sym e)) }

pub within_first : {D : Type 0} (f g h : List D → Bool) → IsWithin (either f g) h → IsWithin f h
within_first f g h w = record { at = λ q e. w.at q (ap (λ b. b || g q) e) }

pub within_rest : {D : Type 0} (f g h : List D → Bool) → IsWithin (either f g) h → IsWithin g h
within_rest f g h w = record { at = λ q e. w.at q (ap (λ b. f q || b) e ∙ or_always (f q)) }

pub within_each : {D : Type 0} (f g h : List D → Bool) → IsWithin f h → IsWithin g h → IsWithin (either f g) h
within_each {D = D} f g h v w = record { at = λ q e. cases q (f q) (v.at q) e }
  where
    cases : (q : List D) (b : Bool) → (b ≡ true → h q ≡ true) → (b || g q) ≡ true → h q ≡ true
    cases q true first e = first refl
    cases q false first e = w.at q e

-- the node that an owner shares
abbrev pub shared : {X A : Type 0} → Option (Arc X A) → Option X
shared None = None
shared (Some a) = Some (arc_value a)

shared_cond : {X A : Type 0} (b : Bool) (a : Arc X A) (o : Option (Arc X A)) → shared (cond b (Some a) o) ≡ cond b (Some (arc_value a)) (shared o)
shared_cond true a o = refl
shared_cond false a o = refl

lookup_nodes : {D X A : Type 0} (test : D → Bool) (es : List (D × Arc X A)) → lookup test (nodes_of es) ≡ shared (lookup test es)
lookup_nodes test [] = refl
lookup_nodes test (e ∷ es) = ap (cond (test e.0) (Some (arc_value e.1))) (lookup_nodes test es) ∙ sym (shared_cond (test e.0) e.1 (lookup test es))

keys_nodes : {D X A : Type 0} (es : List (D × Arc X A)) → keys_of (nodes_of es) ≡ keys_of es
keys_nodes [] = refl
keys_nodes (e ∷ es) = ap (λ ks. e.0 ∷ ks) (keys_nodes es)

module _ {D X A : Type 0} (R : D → D → Ordering) where
  pub node_is : (m : BTreeMap D (Arc X A) A) (x : D) → node_of R m x ≡ shared (get R m x)
  node_is m x = lookup_nodes (is_at (R x)) m.entries

  pub found_node : (m : BTreeMap D (Arc X A) A) (x : D) (a : Arc X A) → get R m x ≡ Some a → node_of R m x ≡ Some (arc_value a)
  found_node m x a e = node_is m x ∙ ap shared e

  pub gone_node : (m : BTreeMap D (Arc X A) A) (x : D) → get R m x ≡ None → node_of R m x ≡ None
  gone_node m x e = node_is m x ∙ ap shared e

  pub sorted_nodes : (m : BTreeMap D (Arc X A) A) → IsOrdered R m → IsStrictlySortedBy R (keys_of (nodes_of m.entries))
  sorted_nodes m s = subst (IsStrictlySortedBy R) (sym (keys_nodes m.entries)) s

  -- one key written
  pub set_nodes : (m n : BTreeMap D (Arc X A) A) (x y : D) (a : Arc X A) → get R n y ≡ cond (is_eq (R x y)) (Some a) (get R m y) → node_of R n y ≡ cond (is_eq (R x y)) (Some (arc_value a)) (node_of R m y)
  set_nodes m n x y a e = node_is n y ∙ ap shared e ∙ shared_cond (is_eq (R x y)) a (get R m y) ∙ ap (cond (is_eq (R x y)) (Some (arc_value a))) (sym (node_is m y))

-- the first answer that there is
abbrev pub first_of : {X : Type 0} → Option X → Option X → Option X
first_of None o = o
first_of (Some x) o = Some x

pub none_first : {X : Type 0} (o : Option X) → first_of o None ≡ o
none_first None = refl
none_first (Some x) = refl

module _ {D : Type 0} {R : D → D → Ordering} (o : IsTotalOrder R) where
  less_apart : (x z : D) → R x z ≡ Less → (y : D) → is_eq (R x y) ≡ true → is_eq (R y z) ≡ false
  less_apart x z e y h = ap is_eq (sym (o.congr x y z ((Equal-is (R x y)).0 h))) ∙ ap is_eq e

  level : (x y : D) → is_eq (R x y) ≡ is_eq (R y x)
  level x y = ap is_eq (o.antisymm x y) ∙ turned (R y x)
    where
      turned : (r : Ordering) → is_eq (ordering_reverse r) ≡ is_eq r
      turned Less = refl
      turned Equal = refl
      turned Greater = refl

-- the entries of a map move one by one into another
module _ {D X : Type 0} {R : D → D → Ordering} (o : IsTotalOrder R) where
  absent : (x y : D) (es : List (D × X)) → AllByRecursion (λ k. R x k ≡ Less) (keys_of es) → is_eq (R x y) ≡ true → lookup (is_at (R y)) es ≡ None
  absent x y [] b h = refl
  absent x y (e ∷ es) b h = ap (λ t. cond t (Some e.1) (lookup (is_at (R y)) es)) (less_apart o x e.0 b.0 y h) ∙ absent x y es b.1 h

  pub moved : (x : D) (u : X) (es : List (D × X)) (old new whole : Option X) (y : D) → IsStrictlySortedBy R (keys_of ((x, u) ∷ es)) → new ≡ cond (is_eq (R x y)) (Some u) old → first_of (lookup (is_at (R y)) ((x, u) ∷ es)) old ≡ whole → first_of (lookup (is_at (R y)) es) new ≡ whole
  unfolding IsStrictlySortedBy
  moved x u es old new whole y s is h = ap (first_of (lookup (is_at (R y)) es)) is ∙ cases (is_eq (R x y)) refl ∙ h
    where
      cases : (b : Bool) → is_eq (R x y) ≡ b → first_of (lookup (is_at (R y)) es) (cond b (Some u) old) ≡ first_of (cond (is_eq (R y x)) (Some u) (lookup (is_at (R y)) es)) old
      cases true e = ap (λ l. first_of l (Some u)) (absent x y es s.0 e) ∙ ap (λ t. first_of (cond t (Some u) (lookup (is_at (R y)) es)) old) (sym (sym (level o x y) ∙ e))
      cases false e = ap (λ t. first_of (cond t (Some u) (lookup (is_at (R y)) es)) old) (sym (sym (level o x y) ∙ e))

-- the walks under any of the entries
abbrev pub any_by : {D A : Type 0} → (D → D → Ordering) → (Trie D A → List D → Bool) → List (D × Trie D A) → List D → Bool
any_by cmp F [] = nothing
any_by cmp F (e ∷ es) = either (starts cmp e.0 (F e.1)) (any_by cmp F es)

abbrev pub any_starts : {D A : Type 0} → (D → D → Ordering) → List (D × Trie D A) → List D → Bool
any_starts cmp es = any_by cmp (walk cmp) es

module _ {D A : Type 0} (R : D → D → Ordering) where
  pub good_here : (t : Trie D A) → IsTrie R t → IsLayer R (out-Trie D A t)
  good_here t h = (h.at [] t refl).0

  pub good_child : (t : Trie D A) (x : D) (u : Trie D A) → child R t x ≡ Some u → IsTrie R t → IsTrie R u
  good_child t x u c h = record { at = λ q v e. let r = h.at (x ∷ q) v (ap (λ o. go_on (λ w. node_at R q w) o) c ∙ e) in (r.0, λ _. r.1 (more≢none x q)) }

  pub live_child : (t : Trie D A) (x : D) (u : Trie D A) → child R t x ≡ Some u → IsTrie R t → IsLive R u
  live_child t x u c h = (h.at (x ∷ []) u (ap (λ o. go_on (λ w. node_at R [] w) o) c)).1 (more≢none x [])

  pub good_from : (t : Trie D A) → IsLayer R (out-Trie D A t) → ((x : D) (u : Trie D A) → child R t x ≡ Some u → IsTrie R u × IsLive R u) → IsTrie R t
  good_from t layer kids = record { at = all }
    where
      all : (q : List D) (u : Trie D A) → node_at R q t ≡ Some u → IsLayer R (out-Trie D A u) × (q ≢ [] → IsLive R u)
      all [] u e = (subst (λ w. IsLayer R (out-Trie D A w)) (same_some t u e) layer, λ more. absurd (more refl))
      all (x ∷ []) u e =
          let g = gone_on (λ w. node_at R [] w) (child R t x) u e in
          let k = kids x u (g.1 ∙ g.2) in
          ((k.0.at [] u refl).0, λ _. k.1)
      all (x ∷ y ∷ q) u e =
          let g = gone_on (λ w. node_at R (y ∷ q) w) (child R t x) u e in
          let k = (kids x g.0 g.1).0.at (y ∷ q) u g.2 in
          (k.0, λ _. k.1 (more≢none y q))

  -- a member
  pub member_walk : (t : Trie D A) → is_member t ≡ true → (q : List D) → walk R t q ≡ true
  member_walk t e [] = e
  member_walk t e (x ∷ q) = ap (λ b. b || walk_on (λ u. walk R u q) (child R t x)) e

  member_child : (f : Trie-F D A (Trie D A)) (x : D) (u : Trie D A) → ends f ≡ true → under R f x ≡ Some u → ⊥
  member_child Member x u e c = none≢some u c
  member_child (Fork m) x u e c = true≢false (sym e)

  -- a trie with something under an element is no member
  pub parent_opened : (t : Trie D A) (x : D) (u : Trie D A) → child R t x ≡ Some u → is_member t ≡ false
  parent_opened t x u c = is_false (is_member t) (λ e. member_child (out-Trie D A t) x u e c)

  member_layer : (f : Trie-F D A (Trie D A)) → ends f ≡ true → IsLayer R f
  member_layer Member e = tt
  member_layer (Fork m) e = absurd (true≢false (sym e))

  pub member_good : (t : Trie D A) → is_member t ≡ true → IsTrie R t
  member_good t e = good_from t (member_layer (out-Trie D A t) e) (λ x u c. absurd (member_child (out-Trie D A t) x u e c))

  -- a node with no children
  pub bare_walk : (t : Trie D A) → is_member t ≡ false → ((x : D) → child R t x ≡ None) → (q : List D) → walk R t q ≡ false
  bare_walk t e none [] = e
  bare_walk t e none (x ∷ q) = (λ i. e i || walk_on (λ u. walk R u q) (none x i))

  pub bare_good : (t : Trie D A) → IsLayer R (out-Trie D A t) → ((x : D) → child R t x ≡ None) → IsTrie R t
  bare_good t layer none = good_from t layer (λ x u c. absurd (none≢some u (sym (none x) ∙ c)))

  -- t' is t with the node u under x
  pub record IsSet (t : Trie D A) (x : D) (u : Trie D A) (t' : Trie D A) : Type 0 where
    pub opened : is_member t ≡ false
    pub stays : is_member t' ≡ false
    pub layer : IsLayer R (out-Trie D A t')
    pub kids : (y : D) → child R t' y ≡ cond (is_eq (R x y)) (Some u) (child R t y)

  module _ (o : IsTotalOrder R) (ex : IsExact R) (t : Trie D A) (x : D) (u t' : Trie D A) (s : IsSet t x u t') where
    pub set_good : IsTrie R t → IsTrie R u → IsLive R u → IsTrie R t'
    set_good h g live = good_from t' s.layer kids
      where
        cases : (y : D) (v : Trie D A) (b : Bool) → cond b (Some u) (child R t y) ≡ Some v → IsTrie R v × IsLive R v
        cases y v true e = (subst (IsTrie R) (same_some u v e) g, subst (IsLive R) (same_some u v e) live)
        cases y v false e = (good_child t y v e h, live_child t y v e h)

        kids : (y : D) (v : Trie D A) → child R t' y ≡ Some v → IsTrie R v × IsLive R v
        kids y v c = cases y v (is_eq (R x y)) (sym (s.kids y) ∙ c)

    pub set_walk : (f : List D → Bool) → ((q : List D) → walk R u q ≡ (f q || walk_on (λ w. walk R w q) (child R t x))) → (q : List D) → walk R t' q ≡ (starts R x f q || walk R t q)
    set_walk f h [] = s.stays ∙ sym s.opened
    set_walk f h (y ∷ q) = (λ i. s.stays i || walk_on (λ w. walk R w q) (s.kids y i)) ∙ cases (is_eq (R x y)) refl ∙ (λ i. (is_eq (R x y) && f q) || (sym s.opened i || walk_on (λ w. walk R w q) (child R t y)))
      where
        cases : (b : Bool) → is_eq (R x y) ≡ b → walk_on (λ w. walk R w q) (cond b (Some u) (child R t y)) ≡ ((b && f q) || walk_on (λ w. walk R w q) (child R t y))
        cases true e = h q ∙ ap (λ z. f q || walk_on (λ w. walk R w q) (child R t z)) (ex x y ((Equal-is (R x y)).0 e))
        cases false e = refl

  module _ (t : Trie D A) (m : BTreeMap D (Arc (Trie D A) A) A) (at : out-Trie D A t ≡ Fork m) where
    pub fork_member : is_member t ≡ false
    fork_member = ap ends at

    pub fork_child : (x : D) → child R t x ≡ node_of R m x
    fork_child x = ap (λ f. under R f x) at

    pub fork_layer : IsOrdered R m → IsLayer R (out-Trie D A t)
    fork_layer s = subst (IsLayer R) (sym at) s

    pub good_under : (x : D) (u : Trie D A) → node_of R m x ≡ Some u → IsTrie R t → IsTrie R u
    good_under x u e h = good_child t x u (fork_child x ∙ e) h

    pub live_under : (x : D) (u : Trie D A) → node_of R m x ≡ Some u → IsTrie R t → IsLive R u
    live_under x u e h = live_child t x u (fork_child x ∙ e) h

    none_in : (x : D) → IsEmpty m → node_of R m x ≡ None
    none_in x e = ap (λ es. lookup (is_at (R x)) (nodes_of es)) e

    pub empty_walk : IsEmpty m → (q : List D) → walk R t q ≡ false
    empty_walk e = bare_walk t fork_member (λ x. fork_child x ∙ none_in x e)

    pub empty_good : IsEmpty m → IsOrdered R m → IsTrie R t
    empty_good e s = bare_good t (fork_layer s) (λ x. fork_child x ∙ none_in x e)

    -- a map with one key more, or with another node at it
    pub set_of : (t' : Trie D A) (n : BTreeMap D (Arc (Trie D A) A) A) (x : D) (u : Trie D A) → out-Trie D A t' ≡ Fork n → IsOrdered R n → ((y : D) → node_of R n y ≡ cond (is_eq (R x y)) (Some u) (node_of R m y)) → IsSet t x u t'
    set_of t' n x u to s kids = record {
      opened = fork_member;
      stays = ap ends to;
      layer = subst (IsLayer R) (sym to) s;
      kids = λ y. ap (λ f. under R f y) to ∙ kids y ∙ (λ i. cond (is_eq (R x y)) (Some u) (sym (fork_child y) i));
    }

  -- the same, for nodes with a map
  pub fork_good_at : (m : BTreeMap D (Arc (Trie D A) A) A) (x : D) (u : Trie D A) → node_of R m x ≡ Some u → IsTrie R (made m) → IsTrie R u
  fork_good_at m x u e h = good_under (made m) m (outs-Fork m) x u e h

  pub fork_live_at : (m : BTreeMap D (Arc (Trie D A) A) A) (x : D) (u : Trie D A) → node_of R m x ≡ Some u → IsTrie R (made m) → IsLive R u
  fork_live_at m x u e h = live_under (made m) m (outs-Fork m) x u e h

  fork_set : (m n : BTreeMap D (Arc (Trie D A) A) A) (x : D) (u : Trie D A) → IsOrdered R n → ((y : D) → node_of R n y ≡ cond (is_eq (R x y)) (Some u) (node_of R m y)) → IsSet (made m) x u (made n)
  fork_set m n x u s kids = set_of (made m) m (outs-Fork m) (made n) n x u (outs-Fork n) s kids

  -- the same nodes: same walks
  module _ (m n : BTreeMap D (Arc (Trie D A) A) A) (same : (x : D) → node_of R n x ≡ node_of R m x) where
    pub alike_good : IsOrdered R n → IsTrie R (made m) → IsTrie R (made n)
    alike_good s h = good_from (made n) (fork_layer (made n) n (outs-Fork n) s) (λ x u c.
        let found = sym (same x) ∙ sym (fork_child (made n) n (outs-Fork n) x) ∙ c in
        (fork_good_at m x u found h, fork_live_at m x u found h))

    pub alike_walk : walk R (made n) ≡ walk R (made m)
    alike_walk = pointwise each
      where
        each : (q : List D) → walk R (made n) q ≡ walk R (made m) q
        each [] = fork_member (made n) n (outs-Fork n) ∙ sym (fork_member (made m) m (outs-Fork m))
        each (x ∷ q) = λ i.
            (fork_member (made n) n (outs-Fork n) ∙ sym (fork_member (made m) m (outs-Fork m))) i
            || walk_on (λ u. walk R u q) ((fork_child (made n) n (outs-Fork n) x ∙ same x ∙ sym (fork_child (made m) m (outs-Fork m) x)) i)

  pub member_is_good : IsTrie {A = A} R made_member
  member_is_good = member_good made_member (ap ends outs-Member)

  pub live_as : (u : Trie D A) (f : List D → Bool) → walk R u ≡ f → (((q : List D) → f q ≡ false) → ⊥) → IsLive R u
  live_as u f e live none = live (λ q. (λ i. sym e i q) ∙ none q)

  pub member_keeps : (f : List D → Bool) → walk {A = A} R made_member ≡ either f (walk {A = A} R made_member)
  member_keeps f = pointwise (λ q. member_walk made_member (ap ends outs-Member) q ∙ sym (or_always (f q)) ∙ (λ i. f q || sym (member_walk made_member (ap ends outs-Member) q) i))

  -- the empty list begins all
  pub nil_covers : (l : List D) (f : List D → Bool) → length l ≡ 0 → walk {A = A} R made_member ≡ either (begins R l) f
  nil_covers [] f e = pointwise (λ q. member_walk made_member (ap ends outs-Member) q)
  nil_covers (x ∷ l) f e = absurd (omega (arith, e))

  pub member_joins : (f : List D → Bool) → walk {A = A} R made_member ≡ either (walk {A = A} R made_member) f
  member_joins f = pointwise (λ q. member_walk made_member (ap ends outs-Member) q ∙ (λ i. sym (member_walk made_member (ap ends outs-Member) q) i || f q))

  pub nil_begins : (l : List D) → length l ≡ 0 → walk {A = A} R made_member ≡ begins R l
  nil_begins [] e = pointwise (λ q. member_walk made_member (ap ends outs-Member) q)
  nil_begins (x ∷ l) e = absurd (omega (arith, e))

  pub alone : (x : D) (p l : List D) (t s : Trie D A) → l ≡ x ∷ p → walk R t ≡ either (starts R x (begins R p)) (walk R s) → ((q : List D) → walk R s q ≡ false) → walk R t ≡ begins R l
  alone x p l t s e h none = h ∙ pointwise (λ q. (λ i. starts R x (begins R p) q || none q i) ∙ or_nothing (starts R x (begins R p) q)) ∙ (λ i. sym (begins-starts R x p) i) ∙ (λ i. begins R (sym e i))

  module _ (o : IsTotalOrder R) (ex : IsExact R) (m n : BTreeMap D (Arc (Trie D A) A) A) (x : D) (u : Trie D A) (s : IsOrdered R n) (kids : (y : D) → node_of R n y ≡ cond (is_eq (R x y)) (Some u) (node_of R m y)) where
    pub fork_set_good : IsTrie R (made m) → IsTrie R u → IsLive R u → IsTrie R (made n)
    fork_set_good = set_good o ex (made m) x u (made n) (fork_set m n x u s kids)

    module _ (f : List D → Bool) (old : List D → Bool) (is_old : (q : List D) → walk_on (λ w. walk R w q) (node_of R m x) ≡ old q) (h : walk R u ≡ either f old) where
      adds : (q : List D) → walk R u q ≡ (f q || walk_on (λ w. walk R w q) (child R (made m) x))
      adds q = (λ i. h i q) ∙ (λ i. f q || sym (is_old q) i) ∙ (λ i. f q || walk_on (λ w. walk R w q) (sym (fork_child (made m) m (outs-Fork m) x) i))

      pub fork_set_walk : walk R (made n) ≡ either (starts R x f) (walk R (made m))
      fork_set_walk i q = set_walk o ex (made m) x u (made n) (fork_set m n x u s kids) f adds q i

    module _ (v : Trie D A) (found : node_of R m x ≡ Some v) where
      pub fork_write_walk : (f : List D → Bool) → walk R u ≡ either f (walk R v) → walk R (made n) ≡ either (starts R x f) (walk R (made m))
      fork_write_walk f h = fork_set_walk f (walk R v) (λ q. ap (walk_on (λ w. walk R w q)) found) h

    module _ (gone : node_of R m x ≡ None) where
      pub fork_add_walk : (f : List D → Bool) → walk R u ≡ f → walk R (made n) ≡ either (starts R x f) (walk R (made m))
      fork_add_walk f h = fork_set_walk f nothing (λ q. ap (walk_on (λ w. walk R w q)) gone) (h ∙ pointwise (λ q. or_none (f q)))
        where
          or_none : (b : Bool) → b ≡ (b || false)
          or_none true = refl
          or_none false = refl

  pub fork_ordered : (m : BTreeMap D (Arc (Trie D A) A) A) → IsTrie R (made m) → IsOrdered R m
  fork_ordered m h = subst (IsLayer R) (outs-Fork m) (good_here (made m) h)

  -- under x there is to be all that f passes
  module _ (o : IsTotalOrder R) (ex : IsExact R) (m : BTreeMap D (Arc (Trie D A) A) A) (h : IsTrie R (made m)) (x : D) (f : List D → Bool) where
    abbrev old_walk : List D → Bool
    old_walk q = walk_on (λ w. walk R w q) (node_of R m x)

    again : (w : Trie D A) → node_of R m x ≡ Some w → (y : D) → node_of R m y ≡ cond (is_eq (R x y)) (Some w) (node_of R m y)
    again w found y = cases (is_eq (R x y)) refl
      where
        cases : (b : Bool) → is_eq (R x y) ≡ b → node_of R m y ≡ cond b (Some w) (node_of R m y)
        cases true e = ap (node_of R m) (sym (ex x y ((Equal-is (R x y)).0 e))) ∙ found
        cases false e = refl

    pub met_there : IsMet R m x f None → walk R (made m) ≡ either (starts R x f) (walk R (made m))
    met_there (w, (found, e)) = fork_write_walk o ex m m x w (fork_ordered m h) (again w found) w found f e

    module _ (a : Arc (Trie D A) A) (is : IsMet R m x f (Some a)) (live : ((q : List D) → f q ≡ false) → ⊥) (n : BTreeMap D (Arc (Trie D A) A) A) (s : IsOrdered R n)
        (kids : (y : D) → node_of R n y ≡ cond (is_eq (R x y)) (Some (arc_value a)) (node_of R m y)) where
      pub met_good : IsTrie R (made n)
      met_good = fork_set_good o ex m n x (arc_value a) s kids h is.0 (live_as (arc_value a) (either f old_walk) is.1 (λ none. live (λ q. or_left (f q) (old_walk q) (none q))))

      pub met_walk : walk R (made n) ≡ either (starts R x f) (walk R (made m))
      met_walk = fork_set_walk o ex m n x (arc_value a) s kids f old_walk (λ q. refl) is.1

    pub met_gone : (u : Trie D A) → node_of R m x ≡ None → walk R u ≡ f → walk R u ≡ either f old_walk
    met_gone u gone e = e ∙ pointwise (λ q. sym (or_nothing (f q)) ∙ (λ i. f q || walk_on (λ w. walk R w q) (sym gone i)))

    pub met_found : (u w : Trie D A) → node_of R m x ≡ Some w → walk R u ≡ either f (walk R w) → walk R u ≡ either f old_walk
    met_found u w found e = e ∙ pointwise (λ q i. f q || walk_on (λ v. walk R v q) (sym found i))

  -- the node v put under x, where the walks from x grow by f
  module _ (o : IsTotalOrder R) (ex : IsExact R) (m n : BTreeMap D (Arc (Trie D A) A) A) (x : D) (a : Arc (Trie D A) A) (s : IsOrdered R n) (kids : (y : D) → node_of R n y ≡ cond (is_eq (R x y)) (Some (arc_value a)) (node_of R m y)) (h : IsTrie R (made m)) (v : Trie D A) (is : arc_value a ≡ v) (g : IsTrie R v) (f : List D → Bool) (live : ((q : List D) → f q ≡ false) → ⊥) where
    pub wrote : (w : Trie D A) → node_of R m x ≡ Some w → walk R v ≡ either f (walk R w) → IsTrie R (made n) × (walk R (made n) ≡ either (starts R x f) (walk R (made m)))
    wrote w found e = (
      fork_set_good o ex m n x (arc_value a) s kids h (subst (IsTrie R) (sym is) g) (subst (IsLive R) (sym is) (live_as v (either f (walk R w)) e (λ none. live (λ q. or_left (f q) (walk R w q) (none q))))),
      fork_write_walk o ex m n x (arc_value a) s kids w found f (ap (walk R) is ∙ e),
    )

    pub added : node_of R m x ≡ None → walk R v ≡ f → IsTrie R (made n) × (walk R (made n) ≡ either (starts R x f) (walk R (made m)))
    added gone e = (
      fork_set_good o ex m n x (arc_value a) s kids h (subst (IsTrie R) (sym is) g) (subst (IsLive R) (sym is) (live_as v f e live)),
      fork_add_walk o ex m n x (arc_value a) s kids gone f (ap (walk R) is ∙ e),
    )

  -- the entries of a node are its kids, and its walks are theirs
  module _ (F : Trie D A → List D → Bool) where
    unfound : IsTotalOrder R → IsExact R → (x y : D) → R y x ≡ Equal → (es : List (D × Trie D A)) → AllByRecursion (λ k. R x k ≡ Less) (keys_of es) → (q : List D) → any_by R F es (y ∷ q) ≡ false
    unfound o ex x y e [] b q = refl
    unfound o ex x y e (d ∷ es) b q = (λ i. (apart i && F d.1 q) || any_by R F es (y ∷ q)) ∙ unfound o ex x y e es b.1 q
      where
        less_not : (r : Ordering) → r ≡ Less → is_eq (ordering_reverse r) ≡ false
        less_not r h = ap (λ z. is_eq (ordering_reverse z)) h

        apart : is_eq (R d.0 y) ≡ false
        apart = ap (λ z. is_eq (R d.0 z)) (ex y x e) ∙ ap is_eq (o.antisymm d.0 x) ∙ less_not (R x d.0) b.0

    pub any_by-get : IsTotalOrder R → IsExact R → (es : List (D × Trie D A)) → IsStrictlySortedBy R (keys_of es) → (y : D) (q : List D) → any_by R F es (y ∷ q) ≡ walk_on (λ w. F w q) (lookup (is_at (R y)) es)
    unfolding IsStrictlySortedBy
    any_by-get o ex [] s y q = refl
    any_by-get o ex (d ∷ es) s y q = cases (any_by-get o ex es s.1 y q) (is_eq (R y d.0)) refl
      where
        turned : is_eq (R d.0 y) ≡ is_eq (R y d.0)
        turned = ap is_eq (o.antisymm d.0 y) ∙ level (R y d.0)
          where
            level : (r : Ordering) → is_eq (ordering_reverse r) ≡ is_eq r
            level Less = refl
            level Equal = refl
            level Greater = refl

        or-false' : (b : Bool) → (b || false) ≡ b
        or-false' true = refl
        or-false' false = refl

        cases : any_by R F es (y ∷ q) ≡ walk_on (λ w. F w q) (lookup (is_at (R y)) es) → (b : Bool) → is_eq (R y d.0) ≡ b → any_by R F (d ∷ es) (y ∷ q) ≡ walk_on (λ w. F w q) (cond b (Some d.1) (lookup (is_at (R y)) es))
        cases later true e = (λ i. ((turned ∙ e) i && F d.1 q) || unfound o ex d.0 y ((Equal-is (R y d.0)).0 e) es s.0 q i) ∙ or-false' (F d.1 q)
        cases later false e = (λ i. ((turned ∙ e) i && F d.1 q) || any_by R F es (y ∷ q)) ∙ later

  pub alone_starts : (x : D) (u : Trie D A) → any_starts R ((x, u) ∷ []) ≡ starts R x (walk R u)
  alone_starts x u = pointwise (λ q. or_nothing (starts R x (walk R u) q))

  nil_starts : (es : List (D × Trie D A)) → any_starts R es [] ≡ false
  nil_starts [] = refl
  nil_starts (d ∷ es) = nil_starts es

  module _ (o : IsTotalOrder R) (ex : IsExact R) (t : Trie D A) (m : BTreeMap D (Arc (Trie D A) A) A) (at : out-Trie D A t ≡ Fork m) (s : IsOrdered R m) where
    pub any_starts-walk : any_starts R (nodes_of m.entries) ≡ walk R t
    any_starts-walk = pointwise each
      where
        each : (q : List D) → any_starts R (nodes_of m.entries) q ≡ walk R t q
        each [] = nil_starts (nodes_of m.entries) ∙ sym (fork_member t m at)
        each (y ∷ q) = any_by-get (walk R) o ex (nodes_of m.entries) (sorted_nodes R m s) y q ∙ (λ i. sym (fork_member t m at) i || walk_on (λ w. walk R w q) (sym (fork_child t m at y) i))

    -- each entry is found at its key
    in_later : (y : D) (d : D × Trie D A) (es : List (D × Trie D A)) → R y d.0 ≡ Greater → lookup (is_at (R y)) (d ∷ es) ≡ lookup (is_at (R y)) es
    in_later y d es e = ap (λ r. cond (is_eq r) (Some d.1) (lookup (is_at (R y)) es)) e

    found_later : (d : D × Trie D A) (all es : List (D × Trie D A)) → AllByRecursion (λ k. R d.0 k ≡ Less) (keys_of es) → AllByRecursion (λ e. lookup (is_at (R e.0)) all ≡ Some e.1) es → AllByRecursion (λ e. lookup (is_at (R e.0)) (d ∷ all) ≡ Some e.1) es
    found_later d all [] b f = tt
    found_later d all (e ∷ es) b f = (in_later e.0 d all (o.antisymm e.0 d.0 ∙ ap ordering_reverse b.0) ∙ f.0, found_later d all es b.1 f.1)

    found_all : (es : List (D × Trie D A)) → IsStrictlySortedBy R (keys_of es) → AllByRecursion (λ e. lookup (is_at (R e.0)) es ≡ Some e.1) es
    unfolding IsStrictlySortedBy
    found_all [] h = tt
    found_all (d ∷ es) h = (ap (λ r. cond (is_eq r) (Some d.1) (lookup (is_at (R d.0)) es)) (tied_itself o d.0), found_later d es es h.0 (found_all es h.1))

    as_kids : (es : List (D × Trie D A)) → AllByRecursion (λ e. lookup (is_at (R e.0)) (nodes_of m.entries) ≡ Some e.1) es → AllByRecursion (λ e. child R t e.0 ≡ Some e.1) es
    as_kids [] f = tt
    as_kids (e ∷ es) f = (fork_child t m at e.0 ∙ f.0, as_kids es f.1)

    pub found_kids : AllByRecursion (λ e. child R t e.0 ≡ Some e.1) (nodes_of m.entries)
    found_kids = as_kids (nodes_of m.entries) (found_all (nodes_of m.entries) (sorted_nodes R m s))

  most_found : (f : Trie D A → ℕ) (test : D → Bool) (es : List (D × Arc (Trie D A) A)) (u : Trie D A) → lookup test (nodes_of es) ≡ Some u → f u ≤ most (λ a. f (arc_value a)) (values_of es)
  most_found f test [] u e = absurd (none≢some u e)
  most_found f test (d ∷ es) u e = cases (most_found f test es u) (test d.0) e
    where
      cases : (lookup test (nodes_of es) ≡ Some u → f u ≤ most (λ a. f (arc_value a)) (values_of es)) → (b : Bool) → cond b (Some (arc_value d.1)) (lookup test (nodes_of es)) ≡ Some u → f u ≤ most (λ a. f (arc_value a)) (values_of (d ∷ es))
      cases later true h = let same : f (arc_value d.1) ≡ f u = ap f (same_some (arc_value d.1) u h) in omega (arith, same)
      cases later false h = let small : f u ≤ most (λ a. f (arc_value a)) (values_of es) = later h in omega (arith, small)

  layer_size : (o : Trie-F D A (Trie D A)) (x : D) (u : Trie D A) → under R o x ≡ Some u → size-Trie D A u ≤ (weighs-Trie D A).weight (Values (the_members D A) (the_sigs D A) (the_carrier D A)) (the_depth D A) o
  layer_size Member x u e = absurd (none≢some u e)
  layer_size (Fork m) x u e = let h = most_found (size-Trie D A) (is_at (R x)) m.entries u e in omega (arith, h)

  abbrev nodes_in : Trie-F D A (Trie D A) → List (D × Trie D A)
  nodes_in Member = []
  nodes_in (Fork m) = nodes_of m.entries

  each_below : (f : Trie D A → ℕ) (k : ℕ) (es : List (D × Arc (Trie D A) A)) → most (λ a. f (arc_value a)) (values_of es) < k → AllByRecursion (λ e. f e.1 < k) (nodes_of es)
  each_below f k [] h = tt
  each_below f k (d ∷ es) h = (omega (arith, h), each_below f k es (omega (arith, h)))

  layer_below : (o : Trie-F D A (Trie D A)) (k : ℕ) → (weighs-Trie D A).weight (Values (the_members D A) (the_sigs D A) (the_carrier D A)) (the_depth D A) o < k → AllByRecursion (λ e. size-Trie D A e.1 < k) (nodes_in o)
  layer_below Member k h = tt
  layer_below (Fork m) k h = each_below (size-Trie D A) k m.entries (omega (arith, h))

  pub nodes_small : (t : Trie D A) (m : BTreeMap D (Arc (Trie D A) A) A) → out-Trie D A t ≡ Fork m → AllByRecursion (λ e. size-Trie D A e.1 < size-Trie D A t) (nodes_of m.entries)
  nodes_small t m at = subst (AllByRecursion (λ e. size-Trie D A e.1 < size-Trie D A t)) (ap nodes_in at) (layer_below (out-Trie D A t) (size-Trie D A t) (let s = size_is-Trie D A t in omega (arith, s)))

  -- the depth of a node is more than its kids'
  pub child_size : (t : Trie D A) (x : D) (u : Trie D A) → child R t x ≡ Some u → size-Trie D A u < size-Trie D A t
  child_size t x u e = let h = layer_size (out-Trie D A t) x u e in let s = size_is-Trie D A t in omega (arith, h, s)

  pub member_holds : (f : List D → Bool) (t : Trie D A) → is_member t ≡ true → IsWithin f (walk R t)
  member_holds f t e = record { at = λ q _. member_walk t e q }

  pub member_not_within : (t u : Trie D A) → is_member t ≡ true → is_member u ≡ false → IsWithin (walk R t) (walk R u) → ⊥
  member_not_within t u e f w = true≢false (sym (w.at [] e) ∙ f)

  module _ (o : IsTotalOrder R) (ex : IsExact R) (t : Trie D A) (m : BTreeMap D (Arc (Trie D A) A) A) (at : out-Trie D A t ≡ Fork m) (x : D) (n : Trie D A) where
    there_walk : (q : List D) → walk R t (x ∷ q) ≡ walk_on (λ w. walk R w q) (node_of R m x)
    there_walk q = λ i. fork_member t m at i || walk_on (λ w. walk R w q) (fork_child t m at x i)

    starts_here : (q : List D) → starts R x (walk R n) (x ∷ q) ≡ walk R n q
    starts_here q = ap (λ r. is_eq r && walk R n q) (tied_itself o x)

    pub gone_not_within : node_of R m x ≡ None → IsLive R n → IsWithin (starts R x (walk R n)) (walk R t) → ⊥
    gone_not_within gone live w = live (λ q. is_false (walk R n q) (λ e. true≢false (sym (w.at (x ∷ q) (starts_here q ∙ e)) ∙ there_walk q ∙ ap (walk_on (λ w. walk R w q)) gone)))

    module _ (k : Trie D A) (found : node_of R m x ≡ Some k) where
      pub known_within : IsWithin (walk R n) (walk R k) → IsWithin (starts R x (walk R n)) (walk R t)
      known_within w = record { at = each }
        where
          cases : (y : D) (q : List D) (b : Bool) → is_eq (R x y) ≡ b → (b && walk R n q) ≡ true → walk R t (y ∷ q) ≡ true
          cases y q true e h = ap (λ z. walk R t (z ∷ q)) (sym (ex x y ((Equal-is (R x y)).0 e))) ∙ there_walk q ∙ ap (walk_on (λ w. walk R w q)) found ∙ w.at q h
          cases y q false e h = absurd (true≢false (sym h))

          each : (q : List D) → starts R x (walk R n) q ≡ true → walk R t q ≡ true
          each [] h = absurd (true≢false (sym h))
          each (y ∷ q) h = cases y q (is_eq (R x y)) refl h

      pub within_known : IsWithin (starts R x (walk R n)) (walk R t) → IsWithin (walk R n) (walk R k)
      within_known w = record { at = λ q e. sym (ap (walk_on (λ w. walk R w q)) found) ∙ sym (there_walk q) ∙ w.at (x ∷ q) (starts_here q ∙ e) }

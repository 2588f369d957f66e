-- A trie by what its walks meet.
use Rattle.std.specs.Prelude.{◌≡◌, ◌≢◌, Bool, true, false, not, ◌||◌, List, [], ◌∷◌, Option, Some, None, MatchBool, ⊤, ◌&&◌, cond, if◌then◌else◌}
use Rattle.std.specs.Arc.{arc_value}
use Rattle.std.specs.declared.sync.Arc.{Arc}
use Rattle.std.specs.declared.cmp.Ordering.{Ordering}
use Rattle.std.specs.Ordering.{is_eq}
use Rattle.std.specs.Map.{lookup}
use Rattle.std.specs.BTreeMap.{is_at, IsOrdered}
use Rattle.std.specs.declared.collections.BTreeMap.{BTreeMap}
use Rattle.aud_lattice.specs.Covers.{begins}
use Rattle.aud_lattice.specs.Eithers.{either}
use Rattle.aud_lattice.specs.declared.mark.Mark.{Mark}
use Rattle.aud_lattice.specs.declared.mark.Mark.TheVariants.{Covered, Inner, Outside}
use Rattle.aud_lattice.specs.declared.trie.Trie.{Trie, out-Trie}
use Rattle.aud_lattice.specs.declared.trie.Trie.TheOpen.{Trie-F, Member, Fork}
use Rattle.aud_lattice.specs.declared.trie.Trie.TheVariants.{Fork as fork}

-- the entries of a node, each with the node that it shares
abbrev pub nodes_of : {D X A : Type 0} → List (D × Arc X A) → List (D × X)
nodes_of [] = []
nodes_of (e ∷ es) = (e.0, arc_value e.1) ∷ nodes_of es

-- the node under the element
abbrev pub node_of : {D X A : Type 0} → (D → D → Ordering) → BTreeMap D (Arc X A) A → D → Option X
node_of cmp next x = lookup (is_at (cmp x)) (nodes_of next.entries)

-- one layer, with any kind of nodes under it
abbrev pub ends : {D A X : Type 0} → Trie-F D A X → Bool
ends Member = true
ends (Fork next) = false

abbrev pub under : {D A X : Type 0} → (D → D → Ordering) → Trie-F D A X → D → Option X
under cmp Member x = None
under cmp (Fork next) x = node_of cmp next x

abbrev pub IsLayer : {D A X : Type 0} → (D → D → Ordering) → Trie-F D A X → Type 0
IsLayer cmp Member = ⊤
IsLayer cmp (Fork next) = IsOrdered cmp next

-- whether the node is a member
abbrev pub is_member : {D A : Type 0} → Trie D A → Bool
is_member {D} {A} t = ends (out-Trie D A t)

abbrev pub child : {D A : Type 0} → (D → D → Ordering) → Trie D A → D → Option (Trie D A)
child {D} {A} cmp t x = under cmp (out-Trie D A t) x

abbrev pub walk_on : {X : Type 0} → (X → Bool) → Option X → Bool
walk_on f None = false
walk_on f (Some u) = f u

-- whether a beginning of q is a member
abbrev pub walk : {D A : Type 0} → (D → D → Ordering) → Trie D A → List D → Bool
walk cmp t [] = is_member t
walk cmp t (x ∷ q) = is_member t || walk_on (λ u. walk cmp u q) (child cmp t x)

abbrev pub go_on : {X Y : Type 0} → (X → Option Y) → Option X → Option Y
go_on f None = None
go_on f (Some u) = f u

-- the node that q leads to
abbrev pub node_at : {D A : Type 0} → (D → D → Ordering) → List D → Trie D A → Option (Trie D A)
node_at cmp [] t = Some t
node_at cmp (x ∷ q) t = go_on (λ u. node_at cmp q u) (child cmp t x)

-- whether q leads to a member
abbrev pub leads : {D A : Type 0} → (D → D → Ordering) → Trie D A → List D → Bool
leads cmp t [] = is_member t
leads cmp t (x ∷ q) = walk_on (λ u. leads cmp u q) (child cmp t x)

-- some list has a beginning in it
abbrev pub IsLive : {D A : Type 0} → (D → D → Ordering) → Trie D A → Type 0
IsLive {D} cmp t = ((q : List D) → walk cmp t q ≡ false) → ⊥

-- the keys of each node ascend, and below the root none is without a member
pub record IsTrie {D A : Type 0} (cmp : D → D → Ordering) (t : Trie D A) : Type 0 where
  pub at : (q : List D) (u : Trie D A) → node_at cmp q t ≡ Some u → IsLayer cmp (out-Trie D A u) × (q ≢ [] → IsLive cmp u)

-- no list
abbrev pub nothing : {D : Type 0} → List D → Bool
nothing q = false

-- whether q is x and then what passes
abbrev pub starts : {D : Type 0} → (D → D → Ordering) → D → (List D → Bool) → List D → Bool
starts cmp x f [] = false
starts cmp x f (y ∷ q) = is_eq (cmp x y) && f q

-- what the first passes and the other does not
abbrev pub but : {D : Type 0} → (List D → Bool) → (List D → Bool) → List D → Bool
but f g q = f q && not (g q)

-- what f passes after x
abbrev pub after : {D : Type 0} → D → (List D → Bool) → List D → Bool
after x f q = f (x ∷ q)

-- what the first passes the other passes too
pub record IsWithin {D : Type 0} (f g : List D → Bool) : Type 0 where
  pub at : (q : List D) → f q ≡ true → g q ≡ true

-- how the list stands, by the node that its walk ends at
abbrev pub end_mark : {D X : Type 0} → List (D × X) → Mark
end_mark [] = Outside
end_mark (e ∷ es) = Inner

abbrev pub mark_on : {X : Type 0} → (X → Mark) → Option X → Mark
mark_on f None = Outside
mark_on f (Some u) = f u

abbrev pub mark_here : {D A X : Type 0} → Trie-F D A X → Mark
mark_here Member = Covered
mark_here (Fork next) = end_mark (nodes_of next.entries)

abbrev pub walk_mark : {D A : Type 0} → (D → D → Ordering) → Trie D A → List D → Mark
walk_mark {D} {A} cmp t [] = mark_here (out-Trie D A t)
walk_mark cmp t (x ∷ q) = if is_member t then Covered else mark_on (λ u. walk_mark cmp u q) (child cmp t x)

-- what there is now: the new one, or what there was
abbrev pub now_of : {X : Type 0} → X → Option X → X
now_of old None = old
now_of old (Some new) = new

-- a list has a beginning in the new trie where it has one in the old, and where the added list begins it
abbrev pub IsAdded : {D A : Type 0} → (D → D → Ordering) → List D → Trie D A → Trie D A → Type 0
IsAdded cmp added old new = walk cmp new ≡ either (begins cmp added) (walk cmp old)

-- a list has a beginning in the new trie where it has one in one of the others
abbrev pub AreJoined : {D A : Type 0} → (D → D → Ordering) → Trie D A → Trie D A → Trie D A → Type 0
AreJoined cmp from old new = walk cmp new ≡ either (walk cmp from) (walk cmp old)

-- what the node passes that they do not pass under x
abbrev pub left_under : {D A : Type 0} → (D → D → Ordering) → D → Trie D A → BTreeMap D (Arc (Trie D A) A) A → List D → Bool
left_under cmp x node theirs = but (leads cmp node) (after x (leads cmp (fork theirs)))

-- the nodes lead to what they led to, and after x to what the node leads to and they do not
abbrev pub LeavesUnder : {D A : Type 0} → (D → D → Ordering) → D → Trie D A → BTreeMap D (Arc (Trie D A) A) A → BTreeMap D (Arc (Trie D A) A) A → BTreeMap D (Arc (Trie D A) A) A → Type 0
LeavesUnder cmp x node theirs old new = leads cmp (fork new) ≡ either (but (starts cmp x (leads cmp node)) (leads cmp (fork theirs))) (leads cmp (fork old))

-- f passes nothing; or a new node is to stand there, that leads to just what it passes
abbrev pub IsRemainder : {D A : Type 0} → (D → D → Ordering) → (List D → Bool) → Option (Arc (Trie D A) A) → Type 0
IsRemainder cmp f None = f ≡ nothing
IsRemainder cmp f (Some a) = IsTrie cmp (arc_value a) × IsLive cmp (arc_value a) × (leads cmp (arc_value a) ≡ f)

-- the test says whether no list has a beginning in it
abbrev pub ReportsWhetherBare : {D A : Type 0} → (D → D → Ordering) → Bool → Trie D A → Type 0
ReportsWhetherBare cmp test t = MatchBool test (leads cmp t ≡ nothing) (IsLive cmp t)

-- under x all that f passes passes in the node found there; or a new node is to stand there, in which it does, and what passed
abbrev pub IsMet : {D A : Type 0} → (D → D → Ordering) → BTreeMap D (Arc (Trie D A) A) A → D → (List D → Bool) → Option (Arc (Trie D A) A) → Type 0
IsMet {D} {A} cmp next x f None = (w : Trie D A) × ((node_of cmp next x ≡ Some w) × (walk cmp w ≡ either f (walk cmp w)))
IsMet cmp next x f (Some a) = IsTrie cmp (arc_value a) × (walk cmp (arc_value a) ≡ either f (λ q. walk_on (λ w. walk cmp w q) (node_of cmp next x)))

-- the nodes are what they were, but that all that f passes passes under x too
abbrev pub PassesUnder : {D A : Type 0} → (D → D → Ordering) → D → (List D → Bool) → BTreeMap D (Arc (Trie D A) A) A → BTreeMap D (Arc (Trie D A) A) A → Type 0
PassesUnder cmp x f old new = walk cmp (fork new) ≡ either (starts cmp x f) (walk cmp (fork old))

-- the same for all that a shared node passes
abbrev pub JoinsUnder : {D A : Type 0} → (D → D → Ordering) → D → Arc (Trie D A) A → BTreeMap D (Arc (Trie D A) A) A → BTreeMap D (Arc (Trie D A) A) A → Type 0
JoinsUnder cmp x node old new = PassesUnder cmp x (walk cmp (arc_value node)) old new

-- the node stands under x, and under all else what stood there
abbrev pub StandsUnder : {D A : Type 0} → (D → D → Ordering) → D → Arc (Trie D A) A → BTreeMap D (Arc (Trie D A) A) A → BTreeMap D (Arc (Trie D A) A) A → Type 0
StandsUnder {D} cmp x node old new = (y : D) → node_of cmp new y ≡ cond (is_eq (cmp x y)) (Some (arc_value node)) (node_of cmp old y)

-- the same nodes stand under the same elements
abbrev pub AreAlike : {D A : Type 0} → (D → D → Ordering) → BTreeMap D (Arc (Trie D A) A) A → BTreeMap D (Arc (Trie D A) A) A → Type 0
AreAlike {D} cmp old new = (y : D) → node_of cmp new y ≡ node_of cmp old y

-- the same nodes stand under all elements but x
abbrev pub AreAlikeBut : {D A : Type 0} → (D → D → Ordering) → D → BTreeMap D (Arc (Trie D A) A) A → BTreeMap D (Arc (Trie D A) A) A → Type 0
AreAlikeBut {D} cmp x old new = (y : D) → is_eq (cmp x y) ≡ false → node_of cmp new y ≡ node_of cmp old y

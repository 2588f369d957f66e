-- What of a trie its lists settle: all but which other tries share its nodes.
use Rattle.std.specs.Prelude.{◌≡◌, Bool, List, Option, Some}
use Rattle.std.specs.declared.cmp.Ordering.{Ordering}
use Rattle.aud_lattice.specs.declared.trie.Trie.{Trie}
use Rattle.aud_lattice.specs.Paths.{paths}
use Rattle.aud_lattice.specs.Walks.{go_on, is_member, node_at, IsTrie}

-- whether there is a node where q leads, and whether that is a member
abbrev pub stands : {D A : Type 0} → (D → D → Ordering) → List D → Trie D A → Option Bool
stands cmp q t = go_on (λ u. Some (is_member u)) (node_at cmp q t)

-- tries of the same lists have the same nodes
abbrev pub SettlesNodes : {D : Type 0} → Type 0 → (D → D → Ordering) → Type 0
SettlesNodes {D} A cmp = (t u : Trie D A) → IsTrie cmp t → IsTrie cmp u → paths t ≡ paths u → (q : List D) → stands cmp q t ≡ stands cmp q u

-- The lists of a trie: the paths to its members.
use Rattle.std.specs.Prelude.{List, [], ◌∷◌, ◌++◌, map}
use Rattle.aud_lattice.specs.declared.trie.Trie.{Trie}
use Rattle.aud_lattice.specs.declared.trie.Trie.TheOpen.{Trie-F, Member, Fork}
use Rattle.aud_lattice.specs.declared.trie.Trie.TheFolds.{fold-Trie}
use Rattle.aud_lattice.specs.Walks.{nodes_of}

-- the lists under each element, the element first
abbrev pub below : {D : Type 0} → List (D × List (List D)) → List (List D)
below [] = []
below (e ∷ es) = map (λ p. e.0 ∷ p) e.1 ++ below es

-- one layer, with the lists of each node under it
abbrev pub layer_paths : {D A : Type 0} → Trie-F D A (List (List D)) → List (List D)
layer_paths Member = [] ∷ []
layer_paths (Fork next) = below (nodes_of next.entries)

-- the paths to the members, least first
abbrev pub paths : {D A : Type 0} → Trie D A → List (List D)
paths {D} {A} = fold-Trie D A (List (List D)) layer_paths

-- Who took what, in the words of the moves.
use Rattle.std.specs.Prelude.{◌≡◌, ◌↔◌, ℕ, zero, suc, ◌<◌, List, [], ◌∷◌, take, Some, slice_get}
use Rattle.std.specs.List.{Contains}
use Rattle.aud_event.specs.declared.fact.Fact.{Fact}
use Rattle.aud_know.specs.Norms.{fact}
use Rattle.aud_know.specs.Known.{KnownAtom}
use Rattle.aud_know.specs.Findings.{FindingOf, found}
use Rattle.aud_world.specs.Moves.{atoms}
use Rattle.aud_world.specs.declared.moves.Move.{Move}
use Rattle.aud_world.specs.declared.moves.Move.TheVariants.{Feed, Find, Post, Deliver}

-- how many packets are posted
abbrev pub posts : {X : Type 0} → List (Move X) → ℕ
posts [] = zero
posts (Feed n f ∷ ms) = posts ms
posts (Find n g ∷ ms) = posts ms
posts (Post n ∷ ms) = suc (posts ms)
posts (Deliver k n ∷ ms) = posts ms

-- the move at place j is the post of packet k by node n: so many packets are posted before it
pub record IsPost {X : Type 0} (moves : List (Move X)) (k j n : ℕ) : Type 0 where
  pub posted : slice_get moves j ≡ Some (Post n)
  pub before : posts (take j moves) ≡ k

-- of so many nodes, node n took the atom in the first t moves: in the move at some place it was fed it, or found it, or
-- got a packet whose sender had taken it when the packet was posted
pub data Took {X : Type 0} (count : ℕ) (moves : List (Move X)) : ℕ → ℕ → KnownAtom → Type 0 where
  was_fed : {t n : ℕ} {f : Fact} (place : ℕ) → place < t → n < count → slice_get moves place ≡ Some (Feed n f) → Took count moves t n (fact f)
  has_found : {t n : ℕ} {g : FindingOf} {a : KnownAtom} (place : ℕ) → place < t → n < count → slice_get moves place ≡ Some (Find n g) → Contains (found g) a → Took count moves t n a
  got : {t n k sender : ℕ} {a : KnownAtom} (place post : ℕ) → place < t → n < count → slice_get moves place ≡ Some (Deliver k n) →
      post < place → IsPost moves k post sender → Took count moves post sender a → Took count moves t n a

-- node n in the first i moves and node m in the first j moves took the same, in any order or grouping and with repeats
abbrev pub TookSame : {X : Type 0} → ℕ → List (Move X) → ℕ → ℕ → ℕ → ℕ → Type 0
TookSame count moves i n j m = (a : KnownAtom) → Took count moves i n a ↔ Took count moves j m a

-- the atoms of a node after the first moves are those that it took in them
abbrev pub AtomsAreTaken : Type 0 → Type 0
AtomsAreTaken X =
    (count : ℕ) (moves : List (Move X)) (i n : ℕ) (a : KnownAtom) → Contains (atoms count (take i moves) n) a ↔ Took count moves i n a

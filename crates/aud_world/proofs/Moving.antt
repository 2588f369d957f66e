-- What holds of all atoms of all nodes, and how lists of moves grow.
use Rattle.std.proofs.Common.{◌≡◌, ℕ, zero, suc, List, [], ◌∷◌, ◌++◌, length, take, replicate, refl, ap, ◌∙◌}
use Rattle.std.specs.List.{AllByRecursion}
use Rattle.aud_know.specs.Norms.{fact}
use Rattle.aud_know.specs.Known.{KnownAtom}
use Rattle.aud_know.specs.Findings.{found}
use Rattle.aud_world.specs.Clouds.{Cloud, gain, at_place}
use Rattle.aud_world.specs.Moves.{after_move, after_moves, at_first, atoms, brought_by}
use Rattle.aud_world.specs.declared.moves.Move.{Move}
use Rattle.aud_world.specs.declared.moves.Move.TheVariants.{Feed, Find, Post, Deliver}

pub all_take : {A : Type 0} (P : A → Type 0) (xs : List A) (i : ℕ) → AllByRecursion P xs → AllByRecursion P (take i xs)
all_take P [] zero h = tt
all_take P [] (suc i) h = tt
all_take P (x ∷ xs) zero h = tt
all_take P (x ∷ xs) (suc i) h = (h.0, all_take P xs i h.1)

pub all_push : {A : Type 0} (P : A → Type 0) (xs : List A) (y : A) → AllByRecursion P xs → P y → AllByRecursion P (xs ++ y ∷ [])
all_push P [] y h k = (k, tt)
all_push P (x ∷ xs) y h k = (h.0, all_push P xs y h.1 k)

pub all_map : {A : Type 0} (P Q : A → Type 0) → ((x : A) → P x → Q x) → (xs : List A) → AllByRecursion P xs → AllByRecursion Q xs
all_map P Q f [] h = tt
all_map P Q f (x ∷ xs) h = (f x h.0, all_map P Q f xs h.1)

pub all_append : {A : Type 0} (P : A → Type 0) (xs ys : List A) → AllByRecursion P xs → AllByRecursion P ys → AllByRecursion P (xs ++ ys)
all_append P [] ys h k = k
all_append P (x ∷ xs) ys h k = (h.0, all_append P xs ys h.1 k)

pub moves_append : {X : Type 0} (c : Cloud) (ms ns : List (Move X)) → after_moves c (ms ++ ns) ≡ after_moves (after_moves c ms) ns
moves_append c [] ns = refl
moves_append c (m ∷ ms) ns = moves_append (after_move c m) ms ns

-- as many nodes as at first
pub as_many : (n : ℕ) (more : List KnownAtom) (xss : List (List KnownAtom)) → length (gain n more xss) ≡ length xss
as_many n more [] = refl
as_many zero more (xs ∷ xss) = refl
as_many (suc n) more (xs ∷ xss) = ap suc (as_many n more xss)

pub as_many_after : {X : Type 0} (c : Cloud) (m : Move X) → length (after_move c m).nodes ≡ length c.nodes
as_many_after c (Feed n f) = as_many n (fact f ∷ []) c.nodes
as_many_after c (Find n g) = as_many n (found g) c.nodes
as_many_after c (Post n) = refl
as_many_after c (Deliver k n) = as_many n (at_place c.packets k) c.nodes

pub as_many_nodes : {X : Type 0} (c : Cloud) (ms : List (Move X)) → length (after_moves c ms).nodes ≡ length c.nodes
as_many_nodes c [] = refl
as_many_nodes c (m ∷ ms) = as_many_nodes (after_move c m) ms ∙ as_many_after c m

pub length_replicate : {A : Type 0} (n : ℕ) (x : A) → length (replicate n x) ≡ n
length_replicate zero x = refl
length_replicate (suc n) x = ap suc (length_replicate n x)

-- what holds of nothing, of what is brought, and of two together, holds of the atoms of all nodes
module _ (P : List KnownAtom → Type 0) (none : P []) (both : (xs ys : List KnownAtom) → P xs → P ys → P (xs ++ ys)) where
  there : (xss : List (List KnownAtom)) (n : ℕ) → AllByRecursion P xss → P (at_place xss n)
  there [] n h = none
  there (xs ∷ xss) zero h = h.0
  there (xs ∷ xss) (suc n) h = there xss n h.1

  gained : (xss : List (List KnownAtom)) (n : ℕ) (more : List KnownAtom) → AllByRecursion P xss → P more → AllByRecursion P (gain n more xss)
  gained [] n more h k = tt
  gained (xs ∷ xss) zero more h k = (both xs more h.0 k, h.1)
  gained (xs ∷ xss) (suc n) more h k = (h.0, gained xss n more h.1 k)

  abbrev Holding : Cloud → Type 0
  Holding c = AllByRecursion P c.nodes × AllByRecursion P c.packets

  moved : {X : Type 0} (c : Cloud) (m : Move X) → P (brought_by m) → Holding c → Holding (after_move c m)
  moved c (Feed n f) k h = (gained c.nodes n (fact f ∷ []) h.0 k, h.1)
  moved c (Find n g) k h = (gained c.nodes n (found g) h.0 k, h.1)
  moved c (Post n) k h = (h.0, all_push P c.packets (at_place c.nodes n) h.1 (there c.nodes n h.0))
  moved c (Deliver q n) k h = (gained c.nodes n (at_place c.packets q) h.0 (there c.packets q h.1), h.1)

  all_moved : {X : Type 0} (c : Cloud) (ms : List (Move X)) → AllByRecursion (λ m. P (brought_by m)) ms → Holding c → Holding (after_moves c ms)
  all_moved c [] k h = h
  all_moved c (m ∷ ms) k h = all_moved (after_move c m) ms k.1 (moved c m k.0 h)

  none_each : (n : ℕ) → AllByRecursion P (replicate n [])
  none_each zero = tt
  none_each (suc n) = (none, none_each n)

  pub of_node : {X : Type 0} (count : ℕ) (ms : List (Move X)) (n : ℕ) → AllByRecursion (λ m. P (brought_by m)) ms → P (atoms count ms n)
  of_node count ms n k = there (after_moves (at_first count) ms).nodes n (all_moved (at_first count) ms k (none_each count, tt)).0

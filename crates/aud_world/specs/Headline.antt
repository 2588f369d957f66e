-- The headline: what holds of all nodes at all moments of a list of moves.
use Rattle.std.specs.Prelude.{◌≡◌, ℕ, ◌<◌, List, [], ◌++◌, length, take, Some, slice_get}
use Rattle.std.specs.List.{AllByRecursion}
use Rattle.aud_event.specs.Meanings.{PlanOf}
use Rattle.aud_facts.specs.Quiet.{AreQuiet}
use Rattle.aud_witness.specs.declared.decision.Decision.{Decision}
use Rattle.aud_know.specs.Norms.{facts_of}
use Rattle.aud_know.specs.Known.{KnowledgeOf, knowing}
use Rattle.aud_know.specs.Truth.{AreShownBy, AreRefutedAt}
use Rattle.aud_know.specs.Verdicts.{IsVerdict}
use Rattle.aud_know.specs.declared.verdict.Verdict.{Verdict}
use Rattle.aud_know.specs.declared.verdict.Verdict.TheVariants as verdict
use Rattle.aud_world.specs.Moves.{after_moves, at_first, atoms, brought, IsTrueMove}
use Rattle.aud_world.specs.Took.{TookSame}
use Rattle.aud_world.specs.Worlds.{WorldOf, IsWorldOf}
use Rattle.aud_world.specs.declared.moves.Move.{Move}

-- what node n of so many holds once the first i of the moves are made
abbrev pub held_at : {X : Type 0} → PlanOf → ℕ → List (Move X) → ℕ → ℕ → KnowledgeOf
held_at plan count moves i n = knowing plan (atoms count (take i moves) n)

-- what is said of all nodes at all moments of the moves, which left the world
pub record Headline {X : Type 0} (count : ℕ) (moves : List (Move X)) (w : WorldOf) : Type 0 where
  -- each node of the world holds the normal form of what it took
  pub held : (n : ℕ) → n < count → slice_get w.nodes n ≡ Some (knowing w.plan (atoms count moves n))
  -- and at each moment a world that stood for the moves before it held the same of those
  pub moments : (i n : ℕ) (v : WorldOf) → n < count → v.plan ≡ w.plan → IsWorldOf v (after_moves (at_first count) (take i moves)) →
      slice_get v.nodes n ≡ Some (held_at w.plan count moves i n)
  -- nodes that took the same hold equal states
  pub equal_states : (i n j m : ℕ) → TookSame count moves i n j m → held_at w.plan count moves i n ≡ held_at w.plan count moves j m
  -- and give one verdict, the order that it carries included
  pub one_verdict : (i n j m : ℕ) → TookSame count moves i n j m → (u v : Verdict X) →
      IsVerdict (held_at w.plan count moves i n) u → IsVerdict (held_at w.plan count moves j m) v → u ≡ v
  -- 'opaque' is said of sealed facts with a well-formed history, and carries an order that shows it
  pub opaque : (i n : ℕ) (p : List Decision) → IsVerdict {X = X} (held_at w.plan count moves i n) (verdict.Opaque p) →
      AreShownBy w.plan (held_at w.plan count moves i n).held.facts p
  -- 'not opaque' is said of them only when no order shows it
  pub not_opaque : (i n : ℕ) → IsVerdict {X = X} (held_at w.plan count moves i n) verdict.NotOpaque →
      AreRefutedAt w.plan (held_at w.plan count moves i n).held.facts []
  -- where all facts that were ever fed or brought by findings conflict nowhere, no two nodes contradict each other
  pub agree : AreQuiet (facts_of (brought moves)) → (i n j m : ℕ) (p : List Decision) →
      IsVerdict {X = X} (held_at w.plan count moves i n) (verdict.Opaque p) → IsVerdict {X = X} (held_at w.plan count moves j m) verdict.NotOpaque → ⊥

-- a world that stands for moves, each of them true, has the headline
abbrev pub HeadlineHolds : Type 0 → Type 0
HeadlineHolds X =
    (count : ℕ) (moves : List (Move X)) (w : WorldOf) → AllByRecursion (IsTrueMove w.plan) moves → IsWorldOf w (after_moves (at_first count) moves) →
    Headline count moves w

-- the headline, after whatever moves led to the old world
abbrev pub KeepsHeadline : {X : Type 0} → WorldOf → List (Move X) → WorldOf → Type 0
KeepsHeadline {X} old done new =
    (past : List (Move X)) → AllByRecursion (IsTrueMove old.plan) past → IsWorldOf old (after_moves (at_first (length old.nodes)) past) →
    Headline (length old.nodes) (past ++ done) new

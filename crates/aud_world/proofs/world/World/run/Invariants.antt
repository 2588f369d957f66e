use Rattle.std.proofs.Common.{◌≡◌, length, take}
use Rattle.std.specs.List.{AllByRecursion}
use Rattle.aud_world.specs.Moves.{IsTrueMove}
use Rattle.aud_world.proofs.Running.{Leads, Allows}
use Rattle.aud_world.proofs.world.World.run.Given as goal

-- the moves so far are made, and each of them was true and allowed
abbrev pub invariant-loop-place : goal.invariant-loop-place
invariant-loop-place g l =
    Leads l.fn.self (take l.place l.moves) l.self
    × AllByRecursion (IsTrueMove l.fn.self.plan) (take l.place l.moves)
    × (l.self.plan ≡ l.fn.self.plan)
    × (length l.self.nodes ≡ length l.fn.self.nodes)
    × Allows l.fn.self (take l.place l.moves)

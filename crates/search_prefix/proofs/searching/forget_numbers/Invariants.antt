use Rattle.std.specs.Prelude.{◌≡◌, ◌++◌, map, take, drop}
use Rattle.search_prefix.specs.Frames.{unnumbered}
use Rattle.search_prefix.proofs.searching.forget_numbers.Given as goal

abbrev pub invariant-loop-place : goal.invariant-loop-place
invariant-loop-place l = l.frames ≡ map unnumbered (take l.place l.fn.frames) ++ drop l.place l.fn.frames

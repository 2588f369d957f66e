use Rattle.aud_split.proofs.pool.run_pool.Given as goal

-- the history of the shape
abbrev pub ghosts-run_own : goal.ghosts-run_own
ghosts-run_own g a = record { shape = a.shape.value }

use Rattle.test_mid.proofs.search.counters_remember.Given as goal

-- the history of the shape
abbrev pub ghosts-remembers : goal.ghosts-remembers
ghosts-remembers a = record { shape = a.shape.now }

use Rattle.cli_audit.proofs.run.search_tasks.Given as goal

-- the history of the search
abbrev pub ghosts-search_all : goal.ghosts-search_all
ghosts-search_all g a = record { shape = a.search.shape.value }

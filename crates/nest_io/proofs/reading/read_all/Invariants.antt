use Rattle.nest_io.proofs.reading.read_all.Given as goal

-- the steps are of the ledger that the blank opens
abbrev pub ghosts-read_all_over : goal.ghosts-read_all_over
ghosts-read_all_over g a = record { name = a.blank.name; parts = a.blank.parts }

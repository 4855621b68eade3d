use Rattle.nest_io.proofs.writing.write_all.Given as goal

-- the steps are of the ledger that the blank opens
abbrev pub ghosts-write_all_over : goal.ghosts-write_all_over
ghosts-write_all_over g a = record { name = a.blank.name; parts = a.blank.parts }

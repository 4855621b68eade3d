use Rattle.shared_words.proofs.main_seat.MainSeat.split.Given as goal

abbrev pub ghosts-split_as : goal.ghosts-split_as
ghosts-split_as a = record { number = a.worker }

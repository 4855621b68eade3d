use Rattle.shared_words.proofs.main_seat.MainSeat.post.Given as goal

abbrev pub ghosts-post_as : goal.ghosts-post_as
ghosts-post_as a = record { plan = a.plan.now }

use Rattle.transform.proofs.laws.places_come_from_points.Goals as goal

pub returns : goal.returns
returns c = λ n s numbers is long. is.onto numbers long

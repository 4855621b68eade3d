-- Computed examples: the first draws of some seeds.
use Rattle.std.specs.Prelude.{◌≡◌, refl, [], ◌∷◌}
use Rattle.nest_gen.specs.Draws.{next, after, draw}
use Rattle.nest_gen.specs.Texts.{drawn_nodes}

pub behind_zero_comes_the_increment : next 0 ≡ 1442695040888963407
behind_zero_comes_the_increment = refl

pub a_number_of_a_copy : draw 0 0 100 ≡ 7
a_number_of_a_copy = refl

pub a_number_of_another_copy : draw 1 0 100 ≡ 74
a_number_of_another_copy = refl

pub a_first_word_of_a_grid : draw 0 0 1000 ≡ 807
a_first_word_of_a_grid = refl

pub the_sequence_stays_below_2_to_64 : after 1 2 ≡ 9396908728118811419
the_sequence_stays_below_2_to_64 = refl

-- the shortcuts of lists of 64 nodes
pub shortcuts_of_a_list : drawn_nodes 1 64 ≡ 34 ∷ 5 ∷ 21 ∷ []
shortcuts_of_a_list = refl

use Rattle.std.proofs.Common.{codes, refl, [], ◌∷◌}
use Rattle.clap.proofs.OnLiterals.{clap_on_literals}
use Rattle.command_line.proofs.ExampleLaws.{not-a-mode, not-a-size, not-steps, not-taken, not-workers, too-few-arguments, with-arguments}
use Rattle.command_line.proofs.FoundWordLaws.{mode_of}
use Rattle.command_line.proofs.laws.no_invocations.Goals as goal

pub returns : goal.returns
unfolding clap_on_literals mode_of
returns c = record {
  no_word = not-taken _ refl;
  no_mode = not-taken _ refl;
  another_mode = not-a-mode _ (codes "runs") refl (λ recipe. refl);
  an_argument = with-arguments _ (codes "x" ∷ []) (codes "plain") refl refl refl;
  no_size = too-few-arguments _ (codes "0") (codes "copy") refl;
  a_size_too_large = not-a-size _ (codes "0") (codes "copy") (codes "257") refl refl;
  given_twice = not-taken _ refl;
  no_value = not-taken _ refl;
  empty_value = not-steps _ [] refl refl;
  shortened = not-taken _ refl;
  signed = not-taken _ refl;
  plus = not-steps _ (codes "+5") refl refl;
  out_of_range = not-workers _ (codes "65") refl refl;
  eleven_digits = not-steps _ (codes "00000000010") refl refl;
  help = not-taken _ refl;
  short_help = not-taken _ refl;
  version = not-taken _ refl;
  after_the_options = with-arguments _ (codes "--steps" ∷ codes "10" ∷ []) (codes "plain") refl refl refl;
}

-- Main's seat as it is made.
use Rattle.std.specs.Prelude.{◌≡◌, false, [], length}
use Rattle.core_steps.specs.declared.view.View.{View}

-- over 40 words, with nothing posted and nobody out
pub record IsStart (v : View) : Type 0 where
  pub unposted : v.posted ≡ false
  pub epoch : v.epoch ≡ 0
  pub out : v.out ≡ []
  pub counted : length v.base ≡ 40

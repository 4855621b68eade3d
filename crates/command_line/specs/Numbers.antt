-- Numbers of the command line.
use Rattle.std.specs.Prelude.{◌≡◌, ◌≤◌, ℕ, ℤ, pos, length}
use Rattle.std.specs.Str.Parse.{IsNumeral, digits_value}
use Rattle.clap.specs.Words.{Text}

-- The text has 1 to 10 decimal digits and nothing else, and they write this number, from `least` to
-- `most`. Leading zeros are fine.
pub record IsNumberIn (least most : ℕ) (text : Text) (number : ℤ) : Type 0 where
  pub numeral : IsNumeral 10 text
  pub short : length text ≤ 10
  pub value : number ≡ pos (digits_value 10 text)
  pub from : least ≤ digits_value 10 text
  pub upto : digits_value 10 text ≤ most

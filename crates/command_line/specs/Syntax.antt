-- Syntax: the one simple command of `clap` that the arguments are parsed with.
use Rattle.std.specs.Prelude.{List, [], ◌∷◌, Some, true, codes, fold}
use Rattle.clap.specs.Lexer.{usize_max}
use Rattle.clap.specs.Simple.{on_top}
use Rattle.clap.specs.Words.{App, Rule, Text, new_app, new_rule, with_rule}

-- MODE, a positional that is required
abbrev pub mode_rule : Rule
mode_rule = record (new_rule (codes "MODE")) { required = true }

-- `--name`, an option with one value, and its default
abbrev pub option_rule : Text → Text → Rule
option_rule name default = record (new_rule name) { long = Some name; defaults = default ∷ [] }

-- ARGS, the last positional, with any number of values
abbrev pub args_rule : Rule
args_rule = record (new_rule (codes "ARGS")) { range = Some (record { start_inclusive = 0; end_inclusive = usize_max }) }

abbrev pub rules : List Rule
rules = mode_rule
    ∷ option_rule (codes "workers") (codes "4")
    ∷ option_rule (codes "chunk") (codes "32")
    ∷ option_rule (codes "sample") (codes "4")
    ∷ option_rule (codes "steps") (codes "1000000")
    ∷ args_rule ∷ []

-- the command with these rules; the arguments begin after the program's name
abbrev pub syntax : App
syntax = fold with_rule (on_top (λ shape. record shape { no_binary_name = true }) (new_app (codes "nestrun"))) rules

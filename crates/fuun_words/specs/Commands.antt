-- A verb's command, whose matches and refusals are `clap`'s own definitions.
use Rattle.std.specs.Prelude.{Bool, true, false, List, [], ◌∷◌, Option, Some, None, fold}
use Rattle.std.specs.Borrow.{Bor}
use Rattle.clap.specs.declared.builder.action.ArgAction.TheVariants.{Set}
use Rattle.clap.specs.declared.parser.matches.ArgMatches.{ArgMatches}
use Rattle.clap.specs.Faults.{fault_of}
use Rattle.clap.specs.Kinds.{Kinds}
use Rattle.clap.specs.Matches.{found_of}
use Rattle.clap.specs.Simple.{App, matches_of, new_app, new_rule, with_rule}
use Rattle.clap.specs.Walk.{Row, Rule, Text, rows_of}
use Rattle.fuun_words.specs.declared.verb.Need.{Need}
use Rattle.fuun_words.specs.declared.verb.Need.TheVariants.{Required, Optional}

-- an option of a verb: its name, and whether the verb asks for it
abbrev pub VerbOption : Type 0
VerbOption = Text × Need

-- the option of a row of a table
abbrev pub option_of : Bor Text × Need → VerbOption
option_of row = (row.0.now, row.1)

abbrev pub is_required : Need → Bool
is_required Required = true
is_required Optional = false

-- the option `--name`, which takes one value
abbrev pub rule_of_option : VerbOption → Rule
rule_of_option o = record (new_rule o.0) {
  long = Some o.0;
  action = Some Set;
  required = is_required o.1;
}

-- the command of a verb with these options: the verb is the program's name
abbrev pub command : Text → List VerbOption → App
command verb options = fold (λ app o. with_rule app (rule_of_option o)) (new_app verb) options

-- what was found, where there was no fault
abbrev pub unless_refused : Kinds → List Row → Option (List Row)
unless_refused [] rows = Some rows
unless_refused (kind ∷ more) rows = None

-- what a command finds in the words, the verb first: nothing where it refuses them
unfoldable pub found_by : App → List Text → Option (List Row)
found_by app words = unless_refused (fault_of app words) (matches_of app words)

-- what was found for each option, as a list of rows
abbrev pub found_in : ArgMatches → List Row
found_in matches = rows_of (found_of matches)

-- The verbs and their options.
use Rattle.std.specs.Prelude.{List, [], ◌∷◌, Option, codes, find, option_map}
use Rattle.std.specs.Str.{bytes_eq}
use Rattle.clap.specs.Walk.{Text}
use Rattle.fuun_words.specs.Commands.{VerbOption}
use Rattle.fuun_words.specs.declared.verb.Need.TheVariants.{Required, Optional}
use Rattle.fuun_words.specs.declared.verb.Verb.{Verb}
use Rattle.fuun_words.specs.declared.verb.Verb.TheVariants.{Rna, Image, Trace, Dna, Draw, Names, List as Pairs, Patch, Bench, Assemble, Compile, Picture, Explain, Rewind}

-- the verbs by their names
abbrev pub verbs : List (Text × Verb)
verbs =
    (codes "rna", Rna)
    ∷ (codes "image", Image)
    ∷ (codes "trace", Trace)
    ∷ (codes "dna", Dna)
    ∷ (codes "draw", Draw)
    ∷ (codes "names", Names)
    ∷ (codes "list", Pairs)
    ∷ (codes "patch", Patch)
    ∷ (codes "bench", Bench)
    ∷ (codes "assemble", Assemble)
    ∷ (codes "compile", Compile)
    ∷ (codes "picture", Picture)
    ∷ (codes "explain", Explain)
    ∷ (codes "rewind", Rewind)
    ∷ []

-- the verb of this name
abbrev pub verb_of : Text → Option Verb
verb_of word = option_map (λ row. row.1) (find (λ row. bytes_eq word row.0) verbs)

abbrev pub run_options : List VerbOption
run_options =
    (codes "dna", Required) ∷ (codes "prefix", Optional) ∷ (codes "budget", Optional) ∷ (codes "limit", Optional) ∷ []

-- the options that a verb has
abbrev pub options_of : Verb → List VerbOption
options_of Rna = run_options
options_of Image =
    (codes "dna", Required) ∷ (codes "prefix", Optional) ∷ (codes "budget", Optional) ∷ (codes "limit", Optional)
    ∷ (codes "profile", Optional) ∷ []
options_of Trace = run_options
options_of Dna = run_options
options_of Draw = (codes "rna", Required) ∷ (codes "profile", Optional) ∷ []
options_of Names = (codes "rna", Required) ∷ (codes "profile", Optional) ∷ []
options_of Pairs = (codes "dna", Required) ∷ (codes "count", Required) ∷ []
options_of Patch = (codes "file", Required) ∷ (codes "limit", Optional) ∷ []
options_of Bench = (codes "seed", Required) ∷ (codes "size", Required) ∷ (codes "rounds", Required) ∷ []
options_of Assemble = (codes "text", Required) ∷ []
options_of Compile = (codes "source", Required) ∷ (codes "limit", Optional) ∷ []
options_of Picture = (codes "ppm", Required) ∷ (codes "limit", Optional) ∷ []
options_of Explain =
    (codes "prefix", Required) ∷ (codes "length", Required) ∷ (codes "attempts", Required) ∷ (codes "limit", Optional) ∷ []
options_of Rewind =
    (codes "dna", Required) ∷ (codes "prefix", Optional) ∷ (codes "script", Required) ∷ (codes "limit", Optional) ∷ []

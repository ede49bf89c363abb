-- What is read of what is asked for: its files one after another, each to its end and then judged. The first refusal decides.
use Rattle.std.specs.Prelude.{ℕ, ◌+◌, ◌^◌, if◌then◌else◌, Option, Some, None, Result, Ok, Err, List, [], ◌∷◌, ◌++◌, length, nat_lt}
use Rattle.std.specs.Option.{option_map}
use Rattle.fuun_base.specs.declared.letters.Base.{Base}
use Rattle.fuun_base.specs.DnaFile.{bases, first_other}
use Rattle.fuun_base.specs.RnaFile.{commands, first_bad}
use Rattle.fuun_top.specs.declared.inputs.Inputs.{Inputs}
use Rattle.fuun_top.specs.declared.inputs.Inputs.TheVariants as inputs
use Rattle.fuun_top.specs.declared.inputs.Plain.TheVariants as plain
use Rattle.fuun_top.specs.declared.status.InFile.{InFile}
use Rattle.fuun_top.specs.declared.status.InFile.TheVariants as file
use Rattle.fuun_top.specs.declared.status.Status.{Status}
use Rattle.fuun_top.specs.declared.status.Status.TheVariants.{BadBase, BadRna, BadScript, InputTooLong, StartTooLong}
use Rattle.fuun_top.specs.declared.request.Asked.{Asked}
use Rattle.fuun_top.specs.declared.request.Asked.TheVariants.{Run, Trace, Rna, Listing, Text, Explain, Rewind, Bench}
use Rattle.fuun_top.specs.declared.request.TextVerb.{TextVerb}
use Rattle.fuun_top.specs.declared.request.TextVerb.TheVariants as text
use Rattle.fuun_words.specs.declared.request.RunWords.{RunWords}
use Rattle.fuun_words.specs.declared.request.ExplainWords.{ExplainWords}
use Rattle.fuun_words.specs.declared.request.RewindWords.{RewindWords}
use Rattle.rewinder.specs.declared.orders.Order.{Order}
use Rattle.rewinder.specs.Script.{first_bad as first_bad_order, orders}

-- the contents of files by name, where they are told
abbrev pub Files : Type 0
Files = List ℕ → Option (List ℕ)

-- the most bytes that a file may have
abbrev pub most_bytes : ℕ
most_bytes = 2 ^ 26

-- a file that is read: what it is called, and its name
abbrev pub Called : Type 0
Called = InFile × List ℕ

-- the prefix file, where there is one
abbrev pub prefix_files : Option (List ℕ) → List Called
prefix_files None = []
prefix_files (Some name) = (file.Prefix, name) ∷ []

-- the files of a run
abbrev pub run_files : RunWords → List Called
run_files words = (file.Dna, words.dna) ∷ prefix_files words.prefix

-- what a text of which DNA is made is called
abbrev pub text_file : TextVerb → InFile
text_file (text.Patch limit) = file.Patch
text_file text.Assemble = file.Text
text_file (text.Compile limit) = file.Source
text_file (text.Picture limit) = file.Ppm

-- the prefix file, where there is one, and then the script
abbrev pub guiding_files : Option (List ℕ) → List ℕ → List Called
guiding_files None script = (file.Script, script) ∷ []
guiding_files (Some name) script = (file.Prefix, name) ∷ (file.Script, script) ∷ []

-- the files of a run that a script goes through
abbrev pub rewind_files : RewindWords → List Called
rewind_files words = (file.Dna, words.dna) ∷ guiding_files words.prefix words.script

-- the files that are read, in order
abbrev pub files_of : Asked → List Called
files_of (Run verb words) = run_files words
files_of (Trace words) = run_files words
files_of (Rna verb name) = (file.Rna, name) ∷ []
files_of (Listing name count) = (file.Dna, name) ∷ []
files_of (Text verb name) = (text_file verb, name) ∷ []
files_of (Explain words) = (file.Prefix, words.prefix) ∷ []
files_of (Rewind words) = rewind_files words
files_of (Bench seed size rounds) = []

-- what is read: none where contents that it needs are not told, else a value or a refusal
abbrev pub Reading : Type 0 → Type 0
Reading A = Option (Result A Status)

-- one reading, and then another that may depend on it
abbrev pub then_read : {A B : Type 0} → Reading A → (A → Reading B) → Reading B
then_read None next = None
then_read (Some (Err status)) next = Some (Err status)
then_read (Some (Ok value)) next = next value

-- a value, unless there is a refusal
abbrev pub unless_refused : {A : Type 0} → Option Status → A → Result A Status
unless_refused (Some status) value = Err status
unless_refused None value = Ok value

-- the bytes of a file that is not too long
abbrev pub within : InFile → List ℕ → Result (List ℕ) Status
within in_file contents = if nat_lt most_bytes (length contents) then Err (InputTooLong in_file) else Ok contents

abbrev pub bytes_in : Files → InFile → List ℕ → Reading (List ℕ)
bytes_in files in_file name = option_map (within in_file) (files name)

-- the bases of a DNA file
abbrev pub judged_dna : InFile → List ℕ → Result (List Base) Status
judged_dna in_file contents = unless_refused (option_map (BadBase in_file) (first_other contents)) (bases contents)

abbrev pub dna_in : Files → InFile → List ℕ → Reading (List Base)
dna_in files in_file name = then_read (bytes_in files in_file name) (λ contents. Some (judged_dna in_file contents))

-- the bases of the prefix file: none without one
abbrev pub prefix_in : Files → Option (List ℕ) → Reading (List Base)
prefix_in files None = Some (Ok [])
prefix_in files (Some name) = dna_in files file.Prefix name

-- the commands of an RNA file
abbrev pub judged_rna : List ℕ → Result (List (List Base)) Status
judged_rna contents = unless_refused (option_map BadRna (first_bad contents)) (commands contents)

abbrev pub rna_in : Files → List ℕ → Reading (List (List Base))
rna_in files name = then_read (bytes_in files file.Rna name) (λ contents. Some (judged_rna contents))

-- the DNA that a run starts from
abbrev pub started : ℕ → List Base → Result (List Base) Status
started limit dna = if nat_lt limit (length dna) then Err StartTooLong else Ok dna

abbrev pub start_in : Files → RunWords → Reading (List Base)
start_in files words =
    then_read (dna_in files file.Dna words.dna) (λ dna.
    then_read (prefix_in files words.prefix) (λ prefix.
    Some (started words.limit (prefix ++ dna))))

-- the orders of a script
abbrev pub judged_script : List ℕ → Result (List Order) Status
judged_script contents = unless_refused (option_map BadScript (first_bad_order contents)) (orders contents)

abbrev pub script_in : Files → List ℕ → Reading (List Order)
script_in files name = then_read (bytes_in files file.Script name) (λ contents. Some (judged_script contents))

-- the prefix and the script
abbrev pub guided_in : Files → Option (List ℕ) → List ℕ → Reading (List Base × List Order)
guided_in files prefix script =
    then_read (prefix_in files prefix) (λ bases.
    then_read (script_in files script) (λ orders.
    Some (Ok (bases, orders))))

-- a prefix for a target of so many bases, where together they are within the limit
abbrev pub explained : ExplainWords → List Base → Result Inputs Status
explained words prefix =
    if nat_lt words.limit (length prefix + words.length) then Err StartTooLong
    else Ok (inputs.Explain prefix words.length words.attempts words.limit)

-- a start, and the orders for it
abbrev pub rewound : ℕ → List Base → List Order → Result Inputs Status
rewound limit dna orders = if nat_lt limit (length dna) then Err StartTooLong else Ok (inputs.Rewind dna orders limit)

-- the inputs of what is asked for
abbrev pub inputs_of : Files → Asked → Reading Inputs
inputs_of files (Run verb words) =
    then_read (start_in files words) (λ dna. Some (Ok (inputs.Run verb dna words.budget words.limit)))
inputs_of files (Trace words) =
    then_read (start_in files words) (λ dna. Some (Ok (inputs.Trace dna words.budget words.limit)))
inputs_of files (Rna verb name) =
    then_read (rna_in files name) (λ commands. Some (Ok (inputs.Plain (plain.Rna verb commands))))
inputs_of files (Listing name count) =
    then_read (dna_in files file.Dna name) (λ dna. Some (Ok (inputs.Listing dna count)))
inputs_of files (Explain words) =
    then_read (dna_in files file.Prefix words.prefix) (λ prefix. Some (explained words prefix))
inputs_of files (Rewind words) =
    then_read (dna_in files file.Dna words.dna) (λ dna.
    then_read (guided_in files words.prefix words.script) (λ guided.
    Some (rewound words.limit (guided.0 ++ dna) guided.1)))
inputs_of files (Text verb name) =
    then_read (bytes_in files (text_file verb) name) (λ contents. Some (Ok (inputs.Text verb contents)))
inputs_of files (Bench seed size rounds) = Some (Ok (inputs.Bench seed size rounds))

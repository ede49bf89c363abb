-- What the words of the command line ask for.
use Rattle.std.specs.Prelude.{◌≡◌, ℕ, ◌<◌, ◌≤◌, ◌-◌, ◌^◌, List, [], ◌∷◌, Option, Some, None, Result, MatchResult, codes, map, option_and_then, option_map, string_bytes, String}
use Rattle.clap.specs.Walk.{Row, Text, first_of}
use Rattle.fuun_words.specs.Commands.{command, found_by}
use Rattle.fuun_words.specs.Numbers.{number, number_or, profile_or_plain}
use Rattle.fuun_words.specs.Verbs.{options_of, verb_of}
use Rattle.rna_code.specs.declared.profile.Profile.{Profile}
use Rattle.fuun_words.specs.declared.request.Request.{Request}
use Rattle.fuun_words.specs.declared.request.Request.TheVariants as asked
use Rattle.fuun_words.specs.declared.request.RunWords.{RunWords}
use Rattle.fuun_words.specs.declared.request.ExplainWords.{ExplainWords}
use Rattle.fuun_words.specs.declared.request.RewindWords.{RewindWords}
use Rattle.fuun_words.specs.declared.request.WordsError.{WordsError}
use Rattle.fuun_words.specs.declared.request.WordsError.TheVariants.{Usage}
use Rattle.fuun_words.specs.declared.verb.Verb.{Verb}
use Rattle.fuun_words.specs.declared.verb.Verb.TheVariants.{Rna, Image, Trace, Dna, Draw, Names, List as Pairs, Patch, Bench, Assemble, Compile, Picture, Explain, Rewind}

-- the texts of words
abbrev pub texts : {Z : Type 0} → List (String Z) → List (List ℕ)
texts words = map string_bytes words

-- the budget in attempts: from 0 to 2^40, and 10,000,000 where none is given
abbrev pub budget_of : List Row → Option ℕ
budget_of rows = number_or 10000000 0 (2 ^ 40) (first_of (codes "budget") rows)

-- the limit in bases: from 1 to 2^40, and 2^26 where none is given
abbrev pub limit_of : List Row → Option ℕ
limit_of rows = number_or (2 ^ 26) 1 (2 ^ 40) (first_of (codes "limit") rows)

-- the number of an option that a verb asks for, from 0 to `most`
abbrev pub number_of : Text → ℕ → List Row → Option ℕ
number_of option most rows = option_and_then (number 0 most) (first_of option rows)

-- the profile: the plain one where none is given
abbrev pub profile_of : List Row → Option Profile
profile_of rows = profile_or_plain (first_of (codes "profile") rows)

-- the words of a run, where each of them is there
abbrev pub run : Option Text → Option Text → Option ℕ → Option ℕ → Option RunWords
run (Some dna) prefix (Some budget) (Some limit) = Some (record { dna = dna; prefix = prefix; budget = budget; limit = limit })
run _ _ _ _ = None

abbrev pub run_of : List Row → Option RunWords
run_of rows =
    run (first_of (codes "dna") rows) (first_of (codes "prefix") rows) (budget_of rows) (limit_of rows)

-- what the words of a load, of an explanation and of a rewound run ask for, where each of them is there
abbrev pub bench : Option ℕ → Option ℕ → Option ℕ → Option Request
bench (Some seed) (Some size) (Some rounds) = Some (asked.Bench seed size rounds)
bench _ _ _ = None

abbrev pub bench_of : List Row → Option Request
bench_of rows =
    bench (number_of (codes "seed") (2 ^ 31 - 1) rows) (number_of (codes "size") (2 ^ 24) rows) (number_of (codes "rounds") (2 ^ 16) rows)

abbrev pub explanation : Option Text → Option ℕ → Option ℕ → Option ℕ → Option ExplainWords
explanation (Some prefix) (Some len) (Some attempts) (Some limit) =
    Some (record { prefix = prefix; length = len; attempts = attempts; limit = limit })
explanation _ _ _ _ = None

abbrev pub explanation_of : List Row → Option ExplainWords
explanation_of rows =
    explanation (first_of (codes "prefix") rows) (number_of (codes "length") (2 ^ 40) rows) (number_of (codes "attempts") (2 ^ 40) rows) (limit_of rows)

abbrev pub rewound : Option Text → Option Text → Option Text → Option ℕ → Option RewindWords
rewound (Some dna) prefix (Some script) (Some limit) =
    Some (record { dna = dna; prefix = prefix; script = script; limit = limit })
rewound _ _ _ _ = None

abbrev pub rewound_of : List Row → Option RewindWords
rewound_of rows =
    rewound (first_of (codes "dna") rows) (first_of (codes "prefix") rows) (first_of (codes "script") rows) (limit_of rows)

-- what two values make, where both are there
abbrev pub both : {A B C : Type 0} → (A → B → C) → Option A → Option B → Option C
both make (Some a) (Some b) = Some (make a b)
both make _ _ = None

-- what a verb asks for, with the values that were found for its options
abbrev pub request_of : Verb → List Row → Option Request
request_of Rna rows = option_map asked.Rna (run_of rows)
request_of Image rows = both asked.Image (run_of rows) (profile_of rows)
request_of Trace rows = option_map asked.Trace (run_of rows)
request_of Dna rows = option_map asked.Dna (run_of rows)
request_of Draw rows = both asked.Draw (first_of (codes "rna") rows) (profile_of rows)
request_of Names rows = both asked.Names (first_of (codes "rna") rows) (profile_of rows)
request_of Pairs rows = both asked.List (first_of (codes "dna") rows) (number_of (codes "count") (2 ^ 40) rows)
request_of Patch rows = both asked.Patch (first_of (codes "file") rows) (limit_of rows)
request_of Bench rows = bench_of rows
request_of Assemble rows = option_map asked.Assemble (first_of (codes "text") rows)
request_of Compile rows = both asked.Compile (first_of (codes "source") rows) (limit_of rows)
request_of Picture rows = both asked.Picture (first_of (codes "ppm") rows) (limit_of rows)
request_of Explain rows = option_map asked.Explain (explanation_of rows)
request_of Rewind rows = option_map asked.Rewind (rewound_of rows)

-- what words ask for: nothing where they are in no form that a verb has
abbrev pub request : List Text → Option Request
request [] = None
request (word ∷ more) =
    option_and_then (λ verb. option_and_then (request_of verb) (found_by (command word (options_of verb)) (word ∷ more)))
    (verb_of word)

-- a result is what the definition has, and the words are at fault only where it has nothing
abbrev pub Reads : {A : Type 0} → Option A → Result A WordsError → Type 0
Reads asked result = MatchResult result (λ value. asked ≡ Some value) (λ error. error ≡ Usage → asked ≡ None)

pub record IsRunInRange (run : RunWords) : Type 0 where
  pub budget : run.budget ≤ 2 ^ 40
  pub some : 1 ≤ run.limit
  pub limit : run.limit ≤ 2 ^ 40

pub record IsExplanationInRange (asked : ExplainWords) : Type 0 where
  pub len : asked.length ≤ 2 ^ 40
  pub attempts : asked.attempts ≤ 2 ^ 40
  pub some : 1 ≤ asked.limit
  pub limit : asked.limit ≤ 2 ^ 40

-- each number of a request lies in its range
abbrev pub IsInRange : Request → Type 0
IsInRange (asked.Rna run) = IsRunInRange run
IsInRange (asked.Image run profile) = IsRunInRange run
IsInRange (asked.Trace run) = IsRunInRange run
IsInRange (asked.Dna run) = IsRunInRange run
IsInRange (asked.Draw rna profile) = Unit {0}
IsInRange (asked.Names rna profile) = Unit {0}
IsInRange (asked.List dna count) = count ≤ 2 ^ 40
IsInRange (asked.Patch file limit) = (1 ≤ limit) × (limit ≤ 2 ^ 40)
IsInRange (asked.Bench seed size rounds) = (seed < 2 ^ 31) × (size ≤ 2 ^ 24) × (rounds ≤ 2 ^ 16)
IsInRange (asked.Assemble text) = Unit {0}
IsInRange (asked.Compile source limit) = (1 ≤ limit) × (limit ≤ 2 ^ 40)
IsInRange (asked.Picture ppm limit) = (1 ≤ limit) × (limit ≤ 2 ^ 40)
IsInRange (asked.Explain words) = IsExplanationInRange words
IsInRange (asked.Rewind words) = (1 ≤ words.limit) × (words.limit ≤ 2 ^ 40)

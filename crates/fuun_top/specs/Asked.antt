-- What is asked for, by what it works on.
use Rattle.fuun_words.specs.declared.request.Request.{Request}
use Rattle.fuun_words.specs.declared.request.Request.TheVariants as words
use Rattle.fuun_top.specs.declared.request.Asked.{Asked}
use Rattle.fuun_top.specs.declared.request.Asked.TheVariants.{Run, Trace, Rna, Listing, Text, Explain, Rewind, Bench}
use Rattle.fuun_top.specs.declared.request.RunVerb.TheVariants as run
use Rattle.fuun_top.specs.declared.request.RnaVerb.TheVariants as rna
use Rattle.fuun_top.specs.declared.request.TextVerb.TheVariants as text

-- what a verb makes of a run, or the attempts of a run, or what a verb makes of the commands of an RNA file, or the listing of
-- a DNA file, or the DNA that a verb makes of a text, or a run on a load
abbrev pub sorted : Request → Asked
sorted (words.Rna asked) = Run run.Rna asked
sorted (words.Image asked profile) = Run (run.Image profile) asked
sorted (words.Trace asked) = Trace asked
sorted (words.Dna asked) = Run run.Dna asked
sorted (words.Draw name profile) = Rna (rna.Draw profile) name
sorted (words.Names name profile) = Rna (rna.Names profile) name
sorted (words.List name count) = Listing name count
sorted (words.Patch name limit) = Text (text.Patch limit) name
sorted (words.Bench seed size rounds) = Bench seed size rounds
sorted (words.Assemble name) = Text text.Assemble name
sorted (words.Compile name limit) = Text (text.Compile limit) name
sorted (words.Picture name limit) = Text (text.Picture limit) name
sorted (words.Explain asked) = Explain asked
sorted (words.Rewind asked) = Rewind asked

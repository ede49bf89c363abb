-- What is seen of a taker that writes lines to a sink.
use Rattle.std.specs.Prelude.{ℕ, Option, List}
use Rattle.dna_reader.specs.declared.rna_lines.RnaLines.{RnaLines}
use Rattle.dna_reader.specs.RnaLines.{Writer}

-- the sink as it is now
abbrev pub sink_of : {K : Type 0} → RnaLines K → K
sink_of lines = lines.sink.now

-- which loan of a sink it holds
abbrev pub loan_of : {K : Type 0} → RnaLines K → ℕ
loan_of lines = lines.sink.ghost_name

-- how many commands were taken since it was made
abbrev pub count_of : {K : Type 0} → RnaLines K → ℕ
count_of lines = lines.count

-- the same as a writer, by what its sink tells
abbrev pub writer_of : {K : Type 0} → (K → Option (List ℕ)) → RnaLines K → Writer
writer_of told lines = record { loan = loan_of lines; told = told (sink_of lines); count = count_of lines }

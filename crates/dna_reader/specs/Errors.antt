-- Errors of readings.
use Rattle.dna_reader.specs.declared.takers.TakeError.{TakeError}
use Rattle.dna_reader.specs.declared.takers.TakeError.TheVariants.{Failed, NoMemory as TakerNoMemory}
use Rattle.dna_reader.specs.declared.reading.ReadingError.{ReadingError}
use Rattle.dna_reader.specs.declared.reading.ReadingError.TheVariants.{TakerFailed, NoMemory}

-- the error of a reading whose taker failed so
abbrev pub reading_error : TakeError → ReadingError
reading_error Failed = TakerFailed
reading_error TakerNoMemory = NoMemory

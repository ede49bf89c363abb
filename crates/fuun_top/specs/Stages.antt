-- Where in a call a status is decided.
use Rattle.fuun_top.specs.declared.status.Status.{Status}
use Rattle.fuun_top.specs.declared.status.Status.TheVariants.{Done, Usage, OutOfBudget, TooLong, BadBase, BadRna, BadToml, BadPatch, Outside, BadText, Unreadable, Depends, BadScript, BadPpm, BadSource, BadName, BadNumber, NoCode, InputTooLong, ReadFault, WriteFault, NoMemory, StartTooLong}

-- the words, the reading of a file, what a file holds, the output that is defined, its writing; memory is wanted anywhere
pub data Stage : Type 0 where
  ByWords : Stage
  ByReading : Stage
  ByContents : Stage
  ByOutput : Stage
  ByWriting : Stage
  ByMemory : Stage

-- the stage that decides a status
abbrev pub stage_of : Status → Stage
stage_of Done = ByOutput
stage_of Usage = ByWords
stage_of OutOfBudget = ByOutput
stage_of (TooLong attempt) = ByOutput
stage_of (BadBase file place) = ByContents
stage_of (BadRna line) = ByContents
stage_of BadToml = ByContents
stage_of (BadPatch number) = ByContents
stage_of (Outside number) = ByContents
stage_of (BadText line) = ByContents
stage_of (Unreadable line) = ByContents
stage_of (Depends attempt) = ByContents
stage_of (BadScript line) = ByContents
stage_of BadPpm = ByContents
stage_of (BadSource line column) = ByContents
stage_of (BadName line column) = ByContents
stage_of (BadNumber line column) = ByContents
stage_of (NoCode line column) = ByContents
stage_of (InputTooLong file) = ByReading
stage_of ReadFault = ByReading
stage_of WriteFault = ByWriting
stage_of NoMemory = ByMemory
stage_of StartTooLong = ByContents

-- nothing is written of an output that is decided so early
abbrev pub IsBeforeOutput : Stage → Type 0
IsBeforeOutput ByWords = Unit {0}
IsBeforeOutput ByReading = Unit {0}
IsBeforeOutput ByContents = Unit {0}
IsBeforeOutput ByOutput = ⊥
IsBeforeOutput ByWriting = ⊥
IsBeforeOutput ByMemory = ⊥

-- the reading of inputs may end so
abbrev pub IsOfInputs : Stage → Type 0
IsOfInputs ByWords = ⊥
IsOfInputs ByReading = Unit {0}
IsOfInputs ByContents = Unit {0}
IsOfInputs ByOutput = ⊥
IsOfInputs ByWriting = ⊥
IsOfInputs ByMemory = Unit {0}

-- an output may end so: with what is asked for, or with a refusal of a file's text
abbrev pub IsOfOutput : Stage → Type 0
IsOfOutput ByWords = ⊥
IsOfOutput ByReading = ⊥
IsOfOutput ByContents = Unit {0}
IsOfOutput ByOutput = Unit {0}
IsOfOutput ByWriting = ⊥
IsOfOutput ByMemory = Unit {0}

-- and the writing of one
abbrev pub IsAfterReading : Stage → Type 0
IsAfterReading ByWords = ⊥
IsAfterReading ByReading = ⊥
IsAfterReading ByContents = Unit {0}
IsAfterReading ByOutput = Unit {0}
IsAfterReading ByWriting = Unit {0}
IsAfterReading ByMemory = Unit {0}

-- a status with which no byte is written
abbrev pub IsRefusal : Status → Type 0
IsRefusal status = IsBeforeOutput (stage_of status)

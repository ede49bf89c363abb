-- A fact for one answer of a whole read.
use Rattle.std.specs.Prelude.{Result, Ok, Err}
use Rattle.fuun_io.specs.declared.read.ReadError.{ReadError}
use Rattle.fuun_io.specs.declared.read.ReadError.TheVariants.{ReadFault, InputTooLong, NoMemory}

-- at the answer that the input is too long
abbrev pub OnTooLong : {T : Type 0} → Result T ReadError → Type 0 → Type 0
OnTooLong (Ok value) P = Unit {0}
OnTooLong (Err ReadFault) P = Unit {0}
OnTooLong (Err InputTooLong) P = P
OnTooLong (Err NoMemory) P = Unit {0}

-- at the answer that a read failed
abbrev pub OnReadFault : {T : Type 0} → Result T ReadError → Type 0 → Type 0
OnReadFault (Ok value) P = Unit {0}
OnReadFault (Err ReadFault) P = P
OnReadFault (Err InputTooLong) P = Unit {0}
OnReadFault (Err NoMemory) P = Unit {0}

-- at every other answer
abbrev pub UnlessReadFault : {T : Type 0} → Result T ReadError → Type 0 → Type 0
UnlessReadFault (Ok value) P = P
UnlessReadFault (Err ReadFault) P = Unit {0}
UnlessReadFault (Err InputTooLong) P = P
UnlessReadFault (Err NoMemory) P = P

-- The faults of the program, as its caller sees them.
use Rattle.std.specs.Prelude.{ℕ, ⊤}
use Rattle.idx.specs.declared.faults.Fault.{Fault}
use Rattle.idx.specs.declared.faults.Fault.TheVariants.{Usage, NotUtf8, Read, Write, NoMemory}

-- the status that the program ends with
abbrev pub status_of : Fault → ℕ
status_of Usage = 2
status_of NotUtf8 = 3
status_of Read = 1
status_of Write = 1
status_of NoMemory = 1

-- a fault that comes while the input is read
abbrev pub IsInputFault : Fault → Type 0
IsInputFault Usage = ⊥
IsInputFault NotUtf8 = ⊥
IsInputFault Read = ⊤
IsInputFault Write = ⊥
IsInputFault NoMemory = ⊤

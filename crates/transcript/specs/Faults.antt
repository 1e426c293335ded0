-- Why a line is refused: numbers and words.
use Rattle.std.specs.Prelude.{ℕ, List, codes}
use Rattle.transcript.specs.declared.fault.LineFault.{LineFault}
use Rattle.transcript.specs.declared.fault.LineFault.TheVariants.{Short}

-- The number of a line's fault.
abbrev pub number : LineFault → ℕ
number Short = 31

-- A line's fault in words.
abbrev pub reason : LineFault → List ℕ
reason Short = codes "a line needs a buffer of 32 bytes or more"

-- What checking bytes answers.
use Rattle.std.specs.Prelude.{◌≡◌, ℕ, ◌⊎◌, List}
use Rattle.runfile.specs.declared.fault.FileFault.{FileFault}
use Rattle.runfile.specs.Faults.{number}
use Rattle.runfile.specs.Files.{WellFormed, FirstFault}

-- 0, and the bytes are a well-formed run file; or the number of their first fault.
abbrev pub Checked : List ℕ → ℕ → Type 0
Checked file n = ((n ≡ 0) × WellFormed file) ⊎ ((e : FileFault) × FirstFault file e × (n ≡ number e))

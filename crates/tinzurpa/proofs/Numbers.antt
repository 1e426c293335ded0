-- What the number of a reading says.
use Rattle.std.proofs.Common.{◌≡◌, ◌⊎◌, ℕ, List, Ok, Err, Result, MatchResult, inl, inr, sym, ◌∙◌}
use Rattle.faults.specs.declared.fault.Fault.{Fault}
use Rattle.faults.specs.declared.fault.Fault.TheVariants.{CoveredBy}
use Rattle.faults.specs.Faults.{number as rule_number}
use Rattle.rig.specs.declared.fault.SetupFault.{SetupFault}
use Rattle.rig.specs.declared.fault.SetupFault.TheVariants.{Rounds}
use Rattle.rig.specs.Faults.{setup_number}
use Rattle.runfile.specs.declared.file.RunFile.{RunFile}
use Rattle.runfile.specs.declared.fault.FileFault.{FileFault}
use Rattle.runfile.specs.declared.fault.FileFault.TheVariants.{Rule, Setup}
use Rattle.runfile.specs.Faults.{number}
use Rattle.runfile.specs.Files.{FileRead, WellFormed}
use Rattle.runfile.proofs.FileOnce.{said_is_well_formed, well_formed_has_no_fault}
use Rattle.tinzurpa.specs.Checked.{Checked}

-- the number is 0 for a run file, and else that of the fault
abbrev Tells : Result RunFile FileFault → ℕ → Type 0
Tells r n = MatchResult r (λ _. n ≡ 0) (λ e. n ≡ number e)

pub checked : (file : List ℕ) (r : Result RunFile FileFault) (n : ℕ) → FileRead file r → Tells r n → Checked file n
checked file (Ok run) n s t = inl (t, said_is_well_formed file run s)
checked file (Err e) n f t = inr (e, f, t)

-- no fault has the number 0
rule_some : (e : Fault) → rule_number e ≡ 0 → ⊥
rule_some (CoveredBy three) h = cc h
rule_some e h = cc h

setup_some : (e : SetupFault) → setup_number e ≡ 0 → ⊥
setup_some Rounds h = cc h
setup_some e h = cc h

some_number : (e : FileFault) → number e ≡ 0 → ⊥
some_number (Rule e k) h = rule_some e h
some_number (Setup e k) h = setup_some e h
some_number e h = cc h

pub zero : (file : List ℕ) (r : Result RunFile FileFault) (n : ℕ) → FileRead file r → Tells r n → n ≡ 0 → WellFormed file
zero file (Ok run) n s t z = said_is_well_formed file run s
zero file (Err e) n f t z = absurd (some_number e (sym t ∙ z))

pub well_formed : (file : List ℕ) (r : Result RunFile FileFault) (n : ℕ) → FileRead file r → Tells r n → WellFormed file
    → (n ≡ 0) ⊎ (n ≡ 51)
well_formed file (Ok run) n s t w = inl t
well_formed file (Err e) n f t w = inr (t ∙ well_formed_has_no_fault file e w f)

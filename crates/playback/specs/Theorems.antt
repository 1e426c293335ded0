-- What is proved of printing: a run and a file determine what is printed of them.
use Rattle.std.specs.Prelude.{◌≡◌, ℕ, List, ◌⊎◌}
use Rattle.agreement.specs.Networks.{Network}
use Rattle.agreement.specs.Station.{Setting}
use Rattle.agreement.specs.Rig.{Call}
use Rattle.transcript.specs.Lines.{refusal_line}
use Rattle.playback.specs.Runs.{PrintsRun}
use Rattle.playback.specs.Files.{PrintsFile}

-- A run prints one text, and leaves its network in one state: the same calls, on rigs that are opened alike over a network
-- in one state.
abbrev pub RunsPrintOneText : Type 0 → Type 0
RunsPrintOneText N =
    (net : Network N) (w : N) (g : Setting) (calls : List Call) (v v' : N) (text other : List ℕ)
    → PrintsRun net w g calls v text → PrintsRun net w g calls v' other → (v ≡ v') × (text ≡ other)

-- A text says that memory is short: it is the line of a fault with number 51.
abbrev pub SaysShort : List ℕ → Type 0
SaysShort text = (place : ℕ) × (text ≡ refusal_line 51 place)

-- Of a file is printed one text, or that memory is short: two texts that can be printed of it are the same, or one of
-- them says that memory is short.
abbrev pub OneText : Type 0
OneText =
    (file text other : List ℕ) → PrintsFile file text → PrintsFile file other
    → (text ≡ other) ⊎ (SaysShort text ⊎ SaysShort other)

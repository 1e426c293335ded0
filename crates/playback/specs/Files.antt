-- What is printed of a run file.
use Rattle.std.specs.Prelude.{◌≡◌, ℕ, List, [], map, replicate, ◌⊎◌}
use Rattle.agreement.specs.declared.message.Message.{Message}
use Rattle.agreement.specs.Station.{Setting}
use Rattle.agreement.specs.Rig.{Call}
use Rattle.network.specs.Bags.{bag}
use Rattle.network.specs.Lanes.{ten_lanes}
use Rattle.rig.specs.Settings.{setting_of}
use Rattle.rulebody.specs.Kinds.{meant}
use Rattle.calls.specs.Calls.{call_of}
use Rattle.runfile.specs.declared.station_body.NetworkKind.{NetworkKind}
use Rattle.runfile.specs.declared.station_body.NetworkKind.TheVariants.{Bag, Lanes}
use Rattle.runfile.specs.declared.file.RunFile.{RunFile}
use Rattle.runfile.specs.declared.fault.FileFault.{FileFault}
use Rattle.runfile.specs.Coins.{bits}
use Rattle.runfile.specs.Faults.{number, place}
use Rattle.runfile.specs.Files.{Says, FirstFault}
use Rattle.transcript.specs.Lines.{refusal_line}
use Rattle.playback.specs.Runs.{PrintsRun}

-- A run on a rig that is opened over a new network of this kind prints the text.
abbrev pub PrintsOver : NetworkKind → Setting → List Call → List ℕ → Type 0
PrintsOver Bag g calls text = (w : List Message) × PrintsRun bag [] g calls w text
PrintsOver Lanes g calls text = (w : List (List Message)) × PrintsRun ten_lanes (replicate 10 []) g calls w text

-- A run of what a file says prints the text.
abbrev pub PrintsSaid : RunFile → List ℕ → Type 0
PrintsSaid run text =
    PrintsOver run.network (setting_of (meant run.rule) run.setup (bits run.coin)) (map call_of run.calls.items) text

-- Of a file is printed the transcript of what it says; or the line of its first fault.
abbrev pub PrintsFile : List ℕ → List ℕ → Type 0
PrintsFile file text =
    ((run : RunFile) × Says file run × PrintsSaid run text)
    ⊎ ((e : FileFault) × FirstFault file e × (text ≡ refusal_line (number e) (place e)))

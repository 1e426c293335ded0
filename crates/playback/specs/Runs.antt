-- What a run prints.
use Rattle.std.specs.Prelude.{◌≡◌, ℕ, zero, suc, if◌then◌else◌, List, [], ◌∷◌, ◌++◌}
use Rattle.agreement.specs.Networks.{Network}
use Rattle.agreement.specs.Station.{Setting, is_own, Station}
use Rattle.agreement.specs.Rig.{Rig, Opened, Call, Answer, Plays}
use Rattle.transcript.specs.Lines.{call_line, station_line, missing_line}

-- A line for each call, with its answer.
abbrev pub call_lines : List Call → List Answer → List ℕ
call_lines [] answers = []
call_lines (c ∷ calls) [] = []
call_lines (c ∷ calls) (a ∷ answers) = call_line c a ++ call_lines calls answers

-- A line for each own station below k, in ascending order.
abbrev pub station_lines : Setting → (ℕ → Station) → ℕ → List ℕ
station_lines g W zero = []
station_lines g W (suc k) =
    station_lines g W k ++ (if is_own g k then station_line k (W k).stage (W k).decision else [])

-- The last lines: those of the own stations, of which a rig has at most ten, and that of what is missing.
abbrev pub last_lines : {N : Type 0} → Setting → Rig N → List ℕ
last_lines g r = station_lines g r.station 10 ++ missing_line r.missing

-- A run of the calls, on a rig as it is opened over a network in state w, leaves the network in state w' and prints the
-- text: a line for each call, and the last lines.
pub record PrintedBy {N : Type 0} (net : Network N) (w : N) (g : Setting) (calls : List Call) (answers : List Answer) (w' : N) (text : List ℕ) (o r : Rig N) : Type 0 where
  pub opened : Opened net g w o
  pub plays : Plays net g calls answers o r
  pub leaves : w' ≡ r.network
  pub lines : text ≡ call_lines calls answers ++ last_lines g r

-- So it is for some rig as it is opened, and for what it came to, with some answers.
abbrev pub PrintsRun : {N : Type 0} → Network N → N → Setting → List Call → N → List ℕ → Type 0
PrintsRun {N} net w g calls w' text = (o r : Rig N) × (answers : List Answer) × PrintedBy net w g calls answers w' text o r

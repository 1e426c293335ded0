-- What is printed of a run is determined; and so is what is printed of a file, except that memory may be short.
use Rattle.std.proofs.Common.{◌≡◌, ◌≢◌, ℕ, List, [], ◌++◌, map, replicate, ◌⊎◌, inl, inr, ap, ap₂, sym, ◌∙◌, subst}
use Rattle.agreement.specs.Station.{Setting}
use Rattle.agreement.specs.Rig.{Rig, Call, Answer}
use Rattle.agreement.proofs.Exact.{runs_are_determined}
use Rattle.agreement.proofs.Tests.{same?}
use Rattle.network.specs.Bags.{bag}
use Rattle.network.specs.Lanes.{ten_lanes}
use Rattle.rig.specs.Settings.{setting_of}
use Rattle.rulebody.specs.Kinds.{meant}
use Rattle.calls.specs.Calls.{call_of}
use Rattle.runfile.specs.declared.station_body.NetworkKind.{NetworkKind}
use Rattle.runfile.specs.declared.station_body.NetworkKind.TheVariants.{Bag, Lanes}
use Rattle.runfile.specs.declared.file.RunFile.{RunFile}
use Rattle.runfile.specs.declared.fault.FileFault.{FileFault}
use Rattle.runfile.specs.Coins.{bits}
use Rattle.runfile.specs.Faults.{number, place}
use Rattle.runfile.specs.Files.{FirstFault}
use Rattle.runfile.specs.Theorems.{SameRun}
use Rattle.runfile.proofs.FileOnce.{said_has_no_fault, one_first_fault, one_run}
use Rattle.transcript.specs.Lines.{refusal_line}
use Rattle.playback.specs.Runs.{call_lines, last_lines}
use Rattle.playback.specs.Files.{PrintsOver, PrintsSaid}
use Rattle.playback.specs.Theorems.{RunsPrintOneText, SaysShort, OneText}

-- the answers and what the rig came to are determined, and so are the lines
pub runs_print_one_text : {N : Type 0} → RunsPrintOneText N
runs_print_one_text {N} net w g calls v v' text other (o, r, answers, x) (p, q, others, y) =
    let same = runs_are_determined net g w calls answers others o r p q x.opened y.opened x.plays y.plays in (
      x.leaves ∙ ap (λ (t : Rig N). t.network) same.2 ∙ sym y.leaves,
      x.lines
          ∙ ap₂ (λ (xs : List Answer) (t : Rig N). call_lines calls xs ++ last_lines g t) same.1 same.2
          ∙ sym y.lines,
    )

-- a run over a network of either kind prints one text
over_prints_once : (network : NetworkKind) (g : Setting) (calls : List Call) (text other : List ℕ)
    → PrintsOver network g calls text → PrintsOver network g calls other → text ≡ other
over_prints_once Bag g calls text other (v, x) (w, y) = (runs_print_one_text bag [] g calls v w text other x y).1
over_prints_once Lanes g calls text other (v, x) (w, y) =
    (runs_print_one_text ten_lanes (replicate 10 []) g calls v w text other x y).1

-- what a run file says is played in a setting
abbrev setting_in : RunFile → Setting
setting_in run = setting_of (meant run.rule) run.setup (bits run.coin)

-- in one setting, where two run files say the same
one_setting : (run other : RunFile) → SameRun run other → setting_in run ≡ setting_in other
one_setting run other s = λ j. record {
  rules = record { rule = s.rule j; rounds = s.rounds j; coin = bits (s.coin j) };
  guest = s.guests j;
  opens = s.openings j;
}

-- so they print the same
said_prints_once : (run said : RunFile) (text other : List ℕ) → SameRun run said → PrintsSaid run text
    → PrintsSaid said other → text ≡ other
said_prints_once run said text other s x y =
    let calls = map call_of run.calls.items in
    let over = subst (λ n. PrintsOver n (setting_in said) (map call_of said.calls.items) other) (sym s.network) y in
    let e = sym (one_setting run said s) in
    let set = subst (λ g. PrintsOver run.network g (map call_of said.calls.items) other) e over in
    let played = subst (λ c. PrintsOver run.network (setting_in run) (map call_of c) other) (sym s.calls) set in
    over_prints_once run.network (setting_in run) calls text other x played

-- the line of a fault whose number is 51
short : (e : FileFault) (text : List ℕ) → text ≡ refusal_line (number e) (place e) → number e ≡ 51 → SaysShort text
short e text t n = (place e, t ∙ ap (λ k. refusal_line k (place e)) n)

-- the lines of two first faults of a file
faults_print_once : (file : List ℕ) (d e : FileFault) (text other : List ℕ) → FirstFault file d → FirstFault file e
    → text ≡ refusal_line (number d) (place d) → other ≡ refusal_line (number e) (place e)
    → (text ≡ other) ⊎ (SaysShort text ⊎ SaysShort other)
faults_print_once file d e text other f g t o = elim (same? (number d) 51) [
  | inl n ↦ inr (inl (short d text t n))
  | inr n ↦ elim (same? (number e) 51) [
    | inl m ↦ inr (inr (short e other o m))
    | inr m ↦
        let k : number d ≢ 51 = λ s. cc (n, s) in
        let l : number e ≢ 51 = λ s. cc (m, s) in
        inl (t ∙ ap (λ x. refusal_line (number x) (place x)) (one_first_fault file d e f g k l) ∙ sym o)
  ]
]

pub one_text : OneText
one_text file text other (inl (run, s, x)) (inl (said, z, y)) =
    inl (said_prints_once run said text other (one_run file run said s z) x y)
one_text file text other (inl (run, s, x)) (inr (e, f, o)) =
    inr (inr (short e other o (said_has_no_fault file run e s f)))
one_text file text other (inr (d, f, t)) (inl (run, s, x)) =
    inr (inl (short d text t (said_has_no_fault file run d s f)))
one_text file text other (inr (d, f, t)) (inr (e, g, o)) = faults_print_once file d e text other f g t o

-- The last lines, and a run whole.
use Rattle.std.proofs.Common.{◌≡◌, ℕ, zero, suc, Bool, true, false, if◌then◌else◌, List, [], ◌++◌, get_or, Option, Some, None, refl, ap, ap₂, ◌∙◌, subst}
use Rattle.agreement.specs.Station.{Setting, Station, is_own}
use Rattle.agreement.specs.Rig.{Rig as ModelRig, Call, Opened, Plays}
use Rattle.faults.specs.declared.rule.FaultRule.{Ghosts as FaultRule}
use Rattle.network.specs.declared.Network.{Ghosts as Network}
use Rattle.coins.specs.declared.Coin.{Ghosts as Coin}
use Rattle.rig.specs.declared.setup.Setup.{Setup}
use Rattle.rig.specs.declared.rig.Rig.{Rig}
use Rattle.rig.specs.declared.outcome.StationOutcome.{StationOutcome}
use Rattle.rig.specs.declared.outcome.Outcome.{Outcome}
use Rattle.rig.specs.Settings.{setting_of}
use Rattle.rig.specs.Rigs.{setting, view}
use Rattle.rig.specs.Outcomes.{TellsIfOwn, TellsAll, Tells}
use Rattle.rig.proofs.Posting.{same_setting}
use Rattle.transcript.specs.Lines.{station_line, missing_line}
use Rattle.playback.specs.Runs.{station_lines, last_lines, PrintsRun}
use Rattle.playback.specs.Playing.{PrintsCalls}
use Rattle.playback.specs.Outcomes.{noted_line, noted_lines, outcome_lines}

noted : (b : Bool) (rounds i : ℕ) (s : Station) (o : Option StationOutcome) → TellsIfOwn b rounds s o
    → noted_line i o ≡ (if b then station_line i s.stage s.decision else [])
noted true rounds i s (Some o) t = ap₂ (λ x d. station_line i x d) t.stage t.decision
noted true rounds i s None t = absurd t
noted false rounds i s o t = ap (noted_line i) t

stations : (g : Setting) (W : ℕ → Station) (os : List (Option StationOutcome)) → TellsAll (is_own g) g.rounds W os
    → (k : ℕ) → noted_lines os k ≡ station_lines g W k
stations g W os t zero = refl
stations g W os t (suc k) =
    ap₂ (λ xs ys. xs ++ ys) (stations g W os t k) (noted (is_own g k) g.rounds k (W k) (get_or os k None) (t k))

endings : {N : Type 0} (g : Setting) (r : ModelRig N) (o : Outcome) → Tells g r o → outcome_lines o ≡ last_lines g r
endings g r o t = ap₂ (λ xs ys. xs ++ ys) (stations g r.station o.stations t.stations 10) (ap missing_line t.missing)

module _ {F N C : Type 0} {f : FaultRule F} {n : Network N} {c : Coin C} where
  -- what a rig is opened with, by its parts
  pub opened_with : (rule : F) (setup : Setup) (coin : C) (o : Rig F N C f n c) → o.rule ≡ rule → o.setup ≡ setup
      → o.coin ≡ coin → setting o ≡ setting_of (f.families rule) setup (c.bits coin)
  opened_with rule setup coin o a b d = λ i. setting_of (f.families (a i)) (b i) (c.bits (d i))

  -- a rig is opened, its calls are made, and what it came to is told
  pub prints_run : (w : N) (g : Setting) (calls : List Call) (o r : Rig F N C f n c) (outcome : Outcome) (text text' : List ℕ)
      → setting o ≡ g → Opened n.net (setting o) w (view o) → PrintsCalls calls text o r
      → Tells (setting r) (view r) outcome → text' ≡ text ++ outcome_lines outcome → (w' : N) → w' ≡ r.network
      → PrintsRun n.net w g calls w' text'
  prints_run w g calls o r outcome text text' same opened p t e w' left = (
    view o,
    view r,
    p.0,
    record {
      opened = subst (λ x. Opened n.net x w (view o)) same opened;
      plays = subst (λ x. Plays n.net x calls p.0 (view o) (view r)) same p.1.plays;
      leaves = left;
      lines = e ∙ ap₂ (λ xs ys. xs ++ ys) p.1.lines (endings (setting r) (view r) outcome t
          ∙ ap (λ x. last_lines x (view r)) (same_setting o r p.1.kept ∙ same));
    },
  )

-- What a turn of a station of the program does.
use Rattle.std.specs.Prelude.{◌≡◌, ℕ, ◌<◌, Bool, not, ◌&&◌, slice_index_or, Some, None, Option}
use Rattle.std.specs.Prelude.{is_none, option_map, ◌+◌, ◌*◌}
use Rattle.std.specs.Option.{option_or}
use Rattle.agreement.specs.Families.{Families}
use Rattle.agreement.specs.Station.{bit, put, Rules, Idle, Due, after_act, speech}
use Rattle.agreement.specs.Station as model
use Rattle.stations.specs.Members.{members}
use Rattle.acts.specs.declared.act.Act.{Act}
use Rattle.acts.specs.declared.act.Turn.{Turn}
use Rattle.acts.specs.declared.act.Act.TheVariants.{Open, Join, Admit, Close, Decide}
use Rattle.acts.specs.Payloads.{payload_of}
use Rattle.acts.specs.Acts.{act_of}
use Rattle.station.specs.Duties.{NoneOf, FirstOf}
use Rattle.station.specs.Stages.{First}
use Rattle.station.specs.declared.station.Station.{Station}

-- What a station goes by: the fault rule, the number of rounds and the coin.
abbrev pub rules_of : Families → ℕ → (ℕ → Bool) → Rules
rules_of f rounds coin = record { rule = f; rounds = rounds; coin = coin }

-- The bit is to be decided: none is, and those who committed it are blocking.
abbrev pub decides : Families → Station → ℕ → Bool
decides f s b = is_none s.decision && not (f.wide (members (slice_index_or s.committers b 0)))

-- The first bit that passes a test, or none where no bit passes.
abbrev pub FirstBit : (ℕ → Bool) → Option Bool → Type 0
FirstBit P r = First 2 P (option_map bit r)

-- The first act of a stage that applies, or none where none applies.
abbrev pub FirstInStage : Rules → model.Station → ℕ → Option Act → Type 0
FirstInStage g s σ None = NoneOf g s σ
FirstInStage g s σ (Some a) = FirstOf g s σ (act_of a)

-- The same under a fault rule, however many rounds there are, and whatever the coin.
abbrev pub FirstIn : Families → model.Station → ℕ → Option Act → Type 0
FirstIn f s σ r = (rounds : ℕ) (coin : ℕ → Bool) → σ < 4 * rounds → FirstInStage (rules_of f rounds coin) s σ r

-- The act that is due, or none where none applies.
abbrev pub DueOrIdle : Rules → model.Station → Option Act → Type 0
DueOrIdle g s None = Idle g s
DueOrIdle g s (Some a) = Due g s (act_of a)

-- The act is of a stage of which a station has a record, if of any; to be closed is its current one.
abbrev pub CanDo : Act → Station → Type 0
CanDo (Open σ v) s = σ < 32
CanDo (Join σ v) s = σ < 32
CanDo (Admit σ v) s = σ < 32
CanDo (Close σ x) s = (σ ≡ s.current) × (σ < 32)
CanDo (Decide b) s = Unit {0}

-- A station that does what is due in a turn: the act, and what is said.
pub record DoesDueAct (g : Rules) (s s' : model.Station) (t : Turn) : Type 0 where
  pub due : Due g s (act_of t.act)
  pub state : s' ≡ after_act g (act_of t.act) s
  pub says : option_map payload_of t.says ≡ speech (act_of t.act) s

-- s' is the station that has done an act: what an act does goes by the coin, and by nothing else that is set.
abbrev pub HasDone : (ℕ → Bool) → model.Act → model.Station → model.Station → Type 0
HasDone coin a s s' = (g : Rules) → g.coin ≡ coin → s' ≡ after_act g a s

-- The station that has left its stage with a grading, if it gives one, and come into the next with an input.
abbrev pub with_next_stage : Option model.Grading → ℕ → model.Station → model.Station
with_next_stage x v s = record s {
  stage = s.stage + 1;
  input = put s.input (s.stage + 1) v;
  grading = put s.grading s.stage x;
}

-- The station that has committed a bit, unless it had committed one.
abbrev pub with_committed : ℕ → model.Station → model.Station
with_committed b s = record s { committed = option_or s.committed (Some b) }

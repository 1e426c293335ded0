-- What a station of the program keeps, read as the model's station.
use Rattle.std.specs.Prelude.{ℕ, slice_index_or, option_map}
use Rattle.agreement.specs.Station.{bit}
use Rattle.agreement.specs.Station as model
use Rattle.stations.specs.Members.{members}
use Rattle.acts.specs.Values.{number}
use Rattle.acts.specs.Gradings.{in_numbers}
use Rattle.station.specs.Stages.{new_stage, value_of, proposal_of}
use Rattle.station.specs.declared.stage.StageRecord.{StageRecord}
use Rattle.station.specs.declared.station.Station.{Station}

-- A stage's record.
abbrev pub stage_of : Station → ℕ → StageRecord
stage_of s σ = slice_index_or s.stages σ new_stage

-- The station with these records of its stages.
abbrev pub read_by : (ℕ → StageRecord) → Station → model.Station
read_by stage s = record {
  preparers = λ σ v. members (value_of (stage σ) v).preparers;
  proposal = λ σ j. option_map number (proposal_of (stage σ) j);
  committers = λ b. members (slice_index_or s.committers b 0);
  stage = s.current;
  input = λ σ. number (stage σ).input;
  prepared = λ σ v. (value_of (stage σ) v).prepared;
  admitted = λ σ v. (value_of (stage σ) v).admitted;
  proposed = λ σ. option_map number (stage σ).proposed;
  grading = λ σ. option_map in_numbers (stage σ).grading;
  committed = option_map bit s.committed;
  decision = option_map bit s.decision;
}

-- The station.
abbrev pub read : Station → model.Station
read s = read_by (stage_of s) s

-- What stations of the program say, read as the model's.
use Rattle.std.specs.Prelude.{ℕ, ◌<◌}
use Rattle.agreement.specs.Station.{bit}
use Rattle.agreement.specs.Messages.{prepare, propose, commit}
use Rattle.agreement.specs.Messages as model
use Rattle.acts.specs.Values.{number}
use Rattle.acts.specs.declared.payload.Payload.{Payload}
use Rattle.acts.specs.declared.payload.Payload.TheVariants.{Prepare, Propose, Commit}

-- What is said.
abbrev pub payload_of : Payload → model.Payload
payload_of (Prepare σ v) = prepare σ (number v)
payload_of (Propose σ v) = propose σ (number v)
payload_of (Commit b) = commit (bit b)

-- It is of a stage below an end, if of any.
abbrev pub Within : ℕ → Payload → Type 0
Within end (Prepare σ v) = σ < end
Within end (Propose σ v) = σ < end
Within end (Commit b) = Unit {0}

-- How much stations have said, counted in what they did.
use Rattle.std.specs.Prelude.{ℕ, zero, suc, ◌+◌, Bool, if◌then◌else◌, Some as some, None as none, Option}
use Rattle.agreement.specs.Station.{Station}

-- The sum of f below n.
abbrev pub sum : ℕ → (ℕ → ℕ) → ℕ
sum zero f = 0
sum (suc n) f = f n + sum n f

-- 1 for a thing that is so.
abbrev pub one : Bool → ℕ
one b = if b then 1 else 0

-- 1 for a thing that is there.
abbrev pub counted : {A : Type 0} → Option A → ℕ
counted none = 0
counted (some x) = 1

-- How much a station has said in a stage: the values that it prepared, and a proposal.
abbrev pub said_in : Station → ℕ → ℕ
said_in s σ = one (s.prepared σ 0) + one (s.prepared σ 1) + one (s.prepared σ 2) + counted (s.proposed σ)

-- How much it has said in the stages below an end, and that it committed a bit.
abbrev pub said : ℕ → Station → ℕ
said end s = sum end (said_in s) + counted s.committed

-- How much the stations below n have said.
abbrev pub said_by_all : ℕ → ℕ → (ℕ → Station) → ℕ
said_by_all n end W = sum n (λ i. said end (W i))

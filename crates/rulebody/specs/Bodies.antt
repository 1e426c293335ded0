-- What reading a rule body answers.
use Rattle.std.specs.Prelude.{◌≡◌, ℕ, ◌+◌, ◌*◌, ◌<◌, List, length, map, take, drop, All, Ok, Err, Result}
use Rattle.faults.specs.declared.fault.Fault.{Fault}
use Rattle.faults.specs.declared.fault.Fault.TheVariants.{Size, NarrowBeyondWide, Cover, CoveredBy, Lists, Form, Memory}
use Rattle.rulebody.specs.declared.body.RuleBody.{RuleBody}
use Rattle.rulebody.specs.declared.body.RuleBody.TheVariants.{Threshold, Listed}
use Rattle.rulebody.specs.Format.{byte, word, IsThreshold, IsListed, SetsAt}

-- The body that stands in the bytes: exactly their numbers and sets, wide before narrow.
abbrev pub StandsIn : List ℕ → RuleBody → Type 0
StandsIn bytes (Threshold n s a) =
    IsThreshold bytes × (n ≡ byte bytes 1) × (s ≡ byte bytes 2) × (a ≡ byte bytes 3)
StandsIn bytes (Listed n wide narrow) =
    IsListed bytes × (n ≡ byte bytes 1) × SetsAt bytes 4 (byte bytes 2) wide.items
    × SetsAt bytes (4 + 2 * byte bytes 2) (byte bytes 3) narrow.items

-- Reading answers the body; or that the form is wrong, where no body can stand in the bytes; or that memory is short,
-- where there are sets to keep.
abbrev pub BodyRead : List ℕ → Result RuleBody Fault → Type 0
BodyRead bytes (Ok body) = StandsIn bytes body
BodyRead bytes (Err Form) = (IsThreshold bytes → ⊥) × (IsListed bytes → ⊥)
BodyRead bytes (Err Memory) = IsListed bytes × (0 < byte bytes 2 + byte bytes 3)
BodyRead bytes (Err Size) = ⊥
BodyRead bytes (Err NarrowBeyondWide) = ⊥
BodyRead bytes (Err Cover) = ⊥
BodyRead bytes (Err (CoveredBy three)) = ⊥
BodyRead bytes (Err Lists) = ⊥

-- The pairs of bytes are w wide and m narrow sets, none with a bit above 9.
abbrev pub HoldSets : ℕ → ℕ → List (List ℕ) → Type 0
HoldSets w m pairs = (length pairs ≡ w + m) × All (λ p. word p 0 < 1024) pairs

-- Reading the lists of a body answers a listed rule of n stations with these sets; or that the form is wrong, where the
-- pairs are not so many sets; or that memory is short, where there are sets to keep.
abbrev pub ListsRead : ℕ → ℕ → ℕ → List (List ℕ) → Result RuleBody Fault → Type 0
ListsRead n w m pairs (Ok (Threshold n' s a)) = ⊥
ListsRead n w m pairs (Ok (Listed n' wide narrow)) =
    HoldSets w m pairs × (n' ≡ n) × (wide.items ≡ map (λ p. word p 0) (take w pairs))
    × (narrow.items ≡ map (λ p. word p 0) (drop w pairs))
ListsRead n w m pairs (Err Form) = HoldSets w m pairs → ⊥
ListsRead n w m pairs (Err Memory) = HoldSets w m pairs × (0 < w + m)
ListsRead n w m pairs (Err Size) = ⊥
ListsRead n w m pairs (Err NarrowBeyondWide) = ⊥
ListsRead n w m pairs (Err Cover) = ⊥
ListsRead n w m pairs (Err (CoveredBy three)) = ⊥
ListsRead n w m pairs (Err Lists) = ⊥

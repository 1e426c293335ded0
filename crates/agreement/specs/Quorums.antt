-- What the four laws give of quorums and blocking sets; and that stations from n on are ignored.
use Rattle.std.specs.Prelude.{◌≡◌, ℕ, true, ◌⊎◌}
use Rattle.agreement.specs.Sets.{Set, below, Part, Cover, Some, both, outside, without}
use Rattle.agreement.specs.Families.{Families, Family, Laws, DownwardClosed, Blocking, Quorum}

-- Two quorums share a station outside any narrow-tolerable set.
abbrev pub QuorumsMeet : Type 0
QuorumsMeet =
    (f : Families) → Laws f → (X Y Z : Set) → Quorum f X → Quorum f Y → f.narrow Z ≡ true
    → Some f.n (without (both X Y) Z)

-- The part of a quorum outside a narrow-tolerable set is blocking.
abbrev pub QuorumBlocks : Type 0
QuorumBlocks =
    (f : Families) → Laws f → (X Z : Set) → Quorum f X → f.narrow Z ≡ true → Blocking f (without X Z)

-- A blocking set has a station outside any wide-tolerable set.
abbrev pub BlockingReachesOut : Type 0
BlockingReachesOut =
    (f : Families) → Laws f → (X Z : Set) → Blocking f X → f.wide Z ≡ true → Some f.n (without X Z)

-- A quorum has a station outside any wide-tolerable set.
abbrev pub QuorumReachesOut : Type 0
QuorumReachesOut =
    (f : Families) → Laws f → (X Z : Set) → Quorum f X → f.wide Z ≡ true → Some f.n (without X Z)

-- The stations outside a wide-tolerable set are a quorum and are blocking.
abbrev pub ComplementSuffices : Type 0
ComplementSuffices =
    (f : Families) → Laws f → (Z : Set) → f.wide Z ≡ true → Quorum f (outside Z) × Blocking f (outside Z)

-- Of two sets that with a narrow-tolerable one hold everybody, one is blocking.
abbrev pub OneBlocks : Type 0
OneBlocks =
    (f : Families) → Laws f → (X Y Z : Set) → Cover f.n X Y Z → f.narrow Z ≡ true
    → Blocking f X ⊎ Blocking f Y

-- What holds every station of a quorum is a quorum, and what holds every station of a blocking set is blocking.
abbrev pub UpwardClosed : Type 0
UpwardClosed =
    (f : Families) → Laws f → (X Y : Set) → Part f.n X Y
    → (Quorum f X → Quorum f Y) × (Blocking f X → Blocking f Y)

-- Stations from n on are ignored.
abbrev pub Ignores : ℕ → Family → Type 0
Ignores n family = (X : Set) → family (below n X) ≡ family X

-- A family that keeps law 1 ignores the stations from n on.
abbrev pub ClosedIgnores : Type 0
ClosedIgnores = (n : ℕ) (family : Family) → DownwardClosed n family → Ignores n family

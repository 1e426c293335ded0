-- What reading the contents and the bodies of a run file answers.
use Rattle.std.specs.Prelude.{◌≡◌, ℕ, ◌*◌, List, Ok, Err, Result}
use Rattle.runfile.specs.declared.body.Body.{Body}
use Rattle.runfile.specs.declared.body.Body.TheVariants as body
use Rattle.runfile.specs.declared.fault.FileFault.{FileFault}
use Rattle.runfile.specs.declared.fault.FileFault.TheVariants.{Size, Kind, Lengths}
use Rattle.runfile.specs.Format.{body_of, HasSize, HasKinds, HasLengths, HasBodies, FirstWrongKind}

-- At this place stands the first wrong kind.
abbrev pub WrongKind : List ℕ → ℕ → Type 0
WrongKind file place = (k : ℕ) × (place ≡ 3 * k) × FirstWrongKind file k

-- The kinds are right, or the first wrong one is named, by its place.
abbrev pub KindsRead : List ℕ → Result (Unit {0}) FileFault → Type 0
KindsRead file (Ok done) = HasKinds file
KindsRead file (Err e) = (place : ℕ) × (e ≡ Kind place) × WrongKind file place

-- The bodies are the four parts of the file, in their order.
abbrev pub AreBodies : List ℕ → Body × Body × Body × Body → Type 0
AreBodies file (body.Rule a, body.Stations b, body.Coin c, body.Calls d) =
    (a.now ≡ body_of file 0) × (b.now ≡ body_of file 1) × (c.now ≡ body_of file 2) × (d.now ≡ body_of file 3)
AreBodies file bodies = ⊥

-- The fault of the contents: the size, then the first wrong kind, then the lengths.
abbrev pub ContentsFault : List ℕ → FileFault → Type 0
ContentsFault file Size = HasSize file → ⊥
ContentsFault file (Kind place) = HasSize file × WrongKind file place
ContentsFault file Lengths = HasSize file × HasKinds file × (HasLengths file → ⊥)
ContentsFault file e = ⊥

-- Reading the contents answers the bodies, or the contents' fault.
abbrev pub BodiesRead : List ℕ → Result (Body × Body × Body × Body) FileFault → Type 0
BodiesRead file (Ok bodies) = HasBodies file × AreBodies file bodies
BodiesRead file (Err e) = ContentsFault file e

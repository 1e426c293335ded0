-- What the fault rules tolerate.
use Rattle.std.specs.Prelude.{ℕ, ◌&&◌, List}
use Rattle.std.specs.List.{list_any}
use Rattle.agreement.specs.Sets.{below, inside}
use Rattle.agreement.specs.Families.{Family, Families}
pub use Rattle.agreement.specs.Thresholds.{threshold}
use Rattle.stations.specs.declared.StationSet.{StationSet}
use Rattle.stations.specs.Members.{members}

-- X lies inside a listed set.
abbrev pub within : ℕ → List StationSet → Family
within n L X = list_any (λ G. inside n X (members G)) L

-- By lists: wide is what lies inside a set of the wide list, narrow what lies inside a set of the narrow list.
abbrev pub listed : ℕ → List StationSet → List StationSet → Families
listed n W N = record { n = n; wide = within n W; narrow = within n N }

-- What both of two rules tolerate, over the stations of the first.
abbrev pub both_of : Families → Families → Families
both_of f g = record {
  n = f.n;
  wide = λ X. f.wide X && g.wide (below f.n X);
  narrow = λ X. f.narrow X && g.narrow (below f.n X);
}

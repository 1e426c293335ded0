-- A set of stations of the program, read as a test on station numbers.
use Rattle.agreement.specs.Sets.{Set, holds}
use Rattle.stations.specs.declared.StationSet.{StationSet}

-- The stations of a set of the program.
abbrev pub members : StationSet → Set
members x = holds x

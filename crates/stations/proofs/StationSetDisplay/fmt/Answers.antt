use Rattle.std.proofs.Common.{◌≡◌, ℕ, ◌+◌, ◌<◌, cond, List, [], ◌∷◌, ◌++◌, codes, decimal, refl, ap, add-one, drop-cons, arith, rules}
use Rattle.std.proofs.lemmas.Fmt.{decimal_nonempty}
use Rattle.std.proofs.lemmas.Grind.{common_steps}
use Rattle.agreement.specs.Sets.{Set}
use Rattle.stations.specs.Text.{comma, listed}
use Rattle.stations.proofs.StationSetDisplay.fmt.Goals as goal

listed_next : (n : ℕ) (X : Set) → listed (n + 1) X ≡ cond (X n) (listed n X ++ (comma (listed n X) ++ decimal n)) (listed n X)
unfolding listed
listed_next n X = rw add-one

comma_next : (n : ℕ) (t : List ℕ) → n < 16 → comma (t ++ (comma t ++ decimal n)) ≡ codes ","
comma_next n (x ∷ t) h = refl
comma_next n [] h = ap comma (drop-cons (decimal n) 0 0 (decimal_nonempty n (omega arith)))

pub loop-station-init : goal.loop-station-init
unfolding listed
loop-station-init g c = grind (arith, common_steps)

pub loop-station-preserved : goal.loop-station-preserved
loop-station-preserved g c = (search rules, grind (arith, listed_next, comma_next), grind (arith, common_steps, listed_next))

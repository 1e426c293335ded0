-- What a station passed that was not refused.
use Rattle.std.proofs.Common.{◌≡◌, ℕ, true, false, None as none, Result, Ok, Err, OnErr, arith}
use Rattle.agreement.specs.Station.{Setting, Own, is_own}
use Rattle.agreement.specs.declared.message.Message.{Message}
use Rattle.agreement.specs.Sets.{below}
use Rattle.rig.specs.Calls.{station_fault}
use Rattle.rig.specs.Settings.{between}

pub own_checked : (g : Setting) (i : ℕ) → station_fault g i ≡ none → Own g i
own_checked g i e = grind (arith, e)

pub guests_message : (g : Setting) (m : Message) → below 16 g.guest m.sender ≡ true → between (is_own g) m ≡ false
guests_message g m e = grind (arith, e)

pub on_err : {A E X : Type 0} (r : Result A E) → X → OnErr r X
on_err (Ok a) x = tt
on_err (Err e) x = x

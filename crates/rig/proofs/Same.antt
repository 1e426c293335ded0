-- Rigs that differ in nothing.
use Rattle.std.proofs.Common.{◌≡◌, ◌*◌, ◌≤◌, subst, sym}
use Rattle.std.proofs.Math.Nat.{ℕ_set}
use Rattle.std.proofs.Math.Bridge.{le_prop}
use Rattle.faults.specs.declared.rule.FaultRule.{Ghosts as FaultRule}
use Rattle.network.specs.declared.Network.{Ghosts as Network}
use Rattle.coins.specs.declared.Coin.{Ghosts as Coin}
use Rattle.agreement.specs.Station.{is_own}
use Rattle.agreement.specs.Said.{said_by_all}
use Rattle.rig.specs.Settings.{setting_of, count_between}
use Rattle.rig.specs.Tables.{station_in}
use Rattle.rig.specs.declared.table.StationTable.{StationTable}
use Rattle.rig.specs.declared.rig.Rig.{Rig}

module _ {F N C : Type 0} {f : FaultRule F} {n : Network N} {c : Coin C} (o : Rig F N C f n c) where
  abbrev PostedIs : StationTable → Type 0
  PostedIs S = o.posted ≡ (f.families o.rule).n * said_by_all (f.families o.rule).n (4 * o.setup.rounds.count) (station_in S)

  abbrev UnderWay : N → Type 0
  UnderWay w = o.under_way ≡ count_between (is_own (setting_of (f.families o.rule) o.setup (c.bits o.coin))) (n.net.waiting w)

  abbrev with_parts : (w : N) (S : StationTable) → PostedIs S → UnderWay w → o.under_way ≤ o.posted → Rig F N C f n c
  with_parts w S p q r = record {
    rule = o.rule;
    network = w;
    coin = o.coin;
    setup = o.setup;
    stations = S;
    last = o.last;
    posted = o.posted;
    missing = o.missing;
    under_way = o.under_way;
    posted_is = p;
    under_way_is = q;
    under_way_posted = r;
  }

  -- with the network and the stations that it had
  pub unchanged : (w : N) (S : StationTable) (p : PostedIs S) (q : UnderWay w) (r : o.under_way ≤ o.posted)
      → w ≡ o.network → S ≡ o.stations → with_parts w S p q r ≡ o
  unchanged w S p q r d e =
      subst (λ T. (t : PostedIs T) → with_parts w T t q r ≡ o) (sym e)
      (λ t. subst (λ v. (u : UnderWay v) → with_parts v o.stations t u r ≡ o) (sym d)
      (λ u i. with_parts o.network o.stations (ℕ_set o.posted _ t o.posted_is i) (ℕ_set o.under_way _ u o.under_way_is i)
      (le_prop r o.under_way_posted i)) q) p

-- A rig, read as the model's.
use Rattle.std.specs.Prelude.{◌≡◌, ℕ}
use Rattle.agreement.specs.declared.message.Message.{Message}
use Rattle.agreement.specs.Networks.{Exits}
use Rattle.agreement.specs.Station.{Setting}
use Rattle.agreement.specs.Rig as model
use Rattle.faults.specs.declared.rule.FaultRule.{Ghosts as FaultRule}
use Rattle.network.specs.declared.Network.{Ghosts as Network}
use Rattle.coins.specs.declared.Coin.{Ghosts as Coin}
use Rattle.rig.specs.Settings.{setting_of}
use Rattle.rig.specs.Tables.{station_in}
use Rattle.rig.specs.declared.rig.Rig.{Rig}

module _ {F N C : Type 0} {f : FaultRule F} {n : Network N} {c : Coin C} where
  -- What the rig was opened with.
  abbrev pub setting : Rig F N C f n c → Setting
  setting r = setting_of (f.families r.rule) r.setup (c.bits r.coin)

  -- The rig.
  abbrev pub view : Rig F N C f n c → model.Rig N
  view r = record {
    station = station_in r.stations;
    network = r.network;
    last = r.last;
    posted = r.posted;
    missing = r.missing;
  }

  -- What no call changes.
  pub record Kept (r r' : Rig F N C f n c) : Type 0 where
    pub rule : r'.rule ≡ r.rule
    pub coin : r'.coin ≡ r.coin
    pub setup : r'.setup ≡ r.setup
    pub floor : n.floor r'.network ≡ n.floor r.network

  -- By a hint a message is taken off the network.
  pub record TakenOff (hint : ℕ) (m : Message) (r r' : Rig F N C f n c) : Type 0 where
    pub exits : Exits n.net hint m r.network r'.network
    pub kept : Kept r r'
    pub stations : r'.stations ≡ r.stations
    pub last : r'.last ≡ r.last
    pub posted : r'.posted ≡ r.posted
    pub missing : r'.missing ≡ r.missing

-- The first fault of a file, by that of the body that has it.
use Rattle.std.proofs.Common.{subst, ◌<◌, ◌≡◌, ℕ, suc, ◌+◌, ◌≤◌, List, length, drop, Some, None, sym, inl, inr, arith, length-drop}
use Rattle.std.proofs.lemmas.List.{length-take-le}
use Rattle.rulebody.specs.Format.{byte}
use Rattle.rig.specs.declared.setup.Setup.{Setup as SetUp}
use Rattle.rig.specs.Setups.{new_fault}
use Rattle.runfile.specs.declared.station_body.NetworkKind.{NetworkKind}
use Rattle.runfile.specs.declared.coin.FileCoin.{FileCoin}
use Rattle.runfile.specs.declared.coin.FileCoin.TheVariants.{Table, Seed}
use Rattle.runfile.specs.declared.fault.FileFault.{FileFault}
use Rattle.runfile.specs.Format.{length_of, place_of, body_of, HasBodies}
use Rattle.runfile.specs.Stations.{IsStations}
use Rattle.runfile.specs.Coins.{IsCoin, CoinRead}
use Rattle.runfile.specs.Parts.{SaysStations}
use Rattle.runfile.specs.Files.{GoodBefore, BodyFault, FirstFault}

-- a body that says something is good
pub good_stations : (body : List ℕ) (network : NetworkKind) (setup : SetUp) → SaysStations body network setup
    → IsStations body × (new_fault (byte body 1) ≡ None)
good_stations body network setup s =
    (s.0, rw (sym s.2.rounds) (grind (arith, setup.rounds.from_1, setup.rounds.to_8)))

pub good_coin : (body : List ℕ) (coin : FileCoin) → CoinRead body (Some coin) → IsCoin body
good_coin body (Table c) r = inl r.0
good_coin body (Seed c) r = inr r.0

module _ (file : List ℕ) (has : HasBodies file) where
  -- a body is as long as the contents say
  body_length : (k : ℕ) → place_of file (suc k) ≤ length file → length (body_of file k) ≡ length_of file k
  body_length k h = length-take-le (length_of file k) (drop (place_of file k) file) (omega (arith, length-drop (place_of file k) file, h))

  first_length : length (body_of file 0) ≡ length_of file 0
  first_length = body_length 0 (omega (arith, has.2))

  second_length : length (body_of file 1) ≡ length_of file 1
  second_length = body_length 1 (omega (arith, has.2))

  third_length : length (body_of file 2) ≡ length_of file 2
  third_length = body_length 2 (omega (arith, has.2))

  pub first_end : 12 + length (body_of file 0) ≡ place_of file 1
  first_end = omega (arith, first_length)

  pub second_end : 12 + length (body_of file 0) + length (body_of file 1) ≡ place_of file 2
  second_end = omega (arith, first_length, second_length)

  pub third_end : 12 + length (body_of file 0) + length (body_of file 1) + length (body_of file 2) ≡ place_of file 3
  third_end = omega (arith, first_length, second_length, third_length)

-- the fault of a body, found at its place, is the file's first
pub refused : (file : List ℕ) (k place : ℕ) (e : FileFault) → k < 4 → place ≡ place_of file k → GoodBefore k file
    → BodyFault k (body_of file k) place e → FirstFault file e
refused file k place e h p g f = inr (k, h, g, subst (λ x. BodyFault k (body_of file k) x e) p f)

-- What is read of a file is determined by the file.
use Rattle.std.proofs.Common.{◌≡◌, ◌≢◌, ℕ, zero, suc, ◌<◌, ◌+◌, List, [], ◌∷◌, Some as some, None as none, Option, Err, inl, inr, refl, ap, sym, ◌∙◌, arith}
use Rattle.agreement.proofs.Tests.{same?}
use Rattle.faults.specs.declared.fault.Fault.{Fault}
use Rattle.faults.specs.declared.fault.Fault.TheVariants.{Memory as RuleMemory}
use Rattle.faults.specs.Faults.{number as rule_number}
use Rattle.rig.specs.declared.fault.SetupFault.{SetupFault}
use Rattle.rig.specs.Setups.{new_fault}
use Rattle.rulebody.specs.Format.{byte}
use Rattle.calls.specs.Format.{BreakAt}
use Rattle.calls.proofs.OneWay.{calls_in_one_way, broken_are_no_calls, break_in_one_place}
use Rattle.runfile.specs.declared.coin.FileCoin.{FileCoin}
use Rattle.runfile.specs.declared.coin.FileCoin.TheVariants.{Table, Seed}
use Rattle.runfile.specs.declared.station_body.NetworkKind.{NetworkKind}
use Rattle.runfile.specs.declared.station_body.NetworkKind.TheVariants.{Bag, Lanes}
use Rattle.runfile.specs.declared.fault.FileFault.{FileFault}
use Rattle.runfile.specs.declared.fault.FileFault.TheVariants.{Size, Kind, Lengths, Rule, Form, Setup, Call, Memory}
use Rattle.runfile.specs.Format.{place_of, body_of, HasSize, HasKind, HasKinds, HasLengths, HasBodies}
use Rattle.runfile.specs.Bodies.{WrongKind, ContentsFault}
use Rattle.runfile.specs.Faults.{number}
use Rattle.runfile.specs.Rules.{RuleRead, SayRule}
use Rattle.runfile.specs.Stations.{network_code, IsStations}
use Rattle.runfile.specs.Coins.{IsCoin, CoinRead}
use Rattle.runfile.specs.Parts.{RuleFault, StationsFault, CoinFault, CallsFault}
use Rattle.runfile.specs.Files.{AreCalls, GoodBefore, WellFormed, BodyFault, FirstFault}
use Rattle.runfile.specs.Theorems.{SaidIsWellFormed, WellFormedHasNoFault, SaidHasNoFault, OneFirstFault, OneRun}
use Rattle.runfile.proofs.Refusals.{good_stations, good_coin}
use Rattle.runfile.proofs.Checks.{Check, fixed, telling, Answers, answers_once, first_once}
use Rattle.runfile.proofs.RuleOnce.{fault_once, rule_once}

-- a rule's fault other than that memory is short
abbrev MeantFault : List ℕ → Fault → Type 0
MeantFault body e = (some e ≢ some RuleMemory) × RuleRead body (Err e)

-- what is wrong is determined
wrong_once : (file : List ℕ) (j k : ℕ) → WrongKind file j → WrongKind file k → j ≡ k
wrong_once file j k w v =
    let e : w.0 ≡ v.0 = first_once (λ i. HasKind file i → ⊥) w.0 v.0 (w.2.1, λ i h p. p (w.2.2 i h)) (v.2.1, λ i h p. p (v.2.2 i h)) in
    omega (arith, e, w.1, v.1)

rule_fault_once : (body : List ℕ) (d e : Fault) → MeantFault body d → MeantFault body e → d ≡ e
rule_fault_once body d e f g = let same = fault_once body (some d) (some e) f.1 g.1 f.0 g.0 in cc same

setup_fault_once : (rounds : ℕ) (d e : SetupFault) → new_fault rounds ≡ some d → new_fault rounds ≡ some e → d ≡ e
setup_fault_once rounds d e f g = cc (f, g)

-- what is checked of the bodies
abbrev body_checks : List ℕ → List (Check (Option FileFault))
body_checks file =
    let rounds = byte (body_of file 1) 1 in
    telling (SayRule (body_of file 0)) (λ e. some (Rule e (place_of file 0))) (MeantFault (body_of file 0)) (rule_fault_once (body_of file 0))
    ∷ fixed (IsStations (body_of file 1)) (some (Form (place_of file 1)))
    ∷ telling (new_fault rounds ≡ none) (λ e. some (Setup e (place_of file 1))) (λ e. new_fault rounds ≡ some e) (setup_fault_once rounds)
    ∷ fixed (IsCoin (body_of file 2)) (some (Form (place_of file 2)))
    ∷ telling (AreCalls (body_of file 3)) (λ j. some (Call (place_of file 3 + j))) (λ j. BreakAt j (body_of file 3)) (break_in_one_place (body_of file 3))
    ∷ []

-- and before that of the contents
abbrev checks : List ℕ → List (Check (Option FileFault))
checks file =
    fixed (HasSize file) (some Size)
    ∷ telling (HasKinds file) (λ k. some (Kind k)) (WrongKind file) (wrong_once file)
    ∷ fixed (HasLengths file) (some Lengths)
    ∷ body_checks file

module _ (file : List ℕ) where
  -- where there are bodies, they give the answer
  with_bodies : (x : Option FileFault) → HasBodies file → Answers none (body_checks file) x → Answers none (checks file) x
  with_bodies x has a = inr (has.0, inr (has.1, inr (has.2, a)))

  -- where the rule has a fault, none can be made
  no_rule : (e : Fault) → MeantFault (body_of file 0) e → SayRule (body_of file 0) → ⊥
  no_rule e f s = let same = fault_once (body_of file 0) none (some e) s f.1 (λ m. cc) f.0 in cc

  -- a well-formed file has no fault, and a first fault is the answer
  good_answers : WellFormed file → Answers none (checks file) none
  good_answers w =
      let g = w.0 in
      with_bodies none g.0.0.0 (inr (g.0.0.1, inr (g.0.1.0, inr (g.0.1.1, inr (g.1, inr (w.1, refl))))))

  contents_answers : (e : FileFault) → ContentsFault file e → Answers none (checks file) (some e)
  contents_answers Size f = inl (f, refl)
  contents_answers (Kind p) f = inr (f.0, inl (λ h. f.1.2.1 (h f.1.0 f.1.2.0), (p, refl, f.1)))
  contents_answers Lengths f = inr (f.0, inr (f.1, inl (f.2, refl)))
  contents_answers (Rule e p) f = absurd f
  contents_answers e f = absurd f

  rule_answers : (e : FileFault) → number e ≢ 51 → GoodBefore 0 file → RuleFault (body_of file 0) 12 e
      → Answers none (checks file) (some e)
  rule_answers (Rule e p) k g f =
      let m : some e ≢ some RuleMemory = λ h. let same : e ≡ RuleMemory = cc in k (ap rule_number same) in
      with_bodies (some (Rule e p)) g (inl (no_rule e (m, f.1), (e, ap (λ j. some (Rule e j)) f.0, (m, f.1))))
  rule_answers e k g f = absurd f

  stations_answers : (e : FileFault) → GoodBefore 1 file → StationsFault (body_of file 1) (place_of file 1) e
      → Answers none (checks file) (some e)
  stations_answers (Form p) g f = with_bodies (some (Form p)) g.0 (inr (g.1, inl (f.1, ap (λ j. some (Form j)) f.0)))
  stations_answers (Setup e p) g f =
      with_bodies (some (Setup e p)) g.0 (inr (g.1, inr (f.1, inl (λ h. cc (h, f.2), (e, ap (λ j. some (Setup e j)) f.0, f.2)))))
  stations_answers e g f = absurd f

  coin_answers : (e : FileFault) → GoodBefore 2 file → CoinFault (body_of file 2) (place_of file 2) e
      → Answers none (checks file) (some e)
  coin_answers (Form p) g f =
      with_bodies (some (Form p)) g.0.0 (inr (g.0.1, inr (g.1.0, inr (g.1.1, inl (f.1, ap (λ j. some (Form j)) f.0)))))
  coin_answers e g f = absurd f

  calls_answers : (e : FileFault) → number e ≢ 51 → GoodBefore 3 file → CallsFault (body_of file 3) (place_of file 3) e
      → Answers none (checks file) (some e)
  calls_answers (Call p) k g f =
      with_bodies (some (Call p)) g.0.0.0
      (inr (
        g.0.0.1,
        inr (
          g.0.1.0,
          inr (
            g.0.1.1,
            inr (
              g.1,
              inl (λ h. broken_are_no_calls h.0 (body_of file 3) f.0 f.2 h.1, (f.0, ap (λ j. some (Call j)) f.1, f.2)),
            ),
          ),
        ),
      ))
  calls_answers (Memory p) k g f = absurd (k refl)
  calls_answers e k g f = absurd f

  body_answers : (k : ℕ) (e : FileFault) → number e ≢ 51 → k < 4 → GoodBefore k file
      → BodyFault k (body_of file k) (place_of file k) e → Answers none (checks file) (some e)
  body_answers zero e n h g f = rule_answers e n g f
  body_answers (suc zero) e n h g f = stations_answers e g f
  body_answers (suc (suc zero)) e n h g f = coin_answers e g f
  body_answers (suc (suc (suc zero))) e n h g f = calls_answers e n g f
  body_answers (suc (suc (suc (suc k)))) e n h g f = absurd (omega (arith, h))

  fault_answers : (e : FileFault) → number e ≢ 51 → FirstFault file e → Answers none (checks file) (some e)
  fault_answers e n (inl f) = contents_answers e f
  fault_answers e n (inr f) = body_answers f.0 e n f.1 f.2 f.3

  once : (x y : Option FileFault) → Answers none (checks file) x → Answers none (checks file) y → x ≡ y
  once x y a b = answers_once none (checks file) x y a b

pub one_first_fault : OneFirstFault
one_first_fault file d e f g k l =
    let same = once file (some d) (some e) (fault_answers file d k f) (fault_answers file e l g) in cc same

pub well_formed_has_no_fault : WellFormedHasNoFault
well_formed_has_no_fault file e w f = elim (same? (number e) 51) [
  | inl h ↦ h
  | inr h ↦
      let k : number e ≢ 51 = λ same. cc (h, same) in
      let same = once file none (some e) (good_answers file w) (fault_answers file e k f) in cc same
]

pub said_is_well_formed : SaidIsWellFormed
said_is_well_formed file run s =
    let stations = good_stations (body_of file 1) run.network run.setup s.stations in
    ((((s.bodies, (run.rule, s.rule)), stations), good_coin (body_of file 2) run.coin s.coin), (run.calls.items, s.calls))

pub said_has_no_fault : SaidHasNoFault
said_has_no_fault file run e s f = well_formed_has_no_fault file e (said_is_well_formed file run s) f

-- a network is determined by its code, and a coin by its body
network_once : (m n : NetworkKind) → network_code m ≡ network_code n → m ≡ n
network_once Bag Bag e = refl
network_once Bag Lanes e = cc
network_once Lanes Bag e = cc
network_once Lanes Lanes e = refl

coin_once : (body : List ℕ) (c d : FileCoin) → CoinRead body (some c) → CoinRead body (some d) → c ≡ d
coin_once body (Table c) (Table d) r s = ap (λ t. Table (record { table = t })) (r.1 ∙ sym s.1)
coin_once body (Table c) (Seed d) r s = absurd (omega (arith, r.0, s.0))
coin_once body (Seed c) (Table d) r s = absurd (omega (arith, r.0, s.0))
coin_once body (Seed c) (Seed d) r s = ap (λ t. Seed (record { seed = t })) (r.1 ∙ sym s.1)

pub one_run : OneRun
one_run file run other s t = record {
  rule = rule_once (body_of file 0) run.rule other.rule s.rule t.rule;
  network = network_once run.network other.network (s.stations.1 ∙ sym t.stations.1);
  rounds = s.stations.2.rounds ∙ sym t.stations.2.rounds;
  guests = s.stations.2.guests ∙ sym t.stations.2.guests;
  openings = s.stations.2.openings ∙ sym t.stations.2.openings;
  coin = coin_once (body_of file 2) run.coin other.coin s.coin t.coin;
  calls = calls_in_one_way run.calls.items other.calls.items (s.calls ∙ sym t.calls);
}

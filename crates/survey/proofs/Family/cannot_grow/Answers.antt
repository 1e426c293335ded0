use Rattle.std.proofs.Common.{◌≡◌, ℕ, ◌<◌, ◌≤◌, Bool, true, false, length, sym, arith, rules, tests}
use Rattle.std.proofs.lemmas.Iterator.{cases_from_all, YieldsList-from_range}
use Rattle.std.proofs.lemmas.List.FromFn.{length-range_with_len, get_or-range_with_len}
use Rattle.std.specs.Bool.{MatchBool}
use Rattle.std.specs.List.{range_with_len, AllWithin, HoldsAt}
use Rattle.agreement.specs.Sets.{every}
use Rattle.agreement.proofs.Sets.{every_at, every_from}
use Rattle.stations.specs.Members.{members}
use Rattle.survey.specs.Largest.{cannot_gain}
use Rattle.survey.proofs.Family.cannot_grow.Goals as goal

-- what the closure says of a station with this answer
abbrev said : (ℕ → Bool) → Bool → ℕ → Type 0
said test b i = i < 16 → test i ≡ b

-- what `all` over the numbers below n answered is whether each of them passes the test
all_below : (n : ℕ) (test : ℕ → Bool) (r : Bool) → n ≤ 16
    → MatchBool r (AllWithin (said test true) (range_with_len 0 n) 0 (length (range_with_len 0 n)))
    ((k : ℕ) × (k < length (range_with_len 0 n)) × HoldsAt (said test false) (range_with_len 0 n) k)
    → r ≡ every n test
all_below n test true h m = sym (every_from n test (λ j l. grind (arith, get_or-range_with_len 0 n j 0, length-range_with_len, m j 0)))
all_below n test false h m = grind (arith, every_at n test, get_or-range_with_len 0 n m.0 0, length-range_with_len, m.2 0)

pub returns : goal.returns
returns g c =
    let rule = c.args.self.now.rule.now in
    let n = c.size.result in
    let test = cannot_gain (g.F.FaultRule.families rule) c.args.self.now.sense (members c.args.x) in
    rw (← c.size.ensures)
    (all_below n test c.all.result (omega (arith, c.size.ensures, g.met.F.FaultRule.sized rule))
    (cases_from_all _ _ _ (said test true) (said test false) c.all.ensures.ran
    (YieldsList-from_range 0 n n (cc) (omega arith)) (λ i q k. search (rules, tests)) (λ i q k. search (rules, tests))))

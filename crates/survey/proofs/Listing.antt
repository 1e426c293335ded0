-- The numbers below k that pass a test, in their order.
use Rattle.std.proofs.Common.{◌≡◌, ℕ, zero, suc, ◌<◌, Bool, true, List, [], ◌∷◌, refl, arith, filter, Contains, ◌^◌, Ok, Err, Result, Vec, IfOk}
use Rattle.std.proofs.lemmas.Bool.{cond_both}
use Rattle.std.proofs.lemmas.List.Elements.{All-filter, filter_passes, All-weaker}
use Rattle.std.proofs.lemmas.List.FromFn.{length-range_with_len, get_or-range_with_len}
use Rattle.std.proofs.lemmas.List.Kept.{AllPairs-filter}
use Rattle.std.specs.List.{range_with_len}
use Rattle.agreement.specs.Sets.{holds}
use Rattle.agreement.specs.Families.{Families, Laws}
use Rattle.std.specs.declared.alloc.Global.{Global}
use Rattle.std.specs.declared.alloc.AllocError.{AllocError}
use Rattle.stations.specs.declared.StationSet.{StationSet}
use Rattle.stations.specs.Members.{members}
use Rattle.faults.specs.declared.rule.Sense.{Sense}
use Rattle.faults.specs.RuleLaws.{sense_parts}
use Rattle.survey.proofs.Growing.{maximal_largest, largest_maximal}
use Rattle.survey.specs.Largest.{Largest, maximal, Lists, AllLargest}

-- what passes the test is kept
contains_filter : (test : ℕ → Bool) (xs : List ℕ) (x : ℕ) → Contains xs x → test x ≡ true → Contains (filter test xs) x
contains_filter test [] x c t = absurd (omega (arith, c.1))
contains_filter test (y ∷ ys) x (zero, h, e) t = rw (e, t) (0, omega arith, refl)
contains_filter test (y ∷ ys) x (suc k, h, e) t =
    let r = contains_filter test ys x (k, omega (arith, h), e) t in
    cond_both (test y) (y ∷ filter test ys) (filter test ys) (λ zs. Contains zs x) (λ _. (suc r.0, omega (arith, r.1), r.2)) (λ _. r)

pub lists_filter : (P : ℕ → Type 0) (test : ℕ → Bool) → ((x : ℕ) → test x ≡ true → P x) → ((x : ℕ) → P x → test x ≡ true)
    → (k : ℕ) → Lists k P (filter test (range_with_len 0 k))
lists_filter P test sound whole k = record {
  under = All-filter test (λ x. x < k) all (λ i d h. grind (arith, length-range_with_len, get_or-range_with_len));
  keep = All-weaker (λ x. test x ≡ true) P sound (filter test all) (filter_passes test all);
  ascend = AllPairs-filter (λ x y. x < y) test all (λ i j d h b. grind (arith, length-range_with_len, get_or-range_with_len));
  all = λ x h p. contains_filter test all x (x, grind (arith, length-range_with_len), grind (arith, get_or-range_with_len)) (whole x p);
}
  where
    all : List ℕ
    all = range_with_len 0 k

-- the maximal sets, in their order, are the largest ones
pub all_largest : (f : Families) (s : Sense) (r : Result (Vec StationSet Global) AllocError) → Laws f
    → IfOk r (λ v. v.items ≡ filter (λ x. maximal f s (members x)) (range_with_len 0 (2 ^ f.n))) → IfOk r (λ v. AllLargest f s v.items)
all_largest f s (Err e) l m = m
all_largest f s (Ok v) l m =
    rw m
    (lists_filter (λ x. Largest f s (holds x)) (λ x. maximal f s (holds x)) (λ x. maximal_largest f s (holds x) (sense_parts f l s))
    (λ x. largest_maximal f s (holds x)) (2 ^ f.n))

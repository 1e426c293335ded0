-- Proved: threshold and listed families keep the four laws, and so does what both of two rules tolerate.
use Rattle.std.proofs.Common.{◌≡◌, ℕ, min, ◌<◌, ◌≤◌, Bool, true, false, ◌&&◌, nat_lt, List, length, refl, arith, ltb-true}
use Rattle.agreement.specs.Sets.{Set, below, outside}
use Rattle.agreement.specs.Families.{Family, Families, DownwardClosed, Laws}
use Rattle.agreement.proofs.Tests.{and_left, and_right, and_both}
use Rattle.agreement.proofs.Quorums.{closed_ignores}
use Rattle.agreement.proofs.Sets.{part_inside}
pub use Rattle.agreement.proofs.Thresholds.{threshold_laws}
use Rattle.stations.specs.declared.StationSet.{StationSet}
use Rattle.stations.specs.Members.{members}
use Rattle.faults.specs.Rules.{listed, both_of}
use Rattle.faults.specs.declared.rule.Sense.{Sense}
use Rattle.faults.specs.declared.rule.Sense.TheVariants.{Wide, Narrow}
use Rattle.faults.specs.Senses.{family}
use Rattle.faults.specs.Lists.{at, Nested, Apart}
use Rattle.faults.specs.WithinLemmas.{within_decides, within_parts, cover_larger}

pub listed_laws : (n : ℕ) (W N : List StationSet) → 0 < length N → Nested n N W → Apart n N W → Laws (listed n W N)
listed_laws n W N some nested apart = record {
  wide_parts = within_parts n W;
  narrow_parts = within_parts n N;
  narrow_is_wide = λ X h.
      let r = (within_decides n N X).0 h in within_parts n W X (members (at N r.0)) (r.2 0) (nested.each r.0 0 r.1);
  empty_is_narrow = (within_decides n N (λ _. false)).1 (0, some, λ d j h e. cc);
  no_cover = λ X Y Z x y z c.
      let i = (within_decides n N Z).0 z in
      let j = (within_decides n W X).0 x in
      let k = (within_decides n W Y).0 y in
      let X' = members (at W j.0) in
      let Y' = members (at W k.0) in
      let Z' = members (at N i.0) in
      let covers =
      cover_larger n X Y Z X' Y' Z' (part_inside n X X' (j.2 0)) (part_inside n Y Y' (k.2 0)) (part_inside n Z Z' (i.2 0)) c
      in
      cc (covers, apart.none i.0 j.0 k.0 i.1 j.1 k.1);
}

-- what a family and another, which is shown the stations below n alone, both tolerate
pub both_parts : (n m : ℕ) (F G : Family) → DownwardClosed n F → DownwardClosed m G → DownwardClosed n (λ X. F X && G (below n X))
both_parts n m F G f g X Y p h =
    and_both (f X Y p (and_left (F Y) (G (below n Y)) h))
    (g (below n X) (below n Y) (λ j _ e. narrowed j (nat_lt j n) refl e) (and_right (F Y) (G (below n Y)) h))
  where
    narrowed : (j : ℕ) (b : Bool) → nat_lt j n ≡ b → (b && X j) ≡ true → (b && Y j) ≡ true
    narrowed j true e h = p j (ltb-true j n e) h
    narrowed j false e h = cc

pub both_laws : (f g : Families) → Laws f → Laws g → Laws (both_of f g)
both_laws f g p q = record {
  wide_parts = both_parts f.n g.n f.wide g.wide p.wide_parts q.wide_parts;
  narrow_parts = both_parts f.n g.n f.narrow g.narrow p.narrow_parts q.narrow_parts;
  narrow_is_wide = λ X h.
      and_both (p.narrow_is_wide X (and_left (f.narrow X) (g.narrow (below f.n X)) h))
      (q.narrow_is_wide (below f.n X) (and_right (f.narrow X) (g.narrow (below f.n X)) h));
  empty_is_narrow =
      and_both p.empty_is_narrow
      (q.narrow_parts (below f.n (λ _. false)) (λ _. false) (λ j h e. and_right (nat_lt j f.n) false e) q.empty_is_narrow);
  no_cover = λ X Y Z x y z c. p.no_cover X Y Z (and_left (f.wide X) _ x) (and_left (f.wide Y) _ y) (and_left (f.narrow Z) _ z) c;
}

-- whether the stations of the rule outside a set are wide-tolerable
pub wide_of_others : (f : Families) (X : Set) → Laws f → f.n ≤ 10 → f.wide (below (min f.n 16) (outside X)) ≡ f.wide (outside X)
wide_of_others f X l h = let n : min f.n 16 ≡ f.n = omega arith in rw n (closed_ignores f.n f.wide l.wide_parts (outside X))

-- the family of either sense has every part of its sets
pub sense_parts : (f : Families) → Laws f → (sense : Sense) → DownwardClosed f.n (family f sense)
sense_parts f l Wide = l.wide_parts
sense_parts f l Narrow = l.narrow_parts

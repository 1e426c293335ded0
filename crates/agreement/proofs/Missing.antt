-- The count of missing messages fits into 32 bits and never falls.
use Rattle.std.proofs.Common.{ℕ, ◌≤◌, Some as some, None as none, Option, arith}
use Rattle.agreement.specs.Messages.{Payload}
use Rattle.agreement.specs.Networks.{Network}
use Rattle.agreement.specs.Station.{Setting, speech}
use Rattle.agreement.specs.Rig.{Rig, Call, Step, Broadcasts, Answer, acted, delivered, sent, lost, repeated, refused}
use Rattle.agreement.specs.Theorems.{MissingFits, MissingGrows}
use Rattle.agreement.proofs.Runs.{kept}

-- the count is at least m, and fits
record Counts {N : Type 0} (m : ℕ) (r : Rig N) : Type 0 where
  least : m ≤ r.missing
  fits : r.missing ≤ 4294967295

module _ {N : Type 0} (net : Network N) (g : Setting) (m : ℕ) where
  spoken_counts : (i : ℕ) (o : Option Payload) (r r' : Rig N) → Counts m r → Broadcasts net g i o r r' → Counts m r'
  spoken_counts i none r r' f b = record { least = omega (arith, b.2); fits = omega (arith, b.2) }
  spoken_counts i (some p) r r' f b = record { least = omega (arith, b.3); fits = omega (arith, b.3) }

  step_counts : (c : Call) (a : Answer) (r r' : Rig N) → Counts m r → Step net g c a r r' → Counts m r'
  step_counts c (acted i a) r r' f s = spoken_counts i (speech a (r.station i)) r r' f s.1.posts
  step_counts c (delivered x b) r r' f s =
      let e = s.2.counts.1 in record { least = omega arith; fits = omega arith }
  step_counts c sent r r' f s = record { least = omega (arith, s.4.2); fits = omega (arith, s.4.2) }
  step_counts c (lost x) r r' f s = record { least = omega (arith, s.2.2); fits = omega (arith, s.2.2) }
  step_counts c (repeated x) r r' f s = record { least = omega (arith, s.2.2); fits = omega (arith, s.2.2) }
  step_counts c (refused k) r r' f s = rw s.1 f

pub missing_fits : {N : Type 0} → MissingFits N
missing_fits net g w calls answers o r h p =
    let start : Counts 0 o = record { least = omega arith; fits = omega (arith, h.missing) } in
    (kept net g (Counts 0) (step_counts net g 0) calls answers o r p start).fits

pub missing_grows : {N : Type 0} → MissingGrows N
missing_grows net g calls answers r r' p f =
    (kept net g (Counts r.missing) (step_counts net g r.missing) calls answers r r' p record { least = omega arith; fits = f }).least

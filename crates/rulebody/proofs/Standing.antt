-- The body of a listed rule, by the pairs of bytes that stand after its first four.
use Rattle.std.proofs.Common.{◌≡◌, ℕ, ◌+◌, ◌*◌, ◌<◌, ◌≤◌, List, [], map, length, get_or, take, drop, Ok, Err, Result, ap, ◌∙◌, arith, length-drop}
use Rattle.std.proofs.lemmas.List.{get_or-drop, get_or-take, get_or-map, get_or_default, length-take-le, length-map}
use Rattle.faults.specs.declared.fault.Fault.{Fault}
use Rattle.faults.specs.declared.fault.Fault.TheVariants.{Size, NarrowBeyondWide, Cover, CoveredBy, Lists, Form, Memory}
use Rattle.rulebody.specs.declared.body.RuleBody.{RuleBody}
use Rattle.rulebody.specs.declared.body.RuleBody.TheVariants.{Threshold, Listed}
use Rattle.rulebody.specs.Format.{byte, word, ArePairs, IsListed, SetsAt}
use Rattle.rulebody.specs.Bodies.{HoldSets, BodyRead, ListsRead}

-- numbers of a part of the pairs
part_at : (bytes : List ℕ) (part : List (List ℕ)) (from count : ℕ) → length part ≡ count
    → ((i : ℕ) → i < count → word (get_or part i []) 0 ≡ word bytes (from + 2 * i)) → SetsAt bytes from count (map (λ p. word p 0) part)
part_at bytes part from count l same = (
  length-map part (λ p. word p 0) ∙ l,
  λ i h. get_or-map (λ p. word p 0) part i [] 0 (omega arith) ∙ same i h,
)

-- pairs that are what stands after the first four bytes
module _ (bytes sets : List ℕ) (pairs : List (List ℕ)) (tail : sets ≡ drop 4 bytes) (four : 4 ≤ length bytes) (two : byte bytes 0 ≡ 2)
    (by_two : ArePairs pairs sets) where
  abbrev w : ℕ
  w = byte bytes 2

  abbrev m : ℕ
  m = byte bytes 3

  at_place : (i : ℕ) → i < length pairs → word (get_or pairs i []) 0 ≡ word bytes (4 + 2 * i)
  at_place i h = grind (arith, by_two.1 i, tail, get_or-drop 4 bytes (2 * i) 0, get_or-drop 4 bytes (2 * i + 1) 0)

  four_more : length bytes ≡ 4 + 2 * length pairs
  four_more = let e : length sets ≡ length (drop 4 bytes) = ap length tail in omega (arith, by_two.0, length-drop 4 bytes)

  is_listed : HoldSets w m pairs → IsListed bytes
  is_listed h = (four, two, omega (arith, four_more, h.0), λ k b. let p : k < length pairs = omega (arith, h.0) in omega (arith, at_place k p, h.1 k [] p))

  holds : IsListed bytes → HoldSets w m pairs
  holds i =
      let l : length pairs ≡ w + m = omega (arith, four_more) in
      (l, λ k d h. grind (arith, at_place k h, i.3 k, get_or_default pairs k d []))

  pub lists_read : (r : Result RuleBody Fault) → ListsRead (byte bytes 1) w m pairs r → BodyRead bytes r
  lists_read (Ok (Threshold n s a)) r = absurd r
  lists_read (Ok (Listed n wide narrow)) r =
      let e : length (take w pairs) ≡ w = length-take-le w pairs (omega arith) in (
        is_listed r.0,
        r.1,
        rw r.2 (part_at bytes (take w pairs) 4 w e (λ i h. grind (arith, get_or-take w pairs i [] h, at_place i))),
        rw r.3 (part_at bytes (drop w pairs) (4 + 2 * w) m (omega (arith, length-drop w pairs)) (λ i h. grind (arith, get_or-drop w pairs i [], at_place (w + i)))),
      )
  lists_read (Err Form) r = (λ t. absurd (omega (arith, two, t.1)), λ i. r (holds i))
  lists_read (Err Memory) r = (is_listed r.0, r.1)
  lists_read (Err Size) r = r
  lists_read (Err NarrowBeyondWide) r = r
  lists_read (Err Cover) r = r
  lists_read (Err (CoveredBy three)) r = r
  lists_read (Err Lists) r = r

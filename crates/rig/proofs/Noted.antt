-- Gradings that are noted round by round, and outcomes noted station by station.
use Rattle.std.proofs.Common.{◌≡◌, ◌≢◌, ℕ, zero, suc, ◌+◌, ◌*◌, ◌<◌, Bool, true, ltb, ◌&&◌, ◌⊎◌, List, [], ◌∷◌, length, get_or, set, None as none, Option, option_map, ap, ◌∙◌, inl, inr, arith}
use Rattle.std.proofs.lemmas.List.{get_or-set_same, get_or-set_other}
use Rattle.agreement.specs.Sets.{Set}
use Rattle.agreement.specs.Station as model
use Rattle.agreement.proofs.Tests.{same?}
use Rattle.acts.specs.declared.value.Grade.{Grade}
use Rattle.acts.specs.Gradings.{in_numbers}
use Rattle.rig.specs.declared.outcome.StationOutcome.{StationOutcome}
use Rattle.rig.specs.Outcomes.{NotedBefore, TellsIfOwn}

abbrev Noted : Type 0
Noted = Option (Option Bool × Grade)

same_or_not : (i j : ℕ) → (i ≡ j) ⊎ (i ≢ j)
same_or_not i j = elim (same? i j) [ inl q ↦ inl q | inr q ↦ inr (grind (arith, q)) ]

last_below : (i k : ℕ) → i ≡ k → ltb i (k + 1) ≡ true
last_below i k e = grind (arith, e)

other_below : (i k : ℕ) → i ≢ k → ltb i (k + 1) ≡ ltb i k
other_below i k e = grind (arith, e)

-- the gradings of one round more
pub noted_next : (round : ℕ) (s : model.Station) (gs : List (List Noted)) (a b : Noted)
    → round < length gs → NotedBefore round s gs
    → option_map in_numbers a ≡ s.grading (4 * round + 1) → option_map in_numbers b ≡ s.grading (4 * round + 1 + 2)
    → NotedBefore (round + 1) s (set gs round (a ∷ b ∷ []))
noted_next round s gs a b h before e f r half k = elim (same_or_not r round) [
  | inl q ↦
      rw (last_below r round q)
      (rw q (ap (λ (row : List Noted). option_map in_numbers (get_or row half none))
      (get_or-set_same gs round (a ∷ b ∷ []) [] h) ∙ at half k))
  | inr d ↦
      rw (other_below r round d)
      (ap (λ (row : List Noted). option_map in_numbers (get_or row half none))
      (get_or-set_other gs round r (a ∷ b ∷ []) [] d) ∙ before r half k)
]
  where
    at : (j : ℕ) → j < 2 → option_map in_numbers (get_or (a ∷ b ∷ []) j none) ≡ s.grading (4 * round + 2 * j + 1)
    at zero l = e ∙ ap (λ (x : ℕ). s.grading x) (omega arith)
    at (suc zero) l = f ∙ ap (λ (x : ℕ). s.grading x) (omega arith)
    at (suc (suc j)) l = absurd (omega (arith, l))

-- the outcomes of the stations before an end
abbrev pub NotedStations : ℕ → Set → ℕ → (ℕ → model.Station) → List (Option StationOutcome) → Type 0
NotedStations end own rounds W os = (i : ℕ) → TellsIfOwn (ltb i end && own i) rounds (W i) (get_or os i none)

-- What is checked in a row. The first check that fails gives the answer; where none fails, the answer is the good one.
use Rattle.std.proofs.Common.{◌≡◌, ℕ, ◌<◌, List, [], ◌∷◌, ◌⊎◌, inl, inr, ap, sym, ◌∙◌, arith}

-- what is checked, and the one answer that is given where it does not hold
pub record Check (X : Type 0) : Type 1 where
  pub holds : Type 0
  pub answer : X → Type 0
  pub once : (x y : X) → answer x → answer y → x ≡ y

-- this answer
abbrev pub fixed : {X : Type 0} → Type 0 → X → Check X
fixed P a = record { holds = P; answer = λ x. x ≡ a; once = λ x y p q. p ∙ sym q }

-- or one that says what is wrong, where just one thing can be
abbrev pub telling : {X K : Type 0} → Type 0 → (K → X) → (Q : K → Type 0) → ((j k : K) → Q j → Q k → j ≡ k) → Check X
telling {K = K} P f Q one = record {
  holds = P;
  answer = λ x. (k : K) × (x ≡ f k) × Q k;
  once = λ x y p q. p.1 ∙ ap f (one p.0 q.0 p.2 q.2) ∙ sym q.1;
}

-- what such a row answers
abbrev pub Answers : {X : Type 0} → X → List (Check X) → X → Type 0
Answers good [] x = x ≡ good
Answers good (c ∷ cs) x = ((c.holds → ⊥) × c.answer x) ⊎ (c.holds × Answers good cs x)

-- it has one answer
pub answers_once : {X : Type 0} → (good : X) (cs : List (Check X)) (x y : X) → Answers good cs x → Answers good cs y → x ≡ y
answers_once good [] x y a b = a ∙ sym b
answers_once good (c ∷ cs) x y (inl a) (inl b) = c.once x y a.1 b.1
answers_once good (c ∷ cs) x y (inl a) (inr b) = absurd (a.0 b.0)
answers_once good (c ∷ cs) x y (inr a) (inl b) = absurd (b.0 a.0)
answers_once good (c ∷ cs) x y (inr a) (inr b) = answers_once good cs x y a.1 b.1

-- the first number of a kind
abbrev pub First : (ℕ → Type 0) → ℕ → Type 0
First P k = P k × ((j : ℕ) → j < k → P j → ⊥)

-- is one number
pub first_once : (P : ℕ → Type 0) (j k : ℕ) → First P j → First P k → j ≡ k
first_once P j k f g =
    let a : j < k → ⊥ = λ h. g.1 j h f.0 in
    let b : k < j → ⊥ = λ h. f.1 k h g.0 in
    omega arith

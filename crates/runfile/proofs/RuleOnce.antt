-- The rule that a body says is determined, and so is its first fault, except that memory may be short.
use Rattle.std.proofs.Common.{◌≡◌, ◌≢◌, ℕ, ◌+◌, ◌*◌, ◌<◌, ◌≤◌, true, List, [], ◌∷◌, length, ◌⊎◌, Some as some, None as none, Option, Ok, Err, Result, inl, inr, refl, ap, ap₂, sym, subst, ◌∙◌, arith}
use Rattle.std.proofs.lemmas.List.{ext_get_or}
use Rattle.std.specs.Result.{result_err}
use Rattle.agreement.specs.Families.{Families}
use Rattle.stations.specs.declared.StationSet.{StationSet}
use Rattle.faults.specs.declared.fault.Fault.{Fault}
use Rattle.faults.specs.declared.fault.Fault.TheVariants.{Size, NarrowBeyondWide, Cover, CoveredBy, Lists, Form, Memory}
use Rattle.faults.specs.declared.fault.Three.{Three}
use Rattle.faults.specs.Rules.{threshold, listed}
use Rattle.faults.specs.Sizes.{Sized}
use Rattle.faults.specs.Lists.{Proper, Nested, Apart, covered, FirstThree}
use Rattle.faults.specs.Made.{ThresholdFault, ListedFault}
use Rattle.rulebody.specs.declared.body.RuleBody.{RuleBody}
use Rattle.rulebody.specs.declared.body.RuleBody.TheVariants.{Threshold as ThresholdBody, Listed as ListedBody}
use Rattle.rulebody.specs.declared.rule.Rule.{Rule}
use Rattle.rulebody.specs.declared.rule.Rule.TheVariants.{Threshold, Listed}
use Rattle.rulebody.specs.Bodies.{StandsIn}
use Rattle.rulebody.specs.Format.{IsThreshold, IsListed, SetsAt}
use Rattle.rulebody.specs.Kinds.{meant}
use Rattle.rulebody.specs.Making.{BodyMade}
use Rattle.runfile.specs.Rules.{RuleRead, SayRule}
use Rattle.runfile.proofs.Checks.{Check, fixed, telling, Answers, answers_once, First, first_once}

-- what a body says
data Said : Type 0 where
  numbers : ℕ → ℕ → ℕ → Said
  lists : ℕ → List StationSet → List StationSet → Said

abbrev said : RuleBody → Said
said (ThresholdBody n s a) = numbers n s a
said (ListedBody n wide narrow) = lists n wide.items narrow.items

-- the bytes of a body say one thing
sets_once : (bytes : List ℕ) (from count : ℕ) (L M : List StationSet) → SetsAt bytes from count L → SetsAt bytes from count M → L ≡ M
sets_once bytes from count L M l m =
    ext_get_or 0 L M (l.0 ∙ sym m.0) (λ i h. l.1 i (omega (arith, l.0)) ∙ sym (m.1 i (omega (arith, l.0))))

said_once : (bytes : List ℕ) (b c : RuleBody) → StandsIn bytes b → StandsIn bytes c → said b ≡ said c
said_once bytes (ThresholdBody n s a) (ThresholdBody n' s' a') b c = cc
said_once bytes (ThresholdBody n s a) (ListedBody n' W' N') b c = absurd (omega (arith, b.0.1, c.0.1))
said_once bytes (ListedBody n W N) (ThresholdBody n' s' a') b c = absurd (omega (arith, b.0.1, c.0.1))
said_once bytes (ListedBody n W N) (ListedBody n' W' N') b c =
    cc (b.1, c.1, sets_once bytes _ _ W.items W'.items b.2 c.2, sets_once bytes _ _ N.items N'.items b.3 c.3)

-- the first three sets that hold every station are determined, place by place
module _ (n : ℕ) (N W : List StationSet) where
  abbrev Narrow : ℕ → Type 0
  Narrow i = (j : ℕ) × (k : ℕ) × (j < length W) × (k < length W) × (covered n N W i j k ≡ true)

  abbrev Wide : ℕ → ℕ → Type 0
  Wide i j = (k : ℕ) × (k < length W) × (covered n N W i j k ≡ true)

  abbrev Last : ℕ → ℕ → ℕ → Type 0
  Last i j k = covered n N W i j k ≡ true

  first_narrow : (t : Three) → FirstThree n N W t → First Narrow t.narrow
  first_narrow t f = (
    (t.wide.0, t.wide.1, f.first_there, f.second_there, f.hold_all),
    λ i h p. let e = f.no_narrow_before i p.0 p.1 h p.2 p.3 in cc (e, p.4),
  )

  first_wide : (i : ℕ) (t : Three) → t.narrow ≡ i → FirstThree n N W t → First (Wide i) t.wide.0
  first_wide i t e f = rw (← e) (
    (t.wide.1, f.second_there, f.hold_all),
    λ j h p. let e = f.no_first_before j p.0 h p.1 in cc (e, p.2),
  )

  first_last : (i j : ℕ) (t : Three) → t.narrow ≡ i → t.wide.0 ≡ j → FirstThree n N W t → First (Last i j) t.wide.1
  first_last i j t e e' f = rw (← e, ← e') (f.hold_all, λ k h p. let e = f.no_second_before k h in cc (e, p))

same_three : (t u : Three) → t.narrow ≡ u.narrow → t.wide.0 ≡ u.wide.0 → t.wide.1 ≡ u.wide.1 → t ≡ u
same_three t u e f g = ap₂ (λ (i : ℕ) (p : ℕ × ℕ). record { narrow = i; wide = p }) e (ap₂ (λ (j k : ℕ). (j, k)) f g)

three_once : (n : ℕ) (N W : List StationSet) (t u : Three) → FirstThree n N W t → FirstThree n N W u → t ≡ u
three_once n N W t u f g =
    let i = t.narrow in
    let j = t.wide.0 in
    let narrow = first_once (Narrow n N W) i u.narrow (first_narrow n N W t f) (first_narrow n N W u g) in
    let wide = first_once (Wide n N W i) j u.wide.0 (first_wide n N W i t refl f) (first_wide n N W i u (sym narrow) g) in
    let last = first_once (Last n N W i j) t.wide.1 u.wide.1 (first_last n N W i j t refl refl f) (first_last n N W i j u (sym narrow) (sym wide) g) in
    same_three t u narrow wide last

-- what is checked of what a body says
abbrev checks : Said → List (Check (Option Fault))
checks (numbers n s a) =
    fixed (Sized n) (some Size) ∷ fixed (a ≤ s) (some NarrowBeyondWide) ∷ fixed (a + 2 * s < n) (some Cover) ∷ []
checks (lists n W N) =
    fixed (Sized n) (some Size)
    ∷ fixed (Proper n W × Proper n N) (some Lists)
    ∷ fixed (Nested n N W) (some NarrowBeyondWide)
    ∷ telling (Apart n N W) (λ three. some (CoveredBy three)) (FirstThree n N W) (three_once n N W)
    ∷ []

-- that a rule has no fault, or its first, is the answer
threshold_answers : (n s a : ℕ) (x : Option Fault) → ThresholdFault n s a x → Answers none (checks (numbers n s a)) x
threshold_answers n s a none f = inr (f.0, inr (f.1, inr (f.2, refl)))
threshold_answers n s a (some Size) f = inl (f, refl)
threshold_answers n s a (some NarrowBeyondWide) f = inr (f.0, inl (λ h. absurd (omega (arith, f.1)), refl))
threshold_answers n s a (some Cover) f = inr (f.0, inr (f.1, inl (λ h. absurd (omega (arith, f.2)), refl)))
threshold_answers n s a (some (CoveredBy three)) f = absurd f
threshold_answers n s a (some Lists) f = absurd f
threshold_answers n s a (some Form) f = absurd f
threshold_answers n s a (some Memory) f = absurd f

not_apart : (n : ℕ) (W N : List StationSet) (t : Three) → FirstThree n N W t → Apart n N W → ⊥
not_apart n W N t f a = let e = a.none t.narrow t.wide.0 t.wide.1 f.narrow_there f.first_there f.second_there in cc (e, f.hold_all)

lists_answers : (n : ℕ) (W N : List StationSet) (x : Option Fault) → ListedFault n W N x → Answers none (checks (lists n W N)) x
lists_answers n W N none f = inr (f.sized, inr ((f.proper_wide, f.proper_narrow), inr (f.nested, inr (f.apart, refl))))
lists_answers n W N (some Size) f = inl (f, refl)
lists_answers n W N (some Lists) f = inr (f.0, inl (λ h. f.1 h.0 h.1, refl))
lists_answers n W N (some NarrowBeyondWide) f = inr (f.0, inr ((f.1, f.2), inl (f.3, refl)))
lists_answers n W N (some (CoveredBy three)) f =
    inr (f.0, inr ((f.1, f.2), inr (f.3, inl (not_apart n W N three f.4, (three, refl, f.4)))))
lists_answers n W N (some Cover) f = absurd f
lists_answers n W N (some Form) f = absurd f
lists_answers n W N (some Memory) f = absurd f

body_answers : (b : RuleBody) (r : Result Rule Fault) → BodyMade b r → result_err r ≢ some Memory → Answers none (checks (said b)) (result_err r)
body_answers (ThresholdBody n s a) (Ok (Threshold t)) m k = threshold_answers n s a none m.0
body_answers (ThresholdBody n s a) (Ok (Listed t)) m k = absurd m
body_answers (ThresholdBody n s a) (Err e) m k = threshold_answers n s a (some e) m
body_answers (ListedBody n W N) (Ok (Threshold t)) m k = absurd m
body_answers (ListedBody n W N) (Ok (Listed t)) m k = lists_answers n W.items N.items none m.0
body_answers (ListedBody n W N) (Err e) (inl f) k = lists_answers n W.items N.items (some e) f
body_answers (ListedBody n W N) (Err e) (inr f) k = absurd (k (ap some f.0))

-- a body has no fault, or this one
abbrev pub RuleSaid : List ℕ → Option Fault → Type 0
RuleSaid bytes none = SayRule bytes
RuleSaid bytes (some e) = RuleRead bytes (Err e)

-- either no body stands in the bytes, or one that is checked
abbrev ByBody : List ℕ → Option Fault → Type 0
ByBody bytes x =
    ((x ≡ some Form) × ((b : RuleBody) → StandsIn bytes b → ⊥))
    ⊎ ((b : RuleBody) × StandsIn bytes b × Answers none (checks (said b)) x)

no_body : (bytes : List ℕ) → (IsThreshold bytes → ⊥) × (IsListed bytes → ⊥) → (b : RuleBody) → StandsIn bytes b → ⊥
no_body bytes s (ThresholdBody n s' a) b = s.0 b.0
no_body bytes s (ListedBody n W N) b = s.1 b.0

one_body : (bytes : List ℕ) (e : Fault) → (b : RuleBody) × StandsIn bytes b × BodyMade b (Err e) → some e ≢ some Memory → ByBody bytes (some e)
one_body bytes e s k = inr (s.0, s.1, body_answers s.0 (Err e) s.2 k)

by_body : (bytes : List ℕ) (x : Option Fault) → RuleSaid bytes x → x ≢ some Memory → ByBody bytes x
by_body bytes none s k = inr (s.1.0, s.1.1, body_answers s.1.0 (Ok s.0) s.1.2 k)
by_body bytes (some Form) s k = inl (refl, no_body bytes s)
by_body bytes (some Memory) s k = absurd (k refl)
by_body bytes (some Size) s k = one_body bytes Size s k
by_body bytes (some NarrowBeyondWide) s k = one_body bytes NarrowBeyondWide s k
by_body bytes (some Cover) s k = one_body bytes Cover s k
by_body bytes (some (CoveredBy three)) s k = one_body bytes (CoveredBy three) s k
by_body bytes (some Lists) s k = one_body bytes Lists s k

once : (bytes : List ℕ) (x y : Option Fault) → ByBody bytes x → ByBody bytes y → x ≡ y
once bytes x y (inl a) (inl b) = a.0 ∙ sym b.0
once bytes x y (inl a) (inr b) = absurd (a.1 b.0 b.1)
once bytes x y (inr a) (inl b) = absurd (b.1 a.0 a.1)
once bytes x y (inr a) (inr b) =
    answers_once none (checks (said a.0)) x y a.2
    (subst (λ s. Answers none (checks s) y) (said_once bytes b.0 a.0 b.1 a.1) b.2)

-- so, apart from memory, it is determined that there is no fault, or which
pub fault_once : (bytes : List ℕ) (x y : Option Fault) → RuleSaid bytes x → RuleSaid bytes y → x ≢ some Memory
    → y ≢ some Memory → x ≡ y
fault_once bytes x y s t k l = once bytes x y (by_body bytes x s k) (by_body bytes y t l)

-- what a body means
abbrev meaning : Said → Families
meaning (numbers n s a) = threshold n s a
meaning (lists n W N) = listed n W N

means : (b : RuleBody) (r : Rule) → BodyMade b (Ok r) → meant r ≡ meaning (said b)
means (ThresholdBody n s a) (Threshold t) m = cc (m.1, m.2, m.3)
means (ThresholdBody n s a) (Listed t) m = absurd m
means (ListedBody n W N) (Threshold t) m = absurd m
means (ListedBody n W N) (Listed t) m = cc (m.1, m.2, m.3)

-- so what the rule means is determined
pub rule_once : (bytes : List ℕ) (r q : Rule) → RuleRead bytes (Ok r) → RuleRead bytes (Ok q) → meant r ≡ meant q
rule_once bytes r q s t = means s.0 r s.2 ∙ ap meaning (said_once bytes s.0 t.0 s.1 t.1) ∙ sym (means t.0 q t.2)

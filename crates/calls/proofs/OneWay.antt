-- Bytes are read as calls in one way only.
use Rattle.std.proofs.Common.{◌≡◌, ℕ, if◌then◌else◌, ◌==◌, List, [], ◌∷◌, ◌++◌, length, drop, Some as some, None as none, Option, refl, ap, ap₂, sym, ◌∙◌, arith, length-drop}
use Rattle.std.proofs.lemmas.List.{append_assoc, append-nil, take_at, take-append-drop}
use Rattle.calls.specs.declared.call.Call.{Call}
use Rattle.calls.specs.declared.call.Call.TheVariants.{Turn, Deliver, Send, Lose}
use Rattle.calls.specs.Format.{encoding, encodings, BeginWith, BreakAt}
use Rattle.calls.specs.Theorems.{CallsInOneWay, BrokenAreNoCalls, BreakInOnePlace}

-- the call with which bytes begin, and what follows it
abbrev message : ℕ → List ℕ → Option (Call × List ℕ)
message sender (addressee ∷ kind ∷ stage ∷ value ∷ rest) =
    some (Send (record { sender = sender; addressee = addressee; kind = kind; stage = stage; value = value }), rest)
message sender other = none

abbrev first : List ℕ → Option (Call × List ℕ)
first (letter ∷ x ∷ rest) =
    if letter == 116 then some (Turn x, rest)
    else (if letter == 100 then some (Deliver x, rest) else (if letter == 108 then some (Lose x, rest) else message x rest))
first other = none

first_of : (c : Call) (rest : List ℕ) → first (encoding c ++ rest) ≡ some (c, rest)
first_of (Turn station) rest = refl
first_of (Deliver hint) rest = refl
first_of (Send m) rest = refl
first_of (Lose hint) rest = refl

-- so a call's bytes are no beginning of another's
first_same : (c d : Call) (r s : List ℕ) → encoding c ++ r ≡ encoding d ++ s → (c ≡ d) × (r ≡ s)
first_same c d r s e =
    let same : ◌≡◌ {A = Option (Call × List ℕ)} (some (c, r)) (some (d, s)) = sym (first_of c r) ∙ ap first e ∙ first_of d s in
    let pair : ◌≡◌ {A = Call × List ℕ} (c, r) (d, s) = cc in
    (ap (λ (p : Call × List ℕ). p.0) pair, ap (λ (p : Call × List ℕ). p.1) pair)

-- bytes with which no call begins
abbrev NoCall : List ℕ → Type 0
NoCall bytes = (c : Call) → BeginWith c bytes → ⊥

pub begins : (c : Call) (r : List ℕ) → BeginWith c (encoding c ++ r)
begins c r = take_at (encoding c) r (length (encoding c)) refl

none_in_nothing : NoCall []
none_in_nothing (Turn station) e = cc
none_in_nothing (Deliver hint) e = cc
none_in_nothing (Send m) e = cc
none_in_nothing (Lose hint) e = cc

-- calls, and after them bytes with which no call begins: both are determined
one_way : (xs ys : List Call) (r s : List ℕ) → NoCall r → NoCall s → encodings xs ++ r ≡ encodings ys ++ s → (xs ≡ ys) × (r ≡ s)
one_way [] [] r s n m e = (refl, e)
one_way [] (y ∷ ys) r s n m e =
    absurd (n y (rw (e, append_assoc) (begins y (encodings ys ++ s))))
one_way (x ∷ xs) [] r s n m e =
    absurd (m x (rw (← e, append_assoc) (begins x (encodings xs ++ r))))
one_way (x ∷ xs) (y ∷ ys) r s n m e =
    let heads = first_same x y (encodings xs ++ r) (encodings ys ++ s)
    (sym (append_assoc (encoding x) (encodings xs) r) ∙ e ∙ append_assoc (encoding y) (encodings ys) s) in
    let tails = one_way xs ys r s n m heads.1 in
    (ap₂ (λ z zs. z ∷ zs) heads.0 tails.0, tails.1)

pub calls_in_one_way : CallsInOneWay
calls_in_one_way calls others e =
    (one_way calls others [] [] none_in_nothing none_in_nothing (ap (λ bytes. bytes ++ []) e)).0

-- bytes that break, cut at the break
cut : (place : ℕ) (bytes : List ℕ) → (b : BreakAt place bytes) → encodings b.1.0 ++ drop place bytes ≡ bytes
cut place bytes b = ap (λ xs. xs ++ drop place bytes) (sym b.1.1) ∙ take-append-drop place bytes

pub broken_are_no_calls : BrokenAreNoCalls
broken_are_no_calls calls bytes place b e =
    let same = (one_way b.1.0 calls (drop place bytes) [] b.2 none_in_nothing (cut place bytes b ∙ sym e ∙ sym (append-nil (encodings calls)))).1 in
    absurd (omega (arith, b.0, ap length same, length-drop place bytes))

pub break_in_one_place : BreakInOnePlace
break_in_one_place bytes j k b c =
    let same = (one_way b.1.0 c.1.0 (drop j bytes) (drop k bytes) b.2 c.2 (cut j bytes b ∙ sym (cut k bytes c))).1 in
    omega (arith, b.0, c.0, ap length same, length-drop j bytes, length-drop k bytes)

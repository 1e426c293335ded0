-- How many digits a number has.
use Rattle.std.proofs.Common.{rules, ◌≡◌, ℕ, ◌+◌, ◌/◌, ◌≤◌, ◌<◌, ◌^◌, ◌%◌, [], ◌∷◌, length, ap, sym, ◌∙◌, List, ◌-◌, take, drop, arith, length-append}
use borrow.Rule.Slice.PartMut.{put_mid}
use Rattle.std.specs.Fmt.{decimal}
use Rattle.transcript.specs.Text.{begun_with}
use Rattle.transcript.proofs.Begun.{put_rest}
use Rattle.std.proofs.lemmas.Fmt.{decimal_digit, decimal_step, length-decimal-le}

-- a number of 32 bits is one of 64
wide : (n : ℕ) → n < 2 ^ 32 → n < 2 ^ 64
wide n h = search (rules, arith)

pub one_digit : (n : ℕ) → n < 10 → length (decimal n) ≡ 1
one_digit n h = ap length (decimal_digit n h)

pub one_digit_more : (n : ℕ) → 10 ≤ n → n < 2 ^ 32 → length (decimal n) ≡ length (decimal (n / 10)) + 1
one_digit_more n h k = ap length (decimal_step n h (wide n k)) ∙ length-append (decimal (n / 10)) ((48 + n % 10) ∷ [])

pub three_digits : (n : ℕ) → n < 2 ^ 8 → length (decimal n) ≤ 3
three_digits n h = search (rules, length-decimal-le 3)

pub five_digits : (n : ℕ) → n < 2 ^ 16 → length (decimal n) ≤ 5
five_digits n h = search (rules, length-decimal-le 5)

pub ten_digits : (n : ℕ) → n < 2 ^ 32 → length (decimal n) ≤ 10
ten_digits n h = search (rules, length-decimal-le 10)

-- the last digit of a number, put after those before it
pub last_digit : (n : ℕ) (B xs ys : List ℕ) (k m : ℕ) → 10 ≤ n → n < 2 ^ 32 → length (decimal n) ≤ length B
    → xs ≡ begun_with (decimal (n / 10)) B → k ≡ length (decimal (n / 10)) → m ≡ length xs - k
    → ys ≡ begun_with ((48 + n % 10) ∷ []) (take m (drop k xs)) → put_mid k m xs ys ≡ begun_with (decimal n) B
last_digit n B xs ys k m h w room ex ek em ey =
    put_rest (decimal (n / 10)) ((48 + n % 10) ∷ []) B xs ys k m ex ek em ey (omega (arith, one_digit_more n h w))
    ∙ ap (λ (x : List ℕ). begun_with x B) (sym (decimal_step n h (wide n w)))

-- the only digit of a number
pub only_digit : (n : ℕ) (B : List ℕ) → n < 10 → begun_with (decimal n) B ≡ begun_with ((48 + n) ∷ []) B
only_digit n B h = ap (λ (x : List ℕ). begun_with x B) (decimal_digit n h)

-- what writing a number by its last digit asks for
pub ruleset by_last_digit = (one_digit, one_digit_more, only_digit, last_digit)

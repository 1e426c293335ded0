-- The parts into which a file is cut.
use Rattle.std.proofs.Common.{◌≡◌, ℕ, ◌+◌, ◌-◌, List, length, take, drop, ap₂, ◌∙◌, sym, arith, length-drop}
use Rattle.std.proofs.lemmas.List.{drop-drop, take_rest, take_all}
use Rattle.runfile.specs.Format.{length_of, place_of, body_of, HasLengths}

-- a file that is cut three times, at these lengths
pub cut : (file p q p' q' p'' q'' : List ℕ) (a b c : ℕ) → HasLengths file → a ≡ length_of file 0 → b ≡ length_of file 1
    → c ≡ length_of file 2 → p ≡ take a (take (length file - 12) (drop 12 file)) → q ≡ drop a (take (length file - 12) (drop 12 file))
    → p' ≡ take b q → q' ≡ drop b q → p'' ≡ take c q' → q'' ≡ drop c q'
    → (p ≡ body_of file 0) × (p' ≡ body_of file 1) × (p'' ≡ body_of file 2) × (q'' ≡ body_of file 3)
cut file p q p' q' p'' q'' a b c h ea eb ec ep eq ep' eq' ep'' eq'' =
    let first : drop 12 file ≡ take (length file - 12) (drop 12 file) = sym (take_rest file 12) in
    let second : q ≡ drop (12 + length_of file 0) file = eq ∙ ap₂ (λ n xs. drop n xs) ea (sym first) ∙ drop-drop (length_of file 0) 12 file in
    let third : q' ≡ drop (place_of file 2) file
    = eq' ∙ ap₂ (λ n xs. drop n xs) eb second ∙ drop-drop (length_of file 1) (place_of file 1) file in
    let fourth : q'' ≡ drop (place_of file 3) file
    = eq'' ∙ ap₂ (λ n xs. drop n xs) ec third ∙ drop-drop (length_of file 2) (place_of file 2) file in (
      ep ∙ ap₂ (λ n xs. take n xs) ea (sym first),
      ep' ∙ ap₂ (λ n xs. take n xs) eb second,
      ep'' ∙ ap₂ (λ n xs. take n xs) ec third,
      fourth ∙ sym (take_all (length_of file 3) (drop (place_of file 3) file) (omega (arith, length-drop (place_of file 3) file, h))),
    )

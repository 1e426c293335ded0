-- Fields in a row.
use Rattle.std.proofs.Common.{◌≡◌, ℕ, ◌+◌, ◌-◌, ◌<◌, ◌≤◌, List, [], ◌∷◌, ◌++◌, map, length, take, drop, get_or, ap, sym, ◌∙◌, arith, append_assoc, length-append}
use Rattle.std.specs.List.{flat_map}
use Rattle.std.proofs.lemmas.List.{take_more, flat_map_more}
use Rattle.std.proofs.lemmas.List.Folds.{length-flat_map-take}
use Rattle.std.proofs.lemmas.Slice.{first_rest}
use mathlib.Core.List.{append-nil}
use borrow.Rule.Slice.PartMut.{put_mid}
use Rattle.transcript.specs.Text.{text, line_of, begun_with}
use Rattle.transcript.specs.Fields.{field_of, spaced}
use Rattle.transcript.specs.declared.field.Field.{Field}
use Rattle.transcript.specs.declared.field.Field.TheVariants.{Number}
use Rattle.transcript.proofs.Begun.{put_two}

-- one field more
one_more : (xs : List Field) (i : ℕ) (d : Field) → i < length xs
    → (flat_map spaced (take i xs) ++ (32 ∷ [])) ++ text (field_of (get_or xs i d)) ≡ flat_map spaced (take (i + 1) xs)
one_more xs i d h =
    append_assoc (flat_map spaced (take i xs)) (32 ∷ []) (text (field_of (get_or xs i d)))
    ∙ flat_map_more spaced [] (take i xs) (get_or xs i d)
    ∙ ap (flat_map spaced) (sym (take_more xs i d h))

pub space_fits : (xs : List Field) (i : ℕ) → i < length xs
    → length (flat_map spaced (take i xs)) + 1 ≤ length (flat_map spaced xs)
space_fits xs i h = omega (arith, length-flat_map-take spaced xs i (Number 0) h)

pub field_fits : (xs : List Field) (i : ℕ) (d : Field) → i < length xs
    → length (text (field_of (get_or xs i d))) + length (flat_map spaced (take i xs)) + 1 ≤ length (flat_map spaced xs)
field_fits xs i d h = omega (arith, length-flat_map-take spaced xs i d h)

pub length_one_more : (xs : List Field) (i : ℕ) (d : Field) → i < length xs
    → length (text (field_of (get_or xs i d))) + length (flat_map spaced (take i xs)) + 1
    ≡ length (flat_map spaced (take (i + 1) xs))
length_one_more xs i d h =
    let T = flat_map spaced (take i xs) in
    let U = text (field_of (get_or xs i d)) in
    omega (arith, ap length (one_more xs i d h), length-append (T ++ (32 ∷ [])) U, length-append T (32 ∷ []))

-- a space and a field, put after those before it
pub field_put : (xs : List Field) (i : ℕ) (d : Field) (B buffer ys zs : List ℕ) (at n k l : ℕ) → i < length xs
    → length (flat_map spaced xs) ≤ length B
    → buffer ≡ begun_with (flat_map spaced (take i xs)) B → at ≡ length (flat_map spaced (take i xs))
    → ys ≡ begun_with (32 ∷ []) (take k (drop at buffer)) → n ≡ 1 → k ≡ length buffer - at
    → l ≡ length (put_mid at k buffer ys) - (at + n)
    → zs ≡ begun_with (text (field_of (get_or xs i d))) (take l (drop (at + n) (put_mid at k buffer ys)))
    → put_mid (at + n) l (put_mid at k buffer ys) zs ≡ begun_with (flat_map spaced (take (i + 1) xs)) B
field_put xs i d B buffer ys zs at n k l h room eb ea ey en ek el ez =
    put_two (flat_map spaced (take i xs)) (32 ∷ []) (text (field_of (get_or xs i d))) B buffer ys zs at n k l
    eb ea ey en ek el ez (omega (arith, field_fits xs i d h))
    ∙ ap (λ (t : List ℕ). begun_with t B) (one_more xs i d h)

-- a line is its first field, the others with a space before each, and a line feed
line_is : (x : Field) (xs : List Field)
    → line_of (map field_of (x ∷ xs)) ≡ (text (field_of x) ++ flat_map spaced xs) ++ (10 ∷ [])
line_is x [] = ap (λ (t : List ℕ). t ++ (10 ∷ [])) (sym (append-nil (text (field_of x))))
line_is x (y ∷ ys) =
    ap (λ (t : List ℕ). text (field_of x) ++ (32 ∷ t)) (line_is y ys)
    ∙ sym (append_assoc (text (field_of x)) (flat_map spaced (y ∷ ys)) (10 ∷ []))

parts : (xs : List Field) (d : Field) → 1 ≤ length xs
    → line_of (map field_of xs)
    ≡ (text (field_of (get_or xs 0 d)) ++ flat_map spaced (take (length xs - 1) (drop 1 xs))) ++ (10 ∷ [])
parts xs d h =
    ap (λ (z : List Field). line_of (map field_of z)) (first_rest xs d h)
    ∙ line_is (get_or xs 0 d) (take (length xs - 1) (drop 1 xs))

pub length_of_line : (xs : List Field) (d : Field) → 1 ≤ length xs
    → length (text (field_of (get_or xs 0 d))) + length (flat_map spaced (take (length xs - 1) (drop 1 xs))) + 1
    ≡ length (line_of (map field_of xs))
length_of_line xs d h =
    let T = text (field_of (get_or xs 0 d)) in
    let U = flat_map spaced (take (length xs - 1) (drop 1 xs)) in
    omega (arith, ap length (parts xs d h), length-append (T ++ U) (10 ∷ []), length-append T U)

-- a line, put part by part
pub line_put : (xs : List Field) (d : Field) (B buffer ys zs : List ℕ) (at n k l : ℕ) → 1 ≤ length xs
    → length (line_of (map field_of xs)) ≤ length B
    → buffer ≡ begun_with (text (field_of (get_or xs 0 d))) B → at ≡ length (text (field_of (get_or xs 0 d)))
    → ys ≡ begun_with (flat_map spaced (take (length xs - 1) (drop 1 xs))) (take k (drop at buffer))
    → n ≡ length (flat_map spaced (take (length xs - 1) (drop 1 xs))) → k ≡ length buffer - at
    → l ≡ length (put_mid at k buffer ys) - (at + n)
    → zs ≡ begun_with (10 ∷ []) (take l (drop (at + n) (put_mid at k buffer ys)))
    → put_mid (at + n) l (put_mid at k buffer ys) zs ≡ begun_with (line_of (map field_of xs)) B
line_put xs d B buffer ys zs at n k l h room eb ea ey en ek el ez =
    put_two (text (field_of (get_or xs 0 d))) (flat_map spaced (take (length xs - 1) (drop 1 xs))) (10 ∷ []) B
    buffer ys zs at n k l
    eb ea ey en ek el ez (omega (arith, length_of_line xs d h))
    ∙ ap (λ (t : List ℕ). begun_with t B) (sym (parts xs d h))

-- what writing fields one by one asks for
pub ruleset by_fields = (space_fits, field_fits, length_one_more, field_put)

-- what writing a line part by part asks for
pub ruleset by_parts = (length_of_line, line_put)

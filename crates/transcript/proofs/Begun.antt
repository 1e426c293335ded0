-- Buffers that begin with a text.
use Rattle.std.proofs.Common.{◌≡◌, ℕ, ◌+◌, ◌-◌, ◌≤◌, List, [], ◌++◌, length, take, drop, ap, ap₂, sym, ◌∙◌, arith, append_assoc, length-append, length-drop}
use Rattle.std.proofs.lemmas.List.{take_at, drop_at, drop-drop}
use Rattle.std.proofs.Math.Seq.{take_all}
use Rattle.std.proofs.Math.ListN.{drop_of_length-le}
use mathlib.Core.List.{append-nil}
use borrow.Rule.Slice.PartMut.{put_mid}
use Rattle.transcript.specs.Text.{begun_with}

-- A buffer keeps its length.
length_begun : (T B : List ℕ) → length T ≤ length B → length (begun_with T B) ≡ length B
length_begun T B h = length-append T (drop (length T) B) ∙ omega (arith, length-drop (length T) B)

-- A text that is put into the rest of a buffer that begins with another text.
pub put_rest : (T U B xs ys : List ℕ) (k m : ℕ) → xs ≡ begun_with T B → k ≡ length T → m ≡ length xs - k
    → ys ≡ begun_with U (take m (drop k xs)) → length T ≤ length B → put_mid k m xs ys ≡ begun_with (T ++ U) B
put_rest T U B xs ys k m ex ek em ey h =
    let R = drop (length T) B in
    let lx : length xs ≡ length B = ap length ex ∙ length_begun T B h in
    let tk : take k xs ≡ T = ap (take k) ex ∙ take_at T R k (sym ek) in
    let dk : drop k xs ≡ R = ap (drop k) ex ∙ drop_at T R k (sym ek) in
    let lr : length R ≡ length B - length T = length-drop (length T) B in
    let tm : take m (drop k xs) ≡ R = ap (take m) dk ∙ take_all m R (omega arith) in
    let dm : drop m (drop k xs) ≡ [] = ap (drop m) dk ∙ drop_of_length-le R {i = m} (omega arith) in
    let dd : drop (length U) R ≡ drop (length (T ++ U)) B
    = drop-drop (length U) (length T) B ∙ ap (λ (n : ℕ). drop n B) (sym (length-append T U)) in
    ap₂ (λ (a b : List ℕ). a ++ b) tk
    (ap₂ (λ (a b : List ℕ). a ++ b) (ey ∙ ap (begun_with U) tm) dm ∙ append-nil (begun_with U R)
    ∙ ap (λ (z : List ℕ). U ++ z) dd)
    ∙ sym (append_assoc T U (drop (length (T ++ U)) B))

-- Two texts, one after the other.
pub put_two : (T U V B xs ys zs : List ℕ) (at n k l : ℕ) → xs ≡ begun_with T B → at ≡ length T
    → ys ≡ begun_with U (take k (drop at xs)) → n ≡ length U → k ≡ length xs - at
    → l ≡ length (put_mid at k xs ys) - (at + n)
    → zs ≡ begun_with V (take l (drop (at + n) (put_mid at k xs ys)))
    → length T + length U ≤ length B
    → put_mid (at + n) l (put_mid at k xs ys) zs ≡ begun_with ((T ++ U) ++ V) B
put_two T U V B xs ys zs at n k l ex ea ey en ek el ez h =
    put_rest (T ++ U) V B (put_mid at k xs ys) zs (at + n) l
    (put_rest T U B xs ys at k ex ea ek ey (omega arith))
    (omega (arith, length-append T U)) el ez (omega (arith, length-append T U))

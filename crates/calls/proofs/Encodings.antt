-- Calls in a row.
use Rattle.std.proofs.Common.{◌≡◌, ℕ, ◌+◌, ◌≤◌, List, [], ◌∷◌, ◌++◌, length, take, drop, ap, ap₂, sym, ◌∙◌, subst, arith, length-drop, length-take}
use Rattle.std.proofs.Math.Seq.{take-add}
use Rattle.std.proofs.lemmas.List.{flat_map_more, append_assoc, take-append-drop}
use Rattle.calls.specs.declared.call.Call.{Call}
use Rattle.calls.specs.Format.{encoding, encodings, BeginWith, HaveCall}
use Rattle.calls.proofs.OneWay.{begins}

-- the bytes of a call lie within those that begin with it
pub within : (c : Call) (bytes : List ℕ) → BeginWith c bytes → length (encoding c) ≤ length bytes
within c bytes b = omega (arith, length-take (length (encoding c)) bytes, ap length b)

-- one call more
pub one_more : (bytes : List ℕ) (place : ℕ) (calls : List Call) (c : Call) → place ≤ length bytes → encodings calls ≡ take place bytes
    → BeginWith c (drop place bytes)
    → (place + length (encoding c) ≤ length bytes)
    × (encodings (calls ++ (c ∷ [])) ≡ take (place + length (encoding c)) bytes)
one_more bytes place calls c h e b = (
  omega (arith, within c (drop place bytes) b, length-drop place bytes),
  sym (flat_map_more encoding [] calls c) ∙ ap₂ (λ x y. x ++ y) e (sym b) ∙ sym (take-add place (length (encoding c)) bytes),
)

-- where a call begins after other calls, the bytes begin with a call
pub some_call : (bytes : List ℕ) (place : ℕ) (calls : List Call) (c : Call) → place ≤ length bytes → encodings calls ≡ take place bytes
    → BeginWith c (drop place bytes) → HaveCall bytes
some_call bytes place [] c h e b =
    let zero : place ≡ 0 = omega (arith, h, ap length e, length-take place bytes) in
    (c, subst (λ k. BeginWith c (drop k bytes)) zero b)
some_call bytes place (x ∷ xs) c h e b =
    let split : encoding x ++ (encodings xs ++ drop place bytes) ≡ bytes
    = sym (append_assoc (encoding x) (encodings xs) (drop place bytes)) ∙ ap (λ ys. ys ++ drop place bytes) e
    ∙ take-append-drop place bytes in
    (x, subst (BeginWith x) split (begins x (encodings xs ++ drop place bytes)))

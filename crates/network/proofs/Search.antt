-- The search for the first lane in which a message waits.
use Rattle.std.proofs.Common.{◌≡◌, ℕ, suc, ◌+◌, ◌-◌, ◌%◌, ◌<◌, false, eqb, List, [], ◌∷◌, ◌++◌, length, take, drop, get_or, ap, sym, ◌∙◌, arith, refl}
use Rattle.std.specs.List.{All}
use Rattle.std.proofs.lemmas.Grind.{common_steps}
use Rattle.std.proofs.lemmas.List.{length-append, length-drop, length-take-le, get_or_default, get_or_read_under}
use Rattle.std.proofs.lemmas.List.Sums.{prefix_len_is}
use Rattle.agreement.specs.declared.message.Message.{Message}
use Rattle.network.specs.Lanes.{in_lane, all_lanes, first_filled}

-- the lanes from lane s on, going round
pub rotated : (lanes : List (List Message)) (s k : ℕ) → length lanes ≡ 10 → s < 10 → k < 10
    → get_or (drop s lanes ++ take s lanes) k [] ≡ in_lane lanes ((s + k) % 10)
rotated lanes s k ten h l = grind (arith, common_steps)

-- n lanes without a message, and then lane i with one
pub first_found : (lanes : List (List Message)) (s n i : ℕ) (q : List Message) → length lanes ≡ 10 → s < 10 → n < 10
    → ((k : ℕ) → k < n → length (in_lane lanes ((s + k) % 10)) ≡ 0) → i ≡ (s + n) % 10 → q ≡ get_or lanes i q
    → eqb (length q) 0 ≡ false → i ≡ first_filled lanes s
first_found lanes s n i q ten h l empty e at filled =
    let r : q ≡ in_lane lanes i = get_or_read_under lanes i 10 q [] at (omega (arith, e)) (sym ten) in
    let z : in_lane lanes ((s + n) % 10) ≡ q = rw (← e) (sym r) in
    let p = prefix_len_is (λ q. eqb (length q) 0) (drop s lanes ++ take s lanes) n []
    (omega (arith, length-append (drop s lanes) (take s lanes), length-drop s lanes, length-take-le s lanes (omega arith)))
    (λ k a. rw (rotated lanes s k ten h (omega arith)) (grind (arith, empty)))
    (λ a. rw (rotated lanes s n ten h l ∙ z) filled) in
    e ∙ ap (λ m. (s + m) % 10) (sym p)

length_zero : (q : List Message) → length q ≡ 0 → q ≡ []
length_zero [] h = refl
length_zero (m ∷ q) h = absurd (omega (arith, h))

-- lanes without a message
no_messages : (lanes : List (List Message)) → All (λ q. q ≡ []) lanes → all_lanes lanes ≡ []
no_messages [] none = refl
no_messages (q ∷ lanes) none =
    let e : q ≡ [] = none 0 [] (omega arith) in
    rw e (no_messages lanes (λ k d h. none (suc k) d (omega (arith, h))))

-- ten lanes without a message
pub none_found : (lanes : List (List Message)) (s : ℕ) → length lanes ≡ 10 → s < 10
    → ((k : ℕ) → k < 10 → length (in_lane lanes ((s + k) % 10)) ≡ 0) → all_lanes lanes ≡ []
none_found lanes s ten h empty = no_messages lanes (λ j d l.
    let e : get_or lanes j d ≡ in_lane lanes j = get_or_default lanes j d [] l in
    let w : (s + (j + 10 - s) % 10) % 10 ≡ j = omega arith in
    let z : length (in_lane lanes j) ≡ 0 = rw (← w) (empty ((j + 10 - s) % 10) (omega arith)) in
    e ∙ length_zero (in_lane lanes j) z)

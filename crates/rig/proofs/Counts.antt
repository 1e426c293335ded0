-- Counts of messages.
use Rattle.std.proofs.Common.{◌≡◌, ℕ, ◌+◌, ◌-◌, ◌*◌, ◌^◌, ◌≤◌, Bool, true, false, cond, ◌&&◌, List, ◌∷◌, Result, Ok, Err, is_ok, OnOk, OnErr, arith}
use Rattle.std.proofs.Math.Nat.{mul-le-mul, pow-le-pow_left}
use Rattle.std.specs.List.{count_by}
use Rattle.std.proofs.lemmas.List.Sums.{sum_by-cons}
use Rattle.agreement.specs.declared.message.Message.{Message}
use Rattle.agreement.specs.Messages.{Same}
use Rattle.agreement.specs.Networks.{Network as NetworkOf, Enters}
use Rattle.agreement.specs.Station.{Rules, size, stages, Station}
use Rattle.agreement.specs.Said.{said_by_all}
use Rattle.faults.specs.declared.rule.FaultRule.{Ghosts as FaultRule}
use Rattle.network.specs.declared.Network.{Ghosts as Network}
use Rattle.coins.specs.declared.Coin.{Ghosts as Coin}
use Rattle.rig.specs.declared.rig.Rig.{Rig}
use Rattle.rig.specs.Rigs.{setting, view}
use Rattle.agreement.proofs.Copies.{same_sums}
use Rattle.agreement.proofs.Cost.{all_le}

-- a number of messages posted in a rig of at most ten stations and eight rounds
few : (n rounds p : ℕ) → n ≤ 10 → rounds ≤ 8 → p ≤ n ^ 2 * (16 * rounds + 1) → p ≤ 12900
few n rounds p h k q =
    let square : n ^ 2 ≤ 100 = pow-le-pow_left h 2 in
    let all : n ^ 2 * (16 * rounds + 1) ≤ 100 * 129 = mul-le-mul {m₂ = 129} square (omega (arith, k)) in
    omega (arith, q, all)

pub few_posted : (g : Rules) (W : ℕ → Station) (p : ℕ) → size g ≤ 10 → g.rounds ≤ 8
    → p ≡ size g * said_by_all (size g) (stages g) W → p ≤ 12900
few_posted g W p h k q = few (size g) g.rounds p h k (omega (arith, q, all_le g W))

pub count_more : (P : Message → Bool) (m : Message) (v w : List Message) → Same v (m ∷ w)
    → count_by P v ≡ count_by P w + cond (P m) 1 0
count_more P m v w s =
    let f : Message → ℕ = λ x. cond (P x) 1 0 in
    omega (arith, same_sums v (m ∷ w) s f, sum_by-cons f m w)

pub and_true : (a : Bool) → (a && true) ≡ a
and_true a = grind arith

pub and_false : (a : Bool) → (a && false) ≡ false
and_false a = grind arith

-- and in a network to which a message was posted
pub count_posted : {A E N : Type 0} (x : Result A E) (net : NetworkOf N) (n n' : N) (P : Message → Bool) (m : Message)
    (p waits : Bool) (u k : ℕ)
    → u ≡ count_by P (net.waiting n) → p ≡ P m → waits ≡ is_ok x → k ≡ cond (p && waits) 1 0
    → OnOk x (Enters net m n n') → OnErr x (n' ≡ n)
    → u + k ≡ count_by P (net.waiting n')
count_posted (Ok a) net n n' P m p waits u k e f h l s t =
    let c = count_more P m (net.waiting n') (net.waiting n) s.2 in
    rw (l, h, f) (rw (and_true (P m)) (omega (arith, e, c)))
count_posted (Err a) net n n' P m p waits u k e f h l s t =
    rw (l, h, f) (rw (and_false (P m)) (rw t (omega (arith, e))))

-- and in a network off which a message was taken
pub count_taken : (P : Message → Bool) (m : Message) (v w : List Message) (u k : ℕ) → Same v (m ∷ w)
    → u ≡ count_by P v → k ≡ cond (P m) 1 0 → (k ≤ u) × (u - k ≡ count_by P w)
count_taken P m v w u k s e f = let c = count_more P m v w s in (omega (arith, e, f, c), omega (arith, e, f, c))

-- what turns posted in a rig
pub posted_within : {F N C : Type 0} {f : FaultRule F} {n : Network N} {c : Coin C} (r : Rig F N C f n c)
    → r.posted ≤ size (setting r).rules ^ 2 * (16 * (setting r).rounds + 1)
posted_within r = omega (arith, r.posted_is, all_le (setting r).rules (view r).station)

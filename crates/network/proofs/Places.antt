-- A message taken from its place in a bag.
use Rattle.std.proofs.Common.{◌≡◌, ℕ, ◌%◌, ◌<◌, cond, List, length, get_or, swap_remove, Some, refl, sym, ap, ◌∙◌, arith}
use Rattle.std.proofs.lemmas.Option.{slice_get_read}
use Rattle.std.proofs.lemmas.List.Sums.{sum_by-swap_remove}
use Rattle.agreement.specs.declared.message.Message.{Message}
use Rattle.agreement.specs.Messages.{message_eq}
use Rattle.agreement.specs.Networks.{Exits}
use Rattle.agreement.proofs.Copies.{copies_more}
use Rattle.network.specs.Bags.{bag, bag_pick}

pub exited : (w : List Message) (hint : ℕ) (m : Message) (v : List Message) → 0 < length w
    → m ≡ get_or w (hint % length w) m → v ≡ swap_remove w (hint % length w) m → Exits bag hint m w v
exited w hint m v some at left =
    let i = hint % length w in
    let h : i < length w = omega (arith, some) in
    let p : bag_pick w hint ≡ Some m = slice_get_read w (length w) i m refl h at in (
      p,
      left ∙ rw p refl,
      λ x.
          let f : Message → ℕ = λ y. cond (message_eq x y) 1 0 in
          let e : f (get_or w i m) ≡ f m = ap f (sym at) in
          rw left (omega (arith, sum_by-swap_remove f w i m h, e, copies_more x m (swap_remove w i m))),
    )

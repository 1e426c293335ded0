use Rattle.std.proofs.Common.{rules, ◌≡◌, ◌-◌, length, take, drop, subst, Err}
use Rattle.std.proofs.lemmas.List.{take_rest}
use Rattle.calls.specs.declared.fault.ReadFault.TheVariants.{Memory}
use Rattle.calls.specs.Format.{BeginWith, HaveCall}
use Rattle.calls.proofs.Encodings.{one_more, some_call}
use Rattle.calls.proofs.reading.read_calls.Goals as goal

pub loop-place-preserved : goal.loop-place-preserved
loop-place-preserved c =
    let bytes = c.args.bytes.now in
    let place = c.loop-place.place in
    let call = c.in_ok-call.call in
    let h : BeginWith call (take (length bytes - place) (drop place bytes)) = search rules in
    let more = one_more bytes place c.loop-place.calls.items call c.loop-place.invariant.0 c.loop-place.invariant.1
    (subst (BeginWith call) (take_rest bytes place) h) in
    search (rules, more)

pub returns-in_err-push : goal.returns-in_err-push
returns-in_err-push c =
    let bytes = c.args.bytes.now in
    let place = c.loop-place.place in
    let call = c.in_ok-call.call in
    let h : BeginWith call (take (length bytes - place) (drop place bytes)) = search rules in
    let some : HaveCall bytes = some_call bytes place c.loop-place.calls.items call c.loop-place.invariant.0 c.loop-place.invariant.1
    (subst (BeginWith call) (take_rest bytes place) h) in
    let e : c.from_residual-in_err-push.result ≡ Err Memory = search rules in
    rw e some

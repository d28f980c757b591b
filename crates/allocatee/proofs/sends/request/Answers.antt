-- `sends::request` meets its contract.
use mathlib.Core.Path.{refl}
use Rattle.bits.specs.Part.{span}
use Rattle.allocatee.specs.Calls.{requests}
use Rattle.allocatee.specs.Layout.{unique_of, with_timer}
use Rattle.allocatee.specs.Limits.{stage_max}
use Rattle.allocatee.proofs.Sending.{sent-small, first_part, handed-on, not-sent, is-sent}
use Rattle.allocatee.proofs.sends.request.Goals as goal

pub returns-then-out-lt-REQUEST : goal.returns-then-out-lt-REQUEST
unfolding requests
returns-then-out-lt-REQUEST c = let a = c.args in sent-small 1 (span (unique_of a.bytes.now) 0 stage_max) a.bytes.now (with_timer a.bytes.now a.t a.x) a.t a.out.now c.if-out-lt-REQUEST.true

pub returns-in_err-len : goal.returns-in_err-len
unfolding requests
returns-in_err-len c =
    let a = c.args in
    let r = c.from_residual in
    let m = a.bytes.now in
    not-sent 1 _ (span (unique_of m) 0 stage_max) m (with_timer m a.t a.x) a.out.now c.encode.new.out c.preferred.result a.t
    c.preferred.ensures.0 c.preferred.ensures.1 (first_part m) c.if-out-lt-REQUEST.false _ c.in_err-len.ensures c.in_err-len.field-0.0 refl r.result (handed-on r.result _ r.ensures.1)

pub returns : goal.returns
unfolding requests
returns c =
    let a = c.args in
    let m = a.bytes.now in
    is-sent 1 _ (span (unique_of m) 0 stage_max) m (with_timer m a.t a.x) a.out.now c.encode.new.out c.preferred.result a.t
    c.preferred.ensures.0 c.preferred.ensures.1 (first_part m) c.if-out-lt-REQUEST.false _ c.in_ok-len.ensures c.in_ok-len.len refl
    c.timer.new.bytes c.timer.ensures c.wait-wait.result c.wait-wait.ensures

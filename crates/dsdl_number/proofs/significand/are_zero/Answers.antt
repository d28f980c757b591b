-- `significand::are_zero` meets its contract.
use Rattle.dsdl_number.proofs.Significands.{padded-length, padded-at, zero-on, zero-stop, zero-end}
use Rattle.dsdl_number.specs.inside.Significand.{significand, padded}
use Rattle.dsdl_number.specs.Integer.{digit_of}
use lib.ListN.{get_or}
use native.Mathlib.Omega.{arith}
use native.Mathlib.Numerals.{add-one}
use mathlib.Core.Path.{◌≡◌, sym, ap, ◌∙◌}
use Rattle.dsdl_number.proofs.significand.are_zero.Goals as goal

pub returns-then-digit_at-ne0 : goal.returns-then-digit_at-ne0
returns-then-digit_at-ne0 c =
    let a = c.args in
    let p : get_or (padded a.to (significand a.point a.s.now)) c.loop-k.k 48 ≡ get_or (significand a.point a.s.now) c.loop-k.k 48
    = padded-at a.to (significand a.point a.s.now) c.loop-k.k 48 (omega arith) in
    sym (zero-stop (padded a.to (significand a.point a.s.now)) c.loop-k.k (λ e. c.if-digit_at-ne0.true (c.digit_at.ensures.0 ∙ (ap digit_of (sym p) ∙ e))))
    ∙ c.loop-k.invariant

pub loop-k-preserved : goal.loop-k-preserved
loop-k-preserved c =
    let a = c.args in
    let p : get_or (padded a.to (significand a.point a.s.now)) c.loop-k.k 48 ≡ get_or (significand a.point a.s.now) c.loop-k.k 48
    = padded-at a.to (significand a.point a.s.now) c.loop-k.k 48 (omega arith) in
    rw add-one (sym (zero-on (padded a.to (significand a.point a.s.now)) c.loop-k.k (ap digit_of p ∙ (sym c.digit_at.ensures.0 ∙ c.if-digit_at-ne0.false)))
    ∙ c.loop-k.invariant)

pub returns : goal.returns
returns c =
    let a = c.args in
    sym (zero-end (padded a.to (significand a.point a.s.now)) c.loop-k.k (omega (arith, padded-length a.to (significand a.point a.s.now)))) ∙ c.loop-k.invariant

-- `field::octet` meets its contract: its bits lie in one byte or in two.
use Rattle.bits.proofs.Window.{read_one, read-two}
use Rattle.bits.specs.Order.{value_from, value, unpack}
use lib.ListN.{get_or, take, drop}
use Prim.Native.Nat.{ℕ, suc, ◌+◌, ◌-◌, ◌*◌, ◌/◌, ◌^◌, ◌<◌, ◌%◌}
use mathlib.Core.Path.{sym, ap, ◌∙◌}
use native.Mathlib.Numerals.{add-one}
use native.Mathlib.Omega.{arith}
use Rattle.bits.proofs.field.octet.Goals as goal

pub returns-then-k-eq0 : goal.returns-then-k-eq0
unfolding value_from
returns-then-k-eq0 c =
    let a = c.args in
    sym (ap (λ (n : ℕ). value (take n (drop a.at (unpack a.s.now)))) c.if-k-eq0.true)

pub returns-then-end-le8 : goal.returns-then-end-le8
returns-then-end-le8 c =
    let a = c.args in
    c.lowest.ensures ∙ ap (λ (b : ℕ). b / 2 ^ (8 - (a.at % 8 + a.k)) % 2 ^ a.k) c.wide.ensures ∙ read_one a.s.now a.at a.k (omega arith) (omega arith) (omega arith)

pub returns : goal.returns
returns c =
    let a = c.args in
    let i = a.at / 8 in
    let s = a.s.now in
    let b : get_or s (suc i) 0 < 256 = omega (arith, c.type_inv.s (suc i)) in
    c.lowest-2.ensures ∙ ap (λ (b : ℕ). b / 2 ^ (16 - (a.at % 8 + a.k)) % 2 ^ a.k) (c.pair.ensures ∙ ap (λ (n : ℕ). get_or s i 0 * 256 + get_or s n 0) (add-one i)) ∙ read-two s a.at a.k (omega arith) (omega arith) (omega arith) b

-- `is_carriable` meets its contract.
use mathlib.Core.Path.{◌≡◌, sym, ap, ◌∙◌}
use mathlib.Core.Bool.{false}
use mathlib.Core.List.{List}
use Prim.Native.Nat.{ℕ, ◌+◌, ◌-◌, ◌%◌, ◌^◌, ◌≤◌, ◌<◌}
use native.Mathlib.Omega.{arith}
use borrow.Author.Tests.{le-leb, lt-leb, eq-eqb, ne_eqb}
use lib.Dec.{ltb}
use Rattle.bits.specs.Little.{le}
use Rattle.bits.specs.Part.{span}
use Rattle.capture_record.specs.Record.{stamp_of, size_of, carriable}
use Rattle.capture_record.proofs.is_carriable.Goals as goal

module _ (r : List ℕ) (time len : ℕ) (t : time ≡ stamp_of r) (n : len ≡ size_of r) where
  long : 8 < len → false ≡ carriable r
  unfolding carriable
  long h = rw (lt-leb (size_of r) 8 (omega arith))

  module _ (few : len ≤ 8) (w : ℕ) (e : w ≡ le (span r (13 + len) (8 - len))) where
    past : le (span r (13 + size_of r) (8 - size_of r)) ≡ w
    past = ap (λ (k : ℕ). le (span r (13 + k) (8 - k))) (sym n) ∙ sym e

    dirty : 0 < w → false ≡ carriable r
    unfolding carriable
    dirty h =
        rw (le-leb (size_of r) 8 (omega arith), ne_eqb (le (span r (13 + size_of r) (8 - size_of r))) 0 (λ q. omega (arith, past)))

    module _ (clear : w ≤ 0) where
      part : 0 < time % 1000 → false ≡ carriable r
      unfolding carriable
      part h =
          rw (
            le-leb (size_of r) 8 (omega arith),
            eq-eqb (le (span r (13 + size_of r) (8 - size_of r))) 0 (omega (arith, past)),
            ne_eqb (stamp_of r % 1000) 0 (λ q. omega arith),
          )

      last : time % 1000 ≤ 0 → ltb time (10 ^ 15) ≡ carriable r
      unfolding carriable
      last h =
          rw (
            le-leb (size_of r) 8 (omega arith),
            eq-eqb (le (span r (13 + size_of r) (8 - size_of r))) 0 (omega (arith, past)),
            eq-eqb (stamp_of r % 1000) 0 (omega arith),
            t,
          )

pub returns-then-len-gt8 : goal.returns-then-len-gt8
returns-then-len-gt8 c =
    let a = c.args in
    long a.r.now a.time a.len c.requires.1.0 c.requires.1.1 c.if-len-gt8.true

pub returns-then-get_at-gt0 : goal.returns-then-get_at-gt0
returns-then-get_at-gt0 c =
    let a = c.args in
    dirty a.r.now a.time a.len c.requires.1.0 c.requires.1.1 c.if-len-gt8.false c.get_at.result c.get_at.ensures c.if-get_at-gt0.true

pub returns-then-time-gt0 : goal.returns-then-time-gt0
returns-then-time-gt0 c =
    let a = c.args in
    part a.r.now a.time a.len c.requires.1.0 c.requires.1.1 c.if-len-gt8.false c.get_at.result c.get_at.ensures c.if-get_at-gt0.false c.if-time-gt0.true

pub returns : goal.returns
returns c =
    let a = c.args in
    last a.r.now a.time a.len c.requires.1.0 c.requires.1.1 c.if-len-gt8.false c.get_at.result c.get_at.ensures c.if-get_at-gt0.false c.if-time-gt0.false

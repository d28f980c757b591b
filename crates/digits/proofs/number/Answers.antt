-- `number` meets its contract.
use Rattle.digits.proofs.Digits.{taken, stopped, grows}
use Rattle.digits.specs.Digits.{digit_of, number_from}
use Rattle.digits.specs.inside.Text.{as_number}
use lib.Seq.{drop-cons, drop-length}
use lib.ListN.{length, get_or, drop}
use lib.Dec.{lit<}
use native.Mathlib.Omega.{arith}
use native.Mathlib.Numerals.{add-one}
use Prim.Native.Nat.{ℕ, suc, ◌+◌, ◌*◌, ◌≤◌, ◌<◌}
use mathlib.Core.Option.{some, none}
use mathlib.Core.List.{List}
use mathlib.Core.Path.{◌≡◌, refl, sym, ap, ◌∙◌}
use Rattle.digits.proofs.number.Goals as goal

-- a turn that goes on, and one that stops
on : (s : List ℕ) (b v i d : ℕ) → i < length s → d ≡ digit_of (get_or s i 0) → d < b
    → number_from b v (drop i s) ≡ number_from b (v * b + d) (drop (suc i) s)
on s b v i d h e l = rw (drop-cons s i 0, e) (taken b v (get_or s i 0) (drop (suc i) s) (omega arith))

off : (s : List ℕ) (b v i d : ℕ) → i < length s → d ≡ digit_of (get_or s i 0) → b ≤ d → number_from b v (drop i s) ≡ none
off s b v i d h e l = rw (drop-cons s i 0) (stopped b v (get_or s i 0) (drop (suc i) s) (omega arith))

done : (s : List ℕ) (b v i : ℕ) → i ≡ length s → number_from b v (drop i s) ≡ some v
unfolding number_from
done s b v i e = rw (e, drop-length s)

pub loop-c-init : goal.loop-c-init
loop-c-init c = (lit< tt, refl)

pub returns-then-base-d : goal.returns-then-base-d
returns-then-base-d c =
    let a = c.args in
    sym (ap as_number (sym c.loop-c.invariant.1 ∙ off a.s.now a.base c.loop-c.v c.loop-c.c-index c.digit-d.result (omega arith)
    c.digit-d.ensures c.if-base-d.true))

pub overflow_mul-v : goal.overflow_mul-v
overflow_mul-v c =
    let a = c.args in
    omega (
      arith,
      grows c.loop-c.v c.loop-c.c-index a.base c.digit-d.result c.loop-c.invariant.0 (omega (arith, c.requires))
          c.requires.1 c.if-base-d.false,
    )

pub overflow_add-v : goal.overflow_add-v
overflow_add-v c =
    let a = c.args in
    omega (
      arith,
      grows c.loop-c.v c.loop-c.c-index a.base c.digit-d.result c.loop-c.invariant.0 (omega (arith, c.requires))
          c.requires.1 c.if-base-d.false,
    )

pub loop-c-preserved : goal.loop-c-preserved
loop-c-preserved c =
    let a = c.args in
    let g = grows c.loop-c.v c.loop-c.c-index a.base c.digit-d.result c.loop-c.invariant.0 (omega (arith, c.requires))
    c.requires.1 c.if-base-d.false in
    let o = on a.s.now a.base c.loop-c.v c.loop-c.c-index c.digit-d.result (omega arith) c.digit-d.ensures c.if-base-d.false in
    rw add-one (g.0, sym o ∙ c.loop-c.invariant.1)

pub returns : goal.returns
returns c =
    let a = c.args in
    ap as_number (sym (done a.s.now a.base c.loop-c.v c.loop-c.c-index (omega arith)) ∙ c.loop-c.invariant.1)

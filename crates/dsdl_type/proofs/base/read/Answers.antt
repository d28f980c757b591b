-- `base::read` meets its contract.
use Rattle.dsdl_text.proofs.Choices.{first, next, by}
use Rattle.dsdl_type.proofs.Bases.{read_as, no_bits}
use Rattle.dsdl_type.specs.Base.{bits_of, base_of}
use Rattle.dsdl_text.proofs.Parts.{rest}
use lib.ListN.{length, take, drop}
use native.Mathlib.Omega.{arith}
use Prim.Native.Nat.{ℕ, ◌-◌}
use mathlib.Core.Path.{◌≡◌, refl, ap}
use Rattle.dsdl_type.proofs.base.read.Goals as goal

pub returns-then-same : goal.returns-then-same
unfolding base_of
returns-then-same c = first _ _ _ (by c.same.ensures c.if-same.true)

pub returns-in-Some : goal.returns-in-Some
unfolding base_of
returns-in-Some c =
    let s = c.args.s.now in
    let z : c.run-n.result - 0 ≡ c.run-n.result = omega arith in
    let w : c.in-Some.w ≡ bits_of (take (length s - c.run-n.result) (drop c.run-n.result s)) = c.in-Some.ensures.0 in
    next _ _ _ _ (by c.same.ensures c.if-same.false)
    (read_as s (take (c.run-n.result - 0) s) (take (length s - c.run-n.result) (drop c.run-n.result s)) c.run-n.result c.in-Some.w c.nested-other.result
    c.primitive.result c.run-n.ensures.0 (ap (λ (k : ℕ). take k s) z) (rest c.run-n.result s) w c.nested-other.ensures
    c.primitive.ensures)

pub returns-in-None : goal.returns-in-None
unfolding base_of
returns-in-None c =
    let s = c.args.s.now in
    let w : 0 ≡ bits_of (take (length s - c.run-n.result) (drop c.run-n.result s)) = c.in-None.ensures.0 in
    next _ _ _ _ (by c.same.ensures c.if-same.false)
    (read_as s (take c.run-n.result s) (take (length s - c.run-n.result) (drop c.run-n.result s)) c.run-n.result 0 c.nested-other.result
    c.nested-other.result c.run-n.ensures.0 refl (rest c.run-n.result s) w c.nested-other.ensures (no_bits (take c.run-n.result s) c.nested-other.result))

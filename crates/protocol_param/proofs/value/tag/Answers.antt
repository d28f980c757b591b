-- `value::tag` meets its contract.
use mathlib.Core.Path.{sym, ap, ◌∙◌}
use Prim.Native.Nat.{ℕ, ◌-◌}
use native.Mathlib.Omega.{arith}
use lib.ListN.{drop}
use Rattle.bits.specs.Order.{unpack, from_bits}
use Rattle.protocol_param.proofs.ValueFacts.{narrow, tag-none}
use Rattle.protocol_param.specs.Value.{tag_at}
use Rattle.protocol_param.proofs.value.tag.Goals as goal

pub returns-then-s-lt1 : goal.returns-then-s-lt1
returns-then-s-lt1 c = let a = c.args in sym (tag-none a.cases a.s.now (omega arith))

pub overflow_sub-w : goal.overflow_sub-w
overflow_sub-w c = let a = c.args in omega (arith, c.width-w.ensures, narrow a.cases (omega arith))

pub read-requires : goal.read-requires
read-requires c =
    let a = c.args in
    let n = narrow a.cases (omega arith) in
    (omega (arith, c.width-w.ensures, n), (omega (arith, c.width-w.ensures, n), omega (arith, c.width-w.ensures, n, c.if-s-lt1.false)))

pub returns : goal.returns
unfolding tag_at
returns c =
    let s = c.args.s.now in
    c.read.ensures ∙ ap (λ (k : ℕ). from_bits k (drop (8 - k) (unpack s))) c.width-w.ensures

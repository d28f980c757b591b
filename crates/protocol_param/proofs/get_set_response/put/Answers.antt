-- `get_set_response::put` meets its contract: padding, and the value after it.
use mathlib.Core.Path.{ap}
use Prim.Native.Nat.{ℕ, ◌+◌}
use native.Mathlib.Omega.{arith}
use lib.ListN.{length}
use Rattle.protocol_param.proofs.WriteFacts.{padded-stored}
use Rattle.protocol_param.proofs.ValueFacts.{narrow, size-some}
use Rattle.protocol_param.proofs.get_set_response.put.Goals as goal

pub overflow_sub-w : goal.overflow_sub-w
overflow_sub-w c = omega (arith, c.width-w.ensures, narrow c.args.cases (omega arith))

pub write-requires : goal.write-requires
write-requires c =
    let a = c.args in
    let n = narrow a.cases (omega arith) in
    (omega (arith, c.width-w.ensures, n), (omega arith, omega (arith, c.width-w.ensures, n, size-some a.v (length a.text.now))))

pub returns : goal.returns
returns c =
    let a = c.args in (
      ap (λ (k : ℕ). a.at + k) c.written_size.ensures,
      padded-stored a.cases (omega arith) a.v a.text.now a.out.now c.write.new.s c.write-2.new.out a.at c.width-w.result
          c.width-w.ensures (omega (arith, size-some a.v (length a.text.now))) c.write.ensures c.write-2.ensures,
    )

-- `le::put_u64` meets its contract: two numbers of four bytes side by side.
use mathlib.Core.Path.{sym, ap, ◌∙◌}
use mathlib.Core.List.{List}
use Prim.Native.Nat.{ℕ, ◌/◌, ◌%◌}
use native.Mathlib.Omega.{arith}
use Rattle.bits.specs.Little.{le_bytes}
use Rattle.bits.specs.Part.{splice}
use Rattle.bits.proofs.Little.{length-le_bytes, le_bytes-four}
use Rattle.bits.proofs.Splice.{splice-next}
use Rattle.bits.proofs.le.put_u64.Goals as goal

pub returns : goal.returns
returns c =
    let a = c.args in
    let m = a.s.now in
    splice-next m c.put_u32.new.s c.put_u32-2.new.s a.at 4 (le_bytes 4 (a.v % 4294967296)) (le_bytes 4 (a.v / 4294967296)) (omega arith)
    (length-le_bytes 4 (a.v % 4294967296)) c.put_u32.ensures c.put_u32-2.ensures
    ∙ ap (λ (x : List ℕ). splice m a.at x) (sym (le_bytes-four 4 a.v))

-- `step` meets its contract: the law of a part by a table, at 8 bits.
use Prim.Native.Nat.{ℕ, ◌/◌, ◌<◌}
use native.Mathlib.Omega.{arith}
use borrow.Author.Rules.{rules}
use lib.Bits.{bit_xor, xor_lt}
use Rattle.checksum.proofs.Tables.{byte_step}
use Rattle.checksum_table.proofs.step.Goals as goal

-- the index has eight bits
small : (c b : ℕ) → c < 65536 → b < 256 → bit_xor (c / 256) b < 256
small c b hc hb = xor_lt 8 (c / 256) b (omega arith) hb

pub returns : goal.returns
returns c =
    let a = c.args in
    let s = small a.c a.b (search rules) (search rules) in
    byte_step a.c a.b _ (search rules) (c.requires.entry (bit_xor (a.c / 256) a.b) s)

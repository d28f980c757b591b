-- `crc16::two` meets its contract: the two entries are those of the byte's step.
use mathlib.Core.Path.{ap₂, ◌∙◌}
use Prim.Native.Nat.{ℕ, ◌*◌, ◌/◌, ◌%◌, ◌<◌}
use native.Mathlib.Omega.{arith}
use borrow.Author.Rules.{rules}
use lib.Bits.{bit_xor, xor_lt}
use Rattle.checksum.proofs.Tables.{two_steps}
use Rattle.checksum.proofs.crc16.two.Goals as goal

-- the second index has four bits
small : (x : ℕ) → x < 256 → bit_xor (x % 16) (x / 16) < 16
small x h = xor_lt 4 (x % 16) (x / 16) (omega arith) (omega arith)

pub bounds-t-l : goal.bounds-t-l
bounds-t-l c = small c.args.x (search rules)

pub returns : goal.returns
returns c =
    let a = c.args in
    let e = c.requires.entry in
    ap₂ (λ (y z : ℕ). bit_xor (y * 16 % 65536) z) (e (a.x / 16) (omega arith)) (e (bit_xor (a.x % 16) (a.x / 16)) (small a.x (search rules)))
    ∙ two_steps a.x (search rules)

-- `up` meets its contract: of a number of 16 bits the top place is one bit.
use mathlib.Core.Path.{◌≡◌, ap}
use Prim.Native.Nat.{ℕ, ◌*◌, ◌/◌, ◌%◌, ◌<◌}
use native.Mathlib.Omega.{arith}
use borrow.Author.Rules.{rules}
use lib.Bits.{bit_xor}
use Rattle.checksum.specs.Crc.{shift}
use Rattle.checksum.specs.Crc16.{ccitt}
use Rattle.patch.proofs.up.Goals as goal

same : (c : ℕ) → c < 65536 → bit_xor (c * 2 % 65536) (c / 32768 * 0x1021) ≡ shift ccitt c
unfolding shift
same c h =
    let d : c / 32768 < 2 = omega arith in
    let m : c / 32768 ≡ c / 32768 % 2 = omega arith in
    ap (λ (x : ℕ). bit_xor (c * 2 % 65536) (x * 0x1021)) m

pub returns : goal.returns
returns c = same c.args.c (search rules)

-- `crc64::up` meets its contract: the top bit is clear or set.
use mathlib.Core.Path.{◌≡◌, sym, ap, ◌∙◌}
use Prim.Native.Nat.{ℕ, ◌*◌, ◌/◌, ◌%◌, ◌≤◌, ◌<◌}
use native.Mathlib.Omega.{arith}
use borrow.Author.Rules.{rules}
use lib.Bits.{bit_xor, xor_zero_r}
use Rattle.checksum.specs.Crc.{shift}
use Rattle.checksum.specs.Signature.{we}
use Rattle.checksum.proofs.crc64.up.Goals as goal

clear : (c : ℕ) → c < 0x8000000000000000 → c * 2 % 0x10000000000000000 ≡ shift we c
unfolding shift
clear c h =
    let z : c / 0x8000000000000000 % 2 * 0x42F0E1EBA9EA3693 ≡ 0 = omega arith in
    sym (ap (bit_xor (c * 2 % 0x10000000000000000)) z ∙ xor_zero_r (c * 2 % 0x10000000000000000))

set : (c : ℕ) → 0x8000000000000000 ≤ c → c < 0x10000000000000000 → bit_xor (c * 2 % 0x10000000000000000) 0x42F0E1EBA9EA3693 ≡ shift we c
unfolding shift
set c h l =
    let o : c / 0x8000000000000000 % 2 ≡ 1 = omega arith in
    ap (λ (x : ℕ). bit_xor (c * 2 % 0x10000000000000000) (x * 0x42F0E1EBA9EA3693)) (sym o)

pub returns-then-c-lt9223372036854775808 : goal.returns-then-c-lt9223372036854775808
returns-then-c-lt9223372036854775808 c = clear c.args.c c.if-c-lt9223372036854775808.true

pub returns : goal.returns
returns c = set c.args.c c.if-c-lt9223372036854775808.false (search rules)

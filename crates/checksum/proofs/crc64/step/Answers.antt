-- `crc64::step` meets its contract: the places still to go, from the register so far, give the whole.
use mathlib.Core.Path.{◌≡◌, ap}
use Prim.Native.Nat.{ℕ, suc, ◌+◌, ◌*◌, ◌-◌, ◌%◌, ◌<◌}
use native.Mathlib.Omega.{arith}
use borrow.Author.Rules.{rules}
use lib.Bits.{bit_xor}
use Rattle.checksum.specs.Crc.{shift, shifts, crc_byte}
use Rattle.checksum.specs.Signature.{we}
use Rattle.checksum.proofs.crc64.step.Goals as goal

begin : (c b : ℕ) → b < 256 → shifts we 8 (bit_xor c (b * 0x100000000000000 % 0x10000000000000000)) ≡ crc_byte we c b
unfolding crc_byte
begin c b h =
    let e : b * 0x100000000000000 % 0x10000000000000000 ≡ b * 0x100000000000000 = omega arith in
    ap (λ (x : ℕ). shifts we 8 (bit_xor c x)) e

turn : (r q i goal : ℕ) → i < 8 → q ≡ shift we r → shifts we (8 - i) r ≡ goal → shifts we (8 - (i + 1)) q ≡ goal
unfolding shifts
turn r q i goal h e f =
    let s : 8 - i ≡ suc (8 - (i + 1)) = omega arith in
    rw e (rw s at f)

done : (r k goal : ℕ) → k ≡ 0 → shifts we k r ≡ goal → r ≡ goal
unfolding shifts
done r k goal e f = rw e at f

pub loop-init : goal.loop-init
loop-init c = let a = c.args in begin a.c a.b (search rules)

pub loop-preserved : goal.loop-preserved
loop-preserved c = turn c.loop.r c.up-r.result c.loop.counter _ (omega arith) c.up-r.ensures c.loop.invariant

pub returns : goal.returns
returns c = done c.loop.r (8 - c.loop.counter) _ (omega arith) c.loop.invariant

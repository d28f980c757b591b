-- `crc16::signed` meets its contract: what is left of the signature, from the state so far, gives the whole.
use mathlib.Core.Path.{◌≡◌, sym, ◌∙◌}
use Prim.Native.Nat.{ℕ, suc, ◌+◌, ◌-◌, ◌/◌, ◌%◌, ◌<◌}
use native.Mathlib.Omega.{arith}
use Rattle.checksum.specs.Crc.{crc_byte, crc_over}
use Rattle.checksum.specs.Crc16.{ccitt}
use Rattle.bits.specs.Little.{le_bytes}
use Rattle.checksum.proofs.crc16.signed.Goals as goal

turn : (r q s i : ℕ) → i < 8 → q ≡ crc_byte ccitt r (s % 256) → crc_over ccitt q (le_bytes (8 - (i + 1)) (s / 256)) ≡ crc_over ccitt r (le_bytes (8 - i) s)
unfolding crc_over le_bytes
turn r q s i h e =
    let f : 8 - i ≡ suc (8 - (i + 1)) = omega arith in
    rw (e, f)

done : (r s k : ℕ) → k ≡ 0 → crc_over ccitt r (le_bytes k s) ≡ r
unfolding crc_over le_bytes
done r s k e = rw e

pub loop-preserved : goal.loop-preserved
loop-preserved c =
    turn c.loop.r c.step-r.result c.loop.x c.loop.counter (omega arith) c.step-r.ensures ∙ c.loop.invariant

pub returns : goal.returns
returns c =
    sym (done c.loop.r c.loop.x (8 - c.loop.counter) (omega arith)) ∙ c.loop.invariant

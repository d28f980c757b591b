-- `patch` meets its contract: 11 from 512 bytes on, and else what the difference leaves, in the checksum.
use mathlib.Core.Path.{◌≡◌}
use mathlib.Core.List.{◌∷◌}
use Prim.Native.Nat.{ℕ, ◌≤◌, ◌<◌}
use native.Mathlib.Omega.{arith}
use borrow.Author.Rules.{rules}
use borrow.Author.Tests.{le-leb, lt-leb}
use lib.Bits.{bit_xor}
use lib.ListN.{replicate}
use Rattle.checksum.specs.Crc.{crc_over}
use Rattle.checksum.specs.Crc16.{ccitt}
use Rattle.rules.specs.Limits.{payload_max}
use Rattle.patch.specs.Patch.{patched, patches}
use Rattle.patch.specs.declared.PatchError.TheVariants.{TooLong}
use Rattle.std.specs.declared.result.Result.TheVariants.{Ok, Err}
use Rattle.patch.proofs.patch.Goals as goal

refused : (c old new n : ℕ) → payload_max ≤ n → Err TooLong ≡ patches c old new n
unfolding patches
refused c old new n h = rw (le-leb payload_max n h)

corrected : (c old new n z : ℕ) → n < payload_max → z ≡ crc_over ccitt 0 (bit_xor old new ∷ replicate n 0) → Ok (bit_xor c z) ≡ patches c old new n
unfolding patches patched
corrected c old new n z h e = rw (lt-leb payload_max n h, e)

pub returns-then-after-ge-PAYLOAD : goal.returns-then-after-ge-PAYLOAD
returns-then-after-ge-PAYLOAD c =
    let a = c.args in
    refused a.checksum a.old a.new a.after (search rules)

pub returns : goal.returns
returns c =
    let a = c.args in
    corrected a.checksum a.old a.new a.after c.spread.result (omega arith) c.spread.ensures

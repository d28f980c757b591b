-- What an answer holds is in its range.
use mathlib.Core.Path.{sym, subst}
use mathlib.Core.Bool.{Bool, true, false}
use mathlib.Core.List.{◌∷◌}
use Prim.Native.Nat.{ℕ, ◌≤◌, ◌<◌}
use native.Mathlib.Omega.{arith}
use lib.Bits.{bit_xor, xor_lt}
use lib.Dec.{leb}
use lib.ListN.{replicate}
use Rattle.checksum.specs.Crc.{crc_over}
use Rattle.checksum.specs.Crc16.{ccitt}
use Rattle.checksum.proofs.Window.{over-feeds, feeds-lt}
use Rattle.rules.specs.Limits.{payload_max}
use Rattle.rules.specs.Tests.{pick}
use Rattle.patch.specs.Answer.{number_of, checksum_in}
use Rattle.patch.specs.Patch.{patched, patches}
use Rattle.patch.specs.declared.PatchError.TheVariants.{TooLong}
use Rattle.std.specs.declared.result.Result.TheVariants.{Ok, Err}

patched-lt : (c old new n : ℕ) → c < 65536 → patched c old new n < 65536
unfolding patched
patched-lt c old new n h =
    let d = bit_xor old new ∷ replicate n 0 in
    xor_lt 16 c (crc_over ccitt 0 d) h (subst (λ (z : ℕ). z < 65536) (sym (over-feeds 0 d)) (feeds-lt 0 _ (omega arith)))

pub number-range : (c old new n : ℕ) → number_of (patches c old new n) ≤ 11
unfolding patches
number-range c old new n = go (leb payload_max n)
  where
    go : (b : Bool) → number_of (pick b (Err TooLong) (Ok (patched c old new n))) ≤ 11
    go true = omega arith
    go false = omega arith

pub checksum-range : (c old new n : ℕ) → c < 65536 → checksum_in (patches c old new n) < 65536
unfolding patches
checksum-range c old new n h = go (leb payload_max n)
  where
    go : (b : Bool) → checksum_in (pick b (Err TooLong) (Ok (patched c old new n))) < 65536
    go true = omega arith
    go false = patched-lt c old new n h

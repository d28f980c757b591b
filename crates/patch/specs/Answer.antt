-- RULES 13.1, 6.7: the answers of a correction. The number of each case, and the checksum.
use Rattle.std.specs.Prelude.{ℕ, Result, Ok, Err}
use Rattle.patch.specs.declared.PatchError.{PatchError}
use Rattle.patch.specs.declared.PatchError.TheVariants.{TooLong}

abbrev pub Patched : Type 0
Patched = Result ℕ PatchError

abbrev pub number_of : Patched → ℕ
number_of (Ok c) = 0
number_of (Err TooLong) = 11

abbrev pub checksum_in : Patched → ℕ
checksum_in (Ok c) = c
checksum_in (Err TooLong) = 0

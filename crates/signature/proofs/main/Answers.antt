-- `main` lends buffers of the lengths that are asked.
use Rattle.std.proofs.Common.{ℕ, sym}
use lib.ListN.{length-replicate}
use Rattle.signature.proofs.main.Goals as goal

pub slice_bounds-whole-end-2 : goal.slice_bounds-whole-end-2
slice_bounds-whole-end-2 c = sym (length-replicate {A = ℕ} 564000 0)

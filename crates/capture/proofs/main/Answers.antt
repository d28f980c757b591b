-- `main` lends buffers of the lengths that are asked.
use Rattle.std.proofs.Common.{ℕ, sym}
use lib.ListN.{length-replicate}
use Rattle.capture.proofs.main.Goals as goal

pub slice_bounds-run-end-2 : goal.slice_bounds-run-end-2
slice_bounds-run-end-2 c = sym (length-replicate {A = ℕ} 688128 0)

pub run-requires : goal.run-requires
run-requires c = (length-replicate {A = ℕ} 32768 0, length-replicate {A = ℕ} 688128 0)

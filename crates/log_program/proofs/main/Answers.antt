-- `main` lends buffers of the lengths that are asked.
use Rattle.std.proofs.Common.{ℕ, sym}
use lib.ListN.{length-replicate}
use Rattle.state.specs.Layout.{size}
use Rattle.log_program.proofs.main.Goals as goal

pub slice_bounds-whole-end-3 : goal.slice_bounds-whole-end-3
slice_bounds-whole-end-3 c = sym (length-replicate {A = ℕ} 656560 0)

pub whole-requires : goal.whole-requires
whole-requires c = (length-replicate {A = ℕ} size 0, (length-replicate {A = ℕ} 8192 0, length-replicate {A = ℕ} 656560 0))

-- `frames::first` meets its contract.
use Prim.Native.Nat.{◌+◌, ◌*◌, ◌/◌, ◌%◌, ◌^◌, ◌<◌}
use native.Mathlib.Omega.{arith}
use Rattle.bits.proofs.Octets.{octets-all}
use Rattle.sender.proofs.Pieces.{first_fits, first-is}
use Rattle.sender.proofs.frames.first.Goals as goal
use Rattle.sender.proofs.frames.first.Goals.{After-word}

fits_word : (w : After-word) → let sum = w.args.sum in (w.word.result * 256 + sum / 256) * 256 + sum % 256 < 2 ^ 64
fits_word w =
    let a = w.args in
    first_fits a.payload.now a.sum a.tail w.word.result (octets-all a.payload.now (λ i. omega (arith, w.shared_slice_known-1.given i))) (omega arith) (omega arith) (omega arith) w.word.ensures

pub overflow_mul-word : goal.overflow_mul-word
overflow_mul-word c = omega (arith, fits_word (goal.at.overflow_mul-word c).After-word)

pub overflow_add-word : goal.overflow_add-word
overflow_add-word c = omega (arith, fits_word (goal.at.overflow_add-word c).After-word)

pub overflow_mul-word-2 : goal.overflow_mul-word-2
overflow_mul-word-2 c = omega (arith, fits_word (goal.at.overflow_mul-word-2 c).After-word)

pub overflow_add-word-2 : goal.overflow_add-word-2
overflow_add-word-2 c = omega (arith, fits_word (goal.at.overflow_add-word-2 c).After-word)

pub returns : goal.returns
returns c =
    let a = c.args in
    first-is a.payload.now a.sum a.tail c.word.result (octets-all a.payload.now (λ i. omega (arith, c.shared_slice_known-1.given i))) (omega arith) (omega arith) (omega arith) c.word.ensures a.out.now c.put.new.out a.id c.put.ensures

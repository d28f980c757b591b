-- `word::of_answer` meets its contract: the number, and above it the values of the transfer.
use mathlib.Core.Path.{◌≡◌, sym, ap, ap₂, subst, ◌∙◌}
use Prim.Native.Nat.{◌+◌, ◌^◌, ◌<◌}
use native.Mathlib.Omega.{arith}
use Rattle.answers.specs.declared.Transfer.{Transfer}
use Rattle.answers.specs.Word.{transfer_word, word_of, TransferFits}
use Rattle.answers.proofs.word.of_answer.Goals as goal

word_lt : (t : Transfer) → TransferFits t → transfer_word t < 2 ^ 60
unfolding transfer_word
word_lt t h = omega (arith, h)

fits : (t u : Transfer) → t ≡ u → TransferFits u → TransferFits t
fits t u e = subst TransferFits (sym e)

pub of_transfer-requires : goal.of_transfer-requires
of_transfer-requires c = fits c.transfer.result _ c.transfer.ensures c.requires.transfer

pub overflow_add-result : goal.overflow_add-result
overflow_add-result c =
    let w = word_lt c.transfer.result (fits c.transfer.result _ c.transfer.ensures c.requires.transfer) in
    omega (arith, c.of_transfer.ensures, c.number.ensures.1)

pub returns : goal.returns
unfolding word_of
returns c = ap₂ ◌+◌ c.number.ensures.0 (c.of_transfer.ensures ∙ ap transfer_word c.transfer.ensures)

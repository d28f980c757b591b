-- `log_message::encode` meets its contract: the message call on the row's level.
use mathlib.Core.Path.{refl, ap, ◌∙◌}
use native.Mathlib.Omega.{arith}
use lib.IntN.{ℤ}
use Rattle.bits.specs.Width.{width_of, width_in}
use Rattle.shape.specs.Shape.{written}
use Rattle.protocol_debug.specs.LogMessage.{log_message}
use Rattle.row.proofs.Rows.{counted, write-short, write_as}
use Rattle.row.proofs.Lengths.{word_fits}
use Rattle.message_fields.proofs.log_message.encode.Goals as goal

pub returns-then-fields-lt5 : goal.returns-then-fields-lt5
returns-then-fields-lt5 c = let a = c.args in write-short 5 a.fields.now _ a.out.now (omega arith)

pub of_written-requires : goal.of_written-requires
unfolding width_of width_in
of_written-requires c =
    let a = c.args in
    word_fits log_message refl _ a.out.now _ _ c.encode.ensures

pub returns : goal.returns
returns c =
    let a = c.args in
    let m = a.out.now in
    write_as 5 a.fields.now _ m (omega arith) _ _ (c.encode.ensures ∙ ap (λ (z : ℤ). written log_message (z, (a.source.now, a.text.now)) m) (counted _ _ c.count.ensures)) _ c.of_written.ensures

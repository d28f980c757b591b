-- `key_value::encode` meets its contract: the message call on the row's float; 17 for what is none.
use mathlib.Core.Path.{◌≡◌, refl}
use mathlib.Core.List.{List}
use Prim.Native.Nat.{ℕ, ◌^◌, ◌≤◌}
use native.Mathlib.Omega.{arith}
use borrow.Author.Tests.{le-ltb}
use lib.ListN.{get_or}
use Rattle.shape.specs.Answer.{refused, refuse_if}
use Rattle.shape.specs.Shape.{fits, encoded}
use Rattle.protocol_debug.specs.KeyValue.{key_value}
use Rattle.row.proofs.Rows.{write-short, write-refused, write_as}
use Rattle.row.proofs.Lengths.{word_fits}
use Rattle.message_fields.proofs.key_value.encode.Goals as goal

no-float : (x : ℕ) (key : List ℕ) (room : ℕ) → 2 ^ 32 ≤ x → encoded key_value (x, key) room ≡ refused 17
unfolding encoded fits refuse_if
no-float x key room h = rw (le-ltb x (2 ^ 32) h)

pub returns-then-fields-lt3 : goal.returns-then-fields-lt3
returns-then-fields-lt3 c = let a = c.args in write-short 3 a.fields.now _ a.out.now (omega arith)

pub returns-then-x-gt4294967295 : goal.returns-then-x-gt4294967295
returns-then-x-gt4294967295 c =
    let a = c.args in
    write-refused 3 a.fields.now _ a.out.now (omega arith) 17 (no-float (get_or a.fields.now 0 0) _ _ (omega arith))

pub of_written-requires : goal.of_written-requires
of_written-requires c =
    let a = c.args in
    word_fits key_value refl _ a.out.now _ _ c.encode.ensures

pub returns : goal.returns
returns c =
    let a = c.args in
    write_as 3 a.fields.now _ a.out.now (omega arith) _ _ c.encode.ensures _ c.of_written.ensures

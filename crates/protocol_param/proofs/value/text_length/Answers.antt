-- `value::text_length` meets its contract.
use mathlib.Core.Path.{sym, ap, ◌∙◌}
use mathlib.Core.List.{List}
use Prim.Native.Nat.{ℕ}
use native.Mathlib.Omega.{arith}
use lib.ListN.{length, drop}
use Rattle.bits.specs.Order.{unpack, from_bits}
use Rattle.bits.specs.Width.{width_of}
use Rattle.protocol_param.proofs.ValueFacts.{eight, byte-none, no_text, text-is}
use Rattle.protocol_param.proofs.value.text_length.Goals as goal

pub returns-then-tag-ne4 : goal.returns-then-tag-ne4
returns-then-tag-ne4 c =
    sym (no_text c.args.s.now (λ e. c.if-tag-ne4.true (c.tag.ensures ∙ e)))

pub returns-then-rest-lt1 : goal.returns-then-rest-lt1
returns-then-rest-lt1 c =
    let s = c.args.s.now in
    sym (text-is s (sym c.tag.ensures ∙ c.if-tag-ne4.false) ∙ byte-none (drop 1 s) (omega (arith, ap (λ (l : List ℕ). length l) c.behind-rest.ensures, c.if-rest-lt1.true)))

pub read-requires : goal.read-requires
read-requires c = (omega (arith, eight, c.width.ensures), (omega arith, omega (arith, eight, c.width.ensures)))

pub returns : goal.returns
returns c =
    let s = c.args.s.now in
    c.read.ensures ∙ ap (λ (k : ℕ). from_bits k (unpack c.behind-rest.result.now)) c.width.ensures
    ∙ ap (λ (l : List ℕ). from_bits (width_of 128) (unpack l)) c.behind-rest.ensures ∙ sym (text-is s (sym c.tag.ensures ∙ c.if-tag-ne4.false))

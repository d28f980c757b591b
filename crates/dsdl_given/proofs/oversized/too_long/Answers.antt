-- `oversized::too_long` meets its contract: what is left decides.
use Rattle.dsdl_given.proofs.Lengths.{long-text, past, goes_on, no_more}
use Rattle.dsdl_given.specs.Given.{length_at, too_long}
use Rattle.bits.specs.Tabulate.{tabulate}
use native.Mathlib.Nat.{sub-zero}
use native.Mathlib.Omega.{arith}
use lib.ListN.{length}
use Prim.Native.Nat.{ℕ, ◌+◌, ◌*◌, ◌/◌}
use mathlib.Core.Path.{◌≡◌, sym, ap, ◌∙◌}
use Rattle.dsdl_given.proofs.oversized.too_long.Goals as goal

pub loop-i-init : goal.loop-i-init
loop-i-init c =
    let a = c.args in
    ap (λ (m : ℕ). too_long a.size (tabulate (length_at a.lengths.now) 0 m)) (sub-zero (length a.lengths.now / 8 * 2))

pub returns-then-text-gt-TEXT : goal.returns-then-text-gt-TEXT
returns-then-text-gt-TEXT c =
    let f = length_at c.args.lengths.now in
    long-text f (c.loop-i.i * 2) _ (omega arith) c.loop-i.left c.length-name.result c.length-text.result c.length-name.ensures.0 c.length-text.ensures.0 c.if-text-gt-TEXT.true ∙ c.loop-i.invariant

pub returns-then-left-name : goal.returns-then-left-name
returns-then-left-name c =
    let f = length_at c.args.lengths.now in
    past f (c.loop-i.i * 2) _ (omega arith) c.loop-i.left c.length-name.result c.length-text.result c.length-name.ensures.0 c.length-text.ensures.0 c.if-text-gt-TEXT.false c.if-left-name.true ∙ c.loop-i.invariant

pub loop-i-preserved : goal.loop-i-preserved
loop-i-preserved c =
    let f = length_at c.args.lengths.now in
    let n = length c.args.lengths.now / 8 * 2 in
    let next : (c.loop-i.i + 1) * 2 ≡ c.loop-i.i * 2 + 2 = omega arith in
    rw next (sym (goes_on f (c.loop-i.i * 2) n (omega arith) c.loop-i.left c.length-name.result c.length-text.result c.length-name.ensures.0 c.length-text.ensures.0 c.if-text-gt-TEXT.false c.if-left-name.false) ∙ c.loop-i.invariant)

pub returns : goal.returns
returns c =
    no_more (length_at c.args.lengths.now) (c.loop-i.i * 2) _ c.loop-i.left (omega arith) ∙ c.loop-i.invariant

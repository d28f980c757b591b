-- `fault::named` meets its contract.
use native.Mathlib.Numerals.{add-one}
use Rattle.dsdl_text.proofs.Choices.{by}
use Rattle.dsdl.proofs.Readings.{name-again, name-first}
use Rattle.dsdl.proofs.fault.named.Goals as goal

pub returns-then-is_taken : goal.returns-then-is_taken
returns-then-is_taken c =
    let a = c.args in
    rw c.at_fault.ensures (name-again a.t.now a.seen.now a.marks.now a.s c.requires.kept.0 a.n c.requires.kept.1.1.0 a.fields a.w (by c.is_taken.ensures c.if-is_taken.true))

pub returns : goal.returns
returns c =
    let a = c.args in
    rw (add-one, add-one) (name-first a.t.now a.seen.now a.marks.now a.s c.requires.kept.0 a.n c.requires.kept.1.1.0 a.fields a.w (by c.is_taken.ensures c.if-is_taken.false)
    c.requires.kept.1.1.1.0 c.packed.result c.mark_at-m.result c.requires.kept.1.0 c.packed.ensures c.mark_at-m.ensures.0 c.mark_at-m.ensures.1)

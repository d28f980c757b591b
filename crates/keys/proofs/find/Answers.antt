-- `find` meets its contract: no place passed has the key.
use mathlib.Core.Path.{◌≡◌, sym, ◌∙◌}
use native.Mathlib.Numerals.{add-one}
use native.Mathlib.Omega.{arith}
use borrow.Author.Tests.{eq-eqb, ne_eqb}
use Rattle.keys.specs.inside.Keys.{word_at}
use Rattle.keys.proofs.Lowest.{hit, miss, none}
use Rattle.keys.proofs.find.Invariants.{has}
use Rattle.keys.proofs.find.Goals as goal

pub returns-then-get_u32-k : goal.returns-then-get_u32-k
returns-then-get_u32-k c =
    let a = c.args in
    let f = has a.s.now a.at a.k in
    sym (hit f c.loop-i.i a.n (omega arith) (eq-eqb (word_at a.s.now a.at c.loop-i.i) a.k (sym c.get_u32.ensures ∙ c.if-get_u32-k.true))) ∙ c.loop-i.invariant

pub loop-i-preserved : goal.loop-i-preserved
loop-i-preserved c =
    let a = c.args in
    let f = has a.s.now a.at a.k in
    rw add-one (sym (miss f c.loop-i.i a.n (omega arith) (ne_eqb (word_at a.s.now a.at c.loop-i.i) a.k (λ e. c.if-get_u32-k.false (c.get_u32.ensures ∙ e)))) ∙ c.loop-i.invariant)

pub returns : goal.returns
returns c =
    let a = c.args in
    let e : a.n ≡ c.loop-i.i = omega arith in
    e ∙ sym (none (has a.s.now a.at a.k) c.loop-i.i a.n (omega arith)) ∙ c.loop-i.invariant

-- `key_is_new` meets its contract: what is left decides.
use mathlib.Core.Path.{refl, sym, ap, ◌∙◌}
use mathlib.Core.Bool.{true, false}
use native.Mathlib.Omega.{arith}
use borrow.Author.Tests.{eq-eqb, ne_eqb}
use Rattle.rules.specs.Setup.{unlike}
use Rattle.setup.specs.Setup.{record_at}
use Rattle.setup.proofs.Records.{tab-end, unlike-turn}
use Rattle.setup.proofs.key_is_new.Goals as goal

pub key-k-requires : goal.key-k-requires
key-k-requires c = omega arith

pub loop-i-init : goal.loop-i-init
loop-i-init c = refl

pub key-requires : goal.key-requires
key-requires c = omega arith

pub returns-then-key-k : goal.returns-then-key-k
returns-then-key-k c =
    let a = c.args in
    let r = a.records.now in
    sym (unlike-turn (record_at r) c.loop-i.i a.n (omega arith) (record_at r a.j) c.key-k.result c.key.result c.key-k.ensures c.key.ensures true
    (eq-eqb c.key.result c.key-k.result c.if-key-k.true)) ∙ c.loop-i.invariant

pub loop-i-preserved : goal.loop-i-preserved
loop-i-preserved c =
    let a = c.args in
    let r = a.records.now in
    sym (unlike-turn (record_at r) c.loop-i.i a.n (omega arith) (record_at r a.j) c.key-k.result c.key.result c.key-k.ensures c.key.ensures false
    (ne_eqb c.key.result c.key-k.result c.if-key-k.false)) ∙ c.loop-i.invariant

pub returns : goal.returns
returns c =
    let a = c.args in
    sym (ap (unlike (record_at a.records.now a.j)) (tab-end (record_at a.records.now) c.loop-i.i a.n (omega arith))) ∙ c.loop-i.invariant

-- `call::ordered` meets its contract.
use Rattle.dsdl_signature.proofs.Answers.{missing, deep, no_room, no-places, done}
use Rattle.dsdl_signature.proofs.Faults.{named}
use Rattle.std.specs.Prelude.{Ok}
use Rattle.dsdl_signature.specs.Call.{returned}
use Rattle.dsdl_text.proofs.Choices.{by}
use native.Mathlib.Omega.{arith}
use mathlib.Core.List.{List}
use mathlib.Core.Path.{ap₂, ◌∙◌}
use Prim.Native.Nat.{ℕ}
use Rattle.dsdl_signature.proofs.call.ordered.Goals as goal

pub returns-then-not-all_given : goal.returns-then-not-all_given
returns-then-not-all_given c =
    let a = c.args in
    missing a.source.now a.bounds a.n a.out.now a.records.now (by c.all_given.ensures c.if-not-all_given.true)

pub returns-then-not-all_within : goal.returns-then-not-all_within
returns-then-not-all_within c =
    let a = c.args in
    deep a.source.now a.bounds a.n a.out.now a.records.now (by c.all_given.ensures c.if-not-all_given.false) (by c.all_within.ensures c.if-not-all_within.true)

pub ends-ends-requires : goal.ends-ends-requires
ends-ends-requires c = (c.requires.inside.0, named c.args.source.now c.args.bounds c.args.n c.requires.n_value)

pub returns-then-out-ends : goal.returns-then-out-ends
returns-then-out-ends c =
    let a = c.args in
    no_room a.source.now a.bounds a.n a.out.now a.records.now (by c.all_given.ensures c.if-not-all_given.false) (by c.all_within.ensures c.if-not-all_within.false) c.ends-ends.result c.ends-ends.ensures c.if-out-ends.true

pub returns-then-records-n : goal.returns-then-records-n
returns-then-records-n c =
    let a = c.args in
    no-places a.source.now a.bounds a.n a.out.now a.records.now (by c.all_given.ensures c.if-not-all_given.false) (by c.all_within.ensures c.if-not-all_within.false) c.ends-ends.result c.ends-ends.ensures c.if-out-ends.false c.if-records-n.true

pub write-requires : goal.write-requires
write-requires c =
    record {
      inside = (c.requires.inside.0, by c.all_given.ensures c.if-not-all_given.false);
      ends = (c.ends-ends.ensures, (c.if-out-ends.false, omega (arith, c.if-records-n.false)));
    }

pub returns : goal.returns
returns c =
    let a = c.args in
    ap₂ (λ (x y : List ℕ). returned (Ok tt) x y) c.write.ensures.0 c.write.ensures.1
    ∙ done a.source.now a.bounds a.n a.out.now a.records.now (by c.all_given.ensures c.if-not-all_given.false) (by c.all_within.ensures c.if-not-all_within.false) c.ends-ends.result c.ends-ends.ensures c.if-out-ends.false c.if-records-n.false

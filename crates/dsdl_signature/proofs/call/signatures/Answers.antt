-- `call::signatures` meets its contract.
use Rattle.dsdl_signature.proofs.Answers.{too_large, at-fault, no-fault}
use Rattle.dsdl_given.proofs.Sizes.{at-most, no-twice, all-kept}
use Rattle.dsdl_text.proofs.Choices.{by}
use native.Mathlib.Omega.{arith}
use mathlib.Core.Path.{sym, ◌∙◌}
use Rattle.dsdl_signature.proofs.call.signatures.Goals as goal

pub returns-then-is_oversized : goal.returns-then-is_oversized
returns-then-is_oversized c =
    let a = c.args in
    too_large a.source.now a.lengths.now a.out.now a.records.now (by c.is_oversized.ensures c.if-is_oversized.true)

pub bounds-bounds-requires : goal.bounds-bounds-requires
bounds-bounds-requires c =
    let a = c.args in
    (at-most a.source.now a.lengths.now (by c.is_oversized.ensures c.if-is_oversized.false), omega arith)

pub first-requires : goal.first-requires
first-requires c =
    let a = c.args in
    all-kept a.source.now a.lengths.now (by c.is_oversized.ensures c.if-is_oversized.false) c.bounds-bounds.result c.bounds-bounds.ensures

pub ordered-requires : goal.ordered-requires
ordered-requires c =
    let a = c.args in
    let fine = by c.is_oversized.ensures c.if-is_oversized.false in
    record {
      inside = (all-kept a.source.now a.lengths.now fine c.bounds-bounds.result c.bounds-bounds.ensures, no-twice a.source.now a.lengths.now fine c.bounds-bounds.result c.bounds-bounds.ensures);
      n_value = sym c.in_default.ensures;
    }

pub returns-in-Some : goal.returns-in-Some
returns-in-Some c =
    let a = c.args in
    at-fault a.source.now a.lengths.now a.out.now a.records.now (by c.is_oversized.ensures c.if-is_oversized.false) c.bounds-bounds.result c.bounds-bounds.ensures _ _ c.in-Some.ensures

pub returns : goal.returns
returns c =
    let a = c.args in
    c.ordered.ensures
    ∙ no-fault a.source.now a.lengths.now a.out.now a.records.now (by c.is_oversized.ensures c.if-is_oversized.false) c.bounds-bounds.result c.bounds-bounds.ensures c.in_default.ensures

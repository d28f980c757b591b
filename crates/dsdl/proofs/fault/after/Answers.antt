-- `fault::after` meets its contract.
use Rattle.dsdl_line.specs.inside.Places.{word_of}
use native.Mathlib.Numerals.{add-one}
use Rattle.dsdl_text.proofs.Choices.{by, first, next}
use Prim.Native.Nat.{◌+◌}
use mathlib.Core.Path.{refl, ◌∙◌}
use native.Mathlib.Omega.{arith}
use Rattle.dsdl_text.specs.inside.Words.{part}
use Rattle.dsdl_line.specs.declared.shape.Places.TheVariants.{Nothing, Marker, Union, Padding, Field, Constant, Wrong}
use Rattle.dsdl.proofs.Readings.{long-field, long-constant, read-line, nothing_read, marker-read, union-read, padding-read, wrong-read, field-read, constant-read}
use Rattle.dsdl.proofs.fault.after.Goals as goal

pub named-requires : goal.named-requires
named-requires c =
    let a = c.args in
    let m = long-field a.t.now a.at a.end c.read-p.result c.in-Field.field-0 c.in-Field.field-1 c.in-Field.x c.read-p.ensures c.in-Field.is in
    let r = c.requires.0 in
    let b = r.bounded in
    record { kept = (r.room, (omega arith, (b, (omega arith, omega arith)))); at_le_end = (omega arith, (omega arith, omega arith)) }

pub returns-then-not-holds : goal.returns-then-not-holds
returns-then-not-holds c =
    let a = c.args in
    let l = part a.t.now a.at a.end in
    wrong-read a.t.now a.seen.now a.marks.now a.at a.end a.n a.s c.requires.0 c.requires.1.0 c.at_fault.result c.at_fault.ensures
    (next _ _ _ _ (by c.holds.ensures c.if-not-holds.true) refl ∙ read-line l c.read-p.result (Constant c.in-Constant.w c.in-Constant.x c.in-Constant.i) c.read-p.ensures c.in-Constant.is)

pub named-requires-in-Constant : goal.named-requires-in-Constant
named-requires-in-Constant c =
    let a = c.args in
    let m = long-constant a.t.now a.at a.end c.read-p.result c.in-Constant.w c.in-Constant.x c.in-Constant.i c.read-p.ensures c.in-Constant.is in
    let r = c.requires.0 in
    let b = r.bounded in
    record { kept = (r.room, (omega arith, (b, (omega arith, omega arith)))); at_le_end = (omega arith, (omega arith, omega arith)) }

pub returns-in-Nothing : goal.returns-in-Nothing
returns-in-Nothing c =
    let a = c.args in
    nothing_read a.t.now a.seen.now a.marks.now a.at a.end a.n a.s c.requires.0 c.requires.1.0
    (read-line (part a.t.now a.at a.end) c.read-p.result Nothing c.read-p.ensures c.in-Nothing.is)

pub returns-in-Marker : goal.returns-in-Marker
returns-in-Marker c =
    let a = c.args in
    marker-read a.t.now a.seen.now a.marks.now a.at a.end a.n a.s c.requires.0 c.requires.1.0 c.marker.result c.marker.ensures
    (read-line (part a.t.now a.at a.end) c.read-p.result Marker c.read-p.ensures c.in-Marker.is)

pub returns-in-Union : goal.returns-in-Union
returns-in-Union c =
    let a = c.args in
    union-read a.t.now a.seen.now a.marks.now a.at a.end a.n a.s c.requires.0 c.requires.1.0 c.directive.result c.directive.ensures
    (read-line (part a.t.now a.at a.end) c.read-p.result Union c.read-p.ensures c.in-Union.is)

pub returns-in-Padding : goal.returns-in-Padding
returns-in-Padding c =
    let a = c.args in
    let l = part a.t.now a.at a.end in
    padding-read a.t.now a.seen.now a.marks.now a.at a.end a.n a.s c.requires.0 c.requires.1.0 c.padding.result (word_of l c.in-Padding.field-0) c.padding.ensures
    (read-line l c.read-p.result (Padding c.in-Padding.field-0) c.read-p.ensures c.in-Padding.is)

pub returns-in-Field : goal.returns-in-Field
returns-in-Field c =
    let a = c.args in
    let l = part a.t.now a.at a.end in
    field-read a.t.now a.seen.now a.marks.now a.at a.end a.n a.s c.requires.0 c.requires.1.0 c.named.new.seen c.named.new.marks c.named.result (a.s.fields + 1) (word_of l c.in-Field.x) (word_of a.t.now c.placed.result)
    c.placed.ensures.0 (long-field a.t.now a.at a.end c.read-p.result c.in-Field.field-0 c.in-Field.field-1 c.in-Field.x c.read-p.ensures c.in-Field.is) c.named.ensures
    c.in-Field.field-0 (word_of l c.in-Field.field-1) (add-one a.s.fields) (read-line l c.read-p.result (Field c.in-Field.field-0 c.in-Field.field-1 c.in-Field.x) c.read-p.ensures c.in-Field.is)

pub returns-else-not-holds : goal.returns-else-not-holds
returns-else-not-holds c =
    let a = c.args in
    let l = part a.t.now a.at a.end in
    constant-read a.t.now a.seen.now a.marks.now a.at a.end a.n a.s c.requires.0 c.requires.1.0 c.named-in-Constant.new.seen c.named-in-Constant.new.marks c.named-in-Constant.result a.s.fields (word_of l c.in-Constant.x) (word_of a.t.now c.placed-in-Constant.result)
    c.placed-in-Constant.ensures.0 (long-constant a.t.now a.at a.end c.read-p.result c.in-Constant.w c.in-Constant.x c.in-Constant.i c.read-p.ensures c.in-Constant.is) c.named-in-Constant.ensures
    refl (first _ _ _ (by c.holds.ensures c.if-not-holds.false) ∙ read-line l c.read-p.result (Constant c.in-Constant.w c.in-Constant.x c.in-Constant.i) c.read-p.ensures c.in-Constant.is)

pub returns-in-Wrong : goal.returns-in-Wrong
returns-in-Wrong c =
    let a = c.args in
    wrong-read a.t.now a.seen.now a.marks.now a.at a.end a.n a.s c.requires.0 c.requires.1.0 c.at_fault-in-Wrong.result c.at_fault-in-Wrong.ensures
    (read-line (part a.t.now a.at a.end) c.read-p.result Wrong c.read-p.ensures c.in-Wrong.is)

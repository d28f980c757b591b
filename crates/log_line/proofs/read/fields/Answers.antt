-- `read::fields` meets its contract.
use Rattle.log_line.proofs.Steps.{is, not, shape, unread, no-seconds, needless-zero, no-milliseconds, no-id, no-data, told, read_all, field_lt, sec-lt}
use native.Mathlib.Omega.{arith}
use mathlib.Core.Path.{sym, ◌∙◌}
use Prim.Native.Nat.{◌+◌}
use Rattle.log_line.proofs.read.fields.Goals as goal

pub number-requires : goal.number-requires
number-requires c =
    let h = shape c.args.s c.args.line.now c.requires in
    (omega (arith, h.long), (h.few, omega arith))

pub returns-in_err-sec : goal.returns-in_err-sec
returns-in_err-sec c =
    let a = c.args in
    c.from_residual.ensures ∙ unread a.s _ (no-seconds a.s a.line.now (not _ c.in_err-sec.ensures))

pub returns-then-count-s : goal.returns-then-count-s
returns-then-count-s c =
    let a = c.args in
    let sec = is _ _ c.in_ok-sec.ensures in
    unread a.s _ (needless-zero a.s a.line.now _ sec (λ q. c.if-count-s.true (c.count.ensures.0 ∙ q)))

pub number-requires-2 : goal.number-requires-2
number-requires-2 c =
    let h = shape c.args.s c.args.line.now c.requires in
    (omega (arith, h.long), (omega arith, omega arith))

pub returns-in_err-ms : goal.returns-in_err-ms
returns-in_err-ms c =
    let a = c.args in
    let sec = is _ _ c.in_ok-sec.ensures in
    c.from_residual-in_err-ms.ensures ∙ unread a.s _ (no-milliseconds a.s a.line.now _ sec (not _ c.in_err-ms.ensures))

pub number-requires-3 : goal.number-requires-3
number-requires-3 c =
    let h = shape c.args.s c.args.line.now c.requires in
    (omega (arith, h.long), (omega arith, omega arith))

pub returns-in_err-id : goal.returns-in_err-id
returns-in_err-id c =
    let a = c.args in
    let sec = is _ _ c.in_ok-sec.ensures in
    let ms = is _ _ c.in_ok-ms.ensures in
    c.from_residual-in_err-id.ensures ∙ unread a.s _ (no-id a.s a.line.now _ sec _ ms (not _ c.in_err-id.ensures))

pub overflow_sub-len : goal.overflow_sub-len
overflow_sub-len c = (shape c.args.s c.args.line.now c.requires).long

pub pairs-requires : goal.pairs-requires
pairs-requires c =
    let h = shape c.args.s c.args.line.now c.requires in
    (omega (arith, h.short, h.long), omega (arith, h.long))

pub returns-in_err-bytes : goal.returns-in_err-bytes
returns-in_err-bytes c =
    let a = c.args in
    let sec = is _ _ c.in_ok-sec.ensures in
    let ms = is _ _ c.in_ok-ms.ensures in
    let id = is _ _ c.in_ok-id.ensures in
    c.from_residual-in_err-bytes.ensures ∙ unread a.s _ (no-data a.s a.line.now _ sec _ ms _ id c.in_err-bytes.ensures.0)

pub overflow_cast-result : goal.overflow_cast-result
overflow_cast-result c =
    let h = shape c.args.s c.args.line.now c.requires in
    omega (arith, field_lt 16 (omega arith) (omega arith) c.args.line.now (c.args.s + 5) 8 _ (omega (arith, h.long)) (is _ _ c.in_ok-id.ensures))

pub overflow_mul-result : goal.overflow_mul-result
overflow_mul-result c =
    let h = shape c.args.s c.args.line.now c.requires in
    omega (arith, sec-lt c.args.s c.args.line.now _ h.few (omega (arith, h.long)) (is _ _ c.in_ok-sec.ensures))

pub overflow_mul-result-2 : goal.overflow_mul-result-2
overflow_mul-result-2 c =
    let h = shape c.args.s c.args.line.now c.requires in
    omega (arith, field_lt 10 (omega arith) (omega arith) c.args.line.now (c.args.s + 1) 3 _ (omega (arith, h.long)) (is _ _ c.in_ok-ms.ensures))

pub overflow_add-result-2 : goal.overflow_add-result-2
overflow_add-result-2 c =
    let h = shape c.args.s c.args.line.now c.requires in
    let x = sec-lt c.args.s c.args.line.now _ h.few (omega (arith, h.long)) (is _ _ c.in_ok-sec.ensures) in
    let y = field_lt 10 (omega arith) (omega arith) c.args.line.now (c.args.s + 1) 3 _ (omega (arith, h.long)) (is _ _ c.in_ok-ms.ensures) in
    omega (arith, x, y)

pub returns : goal.returns
returns c =
    let a = c.args in
    let sec = is _ _ c.in_ok-sec.ensures in
    let ms = is _ _ c.in_ok-ms.ensures in
    let id = is _ _ c.in_ok-id.ensures in
    let h = shape a.s a.line.now c.requires in
    let d = c.in_ok-bytes.ensures in
    told a.s _ _ _ c.in_ok-bytes.bytes _ d.1.0 (omega (arith, h.short, h.long)) d.1.1
    (read_all a.s a.line.now _ sec _ ms _ id (sym c.count.ensures.0 ∙ c.if-count-s.false) _ d.0)

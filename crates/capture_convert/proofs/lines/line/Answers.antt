-- `lines::line` meets its contract.
use mathlib.Core.Path.{ap, subst}
use Prim.Native.Nat.{◌/◌}
use native.Mathlib.Omega.{arith}
use lib.ListN.{length}
use Rattle.digits.specs.Digits.{count_of}
use Rattle.digits.specs.inside.Text.{Puts}
use Rattle.rules.specs.Frame.{Frame}
use Rattle.log_line.specs.Line.{line_of}
use Rattle.log_line.proofs.Lines.{line-length}
use Rattle.capture_record.specs.Record.{frame_of}
use Rattle.capture_record.proofs.Records.{carriable-fit}
use Rattle.capture_convert.proofs.Walking.{frame_is}
use Rattle.capture_convert.proofs.lines.line.Goals as goal

pub overflow_add-to : goal.overflow_add-to
overflow_add-to c =
    omega (arith, c.read-s.ensures.len, (carriable-fit c.args.r.now c.requires.1.0).few)

pub slice_bounds-put-end : goal.slice_bounds-put-end
slice_bounds-put-end c =
    omega (arith, c.read-s.ensures.len, (carriable-fit c.args.r.now c.requires.1.0).few)

pub put-requires : goal.put-requires
put-requires c =
    let x = c.args.r.now in
    let n = c.read-s.result.len in
    let e = frame_is x c.read-s.result.time c.read-s.result.id n c.read-s.ensures.time c.read-s.ensures.id c.read-s.ensures.len in
    omega (arith, c.requires.1.1, line-length (frame_of x), ap (λ (f : Frame). length f.bytes) e, ap (λ (f : Frame). count_of (f.time / 1000000)) e)

pub returns : goal.returns
returns c =
    let a = c.args in
    let e = frame_is a.r.now c.read-s.result.time c.read-s.result.id c.read-s.result.len c.read-s.ensures.time c.read-s.ensures.id
    c.read-s.ensures.len in
    subst (λ (f : Frame). Puts a.out.now c.put.new.out a.p c.put.result (line_of f)) e c.put.ensures

-- `write::put` meets its contract.
use mathlib.Core.Path.{refl, ◌∙◌}
use native.Mathlib.Omega.{arith}
use lib.ListN.{length-set}
use Rattle.rules.specs.Sent.{frame_at}
use Rattle.digits.proofs.Digits.{length_digits}
use Rattle.log_line.proofs.Lines.{data-length, time-length}
use Rattle.log_line.proofs.Writing.{line-puts}
use Rattle.log_line.proofs.write.put.Goals as goal

pub put_id-q-requires : goal.put_id-q-requires
put_id-q-requires c =
    omega (arith, c.put_time-p.ensures.end, c.put_time-p.auto.out, time-length c.args.time, c.requires)

pub put_data-e-requires : goal.put_data-e-requires
put_data-e-requires c =
    omega (
      arith,
      c.put_id-q.ensures.end,
      c.put_id-q.auto.out,
      length_digits 16 8 c.args.id,
      c.put_time-p.ensures.end,
      c.put_time-p.auto.out,
      time-length c.args.time,
      c.requires,
    )

pub bounds-out-e : goal.bounds-out-e
bounds-out-e c =
    let a = c.args in
    omega (
      arith,
      c.put_data-e.ensures.end,
      c.put_data-e.auto.out,
      data-length a.s.now,
      c.put_id-q.ensures.end,
      c.put_id-q.auto.out,
      length_digits 16 8 a.id,
      c.put_time-p.ensures.end,
      c.put_time-p.auto.out,
      time-length a.time,
      c.requires,
    )

pub overflow_add-result : goal.overflow_add-result
overflow_add-result c =
    let a = c.args in
    omega (
      arith,
      c.put_data-e.ensures.end,
      c.put_data-e.auto.out,
      data-length a.s.now,
      c.put_id-q.ensures.end,
      c.put_id-q.auto.out,
      length_digits 16 8 a.id,
      c.put_time-p.ensures.end,
      c.put_time-p.auto.out,
      time-length a.time,
      c.requires,
    )

pub shape_of-out : goal.shape_of-out
shape_of-out c =
    let a = c.args in
    omega (arith, c.put_data-e.auto.out, c.put_id-q.auto.out, c.put_time-p.auto.out, length-set c.put_data-e.new.out c.put_data-e.result 10)

pub returns : goal.returns
returns c =
    let a = c.args in
    line-puts a.out.now c.put_time-p.new.out c.put_id-q.new.out c.put_data-e.new.out _ a.at c.put_time-p.result c.put_id-q.result
    c.put_data-e.result (frame_at a.id a.s.now a.time) c.requires (c.put_data-e.auto.out ∙ c.put_id-q.auto.out ∙ c.put_time-p.auto.out)
    c.put_time-p.ensures c.put_id-q.ensures c.put_data-e.ensures refl

-- `turn` meets its contract: the first check that refuses answers, and a frame that passes goes on.
use native.Mathlib.Omega.{arith}
use Rattle.rules.proofs.Ordered.{Readable, readable}
use Rattle.state.specs.Layout.{setup_of}
use Rattle.judge_capture.proofs.Turning.{not-read, head-fails, fine, goes}
use Rattle.judge_capture.proofs.records.turn.Goals as goal
use Rattle.judge_capture.proofs.records.turn.Goals.{Else-unreadable-gt0}

-- the record has a frame that can be read
read_ok : (e : Else-unreadable-gt0) → let f = e.get-f.result in Readable f.id f.len 0
read_ok e =
    readable e.get-f.result.id e.get-f.result.len 0 e.unreadable-unreadable.result e.unreadable-unreadable.ensures e.if-unreadable-gt0.false

pub returns-then-unreadable-gt0 : goal.returns-then-unreadable-gt0
returns-then-unreadable-gt0 c =
    not-read (setup_of c.args.state.now) c.args.table.now c.requires.1.0 c.args.r.now c.requires.1.1 (omega (arith, c.type_inv.r 12))
    c.get-f.result.id c.get-f.result.len c.get-f.ensures.0 c.get-f.ensures.1 c.unreadable-unreadable.result c.unreadable-unreadable.ensures c.if-unreadable-gt0.true

pub overflow_add-n : goal.overflow_add-n
overflow_add-n c = omega (arith, (read_ok (goal.at.overflow_add-n c).Else-unreadable-gt0).few_bytes)

pub bounds-r-n : goal.bounds-r-n
bounds-r-n c = omega (arith, (read_ok (goal.at.bounds-r-n c).Else-unreadable-gt0).few_bytes)

pub read-h-requires : goal.read-h-requires
read-h-requires c = (read_ok (goal.at.read-h-requires c).Else-unreadable-gt0).small

pub returns-then-refused-gt0 : goal.returns-then-refused-gt0
returns-then-refused-gt0 c =
    head-fails (setup_of c.args.state.now) c.args.table.now c.requires.1.0 c.args.r.now c.requires.1.1 (omega (arith, c.type_inv.r 12))
    c.get-f.result.id c.get-f.result.len c.get-f.ensures.0 c.get-f.ensures.1 c.unreadable-unreadable.result c.unreadable-unreadable.ensures c.if-unreadable-gt0.false
    c.read-h.result c.read-h.ensures c.refusal-refused.result c.refusal-refused.ensures c.if-refused-gt0.true

pub overflow_add-n-2 : goal.overflow_add-n-2
overflow_add-n-2 c =
    omega (arith, (read_ok (goal.at.overflow_add-n-2 c).Else-unreadable-gt0).some_bytes, (read_ok (goal.at.overflow_add-n-2 c).Else-unreadable-gt0).few_bytes, c.requires.1.1)

pub slice_bounds-admit-count : goal.slice_bounds-admit-count
slice_bounds-admit-count c =
    omega (arith, (read_ok (goal.at.slice_bounds-admit-count c).Else-unreadable-gt0).some_bytes, (read_ok (goal.at.slice_bounds-admit-count c).Else-unreadable-gt0).few_bytes, c.requires.1.1)

pub slice_bounds-admit-start : goal.slice_bounds-admit-start
slice_bounds-admit-start c =
    omega (arith, (read_ok (goal.at.slice_bounds-admit-start c).Else-unreadable-gt0).some_bytes, (read_ok (goal.at.slice_bounds-admit-start c).Else-unreadable-gt0).few_bytes, c.requires.1.1)

pub slice_bounds-admit-end : goal.slice_bounds-admit-end
slice_bounds-admit-end c =
    omega (arith, (read_ok (goal.at.slice_bounds-admit-end c).Else-unreadable-gt0).some_bytes, (read_ok (goal.at.slice_bounds-admit-end c).Else-unreadable-gt0).few_bytes, c.requires.1.1)

pub admit-requires : goal.admit-requires
admit-requires c = (
  c.requires.0,
  (
    c.requires.1.0,
    fine (setup_of c.args.state.now) c.args.table.now c.requires.1.0 c.args.r.now c.requires.1.1 (omega (arith, c.type_inv.r 12))
        c.get-f.result.id c.get-f.result.len c.get-f.ensures.0 c.get-f.ensures.1 c.unreadable-unreadable.result c.unreadable-unreadable.ensures c.if-unreadable-gt0.false
        c.read-h.result c.read-h.ensures c.refusal-refused.result c.refusal-refused.ensures c.if-refused-gt0.false c.get_at.result c.get_at.ensures,
  ),
)

pub returns : goal.returns
returns c =
    goes (setup_of c.args.state.now) c.args.table.now c.requires.1.0 c.args.r.now c.requires.1.1 (omega (arith, c.type_inv.r 12))
    c.get-f.result.id c.get-f.result.len c.get-f.ensures.0 c.get-f.ensures.1 c.unreadable-unreadable.result c.unreadable-unreadable.ensures c.if-unreadable-gt0.false
    c.read-h.result c.read-h.ensures c.refusal-refused.result c.refusal-refused.ensures c.if-refused-gt0.false c.get_at.result c.get_at.ensures
    c.admit.result c.admit.new.table c.admit.ensures

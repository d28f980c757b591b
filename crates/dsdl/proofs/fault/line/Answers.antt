-- `fault::line` meets its contract.
use mathlib.Core.Path.{◌≡◌, refl, ◌∙◌}
use Prim.Native.Nat.{suc}
use native.Mathlib.Omega.{arith}
use native.Mathlib.Numerals.{add-one}
use Rattle.dsdl.proofs.NamePlaces.{none_kept}
use Rattle.dsdl.proofs.Readings.{begun, end-bound, found, next-line, last_line}
use Rattle.dsdl.proofs.fault.line.Goals as goal

pub loop-s-init : goal.loop-s-init
loop-s-init c = (
  record {
    right = refl;
    bounded = record { fault = omega arith; directive = omega arith; attributes = omega arith; fields = omega arith };
    room = none_kept _ _ _ refl refl;
    few = omega arith;
    numbered = omega arith;
    short = omega arith;
  },
  (omega arith, begun c.args.t.now _),
)

pub end-end-requires : goal.end-end-requires
end-end-requires c = c.loop-s.invariant.1.0

pub after-s-requires : goal.after-s-requires
after-s-requires c =
    (c.loop-s.invariant.0, (c.end-end.ensures.1.0, c.end-end.ensures.1.1))

pub returns-then-s-gt0 : goal.returns-then-s-gt0
returns-then-s-gt0 c =
    let t = c.args.t.now in
    let v = c.loop-s.invariant in
    let b = c.after-s.ensures.bounded in
    (found t c.loop-s.seen c.loop-s.s c.loop-s.n c.loop-s.at c.end-end.result c.end-end.ensures.0 v.1.1 c.after-s.new.seen c.after-s.new.marks c.after-s.result (suc c.end-end.result) c.after-s.ensures c.if-s-gt0.true, omega (arith, b.fault, v.0.numbered, v.1.0))

pub returns-then-t-end : goal.returns-then-t-end
returns-then-t-end c =
    let t = c.args.t.now in
    let v = c.loop-s.invariant in
    let b = c.after-s.ensures.bounded in
    let z : c.after-s.result.fault ≡ 0 = omega (arith, c.if-s-gt0.false) in
    (c.at_end.ensures ∙ last_line t c.loop-s.seen c.loop-s.s c.loop-s.n c.loop-s.at c.end-end.result c.end-end.ensures.0 v.1.1 c.after-s.new.seen c.after-s.new.marks c.after-s.result (suc c.end-end.result) c.after-s.ensures z c.if-t-end.true, omega (arith, c.at_end.ensures, end-bound c.after-s.result (suc c.loop-s.n) b.directive, v.0.numbered, v.1.0))

pub next-at-requires : goal.next-at-requires
next-at-requires c = omega arith

pub overflow_add-n : goal.overflow_add-n
overflow_add-n c =
    omega (arith, c.loop-s.invariant.0.numbered, c.loop-s.invariant.1.0)

pub loop-s-smaller : goal.loop-s-smaller
loop-s-smaller c =
    omega (arith, c.next-at.ensures.1.0, c.next-at.ensures.1.1, c.end-end.ensures.1.0)

pub loop-s-preserved : goal.loop-s-preserved
loop-s-preserved c =
    let t = c.args.t.now in
    let v = c.loop-s.invariant in
    let b = c.after-s.ensures.bounded in
    let z : c.after-s.result.fault ≡ 0 = omega (arith, c.if-s-gt0.false) in (
      record {
        right = z;
        bounded = rw add-one b;
        room = c.after-s.ensures.room;
        few = omega (arith, c.after-s.ensures.few, c.next-at.ensures.1.0);
        numbered = omega (arith, v.0.numbered, c.next-at.ensures.1.0, c.end-end.ensures.1.0);
        short = v.0.short;
      },
      (c.next-at.ensures.1.1, rw (add-one, c.next-at.ensures.0) (next-line t c.loop-s.seen c.loop-s.s c.loop-s.n c.loop-s.at c.end-end.result c.end-end.ensures.0 v.1.1 c.after-s.new.seen c.after-s.new.marks c.after-s.result (suc c.end-end.result) c.after-s.ensures z c.if-t-end.false)),
    )

-- `finish` meets its contract: the start flag and the checksum lead to the case of the definition.
use mathlib.Core.Path.{◌≡◌}
use Prim.Native.Nat.{◌≤◌}
use native.Mathlib.Nat.{sub-zero}
use native.Mathlib.Omega.{arith}
use lib.ListN.{length, take}
use lib.Seq.{length-take-le}
use Rattle.session.proofs.Gathered.{sum-long, behind_sum}
use Rattle.session.proofs.Rules.{closes-whole, closes-behind, closes-differs}
use Rattle.session.proofs.finish.Goals as goal
use Rattle.session.proofs.finish.Goals.{Then-sum_ok}

-- two bytes at least lie before the payload
two : (c : Then-sum_ok) → 2 ≤ c.args.len
two c =
    let a = c.args in
    let l : length (take a.len a.s.now) ≡ a.len = length-take-le a.len a.s.now (omega arith) in
    omega (arith, sum-long a.f.signature (take a.len a.s.now) c.sum_ok.result c.sum_ok.ensures c.if-sum_ok.true)

pub hand_out-requires : goal.hand_out-requires
hand_out-requires c =
    let l : c.args.len ≤ 512 = c.requires.1.1.1 c.if-f.true in omega arith

pub returns-then-f : goal.returns-then-f
returns-then-f c =
    let a = c.args in
    closes-whole a.f (take a.len a.s.now) a.out.now c.hand_out.result c.hand_out.new.out c.if-f.true
    (rw sub-zero at c.hand_out.ensures)

pub hand_out-requires-then-sum_ok : goal.hand_out-requires-then-sum_ok
hand_out-requires-then-sum_ok c = omega (arith, two (goal.at.hand_out-requires-then-sum_ok c).Then-sum_ok)

pub returns-then-sum_ok : goal.returns-then-sum_ok
returns-then-sum_ok c =
    let a = c.args in
    closes-behind a.f (take a.len a.s.now) a.out.now c.hand_out-then-sum_ok.result c.hand_out-then-sum_ok.new.out c.if-f.false
    c.sum_ok.result c.sum_ok.ensures c.if-sum_ok.true (rw (behind_sum a.s.now a.len (two (goal.at.returns-then-sum_ok c).Then-sum_ok) (omega arith)) at c.hand_out-then-sum_ok.ensures)

pub returns : goal.returns
returns c =
    let a = c.args in
    closes-differs a.f (take a.len a.s.now) a.out.now c.if-f.false c.sum_ok.result c.sum_ok.ensures c.if-sum_ok.false

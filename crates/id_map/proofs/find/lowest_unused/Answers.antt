-- `find::lowest_unused` meets its contract: no place passed is unused for long.
use mathlib.Core.Path.{◌≡◌, refl, sym, ◌∙◌}
use native.Mathlib.Numerals.{add-one}
use native.Mathlib.Omega.{arith}
use Rattle.keys.proofs.Lowest.{hit, miss, none}
use Rattle.rules.specs.Limits.{entries_max}
use Rattle.id_map.proofs.find.lowest_unused.Invariants.{unused}
use Rattle.id_map.proofs.find.lowest_unused.Goals as goal

pub loop-i-init : goal.loop-i-init
loop-i-init c = (omega arith, refl)

pub is_unused-requires : goal.is_unused-requires
is_unused-requires c = omega arith

pub returns-then-is_unused : goal.returns-then-is_unused
returns-then-is_unused c =
    let a = c.args in
    sym (hit (unused a.map.now a.t) c.loop-i.i entries_max (omega arith) (sym c.is_unused.ensures ∙ c.if-is_unused.true)) ∙ c.loop-i.invariant.1

pub loop-i-preserved : goal.loop-i-preserved
loop-i-preserved c =
    let a = c.args in (
      omega arith,
      rw add-one (sym (miss (unused a.map.now a.t) c.loop-i.i entries_max (omega arith) (sym c.is_unused.ensures ∙ c.if-is_unused.false)) ∙ c.loop-i.invariant.1),
    )

pub returns : goal.returns
returns c =
    let a = c.args in
    let e : c.loop-i.i ≡ entries_max = omega arith in
    sym e ∙ sym (none (unused a.map.now a.t) c.loop-i.i entries_max (omega arith)) ∙ c.loop-i.invariant.1

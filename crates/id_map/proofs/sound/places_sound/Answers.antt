-- `sound::places_sound` meets its contract. The invariant: where the walk is, and the places passed fit (keys, Walk.antt).
use mathlib.Core.Path.{◌≡◌, refl, sym, ◌∙◌}
use mathlib.Core.Bool.{true}
use mathlib.Core.List.{List}
use Prim.Native.Nat.{ℕ}
use native.Mathlib.Omega.{arith}
use borrow.Author.Tests.{eq-eqb}
use Rattle.keys.proofs.Counts.{count-le}
use Rattle.keys.proofs.Walk.{here, left-ok, as_long, table_at, begins, place, again, unfit, alike, ends}
use Rattle.rules.specs.Limits.{entries_max}
use Rattle.id_map.specs.inside.Sound.{empty_or_fits}
use Rattle.id_map.specs.Layout.{key_at}
use Rattle.id_map.proofs.sound.places_sound.Goals as goal

-- an empty place fits
empty : (m : List ℕ) (i : ℕ) → key_at m i ≡ 0 → empty_or_fits m i ≡ true
unfolding empty_or_fits
empty m i z = rw (eq-eqb (key_at m i) 0 z)

pub overflow_cast-left : goal.overflow_cast-left
overflow_cast-left c = omega (arith, as_long _ _ _ c.requires.1)

pub count-requires : goal.count-requires
count-requires c = omega (arith, as_long _ _ _ c.requires.1)

pub overflow_sub-left : goal.overflow_sub-left
overflow_sub-left c = omega (arith, as_long _ _ _ c.requires.1, count-le 0 c.args.table.now)

pub loop-left-init : goal.loop-left-init
loop-left-init c = let t = c.args.table.now in begins _ t _ _ refl (omega (arith, count-le 0 t))

pub offset_bounds-table-i : goal.offset_bounds-table-i
offset_bounds-table-i c = omega arith

pub bounds-table-i : goal.bounds-table-i
bounds-table-i c = here _ _ _ _ c.loop-left.invariant.walk (omega arith)

pub mark-first-requires : goal.mark-first-requires
mark-first-requires c = c.loop-left.invariant.walk.marks-long

pub place_fits-requires : goal.place_fits-requires
place_fits-requires c =
    let b = place _ _ _ c.requires.1 _ _ _ _ c.loop-left.invariant (omega arith) in
    ((b, c.requires.0), table_at (key_at c.args.map.now) entries_max c.args.table.now c.requires.1 c.loop-left.i b)

pub is_alone-requires : goal.is_alone-requires
is_alone-requires c = omega (arith, as_long _ _ _ c.requires.1)

pub overflow_cast-left-then-is_alone : goal.overflow_cast-left-then-is_alone
overflow_cast-left-then-is_alone c = tt

pub overflow_sub-left-then-is_alone : goal.overflow_sub-left-then-is_alone
overflow_sub-left-then-is_alone c = left-ok _ _ _ _ c.loop-left.invariant.walk (omega arith)

pub overflow_add-i : goal.overflow_add-i
overflow_add-i c = omega (arith, here _ _ _ _ c.loop-left.invariant.walk (omega arith))

pub loop-left-smaller : goal.loop-left-smaller
loop-left-smaller c = omega (arith, here _ _ _ _ c.loop-left.invariant.walk (omega arith))

pub loop-left-preserved : goal.loop-left-preserved
loop-left-preserved c =
    let m = c.mark-first in
    again _ _ _ c.requires.1 _ _ _ _ c.loop-left.invariant (omega arith) (sym c.place_fits.ensures ∙ c.if-place_fits.true)
    m.result m.ensures.0 (sym c.is_alone.ensures ∙ c.if-is_alone.true) _ m.ensures.1

pub returns-else-is_alone : goal.returns-else-is_alone
returns-else-is_alone c =
    let m = c.mark-first in
    alike _ _ _ c.requires.1 _ _ _ _ c.loop-left.invariant (omega arith) m.result (sym c.is_alone.ensures ∙ c.if-is_alone.false)

pub returns-else-place_fits : goal.returns-else-place_fits
returns-else-place_fits c =
    unfit _ _ _ c.requires.1 _ _ _ _ c.loop-left.invariant (omega arith) (sym c.place_fits.ensures ∙ c.if-place_fits.false)

pub returns : goal.returns
returns c =
    ends _ _ _ c.requires.1 _ _ _ _ c.loop-left.invariant (omega arith) (empty c.args.map.now)

-- `sound::places_sound` meets its contract. The invariant: where the walk is, the places passed fit (keys, Walk.antt), and their blocks are claimed.
use mathlib.Core.Path.{◌≡◌, refl, sym, ap, ◌∙◌}
use mathlib.Core.Bool.{Bool, true, false, ◌&&◌}
use mathlib.Core.List.{List}
use mathlib.Core.Option.{some}
use Prim.Native.Nat.{ℕ}
use native.Mathlib.Omega.{arith}
use borrow.Author.Tests.{eq-eqb}
use Rattle.bits.specs.Tabulate.{every}
use Rattle.keys.proofs.Counts.{count-le, rest-empty}
use Rattle.keys.proofs.Walk.{here, left-ok, as_long, table_at, begins, place, again, unfit, alike, ends}
use Rattle.keys.specs.inside.Keys.{distinct}
use Rattle.rules.specs.Limits.{sessions_max}
use Rattle.sessions.specs.inside.Sound.{empty_or_fits, shares}
use Rattle.state.specs.Layout.{free_of, key_at, place_at}
use Rattle.sessions.proofs.Claims.{seen_none, seen_more}
use Rattle.sessions.proofs.Listed.{both-passed, fault-place, end-share}
use Rattle.sessions.proofs.sound.places_sound.Goals as goal

-- an empty place fits
empty : (m : List ℕ) (i : ℕ) → key_at m i ≡ 0 → empty_or_fits m i ≡ true
unfolding empty_or_fits
empty m i z = rw (eq-eqb (key_at m i) 0 z)

-- where a test fails
fails : (y : Bool) {x : Bool} → false ≡ x → false ≡ (x && y)
fails y e = ap (λ (b : Bool). b && y) e

pub overflow_cast-left : goal.overflow_cast-left
overflow_cast-left c = omega (arith, as_long _ _ _ c.requires.1)

pub count-requires : goal.count-requires
count-requires c = omega (arith, as_long _ _ _ c.requires.1)

pub overflow_sub-left : goal.overflow_sub-left
overflow_sub-left c = omega (arith, as_long _ _ _ c.requires.1, count-le 0 c.args.table.now)

pub loop-left-init : goal.loop-left-init
loop-left-init c =
    let a = c.args in
    let t = a.table.now in
    (begins _ t _ _ refl (omega (arith, count-le 0 t)), seen_none (place_at a.state.now) (free_of a.state.now) ∙ ap (λ (x : ℕ). some x) (sym c.free-seen.ensures))

pub bounds-table-i : goal.bounds-table-i
bounds-table-i c = here _ _ _ _ c.loop-left.invariant.0.walk (omega arith)

pub claim_place-requires : goal.claim_place-requires
claim_place-requires c =
    let b = place _ _ _ c.requires.1 _ _ _ _ c.loop-left.invariant.0 (omega arith) in
    ((b, c.requires.0), table_at (key_at c.args.state.now) sessions_max c.args.table.now c.requires.1 c.loop-left.i b)

pub returns-in_default : goal.returns-in_default
returns-in_default c =
    let b = place _ _ _ c.requires.1 _ _ _ _ c.loop-left.invariant.0 (omega arith) in
    fault-place c.args.state.now (every (empty_or_fits c.args.state.now) 0 sessions_max && distinct c.args.table.now) c.loop-left.i c.loop-left.seen b c.loop-left.invariant.1
    (sym c.in_default.is ∙ c.claim_place.ensures) (unfit _ _ _ c.requires.1 _ _ _ _ c.loop-left.invariant.0 (omega arith))

pub is_alone-requires : goal.is_alone-requires
is_alone-requires c = omega (arith, as_long _ _ _ c.requires.1)

pub overflow_sub-left-in-loop-left : goal.overflow_sub-left-in-loop-left
overflow_sub-left-in-loop-left c = left-ok _ _ _ _ c.loop-left.invariant.0.walk (omega arith)

pub overflow_add-i : goal.overflow_add-i
overflow_add-i c = omega (arith, here _ _ _ _ c.loop-left.invariant.0.walk (omega arith))

pub loop-left-smaller : goal.loop-left-smaller
loop-left-smaller c = omega (arith, here _ _ _ _ c.loop-left.invariant.0.walk (omega arith))

pub loop-left-preserved : goal.loop-left-preserved
loop-left-preserved c =
    let m = c.mark-first in
    let d = both-passed _ _ _ (sym c.in-Some.is ∙ c.claim_place.ensures) in (
      again _ _ _ c.requires.1 _ _ _ _ c.loop-left.invariant.0 (omega arith) d.0
          m.result m.ensures.0 (sym c.is_alone.ensures ∙ c.if-not-is_alone.false) _ m.ensures.1,
      seen_more (place_at c.args.state.now) (free_of c.args.state.now) c.loop-left.i c.loop-left.seen _ c.loop-left.invariant.1 d.1,
    )

pub returns-then-not-is_alone : goal.returns-then-not-is_alone
returns-then-not-is_alone c =
    let m = c.mark-first in
    fails (shares _) (alike _ _ _ c.requires.1 _ _ _ _ c.loop-left.invariant.0 (omega arith) m.result (sym c.is_alone.ensures ∙ c.if-not-is_alone.true))

pub returns : goal.returns
returns c =
    let m = c.args.state.now in
    let w = c.loop-left.invariant.0 in
    end-share m (every (empty_or_fits m) 0 sessions_max && distinct c.args.table.now) c.loop-left.i c.loop-left.seen (omega (arith, w.walk.inside, as_long _ _ _ c.requires.1))
    (λ j a b. sym (table_at (key_at m) sessions_max c.args.table.now c.requires.1 j b) ∙ rest-empty c.args.table.now c.loop-left.i (omega (arith, w.walk.to-come)) j a (omega (arith, b, as_long _ _ _ c.requires.1)))
    c.loop-left.invariant.1 (ends _ _ _ c.requires.1 _ _ _ _ w (omega arith) (empty m))

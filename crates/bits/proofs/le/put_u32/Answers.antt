-- `le::put_u32` meets its contract: four stores side by side are one.
use mathlib.Core.Path.{◌≡◌, refl}
use mathlib.Core.List.{List, [], ◌∷◌}
use Prim.Native.Nat.{ℕ, ◌+◌, ◌/◌, ◌%◌, ◌≤◌}
use native.Mathlib.Omega.{arith}
use lib.ListN.{length, set, length-set}
use Rattle.bits.specs.Little.{le_bytes}
use Rattle.bits.specs.Part.{splice}
use Rattle.bits.proofs.Splice.{set-splice, splice-next}
use Rattle.bits.proofs.le.put_u32.Goals as goal

-- one byte after the other
four-stored : (m : List ℕ) (at v : ℕ) → at + 4 ≤ length m
    → set (set (set (set m at (v % 256)) (at + 1) (v / 256 % 256)) (at + 2) (v / 65536 % 256)) (at + 3) (v / 16777216 % 256) ≡ splice m at (le_bytes 4 v)
unfolding le_bytes
four-stored m at v h =
    let b = v % 256 in
    let d = v / 256 % 256 in
    let e = v / 256 / 256 % 256 in
    let f = v / 256 / 256 / 256 % 256 in
    let m1 = set m at b in
    let m2 = set m1 (at + 1) d in
    let m3 = set m2 (at + 2) e in
    let l1 : length m1 ≡ length m = length-set m at b in
    let l2 : length m2 ≡ length m1 = length-set m1 (at + 1) d in
    let l3 : length m3 ≡ length m2 = length-set m2 (at + 2) e in
    let two = splice-next m m1 m2 at 1 (b ∷ []) (d ∷ []) (omega arith) refl (set-splice m at b (omega arith)) (set-splice m1 (at + 1) d (omega arith)) in
    let three = splice-next m m2 m3 at 2 (b ∷ d ∷ []) (e ∷ []) (omega arith) refl two (set-splice m2 (at + 2) e (omega arith)) in
    let four = splice-next m m3 (set m3 (at + 3) f) at 3 (b ∷ d ∷ e ∷ []) (f ∷ []) (omega arith) refl three (set-splice m3 (at + 3) f (omega arith)) in
    let x : v / 65536 ≡ v / 256 / 256 = omega arith in
    let y : v / 16777216 ≡ v / 256 / 256 / 256 = omega arith in
    rw (x, y) four

pub returns : goal.returns
returns c = four-stored c.args.s.now c.args.at c.args.v (omega arith)

-- A unique ID as two halves of its number.
use mathlib.Core.Path.{◌≡◌, sym, ap, ◌∙◌}
use mathlib.Core.List.{List, [], ◌∷◌, ◌++◌}
use Prim.Native.Nat.{ℕ, suc, ◌+◌, ◌*◌, ◌^◌, ◌≤◌}
use native.Mathlib.Nat.{pow-suc, mul_assoc, mul_comm}
use native.Mathlib.Omega.{arith}
use lib.ListN.{length, take, drop}
use lib.Seq.{take-add, drop-drop}
use Rattle.bits.specs.Little.{le}
use Rattle.bits.specs.Part.{span}
use Rattle.bits.proofs.Splice.{length-span}

le-append : (xs ys : List ℕ) → le (xs ++ ys) ≡ le xs + 256 ^ length xs * le ys
unfolding le
le-append [] ys = omega arith
le-append (x ∷ xs) ys =
    let ih : le (xs ++ ys) ≡ le xs + 256 ^ length xs * le ys = le-append xs ys in
    let p : 256 ^ suc (length xs) * le ys ≡ 256 * (256 ^ length xs * le ys) = ap (λ (k : ℕ). k * le ys) (pow-suc 256 (length xs) ∙ mul_comm (256 ^ length xs) 256) ∙ mul_assoc 256 (256 ^ length xs) (le ys) in
    omega arith

-- sixteen bytes are two halves
pub halves : (m : List ℕ) (at : ℕ) → at + 16 ≤ length m → le (span m at 8) + 2 ^ 64 * le (span m (at + 8) 8) ≡ le (span m at 16)
halves m at h =
    let l : length (span m at 8) ≡ 8 = length-span m at 8 (omega arith) in
    let a : le (span m at 8 ++ span m (at + 8) 8) ≡ le (span m at 8) + 256 ^ length (span m at 8) * le (span m (at + 8) 8) = le-append (span m at 8) (span m (at + 8) 8) in
    let b : le (span m at 8 ++ span m (at + 8) 8) ≡ le (span m at 8) + 2 ^ 64 * le (span m (at + 8) 8) = rw l at a in
    let d : drop 8 (drop at m) ≡ drop (at + 8) m = drop-drop 8 at m in
    sym b ∙ ap le (ap (λ (x : List ℕ). span m at 8 ++ take 8 x) (sym d) ∙ sym (take-add 8 8 (drop at m)))

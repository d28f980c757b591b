-- `put_hexes` meets its contract.
use Rattle.digits.proofs.Puts.{set-splice, splice-nil, two_digits, hexes-snoc, length-hexes}
use Rattle.digits.specs.Digits.{glyph, digits, hexes}
use Rattle.bits.proofs.Splice.{splice-next}
use Rattle.bits.specs.Part.{splice}
use lib.Seq.{take-suc, take_all, length-take-le}
use lib.ListN.{length, take, get_or, set, length-set}
use native.Mathlib.Omega.{arith}
use native.Mathlib.Numerals.{add-one}
use Prim.Native.Nat.{ℕ, suc, ◌+◌, ◌*◌, ◌/◌, ◌%◌, ◌≤◌, ◌<◌}
use mathlib.Core.List.{List, [], ◌∷◌, ◌++◌}
use mathlib.Core.Path.{◌≡◌, refl, sym, ap, ◌∙◌}
use Rattle.digits.proofs.put_hexes.Goals as goal

length_front : (s : List ℕ) (i : ℕ) → i ≤ length s → length (hexes (take i s)) ≡ i * 2
length_front s i h = omega (arith, length-hexes (take i s), length-take-le i s h)

-- a turn: two characters after those of the bytes before
turn : (m₀ m s : List ℕ) (at i x y : ℕ) → i < length s → at + length s * 2 ≤ length m₀ → length m ≡ length m₀ → get_or s i 0 < 256
    → x ≡ glyph (get_or s i 0 / 16) → y ≡ glyph (get_or s i 0 % 16) → m ≡ splice m₀ at (hexes (take i s))
    → set (set m (at + i * 2) x) (at + i * 2 + 1) y ≡ splice m₀ at (hexes (take (suc i) s))
turn m₀ m s at i x y h r l b p q e =
    let k = at + i * 2 in
    let m₁ = set m k x in
    let n : length m₁ ≡ length m = length-set m k x in
    let f : m₁ ≡ splice m k (x ∷ []) = set-splice m k x (omega arith) in
    let g : set m₁ (k + 1) y ≡ splice m₁ (k + 1) (y ∷ []) = set-splice m₁ (k + 1) y (omega arith) in
    let two : set m₁ (k + 1) y ≡ splice m k (x ∷ y ∷ []) = splice-next m m₁ (set m₁ (k + 1) y) k 1 (x ∷ []) (y ∷ []) (omega arith) refl f g in
    let d : x ∷ y ∷ [] ≡ digits 16 2 (get_or s i 0) = rw (p, q) (sym (two_digits (get_or s i 0) b)) in
    let t : hexes (take i s) ++ digits 16 2 (get_or s i 0) ≡ hexes (take (suc i) s) = sym (hexes-snoc (take i s) (get_or s i 0))
    ∙ ap hexes (sym (take-suc s i 0 h)) in
    splice-next m₀ m (set m₁ (k + 1) y) at (i * 2) (hexes (take i s)) (digits 16 2 (get_or s i 0)) (omega arith) (length_front s i (omega arith)) e
    (two ∙ ap (λ (z : List ℕ). splice m k z) d)
    ∙ ap (λ (z : List ℕ). splice m₀ at z) t

pub loop-i-init : goal.loop-i-init
unfolding hexes
loop-i-init c = sym (splice-nil c.args.out.now c.args.at)

pub bounds-out-at-in-loop-i : goal.bounds-out-at-in-loop-i
bounds-out-at-in-loop-i c = simp length-set (omega arith)

pub loop-i-preserved : goal.loop-i-preserved
loop-i-preserved c =
    let a = c.args in
    rw (add-one c.loop-i.i) (turn a.out.now c.loop-i.out a.s.now a.at c.loop-i.i c.hex_digit.result
    c.hex_digit-in-loop-i.result (omega arith) c.requires c.loop-i.auto.out
    (omega (arith, c.type_inv.s c.loop-i.i)) c.hex_digit.ensures c.hex_digit-in-loop-i.ensures c.loop-i.invariant)

pub returns : goal.returns
returns c =
    let a = c.args in
    let e : c.loop-i.i ≡ length a.s.now = omega arith in
    record {
      out = c.loop-i.invariant ∙ ap (λ (z : List ℕ). splice a.out.now a.at (hexes z)) (take_all c.loop-i.i a.s.now (omega arith));
      end = omega (arith, length-hexes a.s.now, e);
    }

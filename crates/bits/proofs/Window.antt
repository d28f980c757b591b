-- A window of one or two bytes: reading and patching some of its bits.
use mathlib.Core.Path.{◌≡◌, refl, sym, ap, ◌∙◌}
use mathlib.Core.Bool.{Bool}
use mathlib.Core.List.{List, ◌++◌, append_assoc}
use Prim.Native.Nat.{ℕ, suc, ◌+◌, ◌*◌, ◌-◌, ◌/◌, ◌%◌, ◌^◌, ◌≤◌, ◌<◌}
use native.Mathlib.Nat.{add-mul, mod-lt}
use native.Mathlib.Omega.{arith}
use lib.Pow.{pow_pos, split, shr-shr}
use lib.ListN.{length, take, drop, set, get_or, length-append, length-set, take-append-drop}
use lib.Seq.{take_at, drop_at, length-take-le, drop-cons, drop-drop, take-set-le, drop-set-lt, get_or-set_same, get_or-set_other}
use Rattle.bits.specs.Order.{digits, value, Octets, unpack, bytes, store}
use Rattle.bits.specs.Part.{splice}
use Rattle.bits.specs.inside.Window.{patched}
use Rattle.bits.proofs.Octets.{octets-set, octets-splice}
use Rattle.bits.proofs.Splice.{length-splice}
use Rattle.bits.proofs.Digits.{length_digits, value-digits, digits-add, digits-join, digits-middle, digits-mod-pow}
use Rattle.bits.proofs.Bytes.{length-unpack, unpack-append, take-unpack, drop-unpack, bytes-unpack}

-- the bytes before, the window, the bytes after
pub one_byte : (s : List ℕ) (i : ℕ) → i < length s → unpack s ≡ unpack (take i s) ++ (digits 8 (get_or s i 0) ++ unpack (drop (suc i) s))
unfolding unpack
one_byte s i h =
    ap (λ (l : List ℕ). unpack l) (sym (take-append-drop i s)) ∙ unpack-append (take i s) (drop i s)
    ∙ ap (λ (l : List ℕ). unpack (take i s) ++ unpack l) (drop-cons s i 0 h)

pub two_bytes : (s : List ℕ) (i : ℕ) → suc i < length s → get_or s (suc i) 0 < 256
    → unpack s ≡ unpack (take i s) ++ (digits 16 (get_or s i 0 * 256 + get_or s (suc i) 0) ++ unpack (drop (suc (suc i)) s))
unfolding unpack
two_bytes s i h b =
    one_byte s i (omega arith)
    ∙ ap (λ (l : List ℕ). unpack (take i s) ++ (digits 8 (get_or s i 0) ++ unpack l)) (drop-cons s (suc i) 0 h)
    ∙ ap (λ (l : List Bool). unpack (take i s) ++ l)
    (sym (append_assoc (digits 8 (get_or s i 0)) (digits 8 (get_or s (suc i) 0)) (unpack (drop (suc (suc i)) s)))
    ∙ ap (λ (l : List Bool). l ++ unpack (drop (suc (suc i)) s)) (sym (digits-join 8 8 (get_or s i 0) (get_or s (suc i) 0) b)))

length_front : (s : List ℕ) (i : ℕ) → i ≤ length s → length (unpack (take i s)) ≡ i * 8
length_front s i h = length-unpack (take i s) ∙ ap (λ (n : ℕ). n * 8) (length-take-le i s h)

-- reading: k bits of a window of o + k + r
window-read : (f rest : List Bool) (at o k r x : ℕ) → length f + o ≡ at → x / 2 ^ r % 2 ^ k ≡ value (take k (drop at (f ++ (digits (o + (k + r)) x ++ rest))))
window-read f rest at o k r x e =
    let d : drop at (f ++ (digits (o + (k + r)) x ++ rest)) ≡ drop o (digits (o + (k + r)) x ++ rest) =
    ap (λ (n : ℕ). drop n (f ++ (digits (o + (k + r)) x ++ rest))) (sym e) ∙ sym (drop-drop o (length f) (f ++ (digits (o + (k + r)) x ++ rest)))
    ∙ ap (λ (l : List Bool). drop o l) (drop_at f (digits (o + (k + r)) x ++ rest) (length f) refl) in
    sym (value-digits k (x / 2 ^ r)) ∙ ap (λ (l : List Bool). value l) (sym (digits-middle o k r x rest)) ∙ ap (λ (l : List Bool). value (take k l)) (sym d)

pub read_one : (s : List ℕ) (at k : ℕ) → 0 < k → at % 8 + k ≤ 8 → at + k ≤ length s * 8
    → get_or s (at / 8) 0 / 2 ^ (8 - (at % 8 + k)) % 2 ^ k ≡ value (take k (drop at (unpack s)))
read_one s at k p h l =
    let i = at / 8 in
    let n : at % 8 + (k + (8 - (at % 8 + k))) ≡ 8 = omega arith in
    window-read (unpack (take i s)) (unpack (drop (suc i) s)) at (at % 8) k (8 - (at % 8 + k)) (get_or s i 0) (omega (arith, length_front s i (omega arith)))
    ∙ ap (λ (j : ℕ). value (take k (drop at (unpack (take i s) ++ (digits j (get_or s i 0) ++ unpack (drop (suc i) s)))))) n
    ∙ ap (λ (b : List Bool). value (take k (drop at b))) (sym (one_byte s i (omega arith)))

pub read-two : (s : List ℕ) (at k : ℕ) → k ≤ 8 → 8 < at % 8 + k → at + k ≤ length s * 8 → get_or s (suc (at / 8)) 0 < 256
    → (get_or s (at / 8) 0 * 256 + get_or s (suc (at / 8)) 0) / 2 ^ (16 - (at % 8 + k)) % 2 ^ k ≡ value (take k (drop at (unpack s)))
read-two s at k p h l b =
    let i = at / 8 in
    let x = get_or s i 0 * 256 + get_or s (suc i) 0 in
    let n : at % 8 + (k + (16 - (at % 8 + k))) ≡ 16 = omega arith in
    window-read (unpack (take i s)) (unpack (drop (suc (suc i)) s)) at (at % 8) k (16 - (at % 8 + k)) x (omega (arith, length_front s i (omega arith)))
    ∙ ap (λ (j : ℕ). value (take k (drop at (unpack (take i s) ++ (digits j x ++ unpack (drop (suc (suc i)) s)))))) n
    ∙ ap (λ (m : List Bool). value (take k (drop at m))) (sym (two_bytes s i (omega arith) b))

-- ── patching ──
splice-parts : {A : Type 0} (a b c y : List A) (at : ℕ) → length a ≡ at → length y ≡ length b → splice (a ++ (b ++ c)) at y ≡ a ++ (y ++ c)
splice-parts a b c y at e l =
    let f : length (a ++ b) ≡ at + length y = length-append a b ∙ omega arith in
    rw (take_at a (b ++ c) at e) (ap (λ z. a ++ (y ++ z)) (ap (λ z. drop (at + length y) z) (sym (append_assoc a b c)) ∙ drop_at (a ++ b) c (at + length y) f))

patched-digits : (o k r x v : ℕ) → v < 2 ^ k → digits (o + (k + r)) (patched x r k v) ≡ digits o (x / 2 ^ (k + r)) ++ (digits k v ++ digits r x)
unfolding patched
patched-digits o k r x v h =
    let a = x / 2 ^ r / 2 ^ k in
    let n : o + (k + r) ≡ (o + k) + r = omega arith in
    let c : r + k ≡ k + r = omega arith in
    ap (λ (j : ℕ). digits j ((a * 2 ^ k + v) * 2 ^ r + x % 2 ^ r)) n
    ∙ digits-join (o + k) r (a * 2 ^ k + v) (x % 2 ^ r) (mod-lt x (pow_pos r))
    ∙ ap (λ (l : List Bool). l ++ digits r (x % 2 ^ r)) (digits-join o k a v h)
    ∙ append_assoc (digits o a) (digits k v) (digits r (x % 2 ^ r))
    ∙ ap (λ (l : List Bool). digits o a ++ (digits k v ++ l)) (digits-mod-pow r x)
    ∙ ap (λ (y : ℕ). digits o y ++ (digits k v ++ digits r x)) (shr-shr x r k ∙ ap (λ (j : ℕ). x / 2 ^ j) c)

window-patch : (f rest : List Bool) (at o k r x v : ℕ) → length f + o ≡ at → v < 2 ^ k
    → f ++ (digits (o + (k + r)) (patched x r k v) ++ rest) ≡ splice (f ++ (digits (o + (k + r)) x ++ rest)) at (digits k v)
window-patch f rest at o k r x v e h =
    let d1 = digits o (x / 2 ^ (k + r)) in
    let d2 = digits k (x / 2 ^ r) in
    let d3 = digits r x in
    let old : digits (o + (k + r)) x ≡ d1 ++ (d2 ++ d3) = digits-add o (k + r) x ∙ ap (λ (l : List Bool). d1 ++ l) (digits-add k r x) in
    let a : f ++ ((d1 ++ (d2 ++ d3)) ++ rest) ≡ (f ++ d1) ++ (d2 ++ (d3 ++ rest)) = simp append_assoc in
    let b : (f ++ d1) ++ (digits k v ++ (d3 ++ rest)) ≡ f ++ ((d1 ++ (digits k v ++ d3)) ++ rest) = simp append_assoc in
    ap (λ (l : List Bool). f ++ (l ++ rest)) (patched-digits o k r x v h) ∙ sym b
    ∙ sym (splice-parts (f ++ d1) d2 (d3 ++ rest) (digits k v) at (length-append f d1 ∙ omega (arith, length_digits o (x / 2 ^ (k + r)))) (length_digits k v ∙ sym (length_digits k (x / 2 ^ r))))
    ∙ ap (λ (l : List Bool). splice l at (digits k v)) (sym a)
    ∙ ap (λ (l : List Bool). splice (f ++ (l ++ rest)) at (digits k v)) (sym old)

store_is : (m' m : List ℕ) (at : ℕ) (bs : List Bool) → Octets m' → length m' ≡ length m → unpack m' ≡ splice (unpack m) at bs → m' ≡ store m at bs
unfolding store
store_is m' m at bs o l e = sym (bytes-unpack (length m) m' l o) ∙ ap (λ (b : List Bool). bytes (length m) b) e

pub patch-one : (s : List ℕ) (at k v : ℕ) → Octets s → 0 < k → at % 8 + k ≤ 8 → at + k ≤ length s * 8 → v < 2 ^ k
    → (x : ℕ) → x ≡ patched (get_or s (at / 8) 0) (8 - (at % 8 + k)) k v → set s (at / 8) (x % 256) ≡ store s at (digits k v)
patch-one s at k v os p h l hv x ex =
    let i = at / 8 in
    let r = 8 - (at % 8 + k) in
    let b = get_or s i 0 in
    let f = unpack (take i s) in
    let z = unpack (drop (suc i) s) in
    let n : at % 8 + (k + r) ≡ 8 = omega arith in
    let il : i < length s = omega arith in
    let m' = set s i (x % 256) in
    let u : unpack m' ≡ f ++ (digits 8 x ++ z) =
    one_byte m' i (rw length-set il)
    ∙ rw (take-set-le i s i (x % 256) (omega arith), drop-set-lt (suc i) s i (x % 256) (omega arith), get_or-set_same s i (x % 256) 0 il, digits-mod-pow 8 x) refl in
    store_is m' s at (digits k v) (octets-set s i (x % 256) (omega arith) os) (length-set s i (x % 256))
    (u ∙ ap (λ (j : ℕ). f ++ (digits j x ++ z)) (sym n) ∙ ap (λ (y : ℕ). f ++ (digits (at % 8 + (k + r)) y ++ z)) ex
    ∙ window-patch f z at (at % 8) k r b v (omega (arith, length_front s i (omega arith))) hv
    ∙ ap (λ (j : ℕ). splice (f ++ (digits j b ++ z)) at (digits k v)) n
    ∙ ap (λ (q : List Bool). splice q at (digits k v)) (sym (one_byte s i il)))

pub patch-two : (s : List ℕ) (at k v : ℕ) → Octets s → k ≤ 8 → 8 < at % 8 + k → at + k ≤ length s * 8 → v < 2 ^ k
    → (x : ℕ) → x ≡ patched (get_or s (at / 8) 0 * 256 + get_or s (suc (at / 8)) 0) (16 - (at % 8 + k)) k v
    → get_or s (suc (at / 8)) 0 < 256
    → set (set s (at / 8) (x / 256 % 256)) (suc (at / 8)) (x % 256) ≡ store s at (digits k v)
patch-two s at k v os p h l hv x ex byte =
    let i = at / 8 in
    let r = 16 - (at % 8 + k) in
    let b = get_or s i 0 * 256 + get_or s (suc i) 0 in
    let f = unpack (take i s) in
    let z = unpack (drop (suc (suc i)) s) in
    let n : at % 8 + (k + r) ≡ 16 = omega arith in
    let il : suc i < length s = omega arith in
    let y = x / 256 % 256 in
    let m₁ = set s i y in
    let m' = set m₁ (suc i) (x % 256) in
    let l₁ : length m₁ ≡ length s = length-set s i y in
    let l₂ : length m' ≡ length s = length-set m₁ (suc i) (x % 256) ∙ l₁ in
    let g₁ : get_or m' i 0 ≡ y = get_or-set_other m₁ (suc i) i (x % 256) 0 (λ e. omega arith) ∙ get_or-set_same s i y 0 (omega arith) in
    let g₂ : get_or m' (suc i) 0 ≡ x % 256 = get_or-set_same m₁ (suc i) (x % 256) 0 (omega arith) in
    let t : take i m' ≡ take i s = take-set-le i m₁ (suc i) (x % 256) (omega arith) ∙ take-set-le i s i y (omega arith) in
    let d : drop (suc (suc i)) m' ≡ drop (suc (suc i)) s = drop-set-lt (suc (suc i)) m₁ (suc i) (x % 256) (omega arith) ∙ drop-set-lt (suc (suc i)) s i y (omega arith) in
    let w : digits 16 (y * 256 + x % 256) ≡ digits 16 x =
    digits-join 8 8 y (x % 256) (omega arith) ∙ rw (digits-mod-pow 8 (x / 256), digits-mod-pow 8 x) (sym (digits-add 8 8 x)) in
    let u : unpack m' ≡ f ++ (digits 16 x ++ z) = two_bytes m' i (omega arith) (omega arith) ∙ rw (t, d, g₁, g₂, w) refl in
    store_is m' s at (digits k v) (octets-set m₁ (suc i) (x % 256) (omega arith) (octets-set s i y (omega arith) os)) l₂
    (u ∙ ap (λ (j : ℕ). f ++ (digits j x ++ z)) (sym n) ∙ ap (λ (q : ℕ). f ++ (digits (at % 8 + (k + r)) q ++ z)) ex
    ∙ window-patch f z at (at % 8) k r b v (omega (arith, length_front s i (omega arith))) hv
    ∙ ap (λ (j : ℕ). splice (f ++ (digits j b ++ z)) at (digits k v)) n
    ∙ ap (λ (q : List Bool). splice q at (digits k v)) (sym (two_bytes s i il byte)))

-- the arithmetic of `patch`
module _ (x r k v : ℕ) (small : x < 65536) (fits : r + k ≤ 16) (hv : v < 2 ^ k) where
  parts : (x / 2 ^ r / 2 ^ k * 2 ^ k) * 2 ^ r + x / 2 ^ r % 2 ^ k * 2 ^ r + x % 2 ^ r ≡ x
  parts =
      let s : x / 2 ^ r / 2 ^ k * 2 ^ k + x / 2 ^ r % 2 ^ k ≡ x / 2 ^ r = split (x / 2 ^ r) k in
      let e : x / 2 ^ r * 2 ^ r + x % 2 ^ r ≡ x = split x r in
      ap (λ (y : ℕ). y + x % 2 ^ r) (sym (add-mul (x / 2 ^ r / 2 ^ k * 2 ^ k) (x / 2 ^ r % 2 ^ k) (2 ^ r)) ∙ ap (λ (y : ℕ). y * 2 ^ r) s) ∙ e

  pub old-le : x / 2 ^ r % 2 ^ k * 2 ^ r ≤ x
  old-le = omega (arith, parts)

  pub patch-is : x - x / 2 ^ r % 2 ^ k * 2 ^ r + v * 2 ^ r ≡ patched x r k v
  unfolding patched
  patch-is = omega (arith, parts, old-le, add-mul (x / 2 ^ r / 2 ^ k * 2 ^ k) v (2 ^ r))

-- ── whole bytes ──
-- bytes in their place are their bits in theirs
pub splice-store : (d : List ℕ) (at : ℕ) (s : List ℕ) → Octets d → Octets s → at + length s ≤ length d → splice d at s ≡ store d (at * 8) (unpack s)
splice-store d at s od os h =
    let n : (at + length s) * 8 ≡ at * 8 + length (unpack s) = omega (arith, length-unpack s) in
    store_is (splice d at s) d (at * 8) (unpack s)
    (octets-splice d at s od os)
    (length-splice d at s h)
    (unpack-append (take at d) (s ++ drop (at + length s) d)
    ∙ ap (λ (x : List Bool). unpack (take at d) ++ x) (unpack-append s (drop (at + length s) d))
    ∙ rw (← take-unpack at d, ← drop-unpack (at + length s) d, n) refl)

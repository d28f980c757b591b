-- Laws of one field: tests, lists of items, padding.
use mathlib.Core.Path.{◌≡◌, refl, sym, ap, ◌∙◌}
use mathlib.Core.Bool.{Bool, true, false, ◌&&◌}
use mathlib.Core.List.{List, [], ◌∷◌, ◌++◌, append_assoc}
use Prim.Native.Nat.{ℕ, zero, suc, ◌+◌, ◌*◌, ◌^◌, ◌≤◌, ◌<◌}
use native.Mathlib.Nat.{zero-mul, suc-mul}
use native.Mathlib.Omega.{arith}
use borrow.Author.Tests.{lt-ltb, ltb-true}
use lib.Dec.{ltb}
use lib.ListN.{length, take, drop, length-append, length-drop, replicate}
use lib.Seq.{drop_at, take-add}
use Rattle.bits.specs.Order.{to_bits, from_bits}
use Rattle.bits.proofs.Numbers.{length-to_bits, from_bits-to_bits, from_bits-lt, to_bits-from_bits}
use Rattle.shape.specs.Shape.{item_bits, items_of, all_zero, all_below}

pub and_left : (a b : Bool) → a && b ≡ true → a ≡ true
and_left true b h = refl
and_left false b h = h

pub and_right : (a b : Bool) → a && b ≡ true → b ≡ true
and_right true b h = h
and_right false b h = absurd (let z : ◌≡◌ {A = ℕ} 0 1 = cc in omega arith)

pub and_both : (a b : Bool) → a ≡ true → b ≡ true → a && b ≡ true
and_both true b h k = k
and_both false b h k = h

pub and-true : (a : Bool) → a && true ≡ a
and-true true = refl
and-true false = refl

-- ── items ──
pub length-item_bits : (w : ℕ) (xs : List ℕ) → length (item_bits w xs) ≡ length xs * w
unfolding item_bits
length-item_bits w [] = sym (zero-mul w)
length-item_bits w (x ∷ xs) =
    let e : suc (length xs) * w ≡ length xs * w + w = suc-mul (length xs) w in
    simp length-append (omega (arith, length-to_bits w x, length-item_bits w xs))

pub items-there : (w : ℕ) (xs : List ℕ) (rest : List Bool) → all_below (2 ^ w) xs ≡ true → items_of w (length xs) (item_bits w xs ++ rest) ≡ xs
unfolding item_bits items_of all_below
items-there w [] rest h = refl
items-there w (x ∷ xs) rest h =
    let l : x < 2 ^ w = ltb-true x (2 ^ w) (and_left (ltb x (2 ^ w)) (all_below (2 ^ w) xs) h) in
    rw (
      append_assoc (to_bits w x) (item_bits w xs) rest,
      from_bits-to_bits w x (item_bits w xs ++ rest) l,
      drop_at (to_bits w x) (item_bits w xs ++ rest) w (length-to_bits w x),
      items-there w xs rest (and_right (ltb x (2 ^ w)) (all_below (2 ^ w) xs) h),
    )

pub length-items_of : (w n : ℕ) (bs : List Bool) → length (items_of w n bs) ≡ n
unfolding items_of
length-items_of w zero bs = refl
length-items_of w (suc n) bs = ap suc (length-items_of w n (drop w bs))

pub items_back : (w n : ℕ) (bs : List Bool) → n * w ≤ length bs → item_bits w (items_of w n bs) ≡ take (n * w) bs
unfolding item_bits items_of
items_back w zero bs h = rw zero-mul
items_back w (suc n) bs h =
    let e : suc n * w ≡ w + n * w = suc-mul n w ∙ omega arith in
    rw (to_bits-from_bits w bs (omega arith), items_back w n (drop w bs) (rw length-drop (omega arith)), e) (sym (take-add w (n * w) bs))

pub items-below : (w n : ℕ) (bs : List Bool) → n * w ≤ length bs → all_below (2 ^ w) (items_of w n bs) ≡ true
unfolding items_of all_below
items-below w zero bs h = refl
items-below w (suc n) bs h =
    let e : suc n * w ≡ n * w + w = suc-mul n w in
    and_both (ltb (from_bits w bs) (2 ^ w)) (all_below (2 ^ w) (items_of w n (drop w bs))) (lt-ltb (from_bits w bs) (2 ^ w) (from_bits-lt w bs (omega arith)))
    (items-below w n (drop w bs) (rw length-drop (omega arith)))

-- ── padding ──
pub zeros-are : (bs : List Bool) → all_zero bs ≡ true → bs ≡ replicate (length bs) false
zeros-are [] h = refl
zeros-are (true ∷ bs) h = absurd (let z : ◌≡◌ {A = ℕ} 0 1 = cc in omega arith)
zeros-are (false ∷ bs) h = ap (λ (l : List Bool). false ∷ l) (zeros-are bs h)

pub zeros-zero : (n : ℕ) → all_zero (replicate n false) ≡ true
zeros-zero zero = refl
zeros-zero (suc n) = zeros-zero n

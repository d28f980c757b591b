-- Laws of `unpack`, `bytes` and `store`.
use mathlib.Core.Path.{◌≡◌, refl, sym, ap, ◌∙◌}
use mathlib.Core.Bool.{Bool}
use mathlib.Core.List.{List, [], ◌∷◌, ◌++◌, append_assoc}
use Prim.Native.Nat.{ℕ, zero, suc, ◌+◌, ◌*◌, ◌-◌, ◌≤◌}
use native.Mathlib.Nat.{zero-add, mod-eq_of_lt}
use native.Mathlib.Omega.{arith}
use lib.ListN.{length, take, drop, length-append, length-drop, take-append-drop}
use lib.Seq.{take_at, drop_at, length-take-le, take-append-le, drop-drop, drop-append-le, take-add, take-nil, drop-nil}
use Rattle.bits.specs.Order.{digits, value, Octets, unpack, bytes, store}
use Rattle.bits.specs.Part.{splice}
use Rattle.bits.proofs.Octets.{octets-drop}
use Rattle.bits.proofs.Splice.{length-splice, splice-splice}
use Rattle.bits.proofs.Digits.{length_digits, value-digits, digits_value}

pub length-unpack : (s : List ℕ) → length (unpack s) ≡ length s * 8
unfolding unpack
length-unpack [] = refl
length-unpack (b ∷ bs) = simp length-append (omega (arith, length_digits 8 b, length-unpack bs))

pub unpack-append : (xs ys : List ℕ) → unpack (xs ++ ys) ≡ unpack xs ++ unpack ys
unfolding unpack
unpack-append [] ys = refl
unpack-append (x ∷ xs) ys = rw (unpack-append xs ys) (sym (append_assoc (digits 8 x) (unpack xs) (unpack ys)))

-- the bits from byte i on are the bits of the bytes from i on
pub drop-unpack : (i : ℕ) (s : List ℕ) → drop (i * 8) (unpack s) ≡ unpack (drop i s)
unfolding unpack
drop-unpack zero s = refl
drop-unpack (suc i) [] = drop-nil (suc i * 8)
drop-unpack (suc i) (b ∷ bs) =
    let e : suc i * 8 ≡ 8 + i * 8 = omega arith in
    rw e (sym (drop-drop (i * 8) 8 (digits 8 b ++ unpack bs)) ∙ ap (λ (l : List Bool). drop (i * 8) l) (drop_at (digits 8 b) (unpack bs) 8 (length_digits 8 b)) ∙ drop-unpack i bs)

pub take-unpack : (i : ℕ) (s : List ℕ) → take (i * 8) (unpack s) ≡ unpack (take i s)
unfolding unpack
take-unpack zero s = refl
take-unpack (suc i) [] = take-nil (suc i * 8)
take-unpack (suc i) (b ∷ bs) =
    let e : suc i * 8 ≡ 8 + i * 8 = omega arith in
    rw e (take-add 8 (i * 8) (digits 8 b ++ unpack bs)
    ∙ rw (take_at (digits 8 b) (unpack bs) 8 (length_digits 8 b), drop_at (digits 8 b) (unpack bs) 8 (length_digits 8 b), take-unpack i bs))

pub length-bytes : (n : ℕ) (bs : List Bool) → length (bytes n bs) ≡ n
unfolding bytes
length-bytes zero bs = refl
length-bytes (suc n) bs = ap suc (length-bytes n (drop 8 bs))

pub unpack-bytes : (n : ℕ) (bs : List Bool) → length bs ≡ n * 8 → unpack (bytes n bs) ≡ bs
unfolding bytes unpack
unpack-bytes zero [] h = refl
unpack-bytes zero (b ∷ bs) h = absurd (omega arith)
unpack-bytes (suc n) bs h =
    let l : length (take 8 bs) ≡ 8 = length-take-le 8 bs (omega arith) in
    rw (digits_value 8 (take 8 bs) l, unpack-bytes n (drop 8 bs) (length-drop 8 bs ∙ omega arith)) (take-append-drop 8 bs)

pub bytes-unpack : (n : ℕ) (s : List ℕ) → length s ≡ n → Octets s → bytes n (unpack s) ≡ s
unfolding bytes unpack
bytes-unpack zero [] e h = refl
bytes-unpack zero (b ∷ bs) e h = absurd (omega arith)
bytes-unpack (suc n) [] e h = absurd (omega arith)
bytes-unpack (suc n) (b ∷ bs) e h =
    let v : value (digits 8 b) ≡ b = value-digits 8 b ∙ mod-eq_of_lt h.0 in
    rw (take_at (digits 8 b) (unpack bs) 8 (length_digits 8 b), drop_at (digits 8 b) (unpack bs) 8 (length_digits 8 b), v, bytes-unpack n bs (omega arith) h.1)

pub bytes-append : (n k : ℕ) (xs ys : List Bool) → length xs ≡ n * 8 → bytes (n + k) (xs ++ ys) ≡ bytes n xs ++ bytes k ys
unfolding bytes
bytes-append zero k [] ys h = rw zero-add
bytes-append zero k (x ∷ xs) ys h = absurd (omega arith)
bytes-append (suc n) k xs ys h =
    let s : suc n + k ≡ suc (n + k) = omega arith in
    rw (s, take-append-le 8 xs ys (omega arith), drop-append-le 8 xs ys (omega arith), bytes-append n k (drop 8 xs) ys (length-drop 8 xs ∙ omega arith))

-- ── stores ──
pub length-store : (m : List ℕ) (at : ℕ) (bs : List Bool) → length (store m at bs) ≡ length m
unfolding store
length-store m at bs = length-bytes (length m) (splice (unpack m) at bs)

-- the bits after a store: those stored in their place, all others as they were
pub unpack-store : (m : List ℕ) (at : ℕ) (bs : List Bool) → at + length bs ≤ length m * 8 → unpack (store m at bs) ≡ splice (unpack m) at bs
unfolding store
unpack-store m at bs h =
    unpack-bytes (length m) (splice (unpack m) at bs) (length-splice (unpack m) at bs (omega (arith, length-unpack m)) ∙ length-unpack m)

-- two stores side by side are one
pub store-store : (m : List ℕ) (at : ℕ) (xs ys : List Bool) → at + length xs ≤ length m * 8 → store (store m at xs) (at + length xs) ys ≡ store m at (xs ++ ys)
unfolding store
store-store m at xs ys h =
    rw (unpack-bytes (length m) (splice (unpack m) at xs) (length-splice (unpack m) at xs (omega (arith, length-unpack m)) ∙ length-unpack m), length-bytes)
    (ap (λ (l : List Bool). bytes (length m) l) (splice-splice (unpack m) at xs (omega (arith, length-unpack m)) ys))

-- whole bytes from the front: the rest of the bytes stay
pub store-front : (m : List ℕ) (n : ℕ) (bs : List Bool) → Octets m → length bs ≡ n * 8 → n ≤ length m → store m 0 bs ≡ bytes n bs ++ drop n m
unfolding store
store-front m n bs o e h =
    let k : length m ≡ n + (length m - n) = omega arith in
    let d : drop (length bs) (unpack m) ≡ unpack (drop n m) = ap (λ (j : ℕ). drop j (unpack m)) e ∙ drop-unpack n m in
    rw zero-add
    (ap (λ (l : List Bool). bytes (length m) (bs ++ l)) d ∙ ap (λ (j : ℕ). bytes j (bs ++ unpack (drop n m))) k
    ∙ bytes-append n (length m - n) bs (unpack (drop n m)) e
    ∙ ap (λ (l : List ℕ). bytes n bs ++ l) (bytes-unpack (length m - n) (drop n m) (length-drop n m) (octets-drop n m o)))

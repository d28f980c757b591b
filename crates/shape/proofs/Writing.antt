-- What a writer's code goes by: what it refuses, and its fields written from the front.
use mathlib.Core.Path.{◌≡◌, refl, sym, ap, ◌∙◌}
use mathlib.Core.Bool.{Bool, true, false}
use mathlib.Core.List.{List, [], ◌∷◌, ◌++◌, append-nil}
use Prim.Native.Nat.{ℕ, ◌+◌, ◌*◌, ◌-◌, ◌≤◌, ◌<◌}
use native.Mathlib.Omega.{arith}
use borrow.Author.Tests.{lt-ltb, le-ltb}
use lib.ListN.{length, drop, replicate, length-append, length-replicate}
use Rattle.bits.specs.Order.{Octets, digits, unpack, bytes, bytes_for, padding, octets, to_bits, store}
use Rattle.bits.proofs.Bytes.{length-bytes, store-front, store-store}
use Rattle.shape.specs.Answer.{refused, got, numbered, refuse_if}
use Rattle.shape.specs.Shape.{Shape, Values, item_bits, all_below, encode, message, tags, fits, encoded, written}

pub refuse-27 : (d : Shape) (v : Values d) (m : List ℕ) → tags d v ≡ false → (numbered (refused 27), m) ≡ written d v m
unfolding encoded refuse_if
refuse-27 d v m t = rw t

-- of a type without unions t is refl
module _ (d : Shape) (v : Values d) (m : List ℕ) (t : tags d v ≡ true) where
  pub refuse-17 : fits d v ≡ false → (numbered (refused 17), m) ≡ written d v m
  unfolding encoded refuse_if
  refuse-17 f = rw (t, f)

  -- bits that take n bytes, the last one perhaps padded
  module _ (f : fits d v ≡ true) (n : ℕ) (for : bytes_for (length (encode d v)) ≡ n) where
    size : length (message d v) ≡ n
    size = length-bytes (bytes_for (length (encode d v))) (encode d v ++ padding (encode d v)) ∙ for

    pub refuse-8-padded : length m < n → (numbered (refused 8), m) ≡ written d v m
    unfolding encoded refuse_if
    refuse-8-padded h = rw (t, f, size, lt-ltb (length m) n h)

    pub write-padded : Octets m → n ≤ length m → (m' : List ℕ) → m' ≡ store m 0 (encode d v ++ padding (encode d v)) → (numbered (got n), m') ≡ written d v m
    unfolding encoded refuse_if
    write-padded o h m' e =
        let l : length (encode d v ++ padding (encode d v)) ≡ n * 8 = length-append (encode d v) (padding (encode d v))
        ∙ omega (arith, length-replicate (bytes_for (length (encode d v)) * 8 - length (encode d v)) false) in
        let b : m' ≡ message d v ++ drop n m = e ∙ store-front m n (encode d v ++ padding (encode d v)) o l h
        ∙ ap (λ (k : ℕ). bytes k (encode d v ++ padding (encode d v)) ++ drop n m) (sym for) in
        rw (t, f, size, le-ltb (length m) n h, b, size)

  -- bits that fill n bytes
  module _ (f : fits d v ≡ true) (n : ℕ) (l : length (encode d v) ≡ n * 8) where
    pub refuse-8 : length m < n → (numbered (refused 8), m) ≡ written d v m
    refuse-8 h = refuse-8-padded f n (omega arith) h

    none : padding (encode d v) ≡ []
    none = let z : bytes_for (length (encode d v)) * 8 - length (encode d v) ≡ 0 = omega arith in ap (λ (k : ℕ). replicate k false) z

    pub write-all : Octets m → n ≤ length m → (m' : List ℕ) → m' ≡ store m 0 (encode d v) → (numbered (got n), m') ≡ written d v m
    write-all o h m' e =
        write-padded f n (omega arith) o h m'
        (e ∙ ap (λ (b : List Bool). store m 0 b) (sym (ap (λ (p : List Bool). encode d v ++ p) none ∙ append-nil (encode d v))))

-- one field more after those written from bit b on
pub more-from : (b : ℕ) (m m' m'' : List ℕ) (xs ys : List Bool) (at : ℕ) → m' ≡ store m b xs → b + length xs ≡ at → at ≤ length m * 8 → m'' ≡ store m' at ys
    → m'' ≡ store m b (xs ++ ys)
more-from b m m' m'' xs ys at e l h f =
    f ∙ ap (λ (x : List ℕ). store x at ys) e ∙ ap (λ (n : ℕ). store (store m b xs) n ys) (sym l) ∙ store-store m b xs ys (omega arith)

-- from the front
pub more : (m m' m'' : List ℕ) (xs ys : List Bool) (at : ℕ) → m' ≡ store m 0 xs → length xs ≡ at → at ≤ length m * 8 → m'' ≡ store m' at ys
    → m'' ≡ store m 0 (xs ++ ys)
more m m' m'' xs ys at e l h f = more-from 0 m m' m'' xs ys at e (omega arith) h f

-- ── lists of bytes ──

byte-bits : (x : ℕ) → to_bits 8 x ≡ digits 8 x
unfolding to_bits octets digits
byte-bits x = append-nil (digits 8 x)

pub item-bytes : (xs : List ℕ) → item_bits 8 xs ≡ unpack xs
unfolding item_bits unpack
item-bytes [] = refl
item-bytes (x ∷ xs) = rw (byte-bits x, item-bytes xs)

pub all-bytes : (xs : List ℕ) → Octets xs → all_below 256 xs ≡ true
unfolding all_below
all-bytes [] h = refl
all-bytes (x ∷ xs) h = rw (lt-ltb x 256 h.0, all-bytes xs h.1)

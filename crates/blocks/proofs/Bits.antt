-- Numbers as sets: one number put in or taken out, and that a set is its numbers.
use mathlib.Core.Path.{◌≡◌, refl, sym, ap, ap₂, ◌∙◌}
use mathlib.Core.Bool.{Bool, true, false}
use Prim.Native.Nat.{ℕ, zero, suc, ◌+◌, ◌*◌, ◌-◌, ◌/◌, ◌%◌, ◌^◌, ◌≤◌, ◌<◌}
use native.Mathlib.Nat.{pow-suc}
use native.Mathlib.Omega.{arith}
use borrow.Author.Tests.{eqb-true, eqb-false, eq-eqb, ne_eqb}
use lib.Count.{count_trailing_zeros, under}
use lib.Dec.{eqb}
use lib.Pow.{pow-lt, shr-shr}
use Rattle.blocks.specs.Set.{digit, set_of}
use Rattle.blocks.specs.inside.Bit.{bit_at, including_if, including, excluding_if, excluding}

pub bit-lt : (b n : ℕ) → bit_at b n < 2
unfolding bit_at
bit-lt zero n = omega arith
bit-lt (suc b) n = bit-lt b (n / 2)

-- the bit as the code reads it
pub bit-shift : (b n : ℕ) → n / 2 ^ b % 2 ≡ bit_at b n
unfolding bit_at
bit-shift zero n = let e : n / 1 ≡ n = omega arith in ap (λ (x : ℕ). x % 2) e
bit-shift (suc b) n =
    let s : suc b ≡ 1 + b = omega arith in
    ap (λ (x : ℕ). n / 2 ^ x % 2) s ∙ ap (λ (x : ℕ). x % 2) (sym (shr-shr n 1 b)) ∙ bit-shift b (n / 2)

-- 1 shifted by b, as the code has it
pub shifted : (b : ℕ) → b < 64 → 1 * 2 ^ b % 2 ^ 64 ≡ 2 ^ b
shifted b h = let l : 2 ^ b < 2 ^ 64 = pow-lt h in omega arith

-- ── one number more, and one fewer ──

eqb-suc : (c b : ℕ) → eqb (suc c) (suc b) ≡ eqb c b
eqb-suc c b = go (eqb c b) refl
  where
    go : (t : Bool) → eqb c b ≡ t → eqb (suc c) (suc b) ≡ t
    go true e = eq-eqb (suc c) (suc b) (ap suc (eqb-true c b e))
    go false e = ne_eqb (suc c) (suc b) (λ z. eqb-false c b e (omega arith))

pub bit_added : (b c n : ℕ) → bit_at b n ≡ 0 → bit_at c (n + 2 ^ b) ≡ bit_at c n + digit (eqb c b)
unfolding bit_at
bit_added zero zero n h = omega (arith, h)
bit_added zero (suc c) n h =
    let e : (n + 1) / 2 ≡ n / 2 = omega (arith, h) in
    let k : eqb (suc c) 0 ≡ false = ne_eqb (suc c) 0 (λ z. omega arith) in
    rw (e, k) (omega arith)
bit_added (suc b) zero n h =
    let p : 2 ^ suc b ≡ 2 ^ b * 2 = pow-suc 2 b in
    let k : eqb 0 (suc b) ≡ false = ne_eqb 0 (suc b) (λ z. omega arith) in
    rw k (omega arith)
bit_added (suc b) (suc c) n h =
    let p : 2 ^ suc b ≡ 2 ^ b * 2 = pow-suc 2 b in
    let e : (n + 2 ^ suc b) / 2 ≡ n / 2 + 2 ^ b = omega arith in
    ap (bit_at c) e ∙ bit_added b c (n / 2) h ∙ ap (λ (t : Bool). bit_at c (n / 2) + digit t) (sym (eqb-suc c b))

pub power_le : (b n : ℕ) → bit_at b n ≡ 1 → 2 ^ b ≤ n
unfolding bit_at
power_le zero n h = omega (arith, h)
power_le (suc b) n h = let p : 2 ^ suc b ≡ 2 ^ b * 2 = pow-suc 2 b in let q = power_le b (n / 2) h in omega arith

pub bit-taken : (b c n : ℕ) → bit_at b n ≡ 1 → bit_at c (n - 2 ^ b) + digit (eqb c b) ≡ bit_at c n
unfolding bit_at
bit-taken zero zero n h = omega (arith, h)
bit-taken zero (suc c) n h =
    let e : (n - 1) / 2 ≡ n / 2 = omega (arith, h) in
    let k : eqb (suc c) 0 ≡ false = ne_eqb (suc c) 0 (λ z. omega arith) in
    rw (e, k) (omega arith)
bit-taken (suc b) zero n h =
    let p : 2 ^ suc b ≡ 2 ^ b * 2 = pow-suc 2 b in
    let k : eqb 0 (suc b) ≡ false = ne_eqb 0 (suc b) (λ z. omega arith) in
    let q = power_le b (n / 2) h in
    rw k (omega arith)
bit-taken (suc b) (suc c) n h =
    let p : 2 ^ suc b ≡ 2 ^ b * 2 = pow-suc 2 b in
    let q = power_le b (n / 2) h in
    let e : (n - 2 ^ suc b) / 2 ≡ n / 2 - 2 ^ b = omega arith in
    ap₂ (λ (x : ℕ) (t : Bool). bit_at c x + digit t) e (eqb-suc c b) ∙ bit-taken b c (n / 2) h

pub added-lt : (b k n : ℕ) → b < k → n < 2 ^ k → bit_at b n ≡ 0 → n + 2 ^ b < 2 ^ k
unfolding bit_at
added-lt b zero n l h z = absurd (omega arith)
added-lt zero (suc k) n l h z = let p : 2 ^ suc k ≡ 2 ^ k * 2 = pow-suc 2 k in omega (arith, h, z)
added-lt (suc b) (suc k) n l h z =
    let p : 2 ^ suc k ≡ 2 ^ k * 2 = pow-suc 2 k in
    let q : 2 ^ suc b ≡ 2 ^ b * 2 = pow-suc 2 b in
    let i = added-lt b k (n / 2) (omega arith) (omega arith) z in
    omega arith

-- a bit that is not 1 is 0
pub bit-zero : (b n : ℕ) → eqb (bit_at b n) 1 ≡ false → bit_at b n ≡ 0
bit-zero b n e = omega (arith, bit-lt b n, eqb-false (bit_at b n) 1 e)

pub including-lt : (b k n : ℕ) → b < k → n < 2 ^ k → including n b < 2 ^ k
unfolding including
including-lt b k n l h = go (eqb (bit_at b n) 1) refl
  where
    go : (t : Bool) → eqb (bit_at b n) 1 ≡ t → including_if t n b < 2 ^ k
    go true e = h
    go false e = added-lt b k n l h (bit-zero b n e)

pub including-same : (b n : ℕ) → bit_at b (including n b) ≡ 1
unfolding including
including-same b n = go (eqb (bit_at b n) 1) refl
  where
    go : (t : Bool) → eqb (bit_at b n) 1 ≡ t → bit_at b (including_if t n b) ≡ 1
    go true e = eqb-true (bit_at b n) 1 e
    go false e =
        let k : eqb b b ≡ true = eq-eqb b b refl in
        bit_added b b n (bit-zero b n e) ∙ rw k (omega (arith, bit-zero b n e))

pub including-other : (b c n : ℕ) → (c ≡ b → ⊥) → bit_at c (including n b) ≡ bit_at c n
unfolding including
including-other b c n d = go (eqb (bit_at b n) 1) refl
  where
    go : (t : Bool) → eqb (bit_at b n) 1 ≡ t → bit_at c (including_if t n b) ≡ bit_at c n
    go true e = refl
    go false e =
        let k : eqb c b ≡ false = ne_eqb c b d in
        bit_added b c n (bit-zero b n e) ∙ rw k (omega arith)

pub excluding-lt : (b k n : ℕ) → n < 2 ^ k → excluding n b < 2 ^ k
unfolding excluding
excluding-lt b k n h = go (eqb (bit_at b n) 1)
  where
    go : (t : Bool) → excluding_if t n b < 2 ^ k
    go true = omega arith
    go false = h

pub excluding-same : (b n : ℕ) → bit_at b (excluding n b) ≡ 0
unfolding excluding
excluding-same b n = go (eqb (bit_at b n) 1) refl
  where
    go : (t : Bool) → eqb (bit_at b n) 1 ≡ t → bit_at b (excluding_if t n b) ≡ 0
    go true e =
        let k : eqb b b ≡ true = eq-eqb b b refl in
        let q : bit_at b (n - 2 ^ b) + 1 ≡ bit_at b n = rw k at (bit-taken b b n (eqb-true (bit_at b n) 1 e)) in
        omega (arith, q, eqb-true (bit_at b n) 1 e)
    go false e = bit-zero b n e

pub excluding-other : (b c n : ℕ) → (c ≡ b → ⊥) → bit_at c (excluding n b) ≡ bit_at c n
unfolding excluding
excluding-other b c n d = go (eqb (bit_at b n) 1) refl
  where
    go : (t : Bool) → eqb (bit_at b n) 1 ≡ t → bit_at c (excluding_if t n b) ≡ bit_at c n
    go true e =
        let k : eqb c b ≡ false = ne_eqb c b d in
        let q : bit_at c (n - 2 ^ b) + 0 ≡ bit_at c n = rw k at (bit-taken b c n (eqb-true (bit_at b n) 1 e)) in
        omega (arith, q)
    go false e = refl

-- ── a set is its numbers ──

pub bits-same : (k m n : ℕ) → m < 2 ^ k → n < 2 ^ k → ((c : ℕ) → c < k → bit_at c m ≡ bit_at c n) → m ≡ n
unfolding bit_at
bits-same zero m n h g e = omega (arith, h, g)
bits-same (suc k) m n h g e =
    let p : 2 ^ suc k ≡ 2 ^ k * 2 = pow-suc 2 k in
    let z : m % 2 ≡ n % 2 = e 0 (omega arith) in
    let q : m / 2 ≡ n / 2 = bits-same k (m / 2) (n / 2) (omega arith) (omega arith) (λ c l. e (suc c) (omega arith)) in
    omega arith

digit_lt : (t : Bool) → digit t < 2
digit_lt true = omega arith
digit_lt false = omega arith

pub set-lt : (f : ℕ → Bool) (n b : ℕ) → set_of f b n < 2 ^ n
unfolding set_of
set-lt f zero b = omega arith
set-lt f (suc n) b =
    let p : 2 ^ suc n ≡ 2 ^ n * 2 = pow-suc 2 n in
    let q = set-lt f n (suc b) in
    omega (arith, digit_lt (f b))

pub bit-set : (f : ℕ → Bool) (n b c : ℕ) → c < n → bit_at c (set_of f b n) ≡ digit (f (b + c))
unfolding set_of bit_at
bit-set f zero b c h = absurd (omega arith)
bit-set f (suc n) b zero h = let e : b + 0 ≡ b = omega arith in rw e (omega (arith, digit_lt (f b)))
bit-set f (suc n) b (suc c) h =
    let e : (digit (f b) + 2 * set_of f (suc b) n) / 2 ≡ set_of f (suc b) n = omega (arith, digit_lt (f b)) in
    let a : suc b + c ≡ b + suc c = omega arith in
    ap (bit_at c) e ∙ bit-set f n (suc b) c (omega arith) ∙ ap (λ (x : ℕ). digit (f x)) a

-- the lowest number of a set: either the first, or that of the rest
pub lowest-first : (f : ℕ → Bool) (n b : ℕ) → f b ≡ true → count_trailing_zeros (suc n) (set_of f b (suc n)) ≡ 0
unfolding set_of count_trailing_zeros
lowest-first f n b e =
    let o : (digit (f b) + 2 * set_of f (suc b) n) % 2 ≡ 1 = rw e (omega arith) in
    ap (λ (x : ℕ). under x (count_trailing_zeros n ((digit (f b) + 2 * set_of f (suc b) n) / 2))) o

pub lowest-later : (f : ℕ → Bool) (n b : ℕ) → f b ≡ false → count_trailing_zeros (suc n) (set_of f b (suc n)) ≡ suc (count_trailing_zeros n (set_of f (suc b) n))
unfolding set_of count_trailing_zeros
lowest-later f n b e =
    let z : (digit (f b) + 2 * set_of f (suc b) n) % 2 ≡ 0 = rw e (omega arith) in
    let r : (digit (f b) + 2 * set_of f (suc b) n) / 2 ≡ set_of f (suc b) n = rw e (omega arith) in
    ap₂ (λ (x y : ℕ). under x (count_trailing_zeros n y)) z r

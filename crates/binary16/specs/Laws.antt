-- RULES 9.12: what holds of `widened` and `narrowed`. `laws.rt` has a function for each record, whose contract it is.
use Rattle.std.specs.Prelude.{◌≡◌, ℕ, ◌+◌, ◌*◌, ◌%◌, ◌^◌, ◌≤◌, ◌<◌, Bool, cond, T, ℤ, Float}
use Rattle.std.specs.Float.{nan, inf, fin, binary32}
use Rattle.std.specs.Float.Ieee.{up, down, fits, of_bits, to_bits}
use Rattle.binary16.specs.Format.{Number, sign16, code16, sign32, code32, value16, value32, apart}
use Rattle.binary16.specs.Convert.{widened, narrowed, float_of, binary16_of}

abbrev pub Finite16 : ℕ → Type 0
Finite16 h = code16 h < 0x7C00

abbrev pub Finite32 : ℕ → Type 0
Finite32 x = code32 x < 0x7F800000

pub record Widening : Type 0 where
  -- of exactly its value, the sign with it
  pub finite : (h : ℕ) → Finite16 h → Finite32 (widened h)
  pub exact : (h : ℕ) → Finite16 h → value32 (widened h) ≡ value16 h
  pub infinite : (h : ℕ) → code16 h ≡ 0x7C00 → widened h ≡ sign16 h * 0x80000000 + 0x7F800000
  pub nan : (h : ℕ) → 0x7C00 < code16 h → widened h ≡ 0x7FC00000
  -- two patterns never have one value
  pub distinct : (g h : ℕ) → value16 g ≡ value16 h → g ≡ h
  -- and back to the same 16 bits
  pub back : (h : ℕ) → code16 h ≤ 0x7C00 → narrowed (widened h) ≡ h

pub record Narrowing : Type 0 where
  pub finite : (x : ℕ) → Finite32 x → Finite16 (narrowed x)
  -- no finite binary16 is nearer. From 65504 on that is 65504, so nothing is excepted
  pub nearest : (x h : ℕ) → Finite32 x → Finite16 h → apart (value32 x) (value16 (narrowed x)) ≤ apart (value32 x) (value16 h)
  -- and where another is as near, the even one is taken
  pub even : (x h : ℕ) → Finite32 x → Finite16 h → apart (value32 x) (value16 (narrowed x)) ≡ apart (value32 x) (value16 h)
      → (value16 h ≡ value16 (narrowed x) → ⊥) → narrowed x % 2 ≡ 0
  -- 65504 and all beyond
  pub clipped : (x : ℕ) → Finite32 x → 65504 * 2 ^ 149 ≤ (value32 x).size → narrowed x ≡ sign32 x * 0x8000 + 0x7BFF
  -- zero's and infinity's too
  pub sign : (x : ℕ) → code32 x ≤ 0x7F800000 → sign16 (narrowed x) ≡ sign32 x
  pub infinite : (x : ℕ) → code32 x ≡ 0x7F800000 → narrowed x ≡ sign32 x * 0x8000 + 0x7C00
  pub nan : (x : ℕ) → 0x7F800000 < code32 x → narrowed x ≡ 0x7E00
  -- a larger size gives no smaller one
  pub rising : (x y : ℕ) → Finite32 x → Finite32 y → (value32 x).size ≤ (value32 y).size
      → (value16 (narrowed x)).size ≤ (value16 (narrowed y)).size
  -- the laws above fix the result: no other pattern of that sign is so near and so even
  pub only : (x g : ℕ) → Finite32 x → Finite16 g → sign16 g ≡ sign32 x
      → ((h : ℕ) → Finite16 h → apart (value32 x) (value16 g) ≤ apart (value32 x) (value16 h))
      → ((h : ℕ) → Finite16 h → apart (value32 x) (value16 g) ≡ apart (value32 x) (value16 h) → (value16 h ≡ value16 g → ⊥) → g % 2 ≡ 0)
      → g ≡ narrowed x

-- an f32 is finite and of this value: of this sign, and m * 2 ^ e is that many times 2^-149
abbrev pub Is : Float → Number → Type 0
Is nan y = ⊥
Is (inf s) y = ⊥
Is (fin s m e) y = (cond s 1 0 ≡ y.sign) × (m * up e * 2 ^ 149 ≡ y.size * down e)

-- the same of an f32 as the logic has it, where there is one `nan`
pub record Floats : Type 0 where
  -- a finite pattern's f32 has the pattern's value
  pub number : (x : ℕ) → x < 2 ^ 32 → Finite32 x → Is (of_bits binary32 x) (value32 x)
  -- and a finite f32's pattern is finite and has the f32's value, so what `Narrowing` says of the pattern is said of the f32
  pub value : (s : Bool) (m : ℕ) (e : ℤ) → T (fits binary32 (fin s m e)) → Is (fin s m e) (value32 (to_bits binary32 (fin s m e)))
  pub pattern : (s : Bool) (m : ℕ) (e : ℤ) → T (fits binary32 (fin s m e)) → Finite32 (to_bits binary32 (fin s m e))
  pub infinite : (s : Bool) → to_bits binary32 (inf s) ≡ cond s 0x80000000 0 + 0x7F800000
  -- coming in
  pub exact : (h : ℕ) → h < 2 ^ 16 → Finite16 h → Is (float_of h) (value16 h)
  pub nan-in : (h : ℕ) → 0x7C00 < code16 h → float_of h ≡ nan
  -- going out
  pub nan-out : binary16_of nan ≡ 0x7E00
  -- there and back, the bits of a NaN excepted; and an f32 that some binary16 equals returns, a NaN too
  pub back : (h : ℕ) → h < 2 ^ 16 → code16 h ≤ 0x7C00 → binary16_of (float_of h) ≡ h
  pub again : (h : ℕ) → h < 2 ^ 16 → (x : Float) → x ≡ float_of h → float_of (binary16_of x) ≡ x

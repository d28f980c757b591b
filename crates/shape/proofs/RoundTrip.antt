-- The return trip on whole payloads.
use mathlib.Core.Path.{◌≡◌, refl, sym, ap, ◌∙◌, subst}
use mathlib.Core.Bool.{Bool, true, false, not}
use mathlib.Core.List.{List, ◌++◌}
use Prim.Native.Nat.{ℕ, zero, suc, ◌+◌, ◌*◌, ◌-◌, ◌^◌, ◌≤◌, ◌<◌}
use native.Mathlib.Nat.{min-le_left}
use native.Mathlib.Omega.{arith}
use borrow.Author.Tests.{le-ltb, le-leb}
use lib.Dec.{ltb}
use lib.Pow.{pow_mono, pow_pos}
use lib.ListN.{length, take, drop, replicate, length-append, length-replicate, length-take, take-append-drop}
use Rattle.bits.specs.Order.{Octets, from_bits, unpack, bytes, bytes_for, padding, pack}
use Rattle.bits.specs.Width.{width_of}
use Rattle.bits.proofs.Widths.{width-law}
use Rattle.bits.proofs.Digits.{value-lt}
use Rattle.bits.proofs.Bytes.{length-unpack, length-bytes, unpack-bytes, bytes-unpack}
use Rattle.shape.specs.Answer.{Answer, refused, got, refuse_if}
use Rattle.shape.specs.Shape.{Shape, end, num, raw, void, items, list, tail, choice, tag_width, Values, encode, decode, decoded, message, tags, fits, clipped, encoded, clear, cleared}
use Rattle.shape.specs.Laws.{Sound, Whole, There, Back, Same, Unions}
use Rattle.shape.proofs.Fields.{zeros-are, zeros-zero}
use Rattle.shape.proofs.There.{tag_fits, there}
use Rattle.shape.proofs.Back.{Came, Good, back}

unpack-pack : (bs : List Bool) → unpack (pack bs) ≡ bs ++ padding bs
unpack-pack bs =
    unpack-bytes (bytes_for (length bs)) (bs ++ padding bs)
    (length-append bs (padding bs) ∙ omega (arith, length-replicate (bytes_for (length bs) * 8 - length bs) false))

read-message : (d : Shape) → Sound d → (v : Values d) → tags d v ≡ true → fits d v ≡ true → decoded d (message d v) ≡ got (clipped d v)
read-message d s v t h =
    let p = padding (encode d v) in
    let l : length p < 8 = omega (arith, length-replicate (bytes_for (length (encode d v)) * 8 - length (encode d v)) false) in
    ap (λ (b : List Bool). decode d b) (unpack-pack (encode d v)) ∙ there p l (zeros-zero (bytes_for (length (encode d v)) * 8 - length (encode d v))) d s v t h

octets-bytes : (n : ℕ) (bs : List Bool) → Octets (bytes n bs)
unfolding bytes
octets-bytes zero bs = tt
octets-bytes (suc n) bs =
    let k : length (take 8 bs) ≤ 8 = rw length-take (min-le_left 8 (length bs)) in
    let l : 2 ^ length (take 8 bs) ≤ 2 ^ 8 = pow_mono k in
    (omega (arith, value-lt (take 8 bs)), octets-bytes n (drop 8 bs))

-- what an encoding that succeeds tells
pub record Made (d : Shape) (v : Values d) (p : List ℕ) : Type 0 where
  pub tagged : tags d v ≡ true
  pub fit : fits d v ≡ true
  pub is : p ≡ message d v
  pub octets : Octets p

pub made : (d : Shape) (v : Values d) (room : ℕ) (p : List ℕ) → encoded d v room ≡ got p → Made d v p
unfolding encoded refuse_if
made d v room p = go (tags d v) (fits d v) (ltb room (length (message d v))) refl refl where
  go : (t a b : Bool) → tags d v ≡ t → fits d v ≡ a → refuse_if (not t) 27 (refuse_if (not a) 17 (refuse_if b 8 (got (message d v)))) ≡ got p → Made d v p
  go false a b g f e = absurd (let z : ◌≡◌ {A = ℕ} 0 1 = cc in omega arith)
  go true false b g f e = absurd (let z : ◌≡◌ {A = ℕ} 0 1 = cc in omega arith)
  go true true true g f e = absurd (let z : ◌≡◌ {A = ℕ} 0 1 = cc in omega arith)
  go true true false g f e =
      let i : p ≡ message d v = cc in
      record { tagged = g; fit = f; is = i; octets = rw i (octets-bytes (bytes_for (length (encode d v))) (encode d v ++ padding (encode d v))) }

pub round-there : There
round-there d s v room p e =
    let m = made d v room p e in
    ap (λ (q : List ℕ). decoded d q) m.is ∙ read-message d s v m.tagged m.fit

came-back : (d : Shape) (s : List ℕ) (v : Values d) → Came d (unpack s) v → message d v ≡ cleared d s
came-back d s v c =
    let e = encode d v in
    let l : length s * 8 ≡ length e + length c.pad = sym (c.long ∙ length-unpack s) ∙ ap (λ (b : List Bool). length b) c.whole ∙ length-append e c.pad in
    let h : length c.pad < 8 = c.short in
    let n : bytes_for (length e) ≡ length s = omega arith in
    let k : bytes_for (length e) * 8 - length e ≡ length c.pad = omega arith in
    let p : padding e ≡ c.pad = ap (λ (j : ℕ). replicate j false) k ∙ sym (zeros-are c.pad c.empty) in
    ap (λ (b : List Bool). bytes (bytes_for (length e)) (e ++ b)) p ∙ ap (λ (b : List Bool). bytes (bytes_for (length e)) b) (sym c.whole)
    ∙ ap (λ (j : ℕ). bytes j (clear d (unpack s))) n

pub round-back : Back
unfolding encoded refuse_if
round-back d s v room e l =
    let c : Came d (unpack s) v = subst (λ (r : Answer (Values d)). Good d (unpack s) r) e (back d (unpack s)) in
    let k : length (cleared d s) ≤ room = omega (arith, length-bytes (length s) (clear d (unpack s))) in
    rw (c.tagged, c.fit, came-back d s v c, le-ltb room (length (cleared d s)) k)

-- ── where nothing is ignored ──
pub clear-same : (d : Shape) → Whole d → (bs : List Bool) → clear d bs ≡ bs
unfolding clear
clear-same end h bs = refl
clear-same (num s c w d) h bs = rw (clear-same d h (drop w bs)) (take-append-drop w bs)
clear-same (raw w d) h bs = rw (clear-same d h (drop w bs)) (take-append-drop w bs)
clear-same (void w d) h bs = absurd h
clear-same (items w k d) h bs = rw (clear-same d h (drop (k * w) bs)) (take-append-drop (k * w) bs)
clear-same (list w m d) h bs =
    let n = from_bits (width_of m) bs in
    let rest = drop (width_of m) bs in
    rw (clear-same d h (drop (n * w) rest), take-append-drop (n * w) rest) (take-append-drop (width_of m) bs)
clear-same (tail w m ok) h bs = refl
clear-same (choice n f) h bs =
    let w = tag_width n in
    let t = from_bits w bs in
    rw (clear-same (f t) (h t) (drop w bs)) (take-append-drop w bs)

pub whole_same : Same
whole_same d h p o = ap (λ (b : List Bool). bytes (length p) b) (clear-same d h (unpack p)) ∙ bytes-unpack (length p) p refl o

-- ── tags ──

least-tag : (n w : ℕ) → ((t : ℕ) → t < n → t < 2 ^ w) → tag_width n ≤ w
least-tag zero w h = (width-law 0).least w (pow_pos w)
least-tag (suc n) w h =
    let e : suc n - 1 ≡ n = omega arith in
    rw e ((width-law n).least w (h n (omega arith)))

no-case : (n : ℕ) (f : ℕ → Shape) (bs : List Bool) → tag_width n ≤ length bs → n ≤ from_bits (tag_width n) bs → decode (choice n f) bs ≡ refused 27
unfolding decode refuse_if
no-case n f bs l h = rw (le-ltb (length bs) (tag_width n) l, le-leb n (from_bits (tag_width n) bs) h)

no-tag : (d : Shape) (v : Values d) (room : ℕ) → tags d v ≡ false → encoded d v room ≡ refused 27
unfolding encoded refuse_if
no-tag d v room h = rw h

pub unions : Unions
unions = record { numbers = tag_fits; least = least-tag; read = no-case; write = no-tag }

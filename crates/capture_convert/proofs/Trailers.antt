-- The trailer: what it asks, the trailer of records, and bytes that have a right one.
use mathlib.Core.Path.{◌≡◌, refl, sym, ap, ap₂, ◌∙◌}
use mathlib.Core.Bool.{Bool, true, false, ◌&&◌}
use mathlib.Core.List.{List, [], ◌∷◌, ◌++◌}
use Prim.Native.Nat.{ℕ, zero, suc, ◌+◌, ◌*◌, ◌-◌, ◌/◌, ◌%◌, ◌^◌, ◌≤◌, ◌<◌}
use native.Mathlib.Omega.{arith}
use borrow.Author.Tests.{le-leb, lt-leb, eq-eqb, ne_eqb, leb-true, eqb-true}
use lib.Bits.{bit_xor, xor_lt}
use lib.Dec.{leb, eqb}
use lib.ListN.{length, take, drop, length-append, length-drop, take-append-drop}
use lib.Seq.{take_all, take_at, drop_at, drop-drop, drop-append-add}
use Rattle.bits.specs.Little.{le, le_bytes}
use Rattle.bits.specs.Order.{Octets}
use Rattle.bits.specs.Part.{span, splice}
use Rattle.bits.proofs.Little.{le-le_bytes, le_bytes-le, le-lt}
use Rattle.bits.proofs.Octets.{octets-drop, octets-span}
use Rattle.bits.proofs.Splice.{length-span, splice-next}
use Rattle.checksum.specs.Crc.{shift, shifts, crc_byte, crc_over}
use Rattle.checksum.specs.Crc16.{ccitt}
use Rattle.capture_convert.specs.Capture.{sum_of, mark, trailer_of, trailer_in, count_in, formed, records_in, trailed}

-- ── the checksum has 16 bits ──

shift-lt : (c : ℕ) → shift ccitt c < 65536
unfolding shift
shift-lt c = xor_lt 16 (c * 2 % 65536) (c / 32768 % 2 * 0x1021) (omega arith) (omega arith)

shifts-lt : (n c : ℕ) → c < 65536 → shifts ccitt n c < 65536
unfolding shifts
shifts-lt zero c h = h
shifts-lt (suc n) c h = shifts-lt n (shift ccitt c) (shift-lt c)

pub crc-lt : (c : ℕ) (p : List ℕ) → c < 65536 → crc_over ccitt c p < 65536
unfolding crc_over crc_byte shifts
crc-lt c [] h = h
crc-lt c (b ∷ bs) h = crc-lt (crc_byte ccitt c b) bs (shifts-lt 7 (shift ccitt (bit_xor c (b * 2 ^ (ccitt.width - 8)))) (shift-lt (bit_xor c (b * 2 ^ (ccitt.width - 8)))))

-- ── what the tests ask ──

pub record Formed (t : List ℕ) : Type 0 where
  pub mark : le (span t 14 2) ≡ le mark
  pub distance : le (span t 0 8) ≡ 21 * count_in t

pub formed-true : (t : List ℕ) → Formed t → formed t ≡ true
unfolding formed
formed-true t h = rw (eq-eqb (le (span t 14 2)) (le mark) h.mark, eq-eqb (le (span t 0 8)) (21 * count_in t) h.distance)

pub true-formed : (t : List ℕ) → formed t ≡ true → Formed t
unfolding formed
true-formed t = go (eqb (le (span t 14 2)) (le mark)) (eqb (le (span t 0 8)) (21 * count_in t)) refl refl where
  go : (a b : Bool) → eqb (le (span t 14 2)) (le mark) ≡ a → eqb (le (span t 0 8)) (21 * count_in t) ≡ b → (a && b) ≡ true → Formed t
  go false b p q h = let y : ◌≡◌ {A = ℕ} 0 1 = cc in absurd (omega arith)
  go true false p q h = let y : ◌≡◌ {A = ℕ} 0 1 = cc in absurd (omega arith)
  go true true p q h = record { mark = eqb-true (le (span t 14 2)) (le mark) p; distance = eqb-true (le (span t 0 8)) (21 * count_in t) q }

pub record Right (c : List ℕ) : Type 0 where
  pub long : 16 ≤ length c
  pub formed : formed (trailer_in c) ≡ true
  pub inside : 21 * count_in (trailer_in c) ≤ length c - 16
  pub sum : le (span (trailer_in c) 12 2) ≡ sum_of (records_in c (count_in (trailer_in c)))

pub right-trailed : (c : List ℕ) → Right c → trailed c ≡ true
unfolding trailed
right-trailed c h =
    rw (
      le-leb 16 (length c) h.long,
      h.formed,
      le-leb (21 * count_in (trailer_in c)) (length c - 16) h.inside,
      eq-eqb (le (span (trailer_in c) 12 2)) (sum_of (records_in c (count_in (trailer_in c)))) h.sum,
    )

pub trailed-right : (c : List ℕ) → trailed c ≡ true → Right c
unfolding trailed
trailed-right c = go (leb 16 (length c)) (formed (trailer_in c)) (leb (21 * count_in (trailer_in c)) (length c - 16))
    (eqb (le (span (trailer_in c) 12 2)) (sum_of (records_in c (count_in (trailer_in c))))) refl refl refl refl where
      go : (a b d e : Bool) → leb 16 (length c) ≡ a → formed (trailer_in c) ≡ b → leb (21 * count_in (trailer_in c)) (length c - 16) ≡ d
          → eqb (le (span (trailer_in c) 12 2)) (sum_of (records_in c (count_in (trailer_in c)))) ≡ e → (a && (b && (d && e))) ≡ true → Right c
      go false b d e p q s t h = let y : ◌≡◌ {A = ℕ} 0 1 = cc in absurd (omega arith)
      go true false d e p q s t h = let y : ◌≡◌ {A = ℕ} 0 1 = cc in absurd (omega arith)
      go true true false e p q s t h = let y : ◌≡◌ {A = ℕ} 0 1 = cc in absurd (omega arith)
      go true true true false p q s t h = let y : ◌≡◌ {A = ℕ} 0 1 = cc in absurd (omega arith)
      go true true true true p q s t h =
          record {
            long = leb-true 16 (length c) p;
            formed = q;
            inside = leb-true (21 * count_in (trailer_in c)) (length c - 16) s;
            sum = eqb-true (le (span (trailer_in c) 12 2)) (sum_of (records_in c (count_in (trailer_in c)))) t;
          }

-- the first test that fails
module _ (c : List ℕ) where
  pub too_short : length c < 16 → trailed c ≡ false
  unfolding trailed
  too_short h = rw (lt-leb 16 (length c) h)

  module _ (long : 16 ≤ length c) where
    pub not-formed : formed (trailer_in c) ≡ false → trailed c ≡ false
    unfolding trailed
    not-formed h = rw (le-leb 16 (length c) long, h)

    module _ (f : formed (trailer_in c) ≡ true) where
      pub not-inside : length c - 16 < 21 * count_in (trailer_in c) → trailed c ≡ false
      unfolding trailed
      not-inside h = rw (le-leb 16 (length c) long, f, lt-leb (21 * count_in (trailer_in c)) (length c - 16) h)

      pub wrong-sum : 21 * count_in (trailer_in c) ≤ length c - 16
          → (le (span (trailer_in c) 12 2) ≡ sum_of (records_in c (count_in (trailer_in c))) → ⊥) → trailed c ≡ false
      unfolding trailed
      wrong-sum i h =
          rw (
            le-leb 16 (length c) long,
            f,
            le-leb (21 * count_in (trailer_in c)) (length c - 16) i,
            ne_eqb (le (span (trailer_in c) 12 2)) (sum_of (records_in c (count_in (trailer_in c)))) h,
          )

-- as the code tests it
pub formed-is : (t : List ℕ) (m d s : ℕ) → m ≡ le (span t 14 2) → d ≡ le (span t 0 8) → s ≡ 21 * count_in t → (eqb m 0x5443 && eqb d s) ≡ formed t
unfolding formed le
formed-is t m d s e f g = rw (e, f, g)

pub count-lt : (t : List ℕ) → length t ≡ 16 → Octets t → count_in t < 2 ^ 32
count-lt t h o = rw (length-span t 8 4 (omega arith)) at (le-lt (span t 8 4) (octets-span t 8 4 o))

-- ── the trailer of records ──

pub length-trailer : (n s : ℕ) → length (trailer_of n s) ≡ 16
unfolding trailer_of le_bytes
length-trailer n s = refl

module _ (n s : ℕ) where
  distance-field : span (trailer_of n s) 0 8 ≡ le_bytes 8 (21 * n)
  unfolding trailer_of le_bytes
  distance-field = refl

  count-field : span (trailer_of n s) 8 4 ≡ le_bytes 4 n
  unfolding trailer_of le_bytes
  count-field = refl

  sum-field : span (trailer_of n s) 12 2 ≡ le_bytes 2 s
  unfolding trailer_of le_bytes
  sum-field = refl

  mark-field : span (trailer_of n s) 14 2 ≡ mark
  unfolding trailer_of le_bytes
  mark-field = refl

  pub count-back : n < 2 ^ 32 → count_in (trailer_of n s) ≡ n
  count-back h = ap le count-field ∙ le-le_bytes 4 n (omega arith)

  trailer-formed : n < 2 ^ 32 → formed (trailer_of n s) ≡ true
  trailer-formed h =
      formed-true (trailer_of n s) (record {
        mark = ap le mark-field;
        distance = ap le distance-field ∙ le-le_bytes 8 (21 * n) (omega arith) ∙ ap (λ (k : ℕ). 21 * k) (sym (count-back h));
      })

-- as the code makes it
pub trailer-stored : (m m₁ m₂ m₃ m₄ : List ℕ) (at n s : ℕ) → at + 16 ≤ length m → m₁ ≡ splice m at (le_bytes 8 (n * 21))
    → m₂ ≡ splice m₁ (at + 8) (le_bytes 4 n) → m₃ ≡ splice m₂ (at + 12) (le_bytes 2 s) → m₄ ≡ splice m₃ (at + 14) (le_bytes 2 0x5443)
    → m₄ ≡ splice m at (trailer_of n s)
unfolding trailer_of le_bytes
trailer-stored m m₁ m₂ m₃ m₄ at n s h e₁ e₂ e₃ e₄ =
    let k : n * 21 ≡ 21 * n = omega arith in
    let a = le_bytes 8 (21 * n) in
    let b = le_bytes 4 n in
    let c = le_bytes 2 s in
    let q₂ = splice-next m m₁ m₂ at 8 a b (omega arith) refl (e₁ ∙ ap (λ (x : ℕ). splice m at (le_bytes 8 x)) k) e₂ in
    let q₃ = splice-next m m₂ m₃ at 12 (a ++ b) c (omega arith) refl q₂ e₃ in
    splice-next m m₃ m₄ at 14 ((a ++ b) ++ c) (le_bytes 2 0x5443) (omega arith) refl q₃ e₄

-- records and their trailer
module _ (b : List ℕ) (n : ℕ) (size : length b ≡ 21 * n) (few : n < 2 ^ 32) where
  length-c : length (b ++ trailer_of n (sum_of b)) ≡ length b + 16
  length-c = length-append b (trailer_of n (sum_of b)) ∙ ap (λ (k : ℕ). length b + k) (length-trailer n (sum_of b))

  pub trailer-back : trailer_in (b ++ trailer_of n (sum_of b)) ≡ trailer_of n (sum_of b)
  trailer-back = drop_at b (trailer_of n (sum_of b)) (length (b ++ trailer_of n (sum_of b)) - 16) (omega (arith, length-c))

  pub records-in : records_in (b ++ trailer_of n (sum_of b)) n ≡ b
  records-in =
      let z : length (b ++ trailer_of n (sum_of b)) - 16 - 21 * n ≡ 0 = omega (arith, length-c) in
      ap (λ (k : ℕ). span (b ++ trailer_of n (sum_of b)) k (21 * n)) z ∙ take_at b (trailer_of n (sum_of b)) (21 * n) size

  pub count-in : count_in (trailer_in (b ++ trailer_of n (sum_of b))) ≡ n
  count-in = ap count_in trailer-back ∙ count-back n (sum_of b) few

  pub trailer-right : Right (b ++ trailer_of n (sum_of b))
  trailer-right =
      record {
        long = omega (arith, length-c);
        formed = ap formed trailer-back ∙ trailer-formed n (sum_of b) few;
        inside = omega (arith, length-c, count-in);
        sum =
            ap (λ (x : List ℕ). le (span x 12 2)) trailer-back ∙ ap le (sum-field n (sum_of b))
            ∙ le-le_bytes 2 (sum_of b) (omega (arith, crc-lt 0xFFFF b (omega arith)))
            ∙ ap sum_of (sym records-in) ∙ ap (λ (k : ℕ). sum_of (records_in (b ++ trailer_of n (sum_of b)) k)) (sym count-in);
      }

-- ── bytes with a right trailer, and no preface ──

-- a field is the bytes of its number
field : (t : List ℕ) (at k v : ℕ) → Octets t → at + k ≤ length t → le (span t at k) ≡ v → le_bytes k v ≡ span t at k
field t at k v o h e =
    ap (le_bytes k) (sym e) ∙ ap (λ (n : ℕ). le_bytes n (le (span t at k))) (sym (length-span t at k h)) ∙ le_bytes-le (span t at k) (octets-span t at k o)

-- 16 bytes, field by field
fields : (t : List ℕ) → length t ≡ 16 → span t 0 8 ++ (span t 8 4 ++ (span t 12 2 ++ span t 14 2)) ≡ t
fields t h =
    let d : drop 14 t ≡ take 2 (drop 14 t) = sym (take_all 2 (drop 14 t) (omega (arith, length-drop 14 t))) in
    let x : span t 12 2 ++ span t 14 2 ≡ drop 12 t =
    ap (λ (y : List ℕ). span t 12 2 ++ y) (sym d ∙ sym (drop-drop 2 12 t)) ∙ take-append-drop 2 (drop 12 t) in
    let y : span t 8 4 ++ (span t 12 2 ++ span t 14 2) ≡ drop 8 t =
    ap (λ (z : List ℕ). span t 8 4 ++ z) (x ∙ sym (drop-drop 4 8 t)) ∙ take-append-drop 4 (drop 8 t) in
    ap (λ (z : List ℕ). span t 0 8 ++ z) y ∙ take-append-drop 8 t

mark-octets : Octets mark
mark-octets = (omega arith, (omega arith, tt))

trailer-only : (t : List ℕ) (n s : ℕ) → length t ≡ 16 → Octets t → Formed t → count_in t ≡ n → le (span t 12 2) ≡ s → trailer_of n s ≡ t
unfolding trailer_of
trailer-only t n s h o f e q =
    let m : mark ≡ span t 14 2 = sym (le_bytes-le mark mark-octets) ∙ field t 14 2 (le mark) o (omega arith) f.mark in
    ap₂ (λ (x y : List ℕ). x ++ y) (field t 0 8 (21 * n) o (omega arith) (f.distance ∙ ap (λ (k : ℕ). 21 * k) e))
    (ap₂ (λ (x y : List ℕ). x ++ y) (field t 8 4 n o (omega arith) e) (ap₂ (λ (x y : List ℕ). x ++ y) (field t 12 2 s o (omega arith) q) m))
    ∙ fields t h

module _ (c : List ℕ) (o : Octets c) (r : Right c) (whole : length c ≡ 21 * count_in (trailer_in c) + 16) where
  pub records-front : records_in c (count_in (trailer_in c)) ≡ take (21 * count_in (trailer_in c)) c
  records-front =
      let z : length c - 16 - 21 * count_in (trailer_in c) ≡ 0 = omega arith in
      ap (λ (k : ℕ). span c k (21 * count_in (trailer_in c))) z

  pub capture-only : records_in c (count_in (trailer_in c)) ++ trailer_of (count_in (trailer_in c)) (sum_of (records_in c (count_in (trailer_in c)))) ≡ c
  capture-only =
      let k = 21 * count_in (trailer_in c) in
      let e : k ≡ length c - 16 = omega arith in
      let l : length (trailer_in c) ≡ 16 = length-drop (length c - 16) c ∙ omega (arith, r.long) in
      ap₂ (λ (x y : List ℕ). x ++ y) records-front
      (trailer-only (trailer_in c) (count_in (trailer_in c)) (sum_of (records_in c (count_in (trailer_in c)))) l (octets-drop (length c - 16) c o)
      (true-formed (trailer_in c) r.formed) refl r.sum ∙ ap (λ (i : ℕ). drop i c) (sym e))
      ∙ take-append-drop k c

-- ── a preface ──

module _ (p c : List ℕ) (r : Right c) where
  length-pc : length (p ++ c) ≡ length p + length c
  length-pc = length-append p c

  pub trailer-kept : trailer_in (p ++ c) ≡ trailer_in c
  trailer-kept =
      let e : length (p ++ c) - 16 ≡ length p + (length c - 16) = omega (arith, length-pc, r.long) in
      ap (λ (k : ℕ). drop k (p ++ c)) e ∙ drop-append-add p c (length c - 16)

  pub records-kept : (n : ℕ) → 21 * n ≤ length c - 16 → records_in (p ++ c) n ≡ records_in c n
  records-kept n h =
      let e : length (p ++ c) - 16 - 21 * n ≡ length p + (length c - 16 - 21 * n) = omega (arith, length-pc, r.long) in
      ap (λ (k : ℕ). span (p ++ c) k (21 * n)) e ∙ ap (take (21 * n)) (drop-append-add p c (length c - 16 - 21 * n))

  pub right_kept : Right (p ++ c)
  right_kept =
      record {
        long = omega (arith, length-pc, r.long);
        formed = ap formed trailer-kept ∙ r.formed;
        inside = omega (arith, length-pc, ap count_in trailer-kept, r.inside, r.long);
        sum =
            ap (λ (x : List ℕ). le (span x 12 2)) trailer-kept ∙ r.sum
            ∙ ap sum_of (sym (records-kept (count_in (trailer_in c)) r.inside))
            ∙ ap (λ (k : ℕ). sum_of (records_in (p ++ c) k)) (sym (ap count_in trailer-kept));
      }

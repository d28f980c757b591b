-- Lists at the end: the return trips over every width and start, and lists of bytes at whole bytes.
use mathlib.Core.Path.{◌≡◌, refl, ap, ◌∙◌}
use mathlib.Core.Bool.{Bool, true, false, not}
use mathlib.Core.List.{List, [], ◌∷◌}
use Prim.Native.Nat.{ℕ, ◌+◌, ◌*◌, ◌/◌, ◌%◌}
use native.Mathlib.Omega.{arith}
use borrow.Author.Tests.{ltb-true, ltb-false, leb-false}
use lib.Dec.{ltb, leb}
use lib.ListN.{length, drop, length-drop}
use Rattle.bits.specs.Order.{Octets, unpack, from_bits}
use Rattle.bits.specs.Width.{width_of}
use Rattle.bits.proofs.Bytes.{length-unpack, drop-unpack}
use Rattle.bits.proofs.Octets.{octets-drop}
use Rattle.shape.specs.Answer.{Answer, refused, got, refuse_if, map_answer}
use Rattle.shape.specs.Shape.{Shape, end, num, raw, uint, void, items, list, tail, choice, tag_width, items_of, all_zero, decode}
use Rattle.shape.specs.Laws.{Tails, OnBytes, Never25, ByteLists}
use Rattle.shape.proofs.Reading.{byte-items, tail-long, tail-not, tail-got}
use Rattle.shape.proofs.Writing.{item-bytes}
use Rattle.shape.proofs.RoundTrip.{round-there, round-back, whole_same}

pub tails : Tails
tails h w m ok l u =
    record {
      there = round-there (uint h (tail w m ok)) l;
      back = λ p o v room e k. round-back (uint h (tail w m ok)) p v room e k ∙ ap got (whole_same (uint h (tail w m ok)) tt p o);
    }

-- ── no 25 ──
abbrev Not25 : {A : Type 0} → Answer A → Type 0
Not25 (refused n) = n ≡ 25 → ⊥
Not25 (got a) = Unit {0}

through : {A B : Type 0} (f : A → B) (r : Answer A) → Not25 r → Not25 (map_answer f r)
unfolding map_answer
through f (refused n) h = h
through f (got a) h = tt

refuse : {A : Type 0} (b : Bool) (n : ℕ) (r : Answer A) → (n ≡ 25 → ⊥) → (b ≡ false → Not25 r) → Not25 (refuse_if b n r)
unfolding refuse_if
refuse true n r h k = h
refuse false n r h k = k refl

-- no bits are left
none : (bs : List Bool) → length bs ≡ 0 → all_zero bs ≡ true
none [] h = refl
none (b ∷ bs) h = absurd (omega arith)

zeros : {A : Type 0} (bs : List Bool) (r : Answer A) → length bs ≡ 0 → Not25 r → Not25 (refuse_if (not (all_zero bs)) 25 r)
unfolding refuse_if
zeros bs r h k = rw (none bs h) k

not-25 : (d : Shape) (k : ℕ) → OnBytes k d → (bs : List Bool) → (k + length bs) % 8 ≡ 0 → Not25 (decode d bs)
unfolding decode
not-25 end k h bs e =
    refuse (leb 8 (length bs)) 16 _ (λ q. omega arith) (λ f. zeros bs (got tt) (omega (arith, leb-false 8 (length bs) f)) tt)
not-25 (num s c w d) k h bs e =
    refuse (ltb (length bs) w) 15 _ (λ q. omega arith)
    (λ f. through _ (decode d (drop w bs)) (not-25 d (k + w) h (drop w bs) (omega (arith, length-drop w bs, ltb-false (length bs) w f))))
not-25 (raw w d) k h bs e =
    refuse (ltb (length bs) w) 15 _ (λ q. omega arith)
    (λ f. through _ (decode d (drop w bs)) (not-25 d (k + w) h (drop w bs) (omega (arith, length-drop w bs, ltb-false (length bs) w f))))
not-25 (void w d) k h bs e =
    refuse (ltb (length bs) w) 15 _ (λ q. omega arith)
    (λ f. not-25 d (k + w) h (drop w bs) (omega (arith, length-drop w bs, ltb-false (length bs) w f)))
not-25 (items w n d) k h bs e =
    refuse (ltb (length bs) (n * w)) 15 _ (λ q. omega arith)
    (λ f. through _ (decode d (drop (n * w) bs))
    (not-25 d (k + n * w) h (drop (n * w) bs) (omega (arith, length-drop (n * w) bs, ltb-false (length bs) (n * w) f))))
not-25 (list w m d) k h bs e =
    let n = from_bits (width_of m) bs in
    let rest = drop (width_of m) bs in
    refuse (ltb (length bs) (width_of m)) 15 _ (λ q. omega arith)
    (λ f. refuse (ltb (length rest) (n * w)) 15 _ (λ q. omega arith)
    (λ g. refuse (ltb m n) 16 _ (λ q. omega arith)
    (λ i. through _ (decode d (drop (n * w) rest))
    (not-25 d (k + width_of m) h.1 (drop (n * w) rest)
    (let j : n * w ≡ n * 8 = ap (λ (x : ℕ). n * x) h.0 in
    omega (arith, length-drop (width_of m) bs, length-drop (n * w) rest, ltb-false (length bs) (width_of m) f, ltb-false (length rest) (n * w) g))))))
not-25 (tail w m ok) k h bs e =
    let n = length bs / w in
    let q : n ≡ length bs / 8 = ap (λ (x : ℕ). length bs / x) h.0 in
    let j : n * w ≡ n * 8 = ap (λ (x : ℕ). n * x) h.0 in
    refuse (ltb m n) 16 _ (λ z. omega arith)
    (λ f. refuse (leb 8 (length bs % w)) 16 _ (λ z. omega arith)
    (λ g. zeros (drop (n * w) bs) _ (length-drop (n * w) bs ∙ omega (arith, h.1))
    (refuse (not (ok (items_of w n bs))) 17 _ (λ z. omega arith) (λ i. tt))))
not-25 (choice n f) k h bs e =
    let w = tag_width n in
    let t = from_bits w bs in
    refuse (ltb (length bs) w) 15 _ (λ q. omega arith)
    (λ a. refuse (leb n t) 27 _ (λ q. omega arith)
    (λ b. through _ (decode (f t) (drop w bs))
    (not-25 (f t) (k + w) (h t (leb-false n t b)) (drop w bs) (omega (arith, length-drop w bs, ltb-false (length bs) w a)))))

told : {A : Type 0} (r : Answer A) → Not25 r → r ≡ refused 25 → ⊥
told (refused n) h e = h (let z : ◌≡◌ {A = ℕ} n 25 = cc in z)
told (got a) h e = let z : ◌≡◌ {A = ℕ} 0 1 = cc in omega arith

pub never-25 : (d : Shape) → OnBytes 0 d → Never25 d
never-25 d h p = told (decode d (unpack p)) (not-25 d 0 h (unpack p) (omega (arith, length-unpack p)))

-- ── lists of bytes ──
rest : (m : ℕ) (ok : List ℕ → Bool) (s : List ℕ) → Octets s → (a b : Bool) → ltb m (length s) ≡ a → ok s ≡ b
    → decode (tail 8 m ok) (unpack s) ≡ refuse_if a 16 (refuse_if (not b) 17 (got s))
unfolding refuse_if
rest m ok s o true b e f = tail-long m ok s o (ltb-true m (length s) e)
rest m ok s o false false e f = tail-not m ok s o (ltb-false m (length s) e) f
rest m ok s o false true e f = tail-got m ok s o (ltb-false m (length s) e) f

pub byte-lists : ByteLists
byte-lists =
    record {
      read = λ s at n o h. ap (λ (b : List Bool). items_of 8 n b) (drop-unpack at s) ∙ byte-items n (drop at s) (octets-drop at s o) (omega (arith, length-drop at s));
      write = item-bytes;
      rest = λ m ok s o. rest m ok s o (ltb m (length s)) (ok s) refl refl;
      never-25 = never-25;
    }

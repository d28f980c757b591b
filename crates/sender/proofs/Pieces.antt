-- Frames as the code makes them: what is unsent, piece by piece.
use mathlib.Core.Path.{◌≡◌, refl, sym, ap, ap₂, ◌∙◌}
use mathlib.Core.Bool.{Bool, true, false, not}
use mathlib.Core.List.{List, [], ◌∷◌, ◌++◌, append-nil}
use Prim.Native.Nat.{ℕ, zero, suc, ◌+◌, ◌*◌, ◌-◌, ◌/◌, ◌%◌, ◌^◌, ◌≤◌, ◌<◌}
use native.Mathlib.Nat.{add-zero}
use native.Mathlib.Omega.{arith}
use borrow.Author.Tests.{le-leb, lt-leb, leb-true, leb-false}
use lib.Dec.{leb}
use lib.ListN.{length, take, drop, length-take, length-drop, take-append-drop}
use lib.Seq.{take_all, length-take-le, drop-drop}
use mir.Val.{bool_byte}
use Rattle.bits.specs.Little.{le, le_bytes}
use Rattle.bits.specs.Order.{Octets}
use Rattle.bits.specs.Part.{splice}
use Rattle.bits.proofs.Little.{le-lt}
use Rattle.bits.proofs.Octets.{octets-take}
use Rattle.bits.proofs.Splice.{splice-splice}
use Rattle.frame.proofs.Records.{record_is, framed-octets}
use Rattle.checksum.specs.Crc16.{checksum}
use Rattle.rules.specs.Sending.{frame_count, record_of, records_of}
use Rattle.rules.specs.Sent.{flag, tail_byte, framed, pieces, carrying, with_sum, sent}
use Rattle.rules.specs.Tests.{pick, is_empty}
use Rattle.rules.proofs.Frames.{framed-length, carried-long, sent-laws}
use Rattle.rules.proofs.Records.{length-record}

-- ── what is unsent ──

-- the frames from there on, none if nothing is left
abbrev pub onward : Bool → ℕ → List ℕ → List (List ℕ)
onward g t r = pick (is_empty r) [] (pieces ((length r - 1) / 7) false g t r)

-- the tail byte of the next, without the end
abbrev pub lead : Bool → ℕ → ℕ
lead g t = 32 * flag g + t

-- the next of them
abbrev pub piece : ℕ → List ℕ → List ℕ
piece tail r = framed (take 7 r) (pick (leb (length r) 7) (tail + 64) tail)

drop_all : (n : ℕ) (l : List ℕ) → length l ≤ n → drop n l ≡ []
drop_all zero [] h = refl
drop_all (suc n) [] h = refl
drop_all zero (x ∷ l) h = absurd (omega arith)
drop_all (suc n) (x ∷ l) h = drop_all n l (omega arith)

not-empty : (r : List ℕ) → 0 < length r → is_empty r ≡ false
not-empty [] h = absurd (omega arith)
not-empty (x ∷ r) h = refl

pub onward-step : (g : Bool) (t : ℕ) (r : List ℕ) → 0 < length r → onward g t r ≡ piece (lead g t) r ∷ onward (not g) t (drop 7 r)
unfolding pieces
onward-step g t r h = rw (not-empty r h) (go (leb (length r) 7) refl)
  where
    go : (b : Bool) → leb (length r) 7 ≡ b
        → pieces ((length r - 1) / 7) false g t r ≡ framed (take 7 r) (pick b (lead g t + 64) (lead g t)) ∷ onward (not g) t (drop 7 r)
    go true e =
        let l = leb-true (length r) 7 e in
        let z : (length r - 1) / 7 ≡ 0 = omega arith in
        let q : tail_byte false true g t ≡ lead g t + 64 = omega arith in
        rw (z, take_all 7 r l, drop_all 7 r l) (ap (λ x. framed r x ∷ []) q)
    go false e =
        let l = leb-false (length r) 7 e in
        let k : length (drop 7 r) ≡ length r - 7 = length-drop 7 r in
        let z : (length r - 1) / 7 ≡ suc ((length (drop 7 r) - 1) / 7) = omega arith in
        let q : tail_byte false false g t ≡ lead g t = omega arith in
        rw (z, not-empty (drop 7 r) (omega arith)) (ap (λ x. framed (take 7 r) x ∷ pieces ((length (drop 7 r) - 1) / 7) false (not g) t (drop 7 r)) q)

pub onward-end : (g : Bool) (t : ℕ) (r : List ℕ) → length r ≡ 0 → onward g t r ≡ []
onward-end g t [] h = refl
onward-end g t (x ∷ r) h = absurd (omega arith)

pub length-piece : (tail : ℕ) (r : List ℕ) → length (piece tail r) ≤ 8
length-piece tail r = simp (framed-length, length-take) (omega arith)

pub splice-none : (m : List ℕ) (at : ℕ) → splice m at [] ≡ m
splice-none m at = rw add-zero (take-append-drop at m)

-- the next record is stored, and those after it
pub splice-step : (m m' : List ℕ) (at id : ℕ) (c : List ℕ) (more : List (List ℕ)) → length c ≤ 8 → at + 13 ≤ length m → m' ≡ splice m at (record_of id c)
    → splice m' (at + 13) (records_of id more) ≡ splice m at (records_of id (c ∷ more))
unfolding records_of
splice-step m m' at id c more h k e =
    let l = length-record id c h in
    let a : at + 13 ≡ at + length (record_of id c) = omega arith in
    ap₂ (λ x y. splice x y (records_of id more)) e a ∙ splice-splice m at (record_of id c) (omega arith) (records_of id more)

-- ── the next record, as the code writes it ──

module _ (out out' unsent : List ℕ) (at id tail w : ℕ) (o : Octets unsent) (b : tail < 192) where
  pub next_last : length unsent ≤ 7 → w ≡ le (framed (take (length unsent) unsent) (tail + 64))
      → out' ≡ splice out at (le_bytes 4 id ++ ((length unsent + 1) ∷ le_bytes 8 w)) → out' ≡ splice out at (record_of id (piece tail unsent))
  next_last h e q =
      let t : take (length unsent) unsent ≡ unsent = take_all (length unsent) unsent (omega arith) in
      let n = framed-length unsent (tail + 64) in
      rw (le-leb (length unsent) 7 h, take_all 7 unsent h)
      (q ∙ ap (splice out at) (record_is id (length unsent + 1) w (framed unsent (tail + 64)) (framed-octets unsent (tail + 64) o (omega arith)) (omega arith) (sym n) (e ∙ ap (λ x. le (framed x (tail + 64))) t)))

  pub next-full : 7 < length unsent → w ≡ le (framed (take 7 unsent) tail)
      → out' ≡ splice out at (le_bytes 4 id ++ (8 ∷ le_bytes 8 w)) → out' ≡ splice out at (record_of id (piece tail unsent))
  next-full h e q =
      let n = framed-length (take 7 unsent) tail in
      let k : length (take 7 unsent) ≡ 7 = length-take-le 7 unsent (omega arith) in
      rw (lt-leb (length unsent) 7 h)
      (q ∙ ap (splice out at) (record_is id 8 w (framed (take 7 unsent) tail) (framed-octets (take 7 unsent) tail (octets-take 7 unsent o) (omega arith)) (omega arith) (omega arith) e))

module _ (p : List ℕ) (sum tail v : ℕ) (o : Octets p) (b : tail < 256) (s : sum < 65536) (h : 5 ≤ length p) (e : v ≡ le (framed (take 5 p) tail)) where
  five : length (framed (take 5 p) tail) ≡ 6
  five = framed-length (take 5 p) tail ∙ omega (arith, length-take-le 5 p h)

  pub first_fits : (v * 256 + sum / 256) * 256 + sum % 256 < 2 ^ 64
  first_fits =
      let l : le (framed (take 5 p) tail) < 256 ^ 6 = rw five at (le-lt (framed (take 5 p) tail) (framed-octets (take 5 p) tail (octets-take 5 p o) b)) in
      omega arith

  first-number : (v * 256 + sum / 256) * 256 + sum % 256 ≡ le (framed (sum % 256 ∷ sum / 256 ∷ take 5 p) tail)
  unfolding le
  first-number = omega arith

  pub first-is : (out out' : List ℕ) (id : ℕ) → out' ≡ splice out 0 (le_bytes 4 id ++ (8 ∷ le_bytes 8 ((v * 256 + sum / 256) * 256 + sum % 256)))
      → out' ≡ splice out 0 (record_of id (framed (sum % 256 ∷ sum / 256 ∷ take 5 p) tail))
  first-is out out' id q =
      let n = five in
      q ∙ ap (splice out 0) (record_is id 8 ((v * 256 + sum / 256) * 256 + sum % 256) (framed (sum % 256 ∷ sum / 256 ∷ take 5 p) tail)
      (omega arith, (omega arith, framed-octets (take 5 p) tail (octets-take 5 p o) b)) (omega arith) (omega arith) first-number)

-- one turn of the loop: k bytes are sent, and seven more
turned : (g : Bool) (t : ℕ) → bool_byte g * 32 + t ≡ lead g t
turned true t = omega arith
turned false t = omega arith

pub others-turn : (out out' payload : List ℕ) (id t k at : ℕ) (g : Bool) → k < length payload → at + 13 ≤ length out
    → out' ≡ splice out at (record_of id (piece (bool_byte g * 32 + t) (take (length payload - k) (drop k payload))))
    → splice out' (at + 13) (records_of id (onward (not g) t (drop (k + 7) payload))) ≡ splice out at (records_of id (onward g t (drop k payload)))
others-turn out out' payload id t k at g h room e =
    let l : length (drop k payload) ≡ length payload - k = length-drop k payload in
    let r : take (length payload - k) (drop k payload) ≡ drop k payload = take_all (length payload - k) (drop k payload) (omega arith) in
    let d : drop 7 (drop k payload) ≡ drop (k + 7) payload = drop-drop 7 k payload in
    ap (λ x. splice out' (at + 13) (records_of id (onward (not g) t x))) (sym d)
    ∙ splice-step out out' at id (piece (lead g t) (drop k payload)) (onward (not g) t (drop 7 (drop k payload))) (length-piece (lead g t) (drop k payload)) room
    (e ∙ ap₂ (λ x y. splice out at (record_of id (piece x y))) (turned g t) r)
    ∙ ap (λ x. splice out at (records_of id x)) (sym (onward-step g t (drop k payload) (omega arith)))

-- ── all of a payload ──

pub sent-one : (signature t : ℕ) (p : List ℕ) → length p ≤ 7 → sent signature t p ≡ piece (128 + t) p ∷ []
sent-one signature t p h =
    let q : tail_byte true true false t ≡ 128 + t + 64 = omega arith in
    sent-laws.single signature t p h ∙ rw (le-leb (length p) 7 h, take_all 7 p h) (ap (λ x. framed p x ∷ []) q)

pub sent-several : (signature t : ℕ) (p : List ℕ) → 7 < length p
    → sent signature t p ≡ framed (checksum signature p % 256 ∷ checksum signature p / 256 ∷ take 5 p) (128 + t) ∷ pieces ((length p - 6) / 7) false true t (drop 5 p)
unfolding sent carrying pieces
sent-several signature t p h =
    let z : (length (with_sum signature p) - 1) / 7 ≡ suc ((length p - 6) / 7) = omega arith in
    let q : tail_byte true false false t ≡ 128 + t = omega arith in
    let xs = checksum signature p % 256 ∷ checksum signature p / 256 ∷ take 5 p in
    rw (carried-long signature p h, z) (ap (λ x. framed xs x ∷ pieces ((length p - 6) / 7) false true t (drop 5 p)) q)

pub others-are : (t : ℕ) (p : List ℕ) → 7 < length p → onward true t (drop 5 p) ≡ pieces ((length p - 6) / 7) false true t (drop 5 p)
others-are t p h =
    let k : length (drop 5 p) ≡ length p - 5 = length-drop 5 p in
    let z : (length (drop 5 p) - 1) / 7 ≡ (length p - 6) / 7 = omega arith in
    rw (not-empty (drop 5 p) (omega arith), z)

pub count-one : (n : ℕ) → n ≤ 7 → frame_count n ≡ 1
unfolding frame_count
count-one n h = rw (le-leb n 7 h)

pub count-several : (n : ℕ) → 7 < n → frame_count n ≡ (n + 8) / 7
unfolding frame_count
count-several n h = rw (lt-leb n 7 h)

pub count_most : (n : ℕ) → n ≤ 512 → frame_count n ≤ 74
count_most n h = go (leb n 7) refl
  where
    go : (b : Bool) → leb n 7 ≡ b → frame_count n ≤ 74
    go true e = rw (count-one n (leb-true n 7 e)) (omega arith)
    go false e = rw (count-several n (leb-false n 7 e)) (omega arith)

module _ (out p : List ℕ) (id t signature : ℕ) where
  pub write-one : (out' : List ℕ) → length p ≤ 7 → out' ≡ splice out 0 (record_of id (piece (128 + t) p)) → out' ≡ splice out 0 (records_of id (sent signature t p))
  unfolding records_of
  write-one out' h e = e ∙ ap (splice out 0) (sym (ap (records_of id) (sent-one signature t p h) ∙ append-nil (record_of id (piece (128 + t) p))))

  pub write-several : (out₁ out₂ : List ℕ) (sum : ℕ) → 7 < length p → 13 ≤ length out → sum ≡ checksum signature p
      → out₁ ≡ splice out 0 (record_of id (framed (sum % 256 ∷ sum / 256 ∷ take 5 p) (128 + t)))
      → out₂ ≡ splice out₁ 13 (records_of id (pieces ((length p - 6) / 7) false true t (drop 5 p))) → out₂ ≡ splice out 0 (records_of id (sent signature t p))
  write-several out₁ out₂ sum h r e e₁ e₂ =
      let c = framed (sum % 256 ∷ sum / 256 ∷ take 5 p) (128 + t) in
      let more = pieces ((length p - 6) / 7) false true t (drop 5 p) in
      let l : length c ≤ 8 = omega (arith, framed-length (sum % 256 ∷ sum / 256 ∷ take 5 p) (128 + t), length-take-le 5 p (omega arith)) in
      e₂ ∙ splice-step out out₁ 0 id c more l r e₁
      ∙ ap (λ x. splice out 0 (records_of id (framed (x % 256 ∷ x / 256 ∷ take 5 p) (128 + t) ∷ more))) e
      ∙ ap (λ x. splice out 0 (records_of id x)) (sym (sent-several signature t p h))

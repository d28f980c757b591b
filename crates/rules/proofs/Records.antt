-- The records of frames: how long they are, and that each gives its frame back.
use mathlib.Core.Path.{◌≡◌, refl, sym, ap, ◌∙◌}
use mathlib.Core.Bool.{Bool, true, false}
use mathlib.Core.List.{List, [], ◌∷◌, ◌++◌, append_assoc}
use Prim.Native.Nat.{ℕ, zero, suc, ◌+◌, ◌*◌, ◌-◌, ◌/◌, ◌^◌, ◌≤◌, ◌<◌}
use native.Mathlib.Omega.{arith}
use lib.Dec.{leb}
use lib.ListN.{length, get_or, take, drop, replicate, length-append}
use lib.Seq.{take_at, drop_at, drop-drop, get_or-append-add}
use borrow.Author.Tests.{leb-true, leb-false}
use Rattle.bits.specs.Little.{le, le_bytes}
use Rattle.bits.specs.Part.{span}
use Rattle.bits.proofs.Little.{length-le_bytes, le-le_bytes}
use Rattle.rules.specs.Sending.{frame_count, record_of, records_of}
use Rattle.rules.specs.SendingLaws.{frame_in}
use Rattle.rules.specs.Sent.{sent, frame_at}
use Rattle.rules.specs.Tests.{pick}
use Rattle.rules.proofs.Frames.{sent-laws}

-- ── how many ──

pub sent-length : (signature t : ℕ) (p : List ℕ) → length (sent signature t p) ≡ frame_count (length p)
unfolding frame_count
sent-length signature t p = go (leb (length p) 7) refl
  where
    go : (b : Bool) → leb (length p) 7 ≡ b → length (sent signature t p) ≡ pick b 1 ((length p + 8) / 7)
    go true e = ap length (sent-laws.single signature t p (leb-true (length p) 7 e))
    go false e = sent-laws.count signature t p (leb-false (length p) 7 e)

-- ── how long ──

length-zeros : (n : ℕ) → length {A = ℕ} (replicate n 0) ≡ n
length-zeros zero = refl
length-zeros (suc n) = ap suc (length-zeros n)

pub length-record : (id : ℕ) (c : List ℕ) → length c ≤ 8 → length (record_of id c) ≡ 13
unfolding record_of
length-record id c h =
    simp length-append (omega (arith, length-le_bytes 4 id, length-zeros (8 - length c)))

-- each has at most 8 bytes
abbrev pub Short : List (List ℕ) → Type 0
Short [] = Unit {0}
Short (c ∷ more) = (length c ≤ 8) × Short more

pub short-all : (l : List (List ℕ)) → ((n : ℕ) → n < length l → length (get_or l n []) ≤ 8) → Short l
short-all [] h = tt
short-all (c ∷ more) h = (h 0 (omega arith), short-all more (λ n k. h (suc n) (omega arith)))

pub sent-short : (signature t : ℕ) (p : List ℕ) → Short (sent signature t p)
sent-short signature t p = short-all (sent signature t p) (λ n h. (sent-laws.size signature t p n h).1)

pub length-records : (id : ℕ) (l : List (List ℕ)) → Short l → length (records_of id l) ≡ 13 * length l
unfolding records_of
length-records id [] h = omega arith
length-records id (c ∷ more) h =
    length-append (record_of id c) (records_of id more) ∙ omega (arith, length-record id c h.0, length-records id more h.1)

-- ── back ──

-- a part of what comes after xs
past : (xs ys : List ℕ) (a b n : ℕ) → length xs ≡ a → span (xs ++ ys) (a + b) n ≡ span ys b n
past xs ys a b n e = ap (take n) (sym (drop-drop b a (xs ++ ys)) ∙ ap (drop b) (drop_at xs ys a e))

module _ (id : ℕ) (small : id < 2 ^ 32) (time : ℕ) where
  back-first : (c rest : List ℕ) → frame_in (record_of id c ++ rest) time 0 ≡ frame_at id c time
  unfolding record_of le_bytes
  back-first c rest =
      let zeros : List ℕ = replicate (8 - length c) 0 in
      let d : take (length c) ((c ++ zeros) ++ rest) ≡ c = ap (take (length c)) (append_assoc c zeros rest) ∙ take_at c (zeros ++ rest) (length c) refl in
      λ i. record { id = le-le_bytes 4 id small i; bytes = d i; time = time }

  pub back : (l : List (List ℕ)) (n : ℕ) → Short l → n < length l → frame_in (records_of id l) time n ≡ frame_at id (get_or l n []) time
  unfolding records_of
  back [] n h k = absurd (omega arith)
  back (c ∷ more) zero h k = back-first c (records_of id more)
  back (c ∷ more) (suc n) h k =
      let xs = record_of id c in
      let ys = records_of id more in
      let l : length xs ≡ 13 = length-record id c h.0 in
      let a : 13 * suc n ≡ 13 + 13 * n = omega arith in
      let b : 13 * suc n + 4 ≡ length xs + (13 * n + 4) = omega arith in
      let d : 13 * suc n + 5 ≡ 13 + (13 * n + 5) = omega arith in
      let ia : span (xs ++ ys) (13 * suc n) 4 ≡ span ys (13 * n) 4 = ap (λ j. span (xs ++ ys) j 4) a ∙ past xs ys 13 (13 * n) 4 l in
      let ib : get_or (xs ++ ys) (13 * suc n + 4) 0 ≡ get_or ys (13 * n + 4) 0 = ap (λ j. get_or (xs ++ ys) j 0) b ∙ get_or-append-add xs ys (13 * n + 4) 0 in
      let id' : span (xs ++ ys) (13 * suc n + 5) (get_or (xs ++ ys) (13 * suc n + 4) 0) ≡ span ys (13 * n + 5) (get_or ys (13 * n + 4) 0) =
      ap (span (xs ++ ys) (13 * suc n + 5)) ib ∙ ap (λ j. span (xs ++ ys) j (get_or ys (13 * n + 4) 0)) d ∙ past xs ys 13 (13 * n + 5) (get_or ys (13 * n + 4) 0) l in
      (λ i. frame_at (le (ia i)) (id' i) time) ∙ back more n h.1 (omega arith)

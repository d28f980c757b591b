-- What the transfer checksum catches (RULES 6.6). Before a burst the registers are the same; in it they take up bits that differ; after it no place
-- up makes two registers one.
use mathlib.Core.Path.{◌≡◌, refl, sym, ap, ap₂, ◌∙◌}
use mathlib.Core.Bool.{Bool, true, false, true≢false, ◌&&◌, ◌||◌, xor, beq}
use mathlib.Core.List.{List, [], ◌∷◌, ◌++◌}
use Prim.Native.Nat.{ℕ, ◌+◌, ◌-◌, ◌%◌, ◌≤◌, ◌<◌, min}
use native.Mathlib.Omega.{arith}
use lib.Bits.{bit_xor, xor_comm, xor_lt}
use lib.Dec.{T, leb, ltb, lit<}
use lib.ListN.{length, get_or, take, drop, length-take, length-drop, take-append-drop, get_or-eq_default}
use lib.Seq.{ext_get_or, get_or-take, get_or-drop}
use borrow.Author.Tests.{ltb-true, ltb-false, leb-true}
use Rattle.bits.proofs.Bytes.{length-unpack}
use Rattle.bits.specs.Little.{le_bytes}
use Rattle.bits.specs.Order.{digits, unpack}
use Rattle.checksum.specs.Crc.{shift, shifts, crc_byte, crc_over}
use Rattle.checksum.specs.Crc16.{ccitt, checksum}
use Rattle.checksum.specs.Damage.{bit_at, Altered, burst_max, Burst, alterations, DamageLaws}
use Rattle.checksum.specs.Laws.{xors}
use Rattle.checksum.proofs.Below.{all, below}
use Rattle.checksum.proofs.Linear.{over-append, linear-laws}
use Rattle.checksum.proofs.Parity.{ones, feeds-parity}
use Rattle.checksum.proofs.Window.{feeds, places, places-lt, places_same, feeds-append, feeds-lt, feeds-same, shifts-same, window, over-feeds}
use Rattle.checksum.proofs.Xor.{xor-none, xor-cancel-right}

-- ── bits that are the same but for a window ──

module _ (c k : ℕ) (w v : List Bool) (small : c < 65536) (n : length w ≡ length v) where
  cut : (s : ℕ) (l : List Bool) → feeds s l ≡ feeds (feeds (feeds s (take k l)) (take 16 (drop k l))) (drop 16 (drop k l))
  cut s l =
      ap (feeds s) (sym (take-append-drop k l)) ∙ feeds-append s (take k l) (drop k l)
      ∙ ap (feeds (feeds s (take k l))) (sym (take-append-drop 16 (drop k l))) ∙ feeds-append (feeds s (take k l)) (take 16 (drop k l)) (drop 16 (drop k l))

  -- bits of one length that are the same but for 16 places from k on, and leave one register, are the same
  window_same : take k w ≡ take k v → drop 16 (drop k w) ≡ drop 16 (drop k v) → feeds c w ≡ feeds c v → w ≡ v
  window_same et ed e =
      let s = feeds c (take k w) in
      let a = take 16 (drop k w) in
      let b = take 16 (drop k v) in
      let small-s : s < 65536 = feeds-lt c (take k w) small in
      let na : length a ≡ length b = simp (length-take, length-drop) (ap (λ (m : ℕ). min 16 (m - k)) n) in
      let la : length a ≤ 16 = rw length-take (omega arith) in
      let lb : length b ≤ 16 = rw length-take (omega arith) in
      let mid : feeds s a ≡ feeds s b =
      feeds-same (feeds s a) (feeds s b) (drop 16 (drop k w)) (feeds-lt s a small-s) (feeds-lt s b small-s)
      (sym (cut c w) ∙ e ∙ cut c v ∙ ap₂ (λ (x y : List Bool). feeds (feeds (feeds c x) b) y) (sym et) (sym ed)) in
      let up : shifts ccitt (length a) (bit_xor s (places 16 a)) ≡ shifts ccitt (length a) (bit_xor s (places 16 b)) =
      sym (window s a la) ∙ mid ∙ window s b lb ∙ ap (λ (j : ℕ). shifts ccitt j (bit_xor s (places 16 b))) (sym na) in
      let num : places 16 a ≡ places 16 b =
      xor-cancel-right s (places 16 a) (places 16 b)
      (xor_comm (places 16 a) s
      ∙ shifts-same (length a) (bit_xor s (places 16 a)) (bit_xor s (places 16 b)) (xor_lt 16 s (places 16 a) small-s (places-lt 16 a)) (xor_lt 16 s (places 16 b) small-s (places-lt 16 b)) up
      ∙ xor_comm s (places 16 b)) in
      let same : a ≡ b = places_same 16 a b na la num in
      sym (take-append-drop k w)
      ∙ ap₂ (λ (x y : List Bool). x ++ y) et (sym (take-append-drop 16 (drop k w)) ∙ ap₂ (λ (x y : List Bool). x ++ y) same ed ∙ take-append-drop 16 (drop k v))
      ∙ take-append-drop k v

-- ── payloads ──

-- payloads with one checksum leave one register
signed_same : (signature : ℕ) (p q : List ℕ) → checksum signature p ≡ checksum signature q
    → feeds (crc_over ccitt 0xFFFF (le_bytes 8 signature)) (unpack p) ≡ feeds (crc_over ccitt 0xFFFF (le_bytes 8 signature)) (unpack q)
unfolding checksum
signed_same signature p q e =
    let s = crc_over ccitt 0xFFFF (le_bytes 8 signature) in
    sym (over-feeds s p) ∙ sym (over-append ccitt 0xFFFF (le_bytes 8 signature) p) ∙ e ∙ over-append ccitt 0xFFFF (le_bytes 8 signature) q ∙ over-feeds s q

signed_lt : (signature : ℕ) → crc_over ccitt 0xFFFF (le_bytes 8 signature) < 65536
signed_lt signature = rw (over-feeds 0xFFFF (le_bytes 8 signature)) (feeds-lt 0xFFFF (unpack (le_bytes 8 signature)) (lit< tt))

same_length : (p q : List ℕ) → length p ≡ length q → length (unpack p) ≡ length (unpack q)
same_length p q n = rw (length-unpack p, length-unpack q, n)

module _ (p q : List ℕ) (n : length p ≡ length q) (b : Burst burst_max p q) where
  unaltered : (i : ℕ) → ((b.from ≤ i) × (i < b.from + burst_max) → ⊥) → bit_at p i ≡ bit_at q i
  unaltered i h = go (bit_at p i) (bit_at q i) (λ a. h (b.within i a))
    where
      go : (x y : Bool) → ((x ≡ y → ⊥) → ⊥) → x ≡ y
      go true true k = refl
      go false false k = refl
      go true false k = absurd (k true≢false)
      go false true k = absurd (k (λ e. true≢false (sym e)))

  ahead : take b.from (unpack p) ≡ take b.from (unpack q)
  ahead =
      let k = b.from in
      ext_get_or false (take k (unpack p)) (take k (unpack q)) (simp length-take (ap (λ (m : ℕ). min k m) (same_length p q n)))
      (λ i hi. let l : i < k = omega (arith, simp length-take at hi) in
      get_or-take k (unpack p) i false l ∙ unaltered i (λ u. omega arith) ∙ sym (get_or-take k (unpack q) i false l))

  behind : drop 16 (drop b.from (unpack p)) ≡ drop 16 (drop b.from (unpack q))
  behind =
      let k = b.from in
      ext_get_or false (drop 16 (drop k (unpack p))) (drop 16 (drop k (unpack q)))
      (simp length-drop (ap (λ (m : ℕ). m - k - 16) (same_length p q n)))
      (λ i hi. get_or-drop 16 (drop k (unpack p)) i false ∙ get_or-drop k (unpack p) (16 + i) false
      ∙ unaltered (k + (16 + i)) (λ u. omega arith)
      ∙ sym (get_or-drop 16 (drop k (unpack q)) i false ∙ get_or-drop k (unpack q) (16 + i) false))

pub caught : (signature : ℕ) (p q : List ℕ) → length p ≡ length q → Burst burst_max p q → checksum signature p ≡ checksum signature q → ⊥
caught signature p q n b e =
    b.altered (ap (λ (l : List Bool). get_or l b.bit false)
    (window_same (crc_over ccitt 0xFFFF (le_bytes 8 signature)) b.from (unpack p) (unpack q) (signed_lt signature) (same_length p q n) (ahead p q n b) (behind p q n b)
    (signed_same signature p q e)))

-- ── an odd number of altered bits ──

altered-ones : (w v : List Bool) → length w ≡ length v → alterations w v % 2 ≡ (ones w + ones v) % 2
unfolding alterations ones xor
altered-ones [] [] n = refl
altered-ones [] (y ∷ v) n = absurd (omega arith)
altered-ones (x ∷ w) [] n = absurd (omega arith)
altered-ones (true ∷ w) (true ∷ v) n = omega (arith, altered-ones w v (omega arith))
altered-ones (true ∷ w) (false ∷ v) n = omega (arith, altered-ones w v (omega arith))
altered-ones (false ∷ w) (true ∷ v) n = omega (arith, altered-ones w v (omega arith))
altered-ones (false ∷ w) (false ∷ v) n = omega (arith, altered-ones w v (omega arith))

odd-caught : (signature : ℕ) (p q : List ℕ) → length p ≡ length q → alterations (unpack p) (unpack q) % 2 ≡ 1 → checksum signature p ≡ checksum signature q → ⊥
odd-caught signature p q n h e =
    let s = crc_over ccitt 0xFFFF (le_bytes 8 signature) in
    let a = altered-ones (unpack p) (unpack q) (same_length p q n) in
    omega (arith, feeds-parity s (unpack p), feeds-parity s (unpack q), ap (λ (c : ℕ). ones (digits 16 c) % 2) (signed_same signature p q e))

-- ── the limit ──

-- a burst, by a test that computes
abbrev inside : ℕ → List ℕ → List ℕ → ℕ → ℕ → Bool
inside w p q k i = beq (bit_at p i) (bit_at q i) || (leb k i && ltb i (k + w))

held : (x y s t : Bool) → T (beq x y || (s && t)) → (x ≡ y → ⊥) → (s ≡ true) × (t ≡ true)
held true true s t h n = absurd (n refl)
held false false s t h n = absurd (n refl)
held true false true true h n = (refl, refl)
held true false true false h n = absurd h
held true false false t h n = absurd h
held false true true true h n = (refl, refl)
held false true true false h n = absurd h
held false true false t h n = absurd h

pub burst-by-test : (w : ℕ) (p q : List ℕ) (k bit : ℕ) → length p ≡ length q → Altered p q bit → T (all (inside w p q k) (length (unpack p))) → Burst w p q
burst-by-test w p q k bit n a h = record { bit = bit; altered = a; from = k; within = λ i x. go i x (ltb i (length (unpack p))) refl }
  where
    go : (i : ℕ) → Altered p q i → (t : Bool) → ltb i (length (unpack p)) ≡ t → (k ≤ i) × (i < k + w)
    go i x true e =
        let b = held (bit_at p i) (bit_at q i) (leb k i) (ltb i (k + w)) (below (inside w p q k) (length (unpack p)) h i (ltb-true i (length (unpack p)) e)) x in
        (leb-true k i b.0, ltb-true i (k + w) b.1)
    go i x false e =
        let l : length (unpack p) ≤ i = ltb-false i (length (unpack p)) e in
        let m : length (unpack q) ≤ i = omega (arith, same_length p q n) in
        absurd (x (get_or-eq_default (unpack p) false l ∙ sym (get_or-eq_default (unpack q) false m)))

limit : Burst (burst_max + 1) (0 ∷ 0 ∷ 0 ∷ []) (0x01 ∷ 0x10 ∷ 0x21 ∷ [])
unfolding unpack digits
limit = burst-by-test (burst_max + 1) (0 ∷ 0 ∷ 0 ∷ []) (0x01 ∷ 0x10 ∷ 0x21 ∷ []) 7 7 refl (λ e. true≢false (sym e)) tt

-- the checksums' difference is that of the payloads from 0, which is none
unseen : (signature : ℕ) → checksum signature (0 ∷ 0 ∷ 0 ∷ []) ≡ checksum signature (0x01 ∷ 0x10 ∷ 0x21 ∷ [])
unfolding xors crc_over crc_byte shifts shift
unseen signature = xor-none _ _ (linear-laws.difference signature (0 ∷ 0 ∷ 0 ∷ []) (0x01 ∷ 0x10 ∷ 0x21 ∷ []) refl)

pub damage-laws : DamageLaws
damage-laws = record { burst = caught; odd = odd-caught; limit = (limit, unseen) }

-- The frames that carry bytes, one at a time; the checksum in front of them.
use mathlib.Core.Path.{◌≡◌, refl, sym, ap, ap₂, ◌∙◌}
use mathlib.Core.Bool.{Bool, true, false, not, false≢true}
use mathlib.Core.List.{List, [], ◌∷◌, ◌++◌}
use Prim.Native.Nat.{ℕ, suc, ◌+◌, ◌*◌, ◌-◌, ◌/◌, ◌%◌, ◌≤◌, ◌<◌}
use native.Mathlib.Omega.{arith}
use lib.ListN.{length, take, drop, length-append, length-drop, take-append-drop}
use lib.Seq.{take_at, drop_at, length-take-le}
use borrow.Author.Tests.{eqb-true, eq-eqb}
use Rattle.bits.specs.Order.{Octets}
use Rattle.checksum.specs.Crc16.{checksum}
use Rattle.rules.specs.Sent.{tail_byte, framed, pieces, carrying, with_sum, sent}
use Rattle.rules.specs.Session.{sum_ok}
use Rattle.rules.proofs.Frames.{fulls, carried-long}
use Rattle.judge_rules.specs.Good.{stamped}

-- ── the frames that carry bytes, one at a time ──

pub pieces-cons : (s g : Bool) (t : ℕ) (xs rest : List ℕ) → length xs ≡ 7 → 0 < length rest
    → pieces (fulls (xs ++ rest)) s g t (xs ++ rest) ≡ framed xs (tail_byte s false g t) ∷ pieces (fulls rest) false (not g) t rest
unfolding pieces
pieces-cons s g t xs rest seven left =
    let n : fulls (xs ++ rest) ≡ suc (fulls rest) = simp length-append (omega arith) in
    ap (λ k. pieces k s g t (xs ++ rest)) n
    ∙ ap₂ (λ a b. framed a (tail_byte s false g t) ∷ pieces (fulls rest) false (not g) t b) (take_at xs rest 7 seven) (drop_at xs rest 7 seven)

pub pieces-one : (s g : Bool) (t : ℕ) (xs : List ℕ) → length xs ≤ 7 → pieces (fulls xs) s g t xs ≡ framed xs (tail_byte s true g t) ∷ []
unfolding pieces
pieces-one s g t xs h =
    let n : fulls xs ≡ 0 = omega arith in
    ap (λ k. pieces k s g t xs) n

-- bytes for more than one frame
pub record Opens (s g : Bool) (t : ℕ) (xs : List ℕ) : Type 0 where
  pub seven : length (take 7 xs) ≡ 7
  pub left : length (drop 7 xs) ≡ length xs - 7
  pub split : xs ≡ take 7 xs ++ drop 7 xs
  pub first : pieces (fulls xs) s g t xs ≡ framed (take 7 xs) (tail_byte s false g t) ∷ pieces (fulls (drop 7 xs)) false (not g) t (drop 7 xs)

pub opens : (s g : Bool) (t : ℕ) (xs : List ℕ) → 7 < length xs → Opens s g t xs
opens s g t xs h =
    let seven : length (take 7 xs) ≡ 7 = length-take-le 7 xs (omega arith) in
    let left : length (drop 7 xs) ≡ length xs - 7 = length-drop 7 xs in
    let split : xs ≡ take 7 xs ++ drop 7 xs = sym (take-append-drop 7 xs) in
    record {
      seven = seven;
      left = left;
      split = split;
      first = ap (λ l. pieces (fulls l) s g t l) split ∙ pieces-cons s g t (take 7 xs) (drop 7 xs) seven (omega arith);
    }

pub sent_pieces : (signature t : ℕ) (p : List ℕ) → 7 < length p → sent signature t p ≡ pieces (fulls (with_sum signature p)) true false t (with_sum signature p)
unfolding sent carrying
sent_pieces signature t p long = ap (λ l. pieces (fulls l) true false t l) (carried-long signature p long)

pub none-stamped : (id : ℕ) (cs : List (List ℕ)) → stamped id cs [] ≡ []
unfolding stamped
none-stamped id [] = refl
none-stamped id (c ∷ cs) = refl

-- ── the checksum in front ──

pub sum-front : (signature : ℕ) (p : List ℕ) → sum_ok signature (with_sum signature p) ≡ true
sum-front signature p =
    let c = checksum signature p in
    eq-eqb (c % 256 + 256 * (c / 256)) c (omega arith)

pub sum_back : (signature : ℕ) (all : List ℕ) → Octets all → sum_ok signature all ≡ true → with_sum signature (drop 2 all) ≡ all
sum_back signature [] o e = absurd (false≢true e)
sum_back signature (a ∷ []) o e = absurd (false≢true e)
sum_back signature (a ∷ b ∷ p) o e =
    let q : a + 256 * b ≡ checksum signature p = eqb-true (a + 256 * b) (checksum signature p) e in
    let l : a < 256 = o.0 in
    let x : checksum signature p % 256 ≡ a = rw (sym q) (omega arith) in
    let y : checksum signature p / 256 ≡ b = rw (sym q) (omega arith) in
    λ i. x i ∷ y i ∷ p

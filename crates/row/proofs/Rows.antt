-- Rows: what their code goes by.
use mathlib.Core.Path.{◌≡◌, refl, sym, ap, ◌∙◌}
use mathlib.Core.Bool.{Bool, true, false}
use mathlib.Core.List.{List, ◌++◌}
use Prim.Native.Nat.{ℕ, ◌-◌, ◌^◌, ◌≤◌, ◌<◌, min}
use native.Mathlib.Omega.{arith}
use borrow.Author.Tests.{ltb-true, ltb-false, lt-ltb, le-ltb}
use lib.Dec.{ltb}
use lib.IntN.{ℤ, pos}
use lib.ListN.{length, drop}
use mir.Syntax.{w64}
use mir.Val.{SFits, to_z, of_z}
use Rattle.shape.specs.Answer.{Answer, refused, got, Numbered, numbered, refuse_if, map_answer, wrote}
use Rattle.shape.specs.Cast.{low_bits}
use Rattle.shape.specs.Signed.{signed_of}
use Rattle.shape.proofs.SignedFacts.{is}
use Rattle.shape.proofs.Reading.{unrefused, unread, refused-on, got-on}
use Rattle.row.specs.Row.{placed, row, given, word_of, message}

-- ── signed numbers ──

-- a word stands for a number that a signed local holds
in-range : (n : ℕ) → SFits w64 (signed_of 64 n)
unfolding signed_of
in-range n = by_sign (ltb n (2 ^ 63)) refl where
  by_sign : (b : Bool) → ltb n (2 ^ 63) ≡ b → SFits w64 (signed_of 64 n)
  by_sign true e = rw e (record { sfits = omega (arith, ltb-true n (2 ^ 63) e) })
  by_sign false e = rw e (record { sfits = omega (arith, ltb-false n (2 ^ 63) e) })

pub held : (n : ℕ) (z : ℤ) → z ≡ signed_of 64 n → to_z w64 (of_z w64 z) ≡ signed_of 64 n
held n z e = ap (λ (y : ℤ). to_z w64 (of_z w64 y)) e ∙ is (signed_of 64 n) (in-range n)

-- and so does one of an unsigned field
abbrev least : ℕ → ℤ
least n = pos (min n (2 ^ 63 - 1))

pub counted : (n : ℕ) (z : ℤ) → z ≡ least n → to_z w64 (of_z w64 z) ≡ least n
counted n z e = ap (λ (y : ℤ). to_z w64 (of_z w64 y)) e ∙ is (least n) (record { sfits = omega arith })

-- the word of a number that a signed local holds
pub word-of : (z : ℤ) → SFits w64 z → (n : ℕ) → n ≡ low_bits 64 (to_z w64 (of_z w64 z)) → n ≡ low_bits 64 z
word-of z f n e = e ∙ ap (λ (y : ℤ). low_bits 64 y) (is z f)

-- two numbers
pub both : {A B : Type 0} {a b : A} {x y : B} → a ≡ b → x ≡ y → ◌≡◌ {A = A × B} (a, x) (b, y)
both p q = cc

-- ── reading ──

pub row-short : (ws m : List ℕ) → length m < length ws → (8, m) ≡ row (got ws) m
unfolding row placed refuse_if
row-short ws m h = rw (lt-ltb (length m) (length ws) h)

pub row-placed : (ws m m' : List ℕ) → length ws ≤ length m → m' ≡ ws ++ drop (length ws) m → (0, m') ≡ row (got ws) m
unfolding row placed refuse_if
row-placed ws m m' h e = rw (le-ltb (length m) (length ws) h, e)

module _ {A : Type 0} (words : A → List ℕ) (r : Answer A) (m : List ℕ) where
  pub read-refused : (n : ℕ) → numbered (refused n) ≡ numbered r → (n, m) ≡ row (map_answer words r) m
  unfolding row placed
  read-refused n e = sym (ap (λ (a : Answer (List ℕ)). row a m) (refused-on words refl (unrefused r n e)))

  pub read-got : (x : A) → numbered (got x) ≡ numbered r → (ws : List ℕ) → ws ≡ words x → (a : ℕ × List ℕ) → a ≡ row (got ws) m → a ≡ row (map_answer words r) m
  read-got x e ws f a g =
      g ∙ ap (λ (l : List ℕ). row (got l) m) f ∙ sym (ap (λ (b : Answer (List ℕ)). row b m) (got-on words refl (unread r x e)))

-- ── writing ──

module _ (n : ℕ) (ws : List ℕ) (a : Answer (List ℕ)) (m : List ℕ) where
  pub write-short : length ws < n → (15, m) ≡ message (given n ws a) m
  unfolding message refuse_if word_of
  write-short h = rw (lt-ltb (length ws) n h)

  pub write-refused : n ≤ length ws → (k : ℕ) → a ≡ refused k → (k, m) ≡ message (given n ws a) m
  unfolding message refuse_if word_of
  write-refused h k e = rw (le-ltb (length ws) n h, e) (ap (λ (x : ℕ). (x, m)) (omega arith))

  pub write_as : n ≤ length ws → (w : Numbered ℕ) (m' : List ℕ) → (w, m') ≡ wrote a m → (x : ℕ) → x ≡ word_of w → (x, m') ≡ message (given n ws a) m
  unfolding message refuse_if
  write_as h w m' e x f = rw (le-ltb (length ws) n h, f) (ap (λ (p : Numbered ℕ × List ℕ). (word_of p.0, p.1)) e)

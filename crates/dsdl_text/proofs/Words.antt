-- The words of a line, by their places in it.
use mathlib.Core.Path.{◌≡◌, refl, sym, ap, ◌∙◌}
use mathlib.Core.List.{List, [], ◌∷◌}
use Prim.Native.Nat.{ℕ, zero, suc, ◌+◌, ◌-◌, ◌≤◌}
use native.Mathlib.Omega.{arith}
use lib.ListN.{length, take, drop, length-take}
use lib.Seq.{drop-drop, take-take}
use Rattle.dsdl_text.specs.declared.class.Class.TheVariants.{Blank, Visible}
use Rattle.dsdl_text.specs.declared.word.Word.{Word}
use Rattle.dsdl_text.specs.Class.{run}
use Rattle.dsdl_text.specs.Words.{skip, word, past}
use Rattle.dsdl_text.specs.inside.Words.{part, word_from, word_in}
use Rattle.dsdl_text.proofs.Runs.{short}

part_length : (l : List ℕ) (a e : ℕ) → length (part l a e) ≤ e - a
part_length l a e = omega (arith, length-take (e - a) (drop a l))

-- k characters less at the front of a part
drop-take : (k n : ℕ) (l : List ℕ) → drop k (take n l) ≡ take (n - k) (drop k l)
drop-take zero n l = let z : n ≡ n - 0 = omega arith in ap (λ (m : ℕ). take m l) z
drop-take (suc k) zero [] = let z : 0 ≡ 0 - suc k = omega arith in ap (λ (m : ℕ). take {A = ℕ} m []) z
drop-take (suc k) zero (x ∷ xs) = let z : 0 ≡ 0 - suc k = omega arith in ap (λ (m : ℕ). take m (drop k xs)) z
drop-take (suc k) (suc n) [] = sym (take-nil (suc n - suc k)) where
  take-nil : (m : ℕ) → take {A = ℕ} m [] ≡ []
  take-nil zero = refl
  take-nil (suc m) = refl
drop-take (suc k) (suc n) (x ∷ xs) = let z : n - k ≡ suc n - suc k = omega arith in drop-take k n xs ∙ ap (λ (m : ℕ). take m (drop k xs)) z

pub drop-part : (l : List ℕ) (a k e : ℕ) → drop k (part l a e) ≡ part l (a + k) e
drop-part l a k e =
    drop-take k (e - a) (drop a l) ∙ (ap (λ (m : List ℕ). take (e - a - k) m) (drop-drop k a l) ∙ ap (λ (n : ℕ). take n (drop (a + k) l)) less) where
      less : e - a - k ≡ e - (a + k)
      less = omega arith

module _ (l : List ℕ) (from stop : ℕ) where
  -- blanks skipped
  pub skipped : skip (part l from stop) ≡ part l (word_from l from stop) stop
  skipped = drop-part l from (run Blank (part l from stop)) stop

  -- the word, and what is past it
  pub the_word : word (skip (part l from stop)) ≡ part l (word_in l from stop).at (word_in l from stop).end
  the_word =
      ap word skipped ∙ (take-take (run Visible (part l (word_from l from stop) stop)) (stop - word_from l from stop) (drop (word_from l from stop) l) inside
      ∙ ap (λ (n : ℕ). take n (drop (word_from l from stop) l)) width) where
        inside : run Visible (part l (word_from l from stop) stop) ≤ stop - word_from l from stop
        inside = omega (arith, short Visible (part l (word_from l from stop) stop), part_length l (word_from l from stop) stop)

        width : run Visible (part l (word_from l from stop) stop) ≡ (word_in l from stop).end - (word_in l from stop).at
        width = omega arith

  pub the_rest : past (skip (part l from stop)) ≡ part l (word_in l from stop).end stop
  the_rest = ap past skipped ∙ drop-part l (word_from l from stop) (run Visible (part l (word_from l from stop) stop)) stop

abbrev word_at : ℕ → ℕ → Word
word_at a e = record { at = a; end = e }

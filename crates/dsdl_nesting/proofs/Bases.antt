-- Laws of the nested type of a line by its place.
use mathlib.Core.Path.{◌≡◌, sym, ◌∙◌}
use mathlib.Core.List.{List}
use Prim.Native.Nat.{ℕ, ◌-◌, ◌≤◌}
use native.Mathlib.Omega.{arith}
use lib.ListN.{length, drop, length-drop, drop_of_length-le}
use lib.Seq.{drop-length, take_all, take-nil}
use Rattle.dsdl_text.proofs.Parts.{rest}
use Rattle.dsdl_text.specs.declared.word.Word.{Word}
use Rattle.dsdl_text.specs.inside.Words.{part}
use Rattle.dsdl_line.specs.inside.Places.{word_of}

-- ── words that reach past a line ──

module _ (l : List ℕ) (w : Word) where
  pub behind : length l ≤ w.at → part l (length l) (length l) ≡ word_of l w
  behind h = rw (drop-length l, drop_of_length-le l h) (take-nil (length l - length l) ∙ sym (take-nil (w.end - w.at)))

  pub empty : w.end ≤ w.at → part l w.at w.at ≡ word_of l w
  empty h = let a : w.at - w.at ≡ 0 = omega arith in let e : w.end - w.at ≡ 0 = omega arith in rw (a, e)

  pub cut : length l ≤ w.end → part l w.at (length l) ≡ word_of l w
  cut h = rest w.at l ∙ sym (take_all (w.end - w.at) (drop w.at l) (omega (arith, length-drop w.at l)))

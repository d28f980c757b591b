-- A word of a line, by places that may reach past its end.
use mathlib.Core.Path.{◌≡◌, sym, ap, ◌∙◌}
use mathlib.Core.List.{List, []}
use Prim.Native.Nat.{ℕ, ◌-◌, ◌≤◌, ◌<◌}
use native.Mathlib.Omega.{arith}
use lib.ListN.{length, take, drop, length-take, length-drop, drop_of_length-le}
use lib.Seq.{take_all, take-nil}
use Rattle.dsdl_text.specs.declared.word.Word.{Word}
use Rattle.dsdl_text.proofs.Parts.{rest}
use Rattle.dsdl_line.specs.inside.Places.{word_of}

module _ (l : List ℕ) (w : Word) where
  pub empty : w.end ≤ w.at → [] ≡ word_of l w
  empty h = let z : w.end - w.at ≡ 0 = omega arith in sym (ap (λ (n : ℕ). take n (drop w.at l)) z)

  pub outside : length l ≤ w.at → [] ≡ word_of l w
  outside h = sym (ap (take (w.end - w.at)) (drop_of_length-le l h) ∙ take-nil (w.end - w.at))

  pub cut : length l < w.end → take (length l - w.at) (drop w.at l) ≡ word_of l w
  cut h = rest w.at l ∙ sym (take_all (w.end - w.at) (drop w.at l) (omega (arith, length-drop w.at l)))

  pub shorter : (v : List ℕ) → v ≡ word_of l w → length l ≤ 4096 → length v ≤ 4096
  shorter v e h = omega (arith, ap length e, length-take (w.end - w.at) (drop w.at l), length-drop w.at l)

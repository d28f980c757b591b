-- `word` meets its contract.
use Rattle.digits.proofs.Puts.{set-splice, length-word}
use Rattle.digits.specs.Digits.{digits, count_of, decimal, words}
use Rattle.digits.specs.inside.Text.{Puts}
use Rattle.bits.proofs.Splice.{splice-next}
use Rattle.bits.specs.Part.{splice}
use lib.ListN.{length, set, length-set}
use native.Mathlib.Omega.{arith}
use Prim.Native.Nat.{ℕ, ◌+◌, ◌≤◌}
use mathlib.Core.List.{List, [], ◌∷◌, append-nil}
use mathlib.Core.Path.{◌≡◌, refl, sym, ap, ◌∙◌}
use Rattle.digits.proofs.word.Goals as goal

put : (m m' : List ℕ) (at w v : ℕ) → at + 21 ≤ length m → w ≡ count_of v → m' ≡ splice (set m at 32) (at + 1) (digits 10 w v)
    → Puts m m' at (at + 1 + w) (words (v ∷ []))
unfolding words decimal
put m m' at w v h e f =
    let g : m' ≡ splice m at (32 ∷ digits 10 w v) = splice-next m (set m at 32) m' at 1 (32 ∷ []) (digits 10 w v) (omega arith) refl
    (set-splice m at 32 (omega arith)) f in
    record {
      out = g ∙ ap (λ (k : ℕ). splice m at (32 ∷ digits 10 k v)) e
          ∙ ap (λ (l : List ℕ). splice m at (32 ∷ l)) (sym (append-nil (digits 10 (count_of v) v)));
      end = omega (arith, length-word v, e);
    }

pub put_digits-requires : goal.put_digits-requires
put_digits-requires c =
    simp length-set (omega (arith, c.count-w.ensures.1, c.requires))

pub returns : goal.returns
returns c =
    let a = c.args in (
      put a.out.now c.put_digits.new.out a.at c.count-w.result a.v c.requires c.count-w.ensures.0 c.put_digits.ensures,
      omega
          (arith, c.count-w.ensures.1),
    )

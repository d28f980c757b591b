-- Text put after text: a character in front, and two texts with a character between them.
use mathlib.Core.List.{List, [], ◌∷◌, ◌++◌}
use Prim.Native.Nat.{ℕ, ◌≤◌, ◌<◌}
use native.Mathlib.Omega.{arith}
use lib.ListN.{length}
use Rattle.digits.specs.inside.Text.{Puts}
use Rattle.digits.proofs.Puts.{puts-next}

pub char-next : (a b d : List ℕ) (at p q c : ℕ) (y : List ℕ) → Puts a b at p (c ∷ []) → Puts b d p q y → at < length a → Puts a d at q (c ∷ y)
char-next a b d at p q c y f g h = puts-next a b d at p q (c ∷ []) y f g (omega arith)

-- a text that ends inside the buffer
pub text-next : (a b d : List ℕ) (at p q : ℕ) (x y : List ℕ) → Puts a b at p x → Puts b d p q y → p ≤ length a → Puts a d at q (x ++ y)
text-next a b d at p q x y f g h = puts-next a b d at p q x y f g (omega (arith, f.end))

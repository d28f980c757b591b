-- RULES 5.6: stores into lent bytes, one after the other.
use Rattle.std.specs.Prelude.{List, [], ◌∷◌, ℕ}
use Rattle.bits.specs.Part.{splice}

pub record Store : Type 0 where
  pub at : ℕ
  pub bytes : List ℕ

unfoldable pub store_all : List ℕ → List Store → List ℕ
store_all m [] = m
store_all m (w ∷ ws) = store_all (splice m w.at w.bytes) ws

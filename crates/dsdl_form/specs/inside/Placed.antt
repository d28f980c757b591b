-- Text in a buffer that may have no room for it.
use Rattle.std.specs.Prelude.{◌≡◌, List, ℕ, ◌+◌, ◌^◌, ◌≤◌, ◌<◌, length}
use Rattle.bits.specs.Part.{splice}

-- the place past a text is a number of 64 bits
abbrev pub Fits : ℕ → List ℕ → Type 0
Fits at text = at + length text < 2 ^ 64

-- text put at a place of a buffer if there is room for all of it, and the place past it in any case
pub record Placed (before after : List ℕ) (at past : ℕ) (text : List ℕ) : Type 0 where
  pub out : at + length text ≤ length before → after ≡ splice before at text
  pub end : past ≡ at + length text
  pub same : length after ≡ length before

-- RULES 12.3: what the functions on text give, text in a buffer, and a number or none.
use Rattle.std.specs.Prelude.{◌≡◌, List, ℕ, ◌+◌, length, Some, None}
use Rattle.std.specs.Prelude as std
use Rattle.std.proofs.Math.Option.{Option, none, some}
use Rattle.bits.specs.Part.{splice}

-- text put at a place of a buffer, and the place past it
pub record Puts (before after : List ℕ) (at past : ℕ) (text : List ℕ) : Type 0 where
  pub out : after ≡ splice before at text
  pub end : past ≡ at + length text

abbrev pub as_number : Option ℕ → std.Option ℕ
as_number none = None
as_number (some n) = Some n

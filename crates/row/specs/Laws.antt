-- RULES 13.3: what C reads of a writer's result word.
use Rattle.std.specs.Prelude.{◌≡◌, Bool, List, ℕ, ◌/◌, ◌%◌, ◌^◌, ◌<◌, length}
use Rattle.shape.specs.Answer.{Numbered, refuse_if, wrote}
use Rattle.shape.specs.Shape.{Shape, Values, encoded}
use Rattle.row.specs.Row.{length_of, word_of, given}

pub record WordLaws : Type 0 where
  -- the number and the length, if the number is below 256
  pub number : (a : Numbered ℕ) → a.number < 2 ^ 8 → word_of a % 2 ^ 8 ≡ a.number
  pub len : (a : Numbered ℕ) → a.number < 2 ^ 8 → word_of a / 2 ^ 8 ≡ length_of a.value
  -- which it is, for every type, whatever the row lacks and whatever else is refused with 17
  pub below : (n : ℕ) (ws : List ℕ) (b : Bool) (d : Shape) (v : Values d) (m : List ℕ) → (wrote (given n ws (refuse_if b 17 (encoded d v (length m)))) m).0.number < 2 ^ 8

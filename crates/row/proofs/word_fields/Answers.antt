-- The fields of a writer's result word, by cases.
use mathlib.Core.Path.{◌≡◌}
use mathlib.Core.Bool.{Bool, true, false, not}
use mathlib.Core.List.{List}
use Prim.Native.Nat.{ℕ, ◌/◌, ◌%◌, ◌^◌, ◌<◌}
use native.Mathlib.Omega.{arith}
use lib.Dec.{ltb}
use lib.ListN.{length}
use Rattle.shape.specs.Answer.{got, Numbered, refuse_if, wrote}
use Rattle.shape.specs.Shape.{Shape, Values, tags, fits, message, encoded}
use Rattle.row.specs.Row.{length_of, word_of, given}
use Rattle.row.proofs.word_fields.Goals as goal

number : (a : Numbered ℕ) → a.number < 2 ^ 8 → word_of a % 2 ^ 8 ≡ a.number
unfolding word_of
number a h = omega arith

len : (a : Numbered ℕ) → a.number < 2 ^ 8 → word_of a / 2 ^ 8 ≡ length_of a.value
unfolding word_of
len a h = omega arith

below : (n : ℕ) (ws : List ℕ) (b : Bool) (d : Shape) (v : Values d) (m : List ℕ) → (wrote (given n ws (refuse_if b 17 (encoded d v (length m)))) m).0.number < 2 ^ 8
unfolding encoded refuse_if
below n ws b d v m = by-case (ltb (length ws) n) b (tags d v) (fits d v) (ltb (length m) (length (message d v))) where
  by-case : (s b t f r : Bool)
      → (wrote (refuse_if s 15 (refuse_if b 17 (refuse_if (not t) 27 (refuse_if (not f) 17 (refuse_if r 8 (got (message d v))))))) m).0.number < 2 ^ 8
  by-case true b t f r = omega arith
  by-case false true t f r = omega arith
  by-case false false false f r = omega arith
  by-case false false true false r = omega arith
  by-case false false true true true = omega arith
  by-case false false true true false = omega arith

pub returns : goal.returns
returns c = record { number = number; len = len; below = below }

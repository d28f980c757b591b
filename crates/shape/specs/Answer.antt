-- RULES 13.1, 9.6 and 9.7: what a message call answers. A refusal by its number, or success with a value.
use Rattle.std.specs.Prelude.{Bool, true, false, List, ◌++◌, ℕ, length, drop, Ok, Err}
use Rattle.std.specs.declared.result.Result.{Result}
use Rattle.std.proofs.Math.Option.{Option, none, some}
use Rattle.shape.specs.declared.answer.Refusal.{Refusal}
use Rattle.shape.specs.declared.answer.Refusal.TheVariants.{NoRoom, TooShort, TooLong, NotAllowed, Padding, NoCase}

pub data Answer (A : Type 0) : Type 0 where
  refused : ℕ → Answer A
  got : A → Answer A

-- RULES 13.1: the number of each answer, 0 for success, and the value, which a refusal has none of
pub record Numbered (A : Type 0) : Type 0 where
  pub number : ℕ
  pub value : Option A

abbrev pub numbered : {A : Type 0} → Answer A → Numbered A
numbered (refused n) = record { number = n; value = none }
numbered (got a) = record { number = 0; value = some a }

unfoldable pub refuse_if : {A : Type 0} → Bool → ℕ → Answer A → Answer A
refuse_if true n r = refused n
refuse_if false n r = r

unfoldable pub map_answer : {A B : Type 0} → (A → B) → Answer A → Answer B
map_answer f (refused n) = refused n
map_answer f (got a) = got (f a)

-- RULES 9.6, 9.7: the number of each refusal
abbrev pub number_of : Refusal → ℕ
number_of NoRoom = 8
number_of TooShort = 15
number_of TooLong = 16
number_of NotAllowed = 17
number_of Padding = 25
number_of NoCase = 27

-- a reader's answer, and a writer's, whose value is the number of bytes written
abbrev pub answer_of : {A : Type 0} → Result A Refusal → Numbered A
answer_of (Ok a) = numbered (got a)
answer_of (Err r) = numbered (refused (number_of r))

-- RULES 1.5: the answer, and the buffer m after it. A refusal touches nothing, output is at the front, and the bytes past it stay
abbrev pub wrote : Answer (List ℕ) → List ℕ → Numbered ℕ × List ℕ
wrote (refused n) m = (numbered (refused n), m)
wrote (got bs) m = (numbered (got (length bs)), bs ++ drop (length bs) m)

-- What the reader and the writer of a message refuse has one of five numbers, and its refusal has that number.
use mathlib.Core.Path.{◌≡◌, refl}
use mathlib.Core.Bool.{Bool, true, false, not}
use mathlib.Core.List.{List}
use Prim.Native.Nat.{ℕ, ◌*◌, ◌/◌, ◌%◌, ◌≤◌}
use native.Mathlib.Omega.{arith}
use borrow.Author.Tests.{eqb-true}
use lib.Dec.{eqb, ltb, leb}
use lib.ListN.{length, drop}
use Rattle.rules.specs.Tests.{pick}
use Rattle.shape.specs.Answer.{Answer, refused, got, number_of, refuse_if, map_answer}
use Rattle.shape.specs.declared.answer.Refusal.TheVariants.{NoRoom, TooShort, TooLong, NotAllowed, Padding, NoCase}
use Rattle.shape.specs.Shape.{Values, decode, encoded, fits, message, all_zero}
use Rattle.protocol_dynamic_node_id.specs.Allocation.{allocation}
use Rattle.allocator.specs.Answer.{refusal_of}

-- a refusal has a number up to 25, which is that of what it is told as
pub record Told (n : ℕ) : Type 0 where
  pub small : n ≤ 25
  pub same : number_of (refusal_of n) ≡ n

abbrev pub Small : {A : Type 0} → Answer A → Type 0
Small (refused n) = Told n
Small (got a) = Unit {0}

no-room : Told 8
no-room = record { small = omega arith; same = refl }

too-short : Told 15
too-short = record { small = omega arith; same = refl }

too-long : Told 16
too-long = record { small = omega arith; same = refl }

not-allowed : Told 17
not-allowed = record { small = omega arith; same = refl }

padding : Told 25
padding = record { small = omega arith; same = refl }

small-if : {A : Type 0} (b : Bool) (n : ℕ) (r : Answer A) → Told n → Small r → Small (refuse_if b n r)
unfolding refuse_if
small-if true n r h s = h
small-if false n r h s = s

small-map : {A B : Type 0} (f : A → B) (r : Answer A) → Small r → Small (map_answer f r)
unfolding map_answer
small-map f (refused n) s = s
small-map f (got a) s = tt

pub small-read : (bs : List Bool) → Small (decode allocation bs)
unfolding decode
small-read bs =
    small-if (ltb (length bs) 7) 15 _ too-short
    (small-map _ _
    (small-if (ltb (length (drop 7 bs)) 1) 15 _ too-short
    (small-map _ _
    (small-if (ltb 16 (length (drop 1 (drop 7 bs)) / 8)) 16 _ too-long
    (small-if (leb 8 (length (drop 1 (drop 7 bs)) % 8)) 16 _ too-long
    (small-if (not (all_zero (drop (length (drop 1 (drop 7 bs)) / 8 * 8) (drop 1 (drop 7 bs))))) 25 _ padding (small-if false 17 _ not-allowed tt)))))))

pub small-write : (v : Values allocation) (room : ℕ) → Small (encoded allocation v room)
unfolding encoded refuse_if
small-write v room = small-if (not (fits allocation v)) 17 _ not-allowed (small-if (ltb room (length (message allocation v))) 8 _ no-room tt)

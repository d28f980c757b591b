-- The return trips of RawCommand.
use mathlib.Core.Path.{◌≡◌, refl, ap, ◌∙◌}
use mathlib.Core.Bool.{Bool, true, false, ◌&&◌}
use mathlib.Core.List.{List, [], ◌∷◌, map}
use Prim.Native.Nat.{ℕ, ◌-◌, ◌≤◌}
use native.Mathlib.Omega.{arith}
use borrow.Author.Tests.{le-ltb, ltb-true, leb-true}
use lib.Dec.{ltb, leb, lit≤}
use lib.IntN.{ℤ, pos}
use lib.ListN.{length, replicate, length-map}
use lib.Seq.{take_at}
use Rattle.bits.specs.Order.{Octets}
use Rattle.shape.specs.Answer.{got, refuse_if}
use Rattle.shape.specs.Shape.{all_below, decoded, fits, clipped, encoded}
use Rattle.shape.specs.Cast.{signed, saturated, holds, clip}
use Rattle.shape.specs.Signed.{signed_of}
use Rattle.shape.proofs.Fields.{and_left, and_right}
use Rattle.shape.proofs.Reading.{got-on}
use Rattle.shape.proofs.RoundTrip.{made, round-there, round-back, whole_same}
use Rattle.shape.proofs.CastFacts.{cast-keeps, cast-back}
use Rattle.shape.proofs.Trip.{through}
use Rattle.equipment_esc.specs.RawCommand.{raw_command, commands, command_of, command_in, numbers_of, pattern_of, command_values, command_encoded}
use Rattle.equipment_esc.specs.Laws.{Laws, clipped_numbers, all_in}
use Rattle.equipment_esc.specs.declared.raw_command.RawCommand.{RawCommand}

-- numbers through their patterns
clips : (zs : List ℤ) → map (signed_of 14) (map pattern_of zs) ≡ clipped_numbers zs
clips [] = refl
clips (z ∷ zs) = ap (λ (ys : List ℤ). clip signed saturated 14 z ∷ ys) (clips zs)

kept : (zs : List ℤ) → all_in zs ≡ true → clipped_numbers zs ≡ zs
unfolding all_in
kept [] e = refl
kept (z ∷ zs) e =
    rw (cast-keeps signed saturated 14 z (lit≤ tt) (and_left (holds signed 14 z) (all_in zs) e), kept zs (and_right (holds signed 14 z) (all_in zs) e))

-- patterns through their numbers
patterns-back : (xs : List ℕ) → all_below 16384 xs ≡ true → map pattern_of (map (signed_of 14) xs) ≡ xs
unfolding all_below
patterns-back [] e = refl
patterns-back (x ∷ xs) e =
    rw (cast-back signed saturated 14 x (ltb-true x 16384 (and_left (ltb x 16384) (all_below 16384 xs) e)), patterns-back xs (and_right (ltb x 16384) (all_below 16384 xs) e))

-- the numbers of a message that was read
numbers-of : (zs : List ℤ) → numbers_of (commands zs) ≡ zs
numbers-of zs = take_at zs (replicate (20 - length zs) (pos 0)) (length zs) refl

-- a writer that succeeds
wrote : (x : RawCommand) (room : ℕ) (p : List ℕ) → command_encoded x room ≡ got p → encoded raw_command (command_values x) room ≡ got p
unfolding command_encoded refuse_if
wrote x room p = by (ltb 20 x.count) where
  by : (b : Bool) → refuse_if b 17 (encoded raw_command (command_values x) room) ≡ got p → encoded raw_command (command_values x) room ≡ got p
  by true e = absurd (let z : ◌≡◌ {A = ℕ} 0 1 = cc in omega arith)
  by false e = e

go : (x : RawCommand) → length x.cmd ≡ 20 → (room : ℕ) (p : List ℕ) → command_encoded x room ≡ got p
    → command_in p ≡ got (commands (clipped_numbers (numbers_of x)))
unfolding clipped
go x l room p e =
    got-on command_of refl (round-there raw_command (lit≤ tt) (command_values x) room p (wrote x room p e))
    ∙ ap (λ (zs : List ℤ). got (commands zs)) (clips (numbers_of x))

come : (p : List ℕ) → Octets p → (x : RawCommand) (room : ℕ) → command_in p ≡ got x → length p ≤ room → command_encoded x room ≡ got p
unfolding command_encoded refuse_if fits
come p o x room e l =
    let t = through command_of (decoded raw_command p) x e in
    let v : List ℕ = t.from in
    let zs : List ℤ = map (signed_of 14) v in
    let r : encoded raw_command v room ≡ got p = round-back raw_command p v room t.is l ∙ ap got (whole_same raw_command tt p o) in
    let f : fits raw_command v ≡ true = (made raw_command v room p r).fit in
    let b : all_below 16384 v ≡ true = and_left (all_below 16384 v) true (and_right (leb (length v) 20) (all_below 16384 v && true) f) in
    let n : length zs ≡ length v = length-map v (signed_of 14) in
    let c : ltb 20 (length zs) ≡ false = le-ltb 20 (length zs) (omega (arith, n, leb-true (length v) 20 (and_left (leb (length v) 20) (all_below 16384 v && true) f))) in
    let w : command_values (commands zs) ≡ v = ap (λ (ys : List ℤ). map pattern_of ys) (numbers-of zs) ∙ patterns-back v b in
    ap (λ (y : RawCommand). command_encoded y room) t.maps ∙ rw (c, w) r

pub laws : Laws
laws = record { there = go; kept = kept; back = come }

-- A map that was set up.
use mathlib.Core.Path.{◌≡◌, refl, ap, ◌∙◌}
use mathlib.Core.Bool.{true}
use mathlib.Core.List.{List, ◌++◌}
use Prim.Native.Nat.{ℕ, ◌≤◌}
use native.Mathlib.Omega.{arith}
use borrow.Author.Tests.{le-ltb, le-leb}
use lib.ListN.{length, drop, replicate, length-drop}
use Rattle.bits.specs.Little.{le}
use Rattle.bits.specs.Tabulate.{tabulate}
use Rattle.id_map.specs.Layout.{size, key_at, slot_at, map_of}
use Rattle.id_map.specs.Setup.{after_setup}
use Rattle.id_map.specs.Sound.{sound_map}
use Rattle.rules.specs.Map.{blank}
use Rattle.rules.specs.Map as rules
use Rattle.rules.proofs.Sends.{map_lasts}
use Rattle.id_map.proofs.laws.setup.Goals as goal

-- zeros, and what lies past the layout
abbrev cleared : List ℕ → List ℕ
cleared m = replicate size 0 ++ drop size m

cleared-is : (m : List ℕ) → size ≤ length m → (after_setup m).map ≡ cleared m
unfolding after_setup
cleared-is m h = rw (le-ltb (length m) size h)

view : (m : List ℕ) → map_of (cleared m) ≡ blank
unfolding map_of tabulate slot_at key_at le
view m = refl

fine : (m : List ℕ) → size ≤ length m → sound_map (cleared m) ≡ true
unfolding sound_map
fine m h = rw (le-leb size (length (cleared m)) (omega (arith, length-drop size m))) (ap rules.sound (view m) ∙ map_lasts.setup)

pub returns : goal.returns
returns c = record {
  blank = λ m h. ap map_of (cleared-is m h) ∙ view m;
  sound = λ m h. ap sound_map (cleared-is m h) ∙ fine m h;
}

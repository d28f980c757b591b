-- An allocator that was set up.
use mathlib.Core.Path.{◌≡◌, refl, ap, ◌∙◌}
use mathlib.Core.Bool.{true}
use mathlib.Core.List.{List, [], ◌++◌}
use Prim.Native.Nat.{ℕ, ◌≤◌}
use native.Mathlib.Omega.{arith}
use borrow.Author.Tests.{le-ltb, le-leb}
use lib.ListN.{length, drop, replicate, length-drop}
use Rattle.bits.specs.Little.{le}
use Rattle.bits.specs.Tabulate.{tabulate}
use Rattle.allocator_table.specs.Layout.{size, gathered_count, entry_count, table_of, sound_state}
use Rattle.allocator_table.specs.Table.{sound}
use Rattle.allocator.specs.Setup.{after_setup}
use Rattle.allocator.proofs.laws.setup.Goals as goal

-- zeros, and what lies past the layout
abbrev cleared : List ℕ → List ℕ
cleared m = replicate size 0 ++ drop size m

cleared-is : (m : List ℕ) → size ≤ length m → (after_setup m).state ≡ cleared m
unfolding after_setup
cleared-is m h = rw (le-ltb (length m) size h)

none : (m : List ℕ) → table_of (cleared m) ≡ []
unfolding table_of entry_count tabulate le
none m = refl

zero-gathered : (m : List ℕ) → gathered_count (cleared m) ≡ 0
unfolding gathered_count le
zero-gathered m = refl

fine : (m : List ℕ) → size ≤ length m → sound_state (cleared m) ≡ true
unfolding sound_state gathered_count entry_count le table_of tabulate sound
fine m h = rw (le-leb size (length (cleared m)) (omega (arith, length-drop size m)))

pub returns : goal.returns
returns c = record {
  empty = λ m h. ap table_of (cleared-is m h) ∙ none m;
  nothing = λ m h. ap gathered_count (cleared-is m h) ∙ zero-gathered m;
  sound = λ m h. ap sound_state (cleared-is m h) ∙ fine m h;
}

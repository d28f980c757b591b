-- `setup` meets its contract.
use mathlib.Core.Path.{◌≡◌}
use mathlib.Core.List.{List}
use Prim.Native.Nat.{ℕ, ◌≤◌, ◌<◌}
use borrow.Author.Tests.{lt-ltb, le-ltb}
use lib.ListN.{length, replicate}
use Rattle.std.specs.declared.result.Result.TheVariants.{Ok, Err}
use Rattle.bits.specs.Part.{splice}
use Rattle.id_map.specs.Layout.{size}
use Rattle.id_map.specs.Setup.{returned, after_setup}
use Rattle.answers.specs.declared.SetupError.TheVariants.{Short}
use Rattle.id_map.proofs.setup.Goals as goal

refused : (m : List ℕ) → length m < size → returned (Err Short) m ≡ after_setup m
unfolding after_setup
refused m h = rw (lt-ltb (length m) size h)

cleared : (m m' : List ℕ) → size ≤ length m → m' ≡ splice m 0 (replicate size 0) → returned (Ok tt) m' ≡ after_setup m
unfolding after_setup
cleared m m' h e = rw (le-ltb (length m) size h, e)

pub returns-then-map-lt-SIZE : goal.returns-then-map-lt-SIZE
returns-then-map-lt-SIZE c = refused c.args.map.now c.if-map-lt-SIZE.true

pub returns : goal.returns
returns c =
    cleared c.args.map.now c.copy_at.new.dst c.if-map-lt-SIZE.false c.copy_at.ensures

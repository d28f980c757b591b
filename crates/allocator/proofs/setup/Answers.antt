-- `setup` meets its contract.
use mathlib.Core.Path.{◌≡◌}
use mathlib.Core.List.{List}
use Prim.Native.Nat.{ℕ, ◌≤◌, ◌<◌}
use borrow.Author.Tests.{lt-ltb, le-ltb}
use lib.ListN.{length, replicate}
use Rattle.std.specs.declared.result.Result.TheVariants.{Ok, Err}
use Rattle.bits.specs.Part.{splice}
use Rattle.allocator_table.specs.Layout.{size}
use Rattle.allocator.specs.Setup.{set_up, after_setup}
use Rattle.answers.specs.declared.SetupError.TheVariants.{Short}
use Rattle.allocator.proofs.setup.Goals as goal

refused : (m : List ℕ) → length m < size → set_up (Err Short) m ≡ after_setup m
unfolding after_setup
refused m h = rw (lt-ltb (length m) size h)

cleared : (m m' : List ℕ) → size ≤ length m → m' ≡ splice m 0 (replicate size 0) → set_up (Ok tt) m' ≡ after_setup m
unfolding after_setup
cleared m m' h e = rw (le-ltb (length m) size h, e)

pub returns-then-state-lt-SIZE : goal.returns-then-state-lt-SIZE
returns-then-state-lt-SIZE c = refused c.args.state.now c.if-state-lt-SIZE.true

pub returns : goal.returns
returns c =
    cleared c.args.state.now c.copy_at.new.dst c.if-state-lt-SIZE.false c.copy_at.ensures

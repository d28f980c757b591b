-- `setup` meets its contract.
use mathlib.Core.Path.{◌≡◌, ap, ◌∙◌}
use mathlib.Core.List.{List}
use Prim.Native.Nat.{ℕ, ◌≤◌, ◌<◌}
use borrow.Author.Tests.{lt-ltb, le-ltb}
use lib.ListN.{length}
use Rattle.std.specs.declared.result.Result.TheVariants.{Ok, Err}
use Rattle.answers.specs.declared.SetupError.TheVariants.{Short}
use Rattle.bits.specs.Little.{le_bytes}
use Rattle.bits.specs.Part.{splice}
use Rattle.queue.specs.Calls.{set_up, after_setup}
use Rattle.queue.specs.Layout.{count_at, records_at}
use Rattle.queue.proofs.Bytes.{holding-none}
use Rattle.queue.proofs.setup.Goals as goal

refused : (m : List ℕ) → length m < records_at → set_up (Err Short) m ≡ after_setup m
unfolding after_setup
refused m h = rw (lt-ltb (length m) records_at h)

cleared : (m m' : List ℕ) → records_at ≤ length m → m' ≡ splice m count_at (le_bytes 8 0) → set_up (Ok tt) m' ≡ after_setup m
unfolding after_setup
cleared m m' h e = rw (le-ltb (length m) records_at h) (ap (set_up (Ok tt)) (e ∙ holding-none m))

pub returns-then-queue-lt-RECORDS_AT : goal.returns-then-queue-lt-RECORDS_AT
returns-then-queue-lt-RECORDS_AT c = refused c.args.queue.now c.if-queue-lt-RECORDS_AT.true

pub returns : goal.returns
returns c =
    cleared c.args.queue.now c.put_u64.new.s c.if-queue-lt-RECORDS_AT.false c.put_u64.ensures

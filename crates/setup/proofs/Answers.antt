-- What a setup answers, by the tests that led there.
use mathlib.Core.Path.{◌≡◌}
use mathlib.Core.Bool.{Bool, true, false, ◌&&◌}
use mathlib.Core.List.{List, ◌++◌}
use Prim.Native.Nat.{ℕ, ◌/◌, ◌%◌, ◌≤◌, ◌<◌}
use borrow.Author.Tests.{lt-ltb, le-ltb}
use lib.Dec.{ltb, leb, eqb}
use lib.ListN.{length, drop}
use Rattle.std.specs.declared.result.Result.TheVariants.{Ok, Err}
use Rattle.rules.specs.Limits.{subscriptions_max, subscription_record}
use Rattle.rules.specs.Setup.{all_fit, acceptable}
use Rattle.setup.specs.Setup.{record_at, given, accepted, state_of, returned, after_setup}
use Rattle.answers.specs.declared.SetupError.TheVariants.{Unacceptable, Short}
use Rattle.bits.proofs.Tabulate.{length-tabulate}
use Rattle.bits.specs.Tabulate.{tabulate}
use Rattle.state.specs.Layout.{size}

pub tests : (own : ℕ) (r : List ℕ) (a b c d : Bool) → eqb (length r % subscription_record) 0 ≡ a → ltb own 128 ≡ b → leb (length r / subscription_record) subscriptions_max ≡ c
    → all_fit (tabulate (record_at r) 0 (length r / subscription_record)) ≡ d → accepted own r ≡ (a && (b && (c && d)))
unfolding accepted acceptable given
tests own r a b c d ea eb ec ed = rw (length-tabulate (record_at r) 0 (length r / subscription_record), ea, eb, ec, ed)

module _ (m : List ℕ) (own : ℕ) (r : List ℕ) where
  pub short : length m < size → returned (Err Short) m ≡ after_setup m own r
  unfolding after_setup
  short h = rw (lt-ltb (length m) size h)

  module _ (long : size ≤ length m) where
    pub refused : accepted own r ≡ false → returned (Err Unacceptable) m ≡ after_setup m own r
    unfolding after_setup
    refused e = rw (le-ltb (length m) size long, e)

    pub done : accepted own r ≡ true → (m' : List ℕ) → m' ≡ state_of (given own r) ++ drop size m → returned (Ok tt) m' ≡ after_setup m own r
    unfolding after_setup
    done e m' em = rw (le-ltb (length m) size long, e, em)

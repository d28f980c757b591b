-- `key_fits` meets its contract, case by case.
use mathlib.Core.Path.{◌≡◌, ap, ◌∙◌}
use mathlib.Core.Bool.{Bool, true, false}
use mathlib.Core.List.{List}
use Prim.Native.Nat.{ℕ, ◌≤◌, ◌<◌}
use native.Mathlib.Omega.{arith}
use borrow.Author.Tests.{lt-ltb, le-ltb}
use lib.Dec.{eqb}
use Rattle.keys.specs.inside.Keys.{word_at, lowest}
use Rattle.state.specs.Layout.{subscription_keys_at}
use Rattle.subscriptions.specs.inside.Subscription.{keys_end, key_fits}
use Rattle.subscriptions.proofs.key_fits.Goals as goal

module _ (m : List ℕ) (k j : ℕ) (first : Bool) where
  too_large : keys_end ≤ k → false ≡ key_fits m k j first
  unfolding key_fits
  too_large h = rw (le-ltb k keys_end h)

  module _ (h : k < keys_end) where
    known : first ≡ true → true ≡ key_fits m k j first
    unfolding key_fits
    known e = rw (lt-ltb k keys_end h, e)

    sought : first ≡ false → eqb (lowest (λ i. eqb (word_at m subscription_keys_at i) k) 0 j) j ≡ key_fits m k j first
    unfolding key_fits
    sought e = rw (lt-ltb k keys_end h, e)

pub returns-then-k-ge-KEYS_END : goal.returns-then-k-ge-KEYS_END
returns-then-k-ge-KEYS_END c = let a = c.args in too_large a.state.now a.k a.j a.first c.if-k-ge-KEYS_END.true

pub returns-then-first : goal.returns-then-first
returns-then-first c = let a = c.args in known a.state.now a.k a.j a.first (omega arith) c.if-first.true

pub returns : goal.returns
returns c =
    let a = c.args in
    ap (λ (x : ℕ). eqb x a.j) c.find.ensures ∙ sought a.state.now a.k a.j a.first (omega arith) c.if-first.false

-- `put` meets its contract: two stores.
use mathlib.Core.Path.{◌≡◌, ap, ◌∙◌}
use mathlib.Core.List.{List}
use Prim.Native.Nat.{ℕ, ◌+◌, ◌*◌}
use Rattle.bits.specs.Little.{le_bytes}
use Rattle.bits.specs.Part.{splice}
use Rattle.state.specs.Layout.{signatures_at, subscription_keys_at}
use Rattle.subscriptions.specs.inside.Subscription.{with_subscription}
use Rattle.subscriptions.proofs.put.Goals as goal

stored : (m m₁ m₂ : List ℕ) (j k g : ℕ) → m₁ ≡ splice m (signatures_at + j * 8) (le_bytes 8 g) → m₂ ≡ splice m₁ (subscription_keys_at + j * 4) (le_bytes 4 k)
    → m₂ ≡ with_subscription m j k g
unfolding with_subscription
stored m m₁ m₂ j k g e₁ e₂ = e₂ ∙ ap (λ (x : List ℕ). splice x (subscription_keys_at + j * 4) (le_bytes 4 k)) e₁

pub returns : goal.returns
returns c =
    let a = c.args in
    stored a.state.now c.put_at.new.s c.put_at-2.new.s a.j a.k a.signature c.put_at.ensures c.put_at-2.ensures

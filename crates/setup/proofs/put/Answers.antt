-- `put` meets its contract.
use mathlib.Core.Path.{◌≡◌, ap₂, ◌∙◌}
use mathlib.Core.List.{List}
use Prim.Native.Nat.{ℕ, ◌+◌, ◌*◌, ◌/◌, ◌%◌}
use Rattle.bits.specs.Little.{le}
use Rattle.bits.specs.Part.{span}
use Rattle.rules.specs.Limits.{subscription_record}
use Rattle.setup.specs.Setup.{record_at}
use Rattle.setup.specs.inside.Record.{Keyed, written}
use Rattle.setup.proofs.Records.{same_key}
use Rattle.subscriptions.specs.inside.Subscription.{with_subscription}
use Rattle.setup.proofs.put.Goals as goal

stored : (m m' r : List ℕ) (j k q g : ℕ) → Keyed (record_at r j) k → q ≡ k % 256 * 65536 + k / 256 → g ≡ le (span r (j * subscription_record + 5) 8)
    → m' ≡ with_subscription m j q g → m' ≡ written m j (record_at r j)
unfolding record_at
stored m m' r j k q g e eq eg em = em ∙ ap₂ (with_subscription m j) (eq ∙ same_key (record_at r j) k e) eg

pub returns : goal.returns
returns c =
    let a = c.args in
    stored a.state.now c.put.new.state a.records.now a.j c.key-k.result c.state_key.result c.get_at-signature.result c.key-k.ensures c.state_key.ensures c.get_at-signature.ensures c.put.ensures

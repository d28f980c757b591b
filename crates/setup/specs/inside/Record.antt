-- RULES 3.3: a record's kind and type in one number, and a subscription written into the state.
use Rattle.std.specs.Prelude.{◌≡◌, List, ℕ, ◌+◌, ◌*◌, ◌/◌, ◌%◌}
use Rattle.rules.specs.Setup.{Subscription}
use Rattle.subscriptions.specs.inside.Subscription.{with_subscription}

-- the kind is one byte, the type comes above it
pub record Keyed (a : Subscription) (k : ℕ) : Type 0 where
  pub kind : a.kind ≡ k % 256
  pub type : a.type ≡ k / 256

abbrev pub written : List ℕ → ℕ → Subscription → List ℕ
written m j a = with_subscription m j (a.kind * 65536 + a.type) a.signature

-- `find` meets its contract: the place that has the key is the subscription asked for.
use mathlib.Core.Path.{◌≡◌, sym, ap, ◌∙◌}
use mathlib.Core.List.{List}
use Prim.Native.Nat.{ℕ, ◌+◌, ◌*◌, ◌≤◌, ◌<◌}
use native.Mathlib.Omega.{arith}
use lib.ListN.{get_or}
use Rattle.bits.specs.Little.{le}
use Rattle.bits.specs.Part.{span}
use Rattle.keys.specs.inside.Keys.{lowest}
use Rattle.rules.specs.Setup.{subscribed}
use Rattle.state.specs.Layout.{signatures_at, subscription_count_at, setup_of}
use Rattle.subscriptions.specs.inside.Subscription.{asked}
use Rattle.std.specs.Prelude.{None, Some}
use Rattle.subscriptions.proofs.Lookup.{has, found, missing}
use Rattle.subscriptions.proofs.find.Goals as goal

module _ (m : List ℕ) (kind type : ℕ) (h : type < 65536) (j : ℕ) (e : j ≡ lowest (has m kind type h) 0 (get_or m subscription_count_at 0)) where
  abbrev n : ℕ
  n = get_or m subscription_count_at 0

  under : j < n → (g : ℕ) → g ≡ le (span m (signatures_at + j * 8) 8) → Some g ≡ asked (subscribed kind type (setup_of m).subscriptions)
  unfolding setup_of
  under l g q =
      sym (ap asked (found m kind type h n 0 (omega arith)) ∙ ap Some (ap (λ (x : ℕ). le (span m (signatures_at + x * 8) 8)) (sym e) ∙ sym q))

  not_listed : n ≤ j → None ≡ asked (subscribed kind type (setup_of m).subscriptions)
  unfolding setup_of
  not_listed l = sym (ap asked (missing m kind type h n 0 (omega arith)))

pub returns-then-j-n : goal.returns-then-j-n
returns-then-j-n c =
    under c.args.state.now c.args.kind c.args.type_id (omega arith) c.find-j.result c.find-j.ensures c.if-j-n.true c.get_u64.result c.get_u64.ensures

pub returns : goal.returns
returns c =
    not_listed c.args.state.now c.args.kind c.args.type_id (omega arith) c.find-j.result c.find-j.ensures c.if-j-n.false

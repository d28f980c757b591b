-- `admit` meets its contract.
use mathlib.Core.Path.{◌≡◌, refl, sym, ap, ◌∙◌}
use mathlib.Core.Bool.{Bool, true, false}
use Prim.Native.Nat.{ℕ, ◌<◌}
use native.Mathlib.Omega.{arith}
use lib.Dec.{eqb}
use Rattle.judge_stream.specs.inside.Kept.{stream_of, seen_of}
use Rattle.judge_streams.specs.inside.Table.{entries_of}
use Rattle.rules.specs.Frame.{unnamed}
use Rattle.rules.specs.Setup.{subscribed, kind_of}
use Rattle.rules.specs.Tests.{pick}
use Rattle.state.specs.Layout.{setup_of}
use Rattle.subscriptions.specs.inside.Subscription.{asked}
use Rattle.subscriptions.proofs.Lookup.{under, not-asked}
use Rattle.judge_capture.proofs.Checked.{not_found, anonymous, enters}
use Rattle.judge_capture.proofs.records.admit.Goals as goal
use Rattle.judge_capture.proofs.records.admit.Goals.{After-find}

kind-small : (t k : ℕ) → k ≡ pick (eqb t 0) 0 1 → k < 2
kind-small t k e = go (eqb t 0) e
  where
    go : (b : Bool) → k ≡ pick b 0 1 → k < 2
    go true q = omega arith
    go false q = omega arith

-- the answer of the look-up
found : (f : After-find) → let a = f.args in
    asked (subscribed (kind_of (stream_of a.v)) (stream_of a.v).type (setup_of a.state.now).subscriptions) ≡ f.find.result
found f =
    let a = f.args in
    sym (f.find.ensures
    ∙ ap (λ (k : ℕ). asked (subscribed k a.v.head.type_id (setup_of a.state.now).subscriptions)) f.kind.ensures)

pub find-requires : goal.find-requires
find-requires c =
    (c.requires.0, (kind-small c.args.v.head.transfer_type c.kind.result c.kind.ensures, omega arith))

pub returns-then-is_anonymous : goal.returns-then-is_anonymous
returns-then-is_anonymous c =
    let a = c.args in
    record {
      next =
          λ i.
          anonymous (setup_of a.state.now) (stream_of a.v) (entries_of a.table.now) (seen_of a.v a.p.now) i _ (under _ _ (found (goal.at.returns-then-is_anonymous c).After-find ∙ c.in-Some.is))
          (sym c.is_anonymous.ensures ∙ c.if-is_anonymous.true);
      table = c.requires.1.0;
      stays = tt;
    }

pub enter-requires : goal.enter-requires
enter-requires c =
    let fine = c.requires.1.1 in (
      c.requires.1.0,
      record {
        passed = fine.passed;
        stream = fine.stream;
        named = ap unnamed (sym fine.stream) ∙ sym c.is_anonymous.ensures ∙ c.if-is_anonymous.false;
      },
    )

pub returns-in_default : goal.returns-in_default
returns-in_default c =
    let a = c.args in
    record {
      next =
          λ i.
          not_found (setup_of a.state.now) (stream_of a.v) (entries_of a.table.now) (seen_of a.v a.p.now) i (not-asked _ (found (goal.at.returns-in_default c).After-find ∙ c.in_default.is));
      table = c.requires.1.0;
      stays = refl;
    }

pub returns : goal.returns
returns c =
    let a = c.args in
    let w = c.enter.ensures in
    record {
      next =
          λ i.
          w.next i
          ∙ enters (setup_of a.state.now) (stream_of a.v) (entries_of a.table.now) (seen_of a.v a.p.now) i _ (under _ _ (found (goal.at.returns c).After-find ∙ c.in-Some.is))
          (sym c.is_anonymous.ensures ∙ c.if-is_anonymous.false);
      table = w.table;
      stays = w.stays;
    }

-- `setup` meets its contract.
use mathlib.Core.Path.{refl, sym, ◌∙◌}
use mathlib.Core.Bool.{true, false}
use Prim.Native.Nat.{◌/◌, ◌%◌}
use native.Mathlib.Omega.{arith}
use borrow.Author.Tests.{lt-ltb, le-ltb, le-leb, lt-leb, eq-eqb, ne_eqb}
use lib.ListN.{length}
use Rattle.rules.specs.Limits.{subscriptions_max, subscription_record}
use Rattle.setup.proofs.Answers.{tests, short, refused, done}
use Rattle.setup.proofs.setup.Goals as goal

pub returns-then-state-lt-SIZE : goal.returns-then-state-lt-SIZE
returns-then-state-lt-SIZE c =
    let a = c.args in
    short a.state.now a.own a.subscriptions.now c.if-state-lt-SIZE.true

pub returns-then-len-gt0 : goal.returns-then-len-gt0
returns-then-len-gt0 c =
    let a = c.args in
    let r = a.subscriptions.now in
    refused a.state.now a.own r (omega arith)
    (tests a.own r false _ _ _ (ne_eqb (length r % subscription_record) 0 (λ e. omega arith)) refl refl refl)

pub returns-then-own-gt127 : goal.returns-then-own-gt127
returns-then-own-gt127 c =
    let a = c.args in
    let r = a.subscriptions.now in
    refused a.state.now a.own r (omega arith)
    (tests a.own r true false _ _ (eq-eqb (length r % subscription_record) 0 (omega arith)) (le-ltb a.own 128 (omega arith)) refl refl)

pub returns-then-n-gt-SUBSCRIPTIONS : goal.returns-then-n-gt-SUBSCRIPTIONS
returns-then-n-gt-SUBSCRIPTIONS c =
    let a = c.args in
    let r = a.subscriptions.now in
    refused a.state.now a.own r (omega arith)
    (tests a.own r true true false _ (eq-eqb (length r % subscription_record) 0 (omega arith)) (lt-ltb a.own 128 (omega arith)) (lt-leb (length r / subscription_record) subscriptions_max (omega arith)) refl)

pub returns-then-all_fit : goal.returns-then-all_fit
returns-then-all_fit c =
    let a = c.args in
    let r = a.subscriptions.now in
    done a.state.now a.own r (omega arith)
    (tests a.own r true true true true (eq-eqb (length r % subscription_record) 0 (omega arith)) (lt-ltb a.own 128 (omega arith)) (le-leb (length r / subscription_record) subscriptions_max (omega arith))
    (sym c.all_fit.ensures ∙ c.if-all_fit.true)) c.write.new.state c.write.ensures

pub returns : goal.returns
returns c =
    let a = c.args in
    let r = a.subscriptions.now in
    refused a.state.now a.own r (omega arith)
    (tests a.own r true true true false (eq-eqb (length r % subscription_record) 0 (omega arith)) (lt-ltb a.own 128 (omega arith)) (le-leb (length r / subscription_record) subscriptions_max (omega arith))
    (sym c.all_fit.ensures ∙ c.if-all_fit.false))

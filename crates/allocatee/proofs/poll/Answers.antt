-- `poll` meets its contract.
use mathlib.Core.Path.{◌≡◌, sym, ◌∙◌}
use mathlib.Core.Bool.{true}
use Rattle.allocatee.specs.Layout.{sound_state}
use Rattle.allocatee.proofs.Polling.{is-pending, polled-faulty, polled-has, polled-follows-up, polled-requests, polled-waits}
use Rattle.allocatee.proofs.Views.{long-enough, pending-small}
use Rattle.allocatee.proofs.poll.Goals as goal

pub returns-then-not-is_sound : goal.returns-then-not-is_sound
returns-then-not-is_sound c =
    let a = c.args in
    polled-faulty a.bytes.now a.time a.random a.out.now (sym c.is_sound.ensures ∙ c.if-not-is_sound.true)

pub node-node-requires : goal.node-node-requires
node-node-requires c =
    let a = c.args in
    let m = a.bytes.now in
    let s : sound_state m ≡ true = sym c.is_sound.ensures ∙ c.if-not-is_sound.false in
    long-enough m s

pub returns-then-node-ne0 : goal.returns-then-node-ne0
returns-then-node-ne0 c =
    let a = c.args in
    let m = a.bytes.now in
    let s : sound_state m ≡ true = sym c.is_sound.ensures ∙ c.if-not-is_sound.false in
    polled-has m a.time a.random a.out.now s c.node-node.result c.node-node.ensures.0 c.if-node-ne0.true

pub follow_up_due-requires : goal.follow_up_due-requires
follow_up_due-requires c =
    let a = c.args in
    let m = a.bytes.now in
    let s : sound_state m ≡ true = sym c.is_sound.ensures ∙ c.if-not-is_sound.false in
    long-enough m s

pub follow_up-requires : goal.follow_up-requires
follow_up-requires c =
    let a = c.args in
    let m = a.bytes.now in
    let s : sound_state m ≡ true = sym c.is_sound.ensures ∙ c.if-not-is_sound.false in
    (long-enough m s, (is-pending m a.time (sym c.follow_up_due.ensures ∙ c.if-follow_up_due.true), pending-small m s))

pub returns-then-follow_up_due : goal.returns-then-follow_up_due
returns-then-follow_up_due c =
    let a = c.args in
    let m = a.bytes.now in
    let s : sound_state m ≡ true = sym c.is_sound.ensures ∙ c.if-not-is_sound.false in
    c.follow_up.ensures ∙ polled-follows-up m a.time a.random a.out.now s c.node-node.result c.node-node.ensures.0 c.if-node-ne0.false (sym c.follow_up_due.ensures ∙ c.if-follow_up_due.true)

pub request_due-requires : goal.request_due-requires
request_due-requires c =
    let a = c.args in
    let m = a.bytes.now in
    let s : sound_state m ≡ true = sym c.is_sound.ensures ∙ c.if-not-is_sound.false in
    long-enough m s

pub request-requires : goal.request-requires
request-requires c =
    let a = c.args in
    let m = a.bytes.now in
    let s : sound_state m ≡ true = sym c.is_sound.ensures ∙ c.if-not-is_sound.false in
    long-enough m s

pub returns-then-request_due : goal.returns-then-request_due
returns-then-request_due c =
    let a = c.args in
    let m = a.bytes.now in
    let s : sound_state m ≡ true = sym c.is_sound.ensures ∙ c.if-not-is_sound.false in
    c.request.ensures
    ∙ polled-requests m a.time a.random a.out.now s c.node-node.result c.node-node.ensures.0 c.if-node-ne0.false (sym c.follow_up_due.ensures ∙ c.if-follow_up_due.false) (sym c.request_due.ensures ∙ c.if-request_due.true)

pub wait-requires : goal.wait-requires
wait-requires c =
    let a = c.args in
    let m = a.bytes.now in
    let s : sound_state m ≡ true = sym c.is_sound.ensures ∙ c.if-not-is_sound.false in
    long-enough m s

pub returns : goal.returns
returns c =
    let a = c.args in
    let m = a.bytes.now in
    let s : sound_state m ≡ true = sym c.is_sound.ensures ∙ c.if-not-is_sound.false in
    polled-waits m a.time a.random a.out.now s c.node-node.result c.node-node.ensures.0 c.if-node-ne0.false (sym c.follow_up_due.ensures ∙ c.if-follow_up_due.false)
    (sym c.request_due.ensures ∙ c.if-request_due.false) c.wait.result c.wait.ensures

-- `check::not_sendable` meets its contract, case by case.
use mathlib.Core.Path.{sym, ◌∙◌}
use Rattle.sender.specs.Send.{call_of}
use Rattle.sender.proofs.NotSendable.{over-own, over-kind, off-aim, over-priority, over-transfer, unnamed, named}
use Rattle.sender.proofs.check.not_sendable.Goals as goal

pub returns-then-c-gt127 : goal.returns-then-c-gt127
returns-then-c-gt127 c =
    let a = c.args in
    over-own (call_of a.c a.payload.now) c.if-c-gt127.true

pub returns-then-c-gt2 : goal.returns-then-c-gt2
returns-then-c-gt2 c =
    let a = c.args in
    over-kind (call_of a.c a.payload.now) c.if-c-gt127.false c.if-c-gt2.true

pub returns-then-bad_address : goal.returns-then-bad_address
returns-then-bad_address c =
    let a = c.args in
    off-aim (call_of a.c a.payload.now) c.if-c-gt127.false c.if-c-gt2.false (sym c.bad_address.ensures ∙ c.if-bad_address.true)

pub returns-then-c-gt31 : goal.returns-then-c-gt31
returns-then-c-gt31 c =
    let a = c.args in
    over-priority (call_of a.c a.payload.now) c.if-c-gt127.false c.if-c-gt2.false (sym c.bad_address.ensures ∙ c.if-bad_address.false) c.if-c-gt31.true

pub returns-then-bad_transfer_id : goal.returns-then-bad_transfer_id
returns-then-bad_transfer_id c =
    let a = c.args in
    over-transfer (call_of a.c a.payload.now) c.if-c-gt127.false c.if-c-gt2.false (sym c.bad_address.ensures ∙ c.if-bad_address.false) c.if-c-gt31.false (sym c.bad_transfer_id.ensures ∙ c.if-bad_transfer_id.true)

pub returns-then-c-eq0 : goal.returns-then-c-eq0
returns-then-c-eq0 c =
    let a = c.args in
    c.bad_anonymous.ensures
    ∙ unnamed (call_of a.c a.payload.now) c.if-c-gt127.false c.if-c-gt2.false (sym c.bad_address.ensures ∙ c.if-bad_address.false) c.if-c-gt31.false (sym c.bad_transfer_id.ensures ∙ c.if-bad_transfer_id.false) c.if-c-eq0.true

pub returns : goal.returns
returns c =
    let a = c.args in
    named (call_of a.c a.payload.now) c.if-c-gt127.false c.if-c-gt2.false (sym c.bad_address.ensures ∙ c.if-bad_address.false) c.if-c-gt31.false (sym c.bad_transfer_id.ensures ∙ c.if-bad_transfer_id.false) c.if-c-eq0.false

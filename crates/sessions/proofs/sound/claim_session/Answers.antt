-- `sound::claim_session` meets its contract: nothing in hand, something in hand, and control fields out of range.
use mathlib.Core.Path.{sym, ◌∙◌}
use mathlib.Core.Bool.{◌&&◌}
use Prim.Native.Nat.{◌%◌}
use native.Mathlib.Omega.{arith}
use lib.Dec.{ltb}
use Rattle.bits.proofs.Octets.{octets-all}
use Rattle.state.specs.Layout.{count_at}
use Rattle.sessions.proofs.Fits.{idle-is, busy-is}
use Rattle.sessions.proofs.Listed.{idle-claimed, unfit-claimed, some-claimed, few-claimed}
use borrow.Author.Rules.{rules}
use Rattle.sessions.proofs.sound.claim_session.Goals as goal

pub returns-then-idle_fits : goal.returns-then-idle_fits
unfolding count_at
returns-then-idle_fits c =
    let a = c.args in
    let m = a.state.now in
    let o = octets-all m (search rules) in
    let g = c.get_u16-n in
    let h = c.get_u16-x in
    idle-claimed m a.i a.seen g.result g.ensures c.if-n-eq0.true (sym (idle-is m a.i g.result h.result o (omega arith) (omega arith) g.ensures h.ensures c.if-n-eq0.true) ∙ sym c.idle_fits.ensures ∙ c.if-idle_fits.true)

pub returns-then-n-eq0 : goal.returns-then-n-eq0
unfolding count_at
returns-then-n-eq0 c =
    let a = c.args in
    let m = a.state.now in
    let o = octets-all m (search rules) in
    let g = c.get_u16-n in
    let h = c.get_u16-x in
    unfit-claimed m a.i a.seen (sym (idle-is m a.i g.result h.result o (omega arith) (omega arith) g.ensures h.ensures c.if-n-eq0.true) ∙ sym c.idle_fits.ensures ∙ c.if-idle_fits.false)

pub needed-requires : goal.needed-requires
needed-requires c = few-claimed _ _ (sym c.busy_fits.ensures ∙ c.if-busy_fits.true)

pub claim-requires : goal.claim-requires
claim-requires c =
    let x = c.get_u16-x.result in
    let few = few-claimed c.get_u16-n.result (ltb (x % 256) 32 && ltb x 1536) (sym c.busy_fits.ensures ∙ c.if-busy_fits.true) in
    (c.requires, omega (arith, c.needed.ensures, few))

pub returns-then-busy_fits : goal.returns-then-busy_fits
unfolding count_at
returns-then-busy_fits c =
    let a = c.args in
    let m = a.state.now in
    let o = octets-all m (search rules) in
    let g = c.get_u16-n in
    let h = c.get_u16-x in
    c.claim.ensures
    ∙ some-claimed m a.i a.seen g.result g.ensures (sym (busy-is m a.i g.result h.result o (omega arith) (omega arith) g.ensures h.ensures c.if-n-eq0.false) ∙ sym c.busy_fits.ensures ∙ c.if-busy_fits.true)
    c.needed.result c.needed.ensures

pub returns : goal.returns
unfolding count_at
returns c =
    let a = c.args in
    let m = a.state.now in
    let o = octets-all m (search rules) in
    let g = c.get_u16-n in
    let h = c.get_u16-x in
    unfit-claimed m a.i a.seen (sym (busy-is m a.i g.result h.result o (omega arith) (omega arith) g.ensures h.ensures c.if-n-eq0.false) ∙ sym c.busy_fits.ensures ∙ c.if-busy_fits.false)

-- `relief::provide` meets its contract.
use native.Mathlib.Omega.{arith}
use Rattle.bits.proofs.Octets.{octets-all}
use Rattle.sessions.proofs.Eased.{map-ready, map-view}
use Rattle.sessions.proofs.Stale.{provided, emptied}
use borrow.Author.Rules.{rules}
use Rattle.sessions.proofs.relief.provide.Goals as goal

pub returns-then-lowest : goal.returns-then-lowest
returns-then-lowest c =
    let a = c.args in
    let p = c.requires in
    let o = octets-all a.state.now (search rules) in
    provided a.state.now p o a.t c.lowest.result c.lowest.ensures (omega (arith, c.if-lowest.true))

pub lowest-requires-2 : goal.lowest-requires-2
lowest-requires-2 c =
    let a = c.args in
    let p = c.requires in
    let o = octets-all a.state.now (search rules) in
    (map-ready a.state.now p o a.t _ c.relieve.ensures).long

pub returns : goal.returns
returns c =
    let a = c.args in
    let p = c.requires in
    let o = octets-all a.state.now (search rules) in
    let w = c.relieve.ensures in
    emptied a.state.now p o a.t c.lowest.result c.lowest.ensures (omega (arith, c.if-lowest.false)) _ (map-ready a.state.now p o a.t _ w) w (map-view a.state.now p o a.t _ w)
    c.lowest-2.result c.lowest-2.ensures

-- `relief::relieve` meets its contract. The invariant: the first i places are relieved.
use mathlib.Core.Path.{◌≡◌, sym, ap, ◌∙◌}
use Prim.Native.Nat.{ℕ}
use native.Mathlib.Numerals.{add-one}
use native.Mathlib.Omega.{arith}
use Rattle.bits.proofs.Octets.{octets-all}
use Rattle.rules.specs.Limits.{sessions_max}
use Rattle.state.proofs.Good.{same-table}
use Rattle.state.specs.Layout.{places_of}
use Rattle.state.specs.Place.{written}
use Rattle.sessions.proofs.Eased.{eased_to, one_more, eased-ready, eased-whole}
use borrow.Author.Rules.{rules}
use Rattle.sessions.proofs.relief.relieve.Goals as goal

pub loop-i-init : goal.loop-i-init
unfolding eased_to
loop-i-init c =
    let a = c.args in
    let o = octets-all a.state.now (search rules) in
    sym (same-table a.state.now c.requires o)

pub relieve_one-requires : goal.relieve_one-requires
relieve_one-requires c =
    let a = c.args in
    let o = octets-all a.state.now (search rules) in
    (eased-ready a.state.now c.requires o a.t c.loop-i.i (omega arith) c.loop-i.state c.loop-i.invariant, omega arith)

pub loop-i-preserved : goal.loop-i-preserved
loop-i-preserved c =
    let a = c.args in
    let o = octets-all a.state.now (search rules) in
    rw add-one (c.relieve_one.ensures ∙ one_more a.state.now c.requires o a.t c.loop-i.i (omega arith) c.loop-i.state c.loop-i.invariant)

pub returns : goal.returns
returns c =
    let a = c.args in
    let o = octets-all a.state.now (search rules) in
    let e : c.loop-i.i ≡ sessions_max = omega arith in
    eased-whole a.state.now c.requires o a.t c.loop-i.state (c.loop-i.invariant ∙ ap (λ (n : ℕ). written a.state.now (eased_to a.t n (places_of a.state.now))) e)

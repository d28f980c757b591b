-- `relief::relieve_one` meets its contract.
use mathlib.Core.Path.{sym, ap, ◌∙◌}
use lib.ListN.{set}
use Rattle.bits.proofs.Octets.{octets-all}
use Rattle.rules.specs.Table.{Place}
use Rattle.state.specs.Layout.{places_of}
use Rattle.state.specs.Place.{written}
use Rattle.sessions.proofs.Stale.{stale-key, expected-of, waits-for, relieved-yes, relieved-no}
use borrow.Author.Rules.{rules}
use Rattle.sessions.proofs.relief.relieve_one.Goals as goal

pub close-c-requires : goal.close-c-requires
close-c-requires c =
    let a = c.args in
    let p = c.requires in
    let o = octets-all a.state.now (search rules) in
    let y = sym c.is_stale.ensures ∙ c.if-is_stale.true in
    expected-of a.state.now p.0 o a.t a.i p.1 (stale-key a.state.now p.0 o a.t a.i p.1 y) c.load.result c.load.ensures

pub wait-requires : goal.wait-requires
wait-requires c =
    let a = c.args in
    let p = c.requires in
    let o = octets-all a.state.now (search rules) in
    let y = sym c.is_stale.ensures ∙ c.if-is_stale.true in
    waits-for a.state.now p.0 o a.t a.i p.1 (stale-key a.state.now p.0 o a.t a.i p.1 y) c.key-k.result c.load.result c.close-c.result
    c.key-k.ensures c.load.ensures c.close-c.ensures

pub returns-then-is_stale : goal.returns-then-is_stale
returns-then-is_stale c =
    let a = c.args in
    let p = c.requires in
    let o = octets-all a.state.now (search rules) in
    let y = sym c.is_stale.ensures ∙ c.if-is_stale.true in
    c.wait.ensures
    ∙ ap (λ (x : Place). written a.state.now (set (places_of a.state.now) a.i x))
    (relieved-yes a.state.now p.0 o a.t a.i p.1 (stale-key a.state.now p.0 o a.t a.i p.1 y) y c.key-k.result c.load.result c.close-c.result
    c.key-k.ensures c.load.ensures c.close-c.ensures)

pub returns-else-is_stale : goal.returns-else-is_stale
returns-else-is_stale c =
    let a = c.args in
    let p = c.requires in
    let o = octets-all a.state.now (search rules) in
    relieved-no a.state.now p.0 o a.t a.i p.1 (sym c.is_stale.ensures ∙ c.if-is_stale.false)

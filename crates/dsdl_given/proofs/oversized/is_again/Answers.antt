-- `oversized::is_again` meets its contract: what is left decides.
use Rattle.dsdl_given.proofs.Names.{among-turn, among_none}
use Rattle.dsdl_given.specs.inside.Places.{definition_at}
use Rattle.dsdl_text.specs.Text.{same}
use native.Mathlib.Omega.{arith}
use mathlib.Core.Bool.{true, false}
use mathlib.Core.Path.{sym, ap₂, ◌∙◌}
use Rattle.dsdl_given.proofs.oversized.is_again.Goals as goal

pub name-name-requires : goal.name-name-requires
name-name-requires c = c.requires.1.holds c.args.i c.requires.0

pub name-requires : goal.name-requires
name-requires c = c.requires.1.holds c.loop-j.j c.loop-j-test.true

pub returns-then-same : goal.returns-then-same
returns-then-same c =
    let a = c.args in
    let d = definition_at a.source.now a.bounds in
    sym (among-turn d c.loop-j.j a.n (d a.i).name true (omega arith) (sym (c.same.ensures ∙ ap₂ same c.name-name.ensures c.name.ensures) ∙ c.if-same.true)) ∙ c.loop-j.invariant

pub loop-j-preserved : goal.loop-j-preserved
loop-j-preserved c =
    let a = c.args in
    let d = definition_at a.source.now a.bounds in
    sym (among-turn d c.loop-j.j a.n (d a.i).name false (omega arith) (sym (c.same.ensures ∙ ap₂ same c.name-name.ensures c.name.ensures) ∙ c.if-same.false)) ∙ c.loop-j.invariant

pub returns : goal.returns
returns c =
    let a = c.args in
    let d = definition_at a.source.now a.bounds in
    sym (among_none d c.loop-j.j a.n (d a.i).name c.loop-j-test.false) ∙ c.loop-j.invariant

-- `find::is_unused` meets its contract, case by case.
use mathlib.Core.Path.{sym, ap, ◌∙◌}
use Prim.Native.Nat.{ℕ, ◌-◌, ◌<◌}
use native.Mathlib.Omega.{arith}
use borrow.Author.Tests.{lt-leb}
use lib.Dec.{leb}
use Rattle.id_map.proofs.Seek.{none-unused, age-unused}
use Rattle.rules.specs.Limits.{unused_age}
use Rattle.id_map.proofs.find.is_unused.Goals as goal

pub returns-then-key-eq0 : goal.returns-then-key-eq0
returns-then-key-eq0 c = let s = c.args in sym (none-unused s.map.now s.i s.t (sym c.key.ensures ∙ c.if-key-eq0.true))

pub returns-then-since-t : goal.returns-then-since-t
returns-then-since-t c =
    let s = c.args in
    ap (λ (x : ℕ). leb unused_age (s.t - x)) c.time-since.ensures ∙ sym (age-unused s.map.now s.i s.t (λ e. c.if-key-eq0.false (c.key.ensures ∙ e)))

pub returns : goal.returns
returns c =
    let s = c.args in
    let z : s.t - c.time-since.result < unused_age = omega arith in
    sym (lt-leb unused_age (s.t - c.time-since.result) z)
    ∙ ap (λ (x : ℕ). leb unused_age (s.t - x)) c.time-since.ensures ∙ sym (age-unused s.map.now s.i s.t (λ e. c.if-key-eq0.false (c.key.ensures ∙ e)))

-- `scan::is_old` meets its contract, case by case.
use mathlib.Core.Path.{◌≡◌, sym, ◌∙◌}
use mathlib.Core.Bool.{false}
use mathlib.Core.List.{List}
use Prim.Native.Nat.{ℕ, ◌-◌, ◌≤◌}
use native.Mathlib.Omega.{arith}
use borrow.Author.Tests.{eq-eqb, ne_eqb, le-ltb}
use lib.Dec.{ltb}
use Rattle.rules.specs.Limits.{old_age}
use Rattle.sessions.specs.inside.Scan.{old_at}
use Rattle.state.specs.Layout.{key_at, time_at}
use Rattle.sessions.proofs.scan.is_old.Goals as goal

module _ (m : List ℕ) (t i : ℕ) where
  unheld : key_at m i ≡ 0 → false ≡ old_at m t i
  unheld z = rw (eq-eqb (key_at m i) 0 z)

  by-age : (key_at m i ≡ 0 → ⊥) → (s : ℕ) → s ≡ time_at m i → ltb old_age (t - s) ≡ old_at m t i
  by-age z s e = rw (ne_eqb (key_at m i) 0 z, e)

pub returns-then-key-eq0 : goal.returns-then-key-eq0
returns-then-key-eq0 c = let s = c.args in unheld s.state.now s.t s.i (sym c.key.ensures ∙ c.if-key-eq0.true)

pub returns-then-since-t : goal.returns-then-since-t
returns-then-since-t c =
    let s = c.args in
    by-age s.state.now s.t s.i (λ e. c.if-key-eq0.false (c.key.ensures ∙ e)) c.time-since.result c.time-since.ensures

pub returns : goal.returns
returns c =
    let s = c.args in
    let z : s.t - c.time-since.result ≤ old_age = omega arith in
    sym (le-ltb old_age (s.t - c.time-since.result) z)
    ∙ by-age s.state.now s.t s.i (λ e. c.if-key-eq0.false (c.key.ensures ∙ e)) c.time-since.result c.time-since.ensures

-- `place::flags` meets its contract.
use mathlib.Core.Path.{◌≡◌, sym, ap, ◌∙◌}
use mathlib.Core.Bool.{Bool}
use Prim.Native.Nat.{◌+◌, ◌*◌}
use native.Mathlib.Omega.{arith}
use Rattle.state.specs.Place.{one}
use Rattle.sessions.proofs.place.flags.Goals as goal

pub returns-then-c : goal.returns-then-c
returns-then-c c = ap (λ (b : Bool). one b + 2 * c.args.c.follows) (sym c.if-c.true)

pub returns : goal.returns
returns c =
    let n = c.args.c.follows in
    let z : 2 * n ≡ 0 + 2 * n = omega arith in
    z ∙ ap (λ (b : Bool). one b + 2 * n) (sym c.if-c.false)

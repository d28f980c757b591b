-- `place::write` meets its contract: the four control bytes are one word.
use mathlib.Core.Path.{refl}
use Prim.Native.Nat.{◌<◌}
use native.Mathlib.Omega.{arith}
use Rattle.sessions.proofs.Stored.{codes}
use Rattle.state.proofs.Written.{one-lt}
use Rattle.sessions.proofs.place.write.Goals as goal
use Rattle.sessions.proofs.place.write.Goals.{After-flags}

flags-lt : (c : After-flags) → c.flags.result < 8
flags-lt c = omega (arith, c.flags.ensures, one-lt c.args.c.toggle, c.requires.1.1.1)

pub overflow_mul-word : goal.overflow_mul-word
overflow_mul-word c = omega (arith, flags-lt (goal.at.overflow_mul-word c).After-flags)

pub overflow_add-word : goal.overflow_add-word
overflow_add-word c = omega (arith, flags-lt (goal.at.overflow_add-word c).After-flags, c.requires.1.1.0)

pub overflow_mul-word-2 : goal.overflow_mul-word-2
overflow_mul-word-2 c = omega (arith, flags-lt (goal.at.overflow_mul-word-2 c).After-flags, c.requires.1.1.0)

pub overflow_add-word-2 : goal.overflow_add-word-2
overflow_add-word-2 c = omega (arith, flags-lt (goal.at.overflow_add-word-2 c).After-flags, c.requires.1.1.0, c.requires.1.0)

pub returns : goal.returns
returns c =
    let a = c.args in
    let p = c.requires in
    codes a.state.now _ _ a.i a.c a.c.expected c.flags.result refl c.flags.ensures (omega (arith, p.1.0)) (omega (arith, p.1.1.0)) (omega (arith, flags-lt (goal.at.returns c).After-flags))
    c.put_u32.ensures c.put_u64.ensures

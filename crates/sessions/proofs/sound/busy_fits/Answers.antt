-- `sound::busy_fits` meets its contract.
use mathlib.Core.Path.{sym, ap, ap₂}
use mathlib.Core.Bool.{Bool, ◌&&◌}
use native.Mathlib.Omega.{arith}
use Prim.Native.Nat.{◌%◌}
use borrow.Author.Tests.{lt-ltb, le-ltb, le-leb, lt-leb}
use lib.Dec.{ltb}
use Rattle.rules.specs.Limits.{gathered_max}
use Rattle.sessions.proofs.sound.busy_fits.Goals as goal

pub returns-then-n-gt-GATHERED : goal.returns-then-n-gt-GATHERED
returns-then-n-gt-GATHERED c = let a = c.args in ap (λ (b : Bool). b && (ltb (a.x % 256) 32 && ltb a.x 1536)) (sym (lt-leb a.n gathered_max (omega arith)))

pub returns-then-x-lt32 : goal.returns-then-x-lt32
returns-then-x-lt32 c =
    let a = c.args in
    ap₂ (λ (p q : Bool). p && (q && ltb a.x 1536)) (sym (le-leb a.n gathered_max (omega arith))) (sym (lt-ltb (a.x % 256) 32 (omega arith)))

pub returns : goal.returns
returns c =
    let a = c.args in
    ap₂ (λ (p q : Bool). p && (q && ltb a.x 1536)) (sym (le-leb a.n gathered_max (omega arith))) (sym (le-ltb (a.x % 256) 32 (omega arith)))

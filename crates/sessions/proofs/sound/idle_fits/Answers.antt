-- `sound::idle_fits` meets its contract.
use mathlib.Core.Path.{sym, ap}
use mathlib.Core.Bool.{Bool, ◌&&◌}
use native.Mathlib.Omega.{arith}
use Prim.Native.Nat.{◌%◌}
use borrow.Author.Tests.{lt-ltb, le-ltb}
use lib.Dec.{ltb}
use Rattle.sessions.proofs.sound.idle_fits.Goals as goal

pub returns-then-x-lt32 : goal.returns-then-x-lt32
returns-then-x-lt32 c = let x = c.args.x in ap (λ (b : Bool). b && ltb x 1536) (sym (lt-ltb (x % 512) 32 (omega arith)))

pub returns : goal.returns
returns c = let x = c.args.x in ap (λ (b : Bool). b && ltb x 1536) (sym (le-ltb (x % 512) 32 (omega arith)))

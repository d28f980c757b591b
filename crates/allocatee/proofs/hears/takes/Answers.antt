-- `hears::takes` meets its contract.
use mathlib.Core.Path.{◌≡◌}
use mathlib.Core.Bool.{Bool, true, false, not, ◌&&◌}
use Prim.Native.Nat.{ℕ}
use borrow.Author.Tests.{eq-eqb, ne_eqb}
use lib.Dec.{eqb}
use Rattle.allocatee.specs.Limits.{unique_id_max}
use Rattle.allocatee.proofs.hears.takes.Goals as goal

module _ (own : Bool) (n node : ℕ) (o : own ≡ true) where
  whole : n ≡ unique_id_max → not (eqb node 0) ≡ (own && (eqb n unique_id_max && not (eqb node 0)))
  whole e = rw (o, eq-eqb n unique_id_max e)

  part : (n ≡ unique_id_max → ⊥) → false ≡ (own && (eqb n unique_id_max && not (eqb node 0)))
  part e = rw (o, ne_eqb n unique_id_max e)

pub returns-then-n-eq-UNIQUE_ID : goal.returns-then-n-eq-UNIQUE_ID
returns-then-n-eq-UNIQUE_ID c = let a = c.args in whole a.own a.n a.node c.if-own.true c.if-n-eq-UNIQUE_ID.true

pub returns-then-own : goal.returns-then-own
returns-then-own c = let a = c.args in part a.own a.n a.node c.if-own.true c.if-n-eq-UNIQUE_ID.false

-- `record::run_end` meets its contract: every record passed has the ID of the first.
use mathlib.Core.Path.{◌≡◌, refl, sym, subst, ◌∙◌}
use mathlib.Core.Bool.{Bool, true, false}
use Prim.Native.Nat.{ℕ, ◌+◌, ◌≤◌, ◌<◌}
use native.Mathlib.Omega.{arith}
use borrow.Author.Tests.{eqb-true, eqb-false}
use lib.Dec.{eqb}
use Rattle.queue.specs.Layout.{given}
use Rattle.queue.specs.Queue.{Record, id_of}
use Rattle.queue.specs.inside.Run.{Run}
use Rattle.queue.proofs.record.run_end.Goals as goal

alone : (f : ℕ → Record) (i k : ℕ) → i < k → Run f i (i + 1) k
alone f i k h = record { some = omega arith; within = omega arith; alike = λ j a b. (let e : j ≡ i = omega arith in rw e refl) }

longer : (f : ℕ → Record) (i e k : ℕ) → Run f i e k → e < k → id_of (f e) ≡ id_of (f i) → Run f i (e + 1) k
longer f i e k r h s = record { some = omega (arith, r.some); within = omega arith; alike = λ j a b. go j a b (eqb j e) refl } where
  go : (j : ℕ) → i ≤ j → j < e + 1 → (t : Bool) → eqb j e ≡ t → id_of (f j) ≡ id_of (f i)
  go j a b true x = let z : j ≡ e = eqb-true j e x in rw z s
  go j a b false x = let z : j ≡ e → ⊥ = eqb-false j e x in r.alike j a (omega arith)

pub overflow_mul-i : goal.overflow_mul-i
overflow_mul-i c = omega arith

pub id-own-requires : goal.id-own-requires
id-own-requires c = omega arith

pub loop-e-init : goal.loop-e-init
loop-e-init c = let a = c.args in (c.id-own.ensures, alone (given a.records.now) a.i a.k (omega arith))

pub overflow_mul-e : goal.overflow_mul-e
overflow_mul-e c = omega arith

pub id-requires : goal.id-requires
id-requires c = omega arith

pub returns-then-id-own : goal.returns-then-id-own
returns-then-id-own c = c.loop-e.invariant.1

pub loop-e-preserved : goal.loop-e-preserved
loop-e-preserved c =
    let a = c.args in (
      c.loop-e.invariant.0,
      longer (given a.records.now) a.i c.loop-e.e a.k c.loop-e.invariant.1 (omega arith) (sym c.id.ensures ∙ c.if-id-own.false ∙ c.loop-e.invariant.0),
    )

pub returns : goal.returns
returns c =
    let a = c.args in
    let e : c.loop-e.e ≡ a.k = omega arith in
    subst (λ (n : ℕ). Run (given a.records.now) a.i n a.k) e c.loop-e.invariant.1

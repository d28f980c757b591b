-- `write` meets its contract. The invariant: the layout with the first j subscriptions.
use mathlib.Core.Path.{◌≡◌, refl, sym, ap, ap₂, ◌∙◌}
use mathlib.Core.List.{List, [], ◌++◌}
use Prim.Native.Nat.{ℕ, ◌/◌}
use native.Mathlib.Omega.{arith}
use lib.ListN.{length, drop, set, replicate, length-set}
use Rattle.rules.specs.Limits.{subscription_record}
use Rattle.setup.specs.Setup.{record_at, given, state_of}
use Rattle.setup.specs.inside.Record.{written}
use Rattle.setup.proofs.Laid.{laid_out, laid-turn, laid-first, given-laid, past}
use Rattle.bits.specs.Tabulate.{tabulate}
use Rattle.bits.specs.Little.{le_bytes}
use Rattle.bits.specs.Part.{splice}
use Rattle.state.specs.Layout.{size, free_at}
use Rattle.setup.proofs.write.Goals as goal

-- before the loop: all is cleared, all blocks are free, the own ID and the number are written
module _ (m z s : List ℕ) (own n : ℕ) (d : z ≡ replicate size 0 ++ drop size m) (e : s ≡ splice z free_at (le_bytes 8 18446744073709551615)) where
  started : set (set s 0 own) 1 n ≡ laid_out own n [] (drop size m)
  started = ap (λ (x : List ℕ). set (set x 0 own) 1 n) (e ∙ ap (λ (x : List ℕ). splice x free_at (le_bytes 8 18446744073709551615)) d) ∙ laid-first own n (drop size m)

  behind : drop size (set (set s 0 own) 1 n) ≡ drop size m
  behind = ap (drop size) started ∙ past own n [] (omega arith) (drop size m)

as_long : (s : List ℕ) (own n : ℕ) → length (set (set s 0 own) 1 n) ≡ length s
as_long s own n = simp length-set

-- after the loop
finished : (own n j : ℕ) (r s rest rest' : List ℕ) → s ≡ laid_out own n (tabulate (record_at r) 0 j) rest → j ≡ n → n ≡ length r / subscription_record → rest ≡ rest'
    → s ≡ state_of (given own r) ++ rest'
finished own n j r s rest rest' e ej en er =
    e ∙ ap₂ (λ (k : ℕ) (x : List ℕ). laid_out own n (tabulate (record_at r) 0 k) x) ej er ∙ given-laid own r rest' n en

pub clear-requires : goal.clear-requires
clear-requires c = omega arith

pub put_at-requires : goal.put_at-requires
put_at-requires c = omega (arith, c.clear.auto.state)

pub overflow_cast-state : goal.overflow_cast-state
overflow_cast-state c = omega arith

pub bounds-state-0 : goal.bounds-state-0
bounds-state-0 c = omega (arith, c.put_at.auto.s, c.clear.auto.state)

pub overflow_cast-state-2 : goal.overflow_cast-state-2
overflow_cast-state-2 c = omega arith

pub bounds-state-1 : goal.bounds-state-1
bounds-state-1 c = simp length-set (omega (arith, c.put_at.auto.s, c.clear.auto.state))

pub loop-j-init : goal.loop-j-init
unfolding tabulate
loop-j-init c =
    let a = c.args in
    let m = a.state.now in
    let z = c.clear.new.state in
    let s = c.put_at.new.s in
    ((omega arith, refl), started m z s a.own a.n c.clear.ensures c.put_at.ensures ∙ ap (laid_out a.own a.n []) (sym (behind m z s a.own a.n c.clear.ensures c.put_at.ensures)))

pub put-requires : goal.put-requires
put-requires c =
    let a = c.args in
    omega (arith, as_long c.put_at.new.s a.own a.n, c.put_at.auto.s, c.clear.auto.state, c.loop-j.invariant.0.1)

pub loop-j-preserved : goal.loop-j-preserved
loop-j-preserved c =
    let a = c.args in
    let r = a.records.now in (
      (omega arith, c.put.auto.state ∙ c.loop-j.invariant.0.1),
      c.put.ensures
          ∙ ap (λ (x : List ℕ). written x c.loop-j.j (record_at r c.loop-j.j)) c.loop-j.invariant.1
          ∙ laid-turn a.own a.n (record_at r) _ c.loop-j.j (omega (arith, c.loop-j-test.true, c.requires.1.0)),
    )

pub shape_of-state : goal.shape_of-state
shape_of-state c =
    let a = c.args in
    c.loop-j.invariant.0.1 ∙ as_long c.put_at.new.s a.own a.n ∙ c.put_at.auto.s ∙ c.clear.auto.state

pub returns : goal.returns
returns c =
    let a = c.args in
    finished a.own a.n c.loop-j.j a.records.now c.loop-j.state _ (drop size a.state.now) c.loop-j.invariant.1 (omega arith) (omega arith)
    (behind a.state.now c.clear.new.state c.put_at.new.s a.own a.n c.clear.ensures c.put_at.ensures)

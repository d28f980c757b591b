-- `records::write` meets its contract.
use Rattle.dsdl_signature.proofs.Joined.{joined-fixed, one_written, record-length}
use Rattle.dsdl_signature.specs.Call.{record_size}
use Rattle.dsdl_signature.specs.inside.Written.{joined, record_at}
use Rattle.bits.specs.Part.{splice}
use Rattle.bits.proofs.Splice.{length-splice}
use native.Mathlib.Omega.{arith}
use lib.ListN.{length, get_or}
use Prim.Native.Nat.{ℕ, ◌+◌, ◌*◌, ◌-◌}
use mathlib.Core.Path.{◌≡◌, refl, ap, ◌∙◌}
use Rattle.dsdl_signature.proofs.records.write.Goals as goal

pub loop-i-init : goal.loop-i-init
unfolding joined
loop-i-init c = (refl, refl)

pub loop-i-preserved : goal.loop-i-preserved
loop-i-preserved c =
    let a = c.args in
    let i = c.loop-i.i in
    let f = record_at a.ends a.signatures in
    let e : (j : ℕ) → length (f j) ≡ record_size = λ j. record-length (get_or a.ends (j + 1) 0 - get_or a.ends j 0) (get_or a.signatures j 0) in (
      ap length c.put.ensures ∙ (length-splice c.loop-i.records (i * record_size) (f i) (omega (arith, e i)) ∙ c.loop-i.invariant.0),
      one_written f a.records.now c.loop-i.records c.put.new.records (i * record_size) i (joined-fixed f record_size i e) (omega (arith, e i)) c.loop-i.invariant.1 c.put.ensures,
    )

pub returns : goal.returns
returns c =
    let a = c.args in
    let q : c.loop-i.i ≡ a.n = omega arith in
    c.loop-i.invariant.1 ∙ ap (λ (k : ℕ). splice a.records.now 0 (joined (record_at a.ends a.signatures) 0 k)) q

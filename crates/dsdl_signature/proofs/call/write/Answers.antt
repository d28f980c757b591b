-- `call::write` meets its contract.
use Rattle.dsdl_signature.proofs.Joined.{joined_same, forms-joined, records-joined}
use Rattle.dsdl_signature.specs.Call.{record_of}
use Rattle.dsdl_signature.specs.inside.Written.{form_at, record_at}
use Rattle.dsdl_nesting.specs.Signature.{signature}
use Rattle.dsdl_given.specs.inside.Places.{definition_at, given}
use Rattle.bits.specs.Part.{splice}
use native.Mathlib.Omega.{arith}
use lib.ListN.{length, get_or}
use Prim.Native.Nat.{ℕ, ◌+◌, ◌-◌, ◌<◌}
use mathlib.Core.Path.{◌≡◌, sym, ap, ap₂, ◌∙◌}
use Rattle.dsdl_signature.proofs.call.write.Goals as goal

pub write-requires : goal.write-requires
write-requires c = (c.requires.inside.0.few, (omega arith, λ i h. omega (arith, c.requires.ends.0.next i h)))

pub returns : goal.returns
returns c =
    let a = c.args in
    let d = definition_at a.source.now a.bounds in
    let ds = given a.source.now a.bounds a.n in
    let same : (j : ℕ) → j < a.n → record_at a.ends c.all-signatures.result j ≡ record_of (length (form_at a.source.now a.bounds j)) (signature ds (d j)) =
    λ j h. let l : get_or a.ends (j + 1) 0 - get_or a.ends j 0 ≡ length (form_at a.source.now a.bounds j) = omega (arith, c.requires.ends.0.next j h) in ap₂ record_of l (c.all-signatures.ensures j h) in (
      c.write-hashes.ensures.0 ∙ ap (splice a.out.now 0) (sym (forms-joined d 0 a.n)),
      c.write.ensures
          ∙ ap (splice a.records.now 0)
          (joined_same (record_at a.ends c.all-signatures.result) (λ (j : ℕ). record_of (length (form_at a.source.now a.bounds j)) (signature ds (d j))) a.n 0 (λ j h k. same j (omega arith)) ∙ sym (records-joined ds d 0 a.n)),
    )

-- `forms::write` meets its contract.
use Rattle.dsdl_signature.proofs.Joined.{joined_length, one_written, room, one-stored}
use Rattle.dsdl_signature.specs.inside.Written.{joined, form_at, Ends}
use Rattle.checksum.specs.Signature.{hash_from}
use Rattle.bits.specs.Part.{splice}
use Rattle.bits.proofs.Splice.{length-splice}
use native.Mathlib.Omega.{arith}
use lib.ListN.{length, get_or, length-set}
use Prim.Native.Nat.{ℕ, ◌+◌, ◌≤◌, ◌<◌}
use mathlib.Core.List.{List}
use mathlib.Core.Path.{◌≡◌, refl, ap, ◌∙◌}
use Rattle.dsdl_signature.proofs.forms.write.Goals as goal

-- form i has room
has_room : (source bounds ends out : List ℕ) (n i : ℕ) → Ends source bounds ends n × (get_or ends n 0 ≤ length out) → i < n
    → get_or ends i 0 + length (form_at source bounds i) ≤ length out
has_room source bounds ends out n i e h = room (λ (j : ℕ). length (form_at source bounds j)) ends n i (length out) e.0 h e.1

pub loop-i-init : goal.loop-i-init
unfolding joined
loop-i-init c = (refl, refl, refl, λ j h. absurd (omega arith))

pub put-requires : goal.put-requires
put-requires c =
    (c.requires.0.holds c.loop-i.i c.loop-i-test.true, omega (arith, has_room c.args.source.now c.args.bounds c.args.ends c.args.out.now c.args.n c.loop-i.i c.requires.1 c.loop-i-test.true))

pub loop-i-preserved : goal.loop-i-preserved
loop-i-preserved c =
    let a = c.args in
    let i = c.loop-i.i in
    let f = form_at a.source.now a.bounds in
    let v = c.loop-i.invariant in
    let r = has_room a.source.now a.bounds a.ends a.out.now a.n i c.requires.1 c.loop-i-test.true in
    let g : i < length c.loop-i.hashes = omega (arith, c.requires.0.few) in (
      length-set c.loop-i.hashes i c.put.result ∙ v.0,
      ap length c.put.ensures.0 ∙ (length-splice c.loop-i.out (get_or a.ends i 0) (f i) (omega arith) ∙ v.1),
      one_written f a.out.now c.loop-i.out c.put.new.out (get_or a.ends i 0) i (joined_length f a.ends a.n c.requires.1.0 i (omega arith)) r v.2 c.put.ensures.0,
      one-stored (λ (j : ℕ). hash_from 0 (f j)) c.loop-i.hashes i c.put.result g v.3 c.put.ensures.1,
    )

pub returns : goal.returns
returns c =
    let a = c.args in
    let q : c.loop-i.i ≡ a.n = omega arith in
    (c.loop-i.invariant.2 ∙ ap (λ (k : ℕ). splice a.out.now 0 (joined (form_at a.source.now a.bounds) 0 k)) q, λ j h. c.loop-i.invariant.3 j (omega arith))

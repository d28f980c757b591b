-- `forms::put` meets its contract.
use Rattle.dsdl.specs.Form.{form_of}
use Rattle.dsdl_signature.specs.inside.Written.{form_at}
use Rattle.dsdl_given.specs.inside.Places.{definition_at}
use Rattle.checksum.specs.Signature.{hash_from}
use Rattle.bits.specs.Part.{splice}
use Rattle.bits.proofs.Splice.{length-splice, span_same}
use native.Mathlib.Omega.{arith}
use lib.ListN.{length, take, drop}
use Prim.Native.Nat.{ℕ, ◌+◌, ◌-◌}
use mathlib.Core.List.{List}
use mathlib.Core.Path.{◌≡◌, ap, ap₂, ◌∙◌}
use Rattle.dsdl_signature.proofs.forms.put.Goals as goal

-- what is written is the form
is_form : (source bounds : List ℕ) (i : ℕ) {name text : List ℕ} → name ≡ (definition_at source bounds i).name → text ≡ (definition_at source bounds i).text
    → form_of name text ≡ form_at source bounds i
is_form source bounds i e f = ap₂ form_of e f

pub write-end-requires : goal.write-end-requires
write-end-requires c =
    let a = c.args in
    (c.text.ensures.1, omega (arith, ap length (is_form a.source.now a.bounds a.i c.name.ensures c.text.ensures.0), c.requires.1))

pub slice_bounds-hash_from-end : goal.slice_bounds-hash_from-end
slice_bounds-hash_from-end c =
    let a = c.args in
    let f = form_at a.source.now a.bounds a.i in
    let e = is_form a.source.now a.bounds a.i c.name.ensures c.text.ensures.0 in
    let w : c.write-end.new.out ≡ splice a.out.now a.at f = c.write-end.ensures.0 ∙ ap (splice a.out.now a.at) e in
    let r : c.write-end.result ≡ a.at + length f = c.write-end.ensures.1 ∙ ap (λ (l : List ℕ). a.at + length l) e in
    omega (arith, r, ap length w, length-splice a.out.now a.at f c.requires.1, c.requires.1)

pub returns : goal.returns
returns c =
    let a = c.args in
    let f = form_at a.source.now a.bounds a.i in
    let e = is_form a.source.now a.bounds a.i c.name.ensures c.text.ensures.0 in
    let w : c.write-end.new.out ≡ splice a.out.now a.at f = c.write-end.ensures.0 ∙ ap (splice a.out.now a.at) e in
    let r : c.write-end.result ≡ a.at + length f = c.write-end.ensures.1 ∙ ap (λ (l : List ℕ). a.at + length l) e in (
      w,
      c.hash_from.ensures ∙ ap (hash_from 0)
          (ap (λ (l : List ℕ). take (c.write-end.result - a.at) (drop a.at l)) w ∙ span_same a.out.now a.at f c.requires.1 (c.write-end.result - a.at) (omega (arith, r))),
    )

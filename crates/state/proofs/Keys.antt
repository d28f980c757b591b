-- A stream's key gives the stream back, and the stream its key.
use mathlib.Core.Path.{◌≡◌, refl, sym, ap, ◌∙◌}
use mathlib.Core.Bool.{Bool, true, false, ◌&&◌}
use Prim.Native.Nat.{ℕ, ◌+◌, ◌*◌, ◌-◌, ◌/◌, ◌%◌, ◌<◌}
use native.Mathlib.Omega.{arith}
use borrow.Author.Tests.{eqb-true, eqb-false}
use lib.Dec.{eqb}
use Rattle.rules.proofs.Table.{same_refl}
use Rattle.rules.specs.Frame.{Stream, same_stream}
use Rattle.frame.specs.Key.{key_of, stream_of_key}

pub key-stream : (k : ℕ) → k < 4294967296 → key_of (stream_of_key k) ≡ k
unfolding key_of stream_of_key
key-stream k h =
    let t : k / 16384 % 65536 ≡ k / 16384 - k / 1073741824 * 65536 = omega arith in
    let s : k / 128 % 128 ≡ k / 128 - k / 16384 * 128 = omega arith in
    omega arith

pub stream-key : (d : Stream) → d.transfer_type < 4 → d.type < 65536 → d.source < 128 → d.destination < 128 → stream_of_key (key_of d) ≡ d
unfolding key_of stream_of_key
stream-key d hk ht hs hd =
    let k = ((d.transfer_type * 65536 + d.type) * 128 + d.source) * 128 + d.destination in
    let e₁ : k / 1073741824 ≡ d.transfer_type = omega arith in
    let q : k / 16384 ≡ d.transfer_type * 65536 + d.type = omega arith in
    let e₂ : k / 16384 % 65536 ≡ d.type = rw q (omega arith) in
    let r : k / 128 ≡ (d.transfer_type * 65536 + d.type) * 128 + d.source = omega arith in
    let e₃ : k / 128 % 128 ≡ d.source = rw r (omega arith) in
    let e₄ : k % 128 ≡ d.destination = omega arith in
    λ i. record { transfer_type = e₁ i; type = e₂ i; source = e₃ i; destination = e₄ i }

-- streams are the same exactly if they are equal
same_not : (x y : Stream) → (x ≡ y → ⊥) → same_stream x y ≡ false
unfolding same_stream
same_not x y n =
    four (eqb x.transfer_type y.transfer_type) refl (eqb x.type y.type) refl (eqb x.source y.source) refl (eqb x.destination y.destination) refl
  where
    four : (k : Bool) → eqb x.transfer_type y.transfer_type ≡ k → (t : Bool) → eqb x.type y.type ≡ t → (s : Bool) → eqb x.source y.source ≡ s
        → (d : Bool) → eqb x.destination y.destination ≡ d → (k && (t && (s && d))) ≡ false
    four true ek true et true es true ed = absurd (n (λ i. record {
      transfer_type = eqb-true x.transfer_type y.transfer_type ek i;
      type = eqb-true x.type y.type et i;
      source = eqb-true x.source y.source es i;
      destination = eqb-true x.destination y.destination ed i;
    }))
    four true ek true et true es false ed = refl
    four true ek true et false es d ed = refl
    four true ek false et s es d ed = refl
    four false ek t et s es d ed = refl

-- keys are equal exactly if their streams are the same
pub same_key : (a b : ℕ) → a < 4294967296 → b < 4294967296 → same_stream (stream_of_key a) (stream_of_key b) ≡ eqb a b
same_key a b ha hb = go (eqb a b) refl where
  go : (t : Bool) → eqb a b ≡ t → same_stream (stream_of_key a) (stream_of_key b) ≡ t
  go true e = ap (λ (k : ℕ). same_stream (stream_of_key a) (stream_of_key k)) (sym (eqb-true a b e)) ∙ same_refl (stream_of_key a)
  go false e =
      same_not (stream_of_key a) (stream_of_key b) (λ z. eqb-false a b e (sym (key-stream a ha) ∙ ap key_of z ∙ key-stream b hb))

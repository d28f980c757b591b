-- A call that 14 lets through: its fields, its stream, and the ID of an anonymous message.
use mathlib.Core.Path.{◌≡◌, refl, sym, ap, ◌∙◌}
use mathlib.Core.Bool.{Bool, true, false, not, ◌&&◌, ◌||◌}
use mathlib.Mathlib.Data.Bool.Basic.{and_intro, or-eq-false-eq-eq-false-and-eq-false as or_off}
use Prim.Native.Nat.{ℕ, ◌+◌, ◌*◌, ◌/◌, ◌%◌, ◌<◌}
use native.Mathlib.Omega.{arith}
use lib.Dec.{ltb, eqb}
use lib.ListN.{length}
use borrow.Author.Tests.{eqb-true, eqb-false, eq-eqb, ne_eqb, ltb-false, lt-ltb}
use Rattle.rules.specs.Frame as frame
use Rattle.rules.specs.Frame.{stream_if}
use Rattle.rules.specs.Sending.{Call, stream_of, is_anonymous, is_response, bad_type, bad_destination, bad_anonymous, not_sendable, anonymous_id}
use Rattle.rules.specs.SendingLaws.{InRange, AnonymousId}
use Rattle.rules.specs.Sound.{message_fits, service_fits, stream_fits}
use Rattle.rules.specs.Tests.{pick}

not-false : (b : Bool) → not b ≡ false → b ≡ true
not-false true e = refl
not-false false e = sym e

pub in-range : (c : Call) → not_sendable c ≡ false → InRange c
unfolding not_sendable
in-range c e =
    let e₁ = (or_off (ltb 127 c.own) _).0 e in
    let e₂ = (or_off (ltb 2 c.transfer_type) _).0 e₁.1 in
    let e₃ = (or_off (bad_type c.transfer_type c.type) _).0 e₂.1 in
    let e₄ = (or_off (bad_destination c.transfer_type c.destination) _).0 e₃.1 in
    let e₅ = (or_off (ltb 31 c.priority) _).0 e₄.1 in
    let e₆ = (or_off (is_response c && ltb 31 c.transfer) _).0 e₅.1 in
    let e₇ = (or_off (is_anonymous c && bad_anonymous c.discriminator c.type (length c.payload) c.transfer_type) false).0 e₆.1 in
    record {
      own = let q = ltb-false 127 c.own e₁.0 in omega arith;
      transfer_type = let q = ltb-false 2 c.transfer_type e₂.0 in omega arith;
      message = λ z.
          let b = eq-eqb c.transfer_type 0 z in
          let t = ltb-false 65535 c.type (rw b at e₃.0) in
          let d = ltb-false 0 c.destination (rw b at e₄.0) in
          (omega arith, omega arith);
      service = λ z.
          let b = ne_eqb c.transfer_type 0 z in
          let t = ltb-false 255 c.type (rw b at e₃.0) in
          let d : (eqb c.destination 0 || ltb 127 c.destination) ≡ false = rw b at e₄.0 in
          let p = (or_off (eqb c.destination 0) (ltb 127 c.destination)).0 d in
          let l = eqb-false c.destination 0 p.0 in
          let u = ltb-false 127 c.destination p.1 in
          (omega arith, (omega arith, omega arith));
      priority = let q = ltb-false 31 c.priority e₅.0 in omega arith;
      response = λ z. let q = ltb-false 31 c.transfer (rw (eq-eqb c.transfer_type 2 z) at e₆.0) in omega arith;
      anonymous = λ z.
          let u : bad_anonymous c.discriminator c.type (length c.payload) c.transfer_type ≡ false = rw (eq-eqb c.own 0 z) at e₇.0 in
          let u₁ = (or_off (ltb 16383 c.discriminator) _).0 u in
          let u₂ = (or_off (ltb 3 c.type) _).0 u₁.1 in
          let u₃ = (or_off (ltb 7 (length c.payload)) _).0 u₂.1 in
          let u₄ = (or_off (not (eqb c.transfer_type 0)) false).0 u₃.1 in
          let d = ltb-false 16383 c.discriminator u₁.0 in
          let t = ltb-false 3 c.type u₂.0 in
          let s = ltb-false 7 (length c.payload) u₃.0 in
          (omega arith, (omega arith, (s, eqb-true c.transfer_type 0 (not-false (eqb c.transfer_type 0) u₄.0))));
    }

module _ (c : Call) (r : InRange c) where
  pub stream-in : 0 < c.own → stream_fits (stream_of c) ≡ true
  unfolding stream_fits
  stream-in h =
      and_intro (and_intro (lt-ltb 0 c.own h) (lt-ltb c.own 128 r.own))
      (and_intro (lt-ltb c.transfer_type 3 r.transfer_type) (go (eqb c.transfer_type 0) refl))
    where
      go : (b : Bool) → eqb c.transfer_type 0 ≡ b → pick b (message_fits (stream_of c)) (service_fits (stream_of c)) ≡ true
      go true e =
          let m = r.message (eqb-true c.transfer_type 0 e) in
          and_intro (lt-ltb c.type 65536 m.0) (eq-eqb c.destination 0 m.1)
      go false e =
          let s = r.service (eqb-false c.transfer_type 0 e) in
          and_intro (lt-ltb c.type 256 s.0) (and_intro (lt-ltb 0 c.destination s.1.0) (lt-ltb c.destination 128 s.1.1))

  pub anonymous-id : c.own ≡ 0 → AnonymousId c
  unfolding anonymous_id frame.stream_of
  anonymous-id z =
      let a = r.anonymous z in
      let m = r.message a.1.1.1 in
      let p = r.priority in
      let id : ℕ = anonymous_id c in
      let s : id % 128 ≡ 0 = omega arith in
      let q7 : id / 128 ≡ 2 * (c.priority * 65536 + (4 * c.discriminator + c.type)) = omega arith in
      let b7 : id / 128 % 2 ≡ 0 = rw q7 (omega arith) in
      let f : eqb (id / 128 % 2) 1 ≡ false = ne_eqb (id / 128 % 2) 1 (λ e. omega arith) in
      let q8 : id / 256 ≡ 4 * (c.priority * 16384 + c.discriminator) + c.type = omega arith in
      let t : id / 256 % 4 ≡ c.type = rw q8 (omega arith) in
      record {
        small = omega arith;
        stream = ap (λ b. stream_if b id) f
            ∙ rw (eq-eqb (id % 128) 0 s) (λ i. record { transfer_type = sym a.1.1.1 i; type = t i; source = (s ∙ sym z) i; destination = sym m.1 i });
        priority = omega arith;
        anonymous = rw (f, eq-eqb (id % 128) 0 s);
      }

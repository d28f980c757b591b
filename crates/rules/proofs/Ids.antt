-- The ID that a named sender builds: what the receiver reads in it is what was put in.
-- (`omega` finds no remainder of a quotient in one step: the quotient is stated first.)
use mathlib.Core.Path.{◌≡◌, refl, sym, ap, ◌∙◌}
use mathlib.Core.Bool.{Bool, true, false, ◌&&◌}
use mathlib.Mathlib.Data.Bool.Basic.{and_elim_left, and_elim_right}
use Prim.Native.Nat.{ℕ, ◌+◌, ◌*◌, ◌/◌, ◌%◌, ◌^◌, ◌≤◌, ◌<◌}
use native.Mathlib.Omega.{arith}
use lib.Dec.{ltb, eqb}
use borrow.Author.Tests.{eqb-true, eqb-false, eq-eqb, ne_eqb, ltb-true}
use Rattle.rules.specs.Frame.{Stream, is_service, stream_if, stream_of, priority_of}
use Rattle.rules.specs.Sent.{flag, id_of}
use Rattle.rules.specs.SentLaws.{IdLaws}
use Rattle.rules.specs.Sound.{message_fits, service_fits, stream_fits}
use Rattle.rules.specs.Tests.{pick, bit}

pub bit_is : (n w : ℕ) (b : Bool) → n / w % 2 ≡ flag b → bit n w ≡ b
bit_is n w true e = eq-eqb (n / w % 2) 1 e
bit_is n w false e = ne_eqb (n / w % 2) 1 (λ k. omega arith)

pub flag-le : (b : Bool) → flag b ≤ 1
flag-le true = omega arith
flag-le false = omega arith

-- ── what a stream in range is ──

record Message (d : Stream) : Type 0 where
  pub transfer_type : d.transfer_type ≡ 0
  pub source : (0 < d.source) × (d.source < 128)
  pub type : d.type < 65536
  pub destination : d.destination ≡ 0

record Service (d : Stream) : Type 0 where
  pub transfer_type : (0 < d.transfer_type) × (d.transfer_type < 3)
  pub source : (0 < d.source) × (d.source < 128)
  pub type : d.type < 256
  pub destination : d.destination < 128

module _ (d : Stream) (h : stream_fits d ≡ true) where
  source_in : (0 < d.source) × (d.source < 128)
  unfolding stream_fits
  source_in =
      let k = and_elim_left (ltb 0 d.source && ltb d.source 128) _ h in
      (ltb-true 0 d.source (and_elim_left _ _ k), ltb-true d.source 128 (and_elim_right (ltb 0 d.source) _ k))

  kind_fits : (ltb d.transfer_type 3 && pick (eqb d.transfer_type 0) (message_fits d) (service_fits d)) ≡ true
  unfolding stream_fits
  kind_fits = and_elim_right (ltb 0 d.source && ltb d.source 128) _ h

  as-message : eqb d.transfer_type 0 ≡ true → Message d
  as-message e =
      let k : message_fits d ≡ true = rw e at (and_elim_right (ltb d.transfer_type 3) _ kind_fits) in
      record {
        transfer_type = eqb-true d.transfer_type 0 e;
        source = source_in;
        type = ltb-true d.type 65536 (and_elim_left _ _ k);
        destination = eqb-true d.destination 0 (and_elim_right (ltb d.type 65536) _ k);
      }

  as-service : eqb d.transfer_type 0 ≡ false → Service d
  as-service e =
      let k : service_fits d ≡ true = rw e at (and_elim_right (ltb d.transfer_type 3) _ kind_fits) in
      let b = and_elim_right (ltb d.type 256) _ k in
      record {
        transfer_type = (omega (arith, eqb-false d.transfer_type 0 e), ltb-true d.transfer_type 3 (and_elim_left _ _ kind_fits));
        source = source_in;
        type = ltb-true d.type 256 (and_elim_left _ _ k);
        destination = ltb-true d.destination 128 (and_elim_right (ltb 0 d.destination) _ b);
      }

-- ── both kinds of ID ──

abbrev message_id : ℕ → Stream → ℕ
message_id priority d = 16777216 * priority + (256 * d.type + d.source)

abbrev service_id : ℕ → Bool → Stream → ℕ
service_id priority request d =
    16777216 * priority + (65536 * d.type + (32768 * flag request + (256 * d.destination + (128 + d.source))))

message-stream : (priority : ℕ) (d : Stream) → Message d → stream_of (message_id priority d) ≡ d
unfolding stream_of
message-stream priority d m =
    let id : ℕ = message_id priority d in
    let a : id % 128 ≡ d.source = omega arith in
    let q : id / 256 ≡ priority * 65536 + d.type = omega arith in
    let b : id / 256 % 65536 ≡ d.type = rw q (omega arith) in
    let q7 : id / 128 ≡ priority * 131072 + 2 * d.type = omega arith in
    let b7 : id / 128 % 2 ≡ 0 = rw q7 (omega arith) in
    ap (λ k. stream_if k id) (ne_eqb (id / 128 % 2) 1 (λ e. omega arith))
    ∙ rw (ne_eqb (id % 128) 0 (λ e. omega arith)) (λ i. record { transfer_type = sym m.transfer_type i; type = b i; source = a i; destination = sym m.destination i })

service-read : (id : ℕ) (request : Bool) (d : Stream) → is_service id ≡ true → bit id 32768 ≡ request → pick request 1 2 ≡ d.transfer_type
    → id / 65536 % 256 ≡ d.type → id % 128 ≡ d.source → id / 256 % 128 ≡ d.destination → stream_of id ≡ d
unfolding stream_of
service-read id request d e r k t s g =
    ap (λ b. stream_if b id) e ∙ λ i. record { transfer_type = (ap (λ b. pick b 1 2) r ∙ k) i; type = t i; source = s i; destination = g i }

service-stream : (priority : ℕ) (request : Bool) (d : Stream) → Service d → pick request 1 2 ≡ d.transfer_type → stream_of (service_id priority request d) ≡ d
service-stream priority request d m k =
    let id : ℕ = service_id priority request d in
    let one : flag request ≤ 1 = flag-le request in
    let q7 : id / 128 ≡ priority * 131072 + (d.type * 512 + (256 * flag request + (d.destination * 2 + 1))) = omega arith in
    let q8 : id / 256 ≡ priority * 65536 + (d.type * 256 + (128 * flag request + d.destination)) = omega arith in
    let q15 : id / 32768 ≡ priority * 512 + (d.type * 2 + flag request) = omega arith in
    let q16 : id / 65536 ≡ priority * 256 + d.type = omega arith in
    service-read id request d (eq-eqb (id / 128 % 2) 1 (rw q7 (omega arith))) (bit_is id 32768 request (rw q15 (omega arith))) k
    (rw q16 (omega arith)) (omega arith) (rw q8 (omega arith))

request-kind : (d : Stream) → Service d → pick (eqb d.transfer_type 1) 1 2 ≡ d.transfer_type
request-kind d m = go (eqb d.transfer_type 1) refl
  where
    go : (b : Bool) → eqb d.transfer_type 1 ≡ b → pick b 1 2 ≡ d.transfer_type
    go true e = sym (eqb-true d.transfer_type 1 e)
    go false e = omega (arith, m.transfer_type, eqb-false d.transfer_type 1 e)

module _ (d : Stream) (priority : ℕ) (h : stream_fits d ≡ true) where
  id-is : (P : ℕ → Type 0) → (eqb d.transfer_type 0 ≡ true → P (message_id priority d)) → (eqb d.transfer_type 0 ≡ false → P (service_id priority (eqb d.transfer_type 1) d))
      → P (id_of d priority)
  unfolding id_of
  id-is P m s = go (eqb d.transfer_type 0) refl
    where
      go : (b : Bool) → eqb d.transfer_type 0 ≡ b
          → P (16777216 * priority + pick b (256 * d.type + d.source) (65536 * d.type + (32768 * flag (eqb d.transfer_type 1) + (256 * d.destination + (128 + d.source)))))
      go true e = m e
      go false e = s e

  id-stream : stream_of (id_of d priority) ≡ d
  id-stream =
      id-is (λ id. stream_of id ≡ d) (λ e. message-stream priority d (as-message d h e))
      (λ e. service-stream priority (eqb d.transfer_type 1) d (as-service d h e) (request-kind d (as-service d h e)))

  pub id-priority : priority_of (id_of d priority) ≡ priority
  id-priority =
      id-is (λ id. priority_of id ≡ priority) (λ e. omega (arith, as-message d h e))
      (λ e. omega (arith, as-service d h e, flag-le (eqb d.transfer_type 1)))

  id-small : priority < 32 → id_of d priority < 2 ^ 29
  id-small k =
      id-is (λ id. id < 2 ^ 29) (λ e. omega (arith, as-message d h e))
      (λ e. omega (arith, as-service d h e, flag-le (eqb d.transfer_type 1)))

-- ── and back ──

message-back : (id : ℕ) → (id % 128 ≡ 0 → ⊥) → is_service id ≡ false → id_of (stream_if false id) (priority_of id) ≡ id
unfolding id_of
message-back id s e =
    let b7 : id / 128 % 2 ≡ 1 → ⊥ = eqb-false (id / 128 % 2) 1 e in
    let q8 : id / 128 / 2 ≡ id / 256 = omega arith in
    let q24 : id / 256 / 65536 ≡ id / 16777216 = omega arith in
    rw (ne_eqb (id % 128) 0 s) (omega arith)

service-back : (id : ℕ) → is_service id ≡ true → id_of (stream_if true id) (priority_of id) ≡ id
unfolding id_of
service-back id e = go (bit id 32768) refl
  where
    b7 : id / 128 % 2 ≡ 1
    b7 = eqb-true (id / 128 % 2) 1 e

    sum : (r : ℕ) → id / 32768 % 2 ≡ r
        → 16777216 * (id / 16777216) + (65536 * (id / 65536 % 256) + (32768 * r + (256 * (id / 256 % 128) + (128 + id % 128)))) ≡ id
    sum r k =
        let q8 : id / 128 / 2 ≡ id / 256 = omega arith in
        let q15 : id / 256 / 128 ≡ id / 32768 = omega arith in
        let q16 : id / 32768 / 2 ≡ id / 65536 = omega arith in
        let q24 : id / 65536 / 256 ≡ id / 16777216 = omega arith in
        let b = b7 in
        omega arith

    go : (b : Bool) → bit id 32768 ≡ b
        → 16777216 * (id / 16777216)
        + pick (eqb (pick b 1 2) 0) (256 * (id / 65536 % 256) + id % 128)
        (65536 * (id / 65536 % 256) + (32768 * flag (eqb (pick b 1 2) 1) + (256 * (id / 256 % 128) + (128 + id % 128)))) ≡ id
    go true k = sum 1 (eqb-true (id / 32768 % 2) 1 k)
    go false k = sum 0 (omega (arith, eqb-false (id / 32768 % 2) 1 k))

id-back : (id : ℕ) → stream_fits (stream_of id) ≡ true → id_of (stream_of id) (priority_of id) ≡ id
unfolding stream_of
id-back id h = go (is_service id) refl h
  where
    go : (b : Bool) → is_service id ≡ b → stream_fits (stream_if b id) ≡ true → id_of (stream_if b id) (priority_of id) ≡ id
    go true e k = service-back id e
    go false e k = message-back id (λ z. omega (arith, source_in (stream_if false id) k)) e

pub id-laws : IdLaws
id-laws = record { small = id-small; stream = id-stream; priority = id-priority; back = id-back }

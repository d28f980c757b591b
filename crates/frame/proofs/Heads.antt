-- The fields of an ID, by whether it is a service's.
use mathlib.Core.Path.{◌≡◌, refl, ap}
use mathlib.Core.Bool.{Bool, true, false}
use Prim.Native.Nat.{ℕ, ◌%◌, ◌<◌}
use native.Mathlib.Omega.{arith}
use lib.Dec.{eqb}
use Rattle.rules.specs.Frame.{is_service, stream_if, stream_of}
use Rattle.rules.specs.Tests.{bit}

module _ (id : ℕ) (b : Bool) (e : is_service id ≡ b) where
  pub stream-is : stream_of id ≡ stream_if b id
  unfolding stream_of
  stream-is = ap (λ (x : Bool). stream_if x id) e

pub source_is : (id : ℕ) → (stream_of id).source ≡ id % 128
unfolding stream_of
source_is id = go (is_service id) where
  go : (b : Bool) → (stream_if b id).source ≡ id % 128
  go true = refl
  go false = refl

pub type-lt : (id : ℕ) → (stream_of id).type < 65536
unfolding stream_of
type-lt id = go (is_service id) (eqb (id % 128) 0) refl where
  go : (b c : Bool) → eqb (id % 128) 0 ≡ c → (stream_if b id).type < 65536
  go true c e = omega arith
  go false true e = rw e (omega arith)
  go false false e = rw e (omega arith)

pub transfer-type-lt : (id : ℕ) → (stream_of id).transfer_type < 3
unfolding stream_of
transfer-type-lt id = go (is_service id) (bit id 32768) refl where
  go : (b c : Bool) → bit id 32768 ≡ c → (stream_if b id).transfer_type < 3
  go true true e = rw e (omega arith)
  go true false e = rw e (omega arith)
  go false c e = omega arith

pub destination-lt : (id : ℕ) → (stream_of id).destination < 128
unfolding stream_of
destination-lt id = go (is_service id) where
  go : (b : Bool) → (stream_if b id).destination < 128
  go true = omega arith
  go false = omega arith

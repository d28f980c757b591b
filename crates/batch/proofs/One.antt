-- One record, received on a state without a fault.
use mathlib.Core.Path.{◌≡◌, ap}
use mathlib.Core.Bool.{Bool, true}
use mathlib.Core.List.{List}
use Prim.Native.Nat.{ℕ, ◌+◌, ◌*◌, ◌-◌, ◌^◌, ◌≤◌, ◌<◌}
use native.Mathlib.Nat.{add-sub_cancel_left}
use native.Mathlib.Omega.{arith}
use lib.ListN.{length, get_or}
use Rattle.batch.specs.Layout.{arrival_size, id_at, interface_at, length_at, data_at, data_length, arrival_at}
use Rattle.bits.proofs.Little.{le-lt}
use Rattle.bits.proofs.Octets.{octets-span}
use Rattle.bits.proofs.Splice.{length-span}
use Rattle.bits.specs.Little.{le}
use Rattle.bits.specs.Order.{Octets}
use Rattle.bits.specs.Part.{span}
use Rattle.guarantees.specs.Received.{Typed}
use Rattle.receiver.specs.Receive.{arrival_of, arriving, lent, received_if, received}
use Rattle.rules.specs.Frame.{Arrival}
use Rattle.rules.specs.Reception.{step}
use Rattle.state.specs.Layout.{setup_of, places_of}
use Rattle.state.specs.Sound.{sound_state}

-- the test for 20 is passed
pub tested : (m : List ℕ) (f : Arrival) (out : List ℕ) → sound_state m ≡ true → received m f out ≡ lent m out (step (setup_of m) (places_of m) (arriving f out))
unfolding received received_if
tested m f out fine = ap (λ (b : Bool). received_if b m f out) fine

-- the values that are read from record i
pub arrival-read : (r : List ℕ) (i id n time : ℕ) → id ≡ le (span r (i * arrival_size + id_at) 4) → n ≡ data_length (get_or r (i * arrival_size + length_at) 0)
    → time ≡ le (span r (i * arrival_size) 8)
    → arrival_of id (span r (i * arrival_size + data_at) (i * arrival_size + data_at + n - (i * arrival_size + data_at))) (get_or r (i * arrival_size + interface_at) 0) time ≡ arrival_at r i
unfolding arrival_at
arrival-read r i id n time e f g = rw (add-sub_cancel_left (i * arrival_size + data_at) n, e, f, g)

-- are in range
pub arrival-typed : (r : List ℕ) (i : ℕ) → Octets r → i * arrival_size + arrival_size ≤ length r → Typed (arrival_at r i).frame
unfolding arrival_at
arrival-typed r i o h =
    let t : le (span r (i * arrival_size) 8) < 256 ^ 8 =
    rw (length-span r (i * arrival_size) 8 (omega arith)) at (le-lt (span r (i * arrival_size) 8) (octets-span r (i * arrival_size) 8 o)) in
    record { bytes = octets-span r (i * arrival_size + data_at) (data_length (get_or r (i * arrival_size + length_at) 0)) o; time = omega arith }

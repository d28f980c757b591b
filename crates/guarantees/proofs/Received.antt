-- A table written into a state, and one reception: the view of the state after, and no fault in it.
use mathlib.Core.Path.{◌≡◌, ap, ◌∙◌}
use mathlib.Core.Bool.{Bool, true, false}
use mathlib.Core.List.{List, [], ◌∷◌}
use Prim.Native.Nat.{ℕ, zero, suc, ◌+◌, ◌*◌, ◌≤◌, ◌<◌}
use native.Mathlib.Omega.{arith}
use lib.Dec.{eqb}
use lib.ListN.{length, drop}
use Rattle.bits.proofs.Little.{le-lt}
use Rattle.bits.proofs.Octets.{octets-append, octets-take, octets-span}
use Rattle.bits.proofs.Splice.{length-span}
use Rattle.bits.specs.Order.{Octets}
use Rattle.bits.specs.Part.{span}
use Rattle.bits.specs.Tabulate.{tabulate}
use Rattle.guarantees.specs.Received.{Typed, step_on, ViewLaw, SoundLaw}
use Rattle.guarantees.specs.Written.{Writable, WritableAt, AllWritable, Stands, TableLaw}
use Rattle.guarantees.proofs.Writable.{step-writable, good, all_plain}
use Rattle.rules.proofs.Lasting.{lasting}
use Rattle.rules.specs.Frame.{Arrival}
use Rattle.rules.specs.Limits.{block_size}
use Rattle.rules.specs.Table.{empty, held}
use Rattle.rules.specs.Tests.{pick}
use Rattle.receiver.specs.Receive.{arriving, received_if, received}
use Rattle.state.proofs.Faultless.{long, setup-fine, table-sound}
use Rattle.state.proofs.Good.{length-written, view-written}
use Rattle.state.proofs.Written.{octets-written, past-written, setup-written, sound-written}
use Rattle.state.specs.Layout.{times_at, blocks_at, size, setup_of, key_at, count_at, time_at, blocks_of, joined, gathered_at, session_at, place_at, places_of}
use Rattle.frame.specs.Key.{stream_of_key}
use Rattle.state.specs.Place.{written}
use Rattle.state.specs.Sound.{sound_state}

-- ── what the bytes of a state hold ──

module _ (m : List ℕ) (bytes : Octets m) (long : size ≤ length m) where
  octets-joined : (bs : List ℕ) → Octets (joined m bs)
  unfolding joined
  octets-joined [] = tt
  octets-joined (b ∷ bs) =
      octets-append (span m (blocks_at + b * block_size) block_size) (joined m bs) (octets-span m (blocks_at + b * block_size) block_size bytes) (octets-joined bs)

  session-writable : (i : ℕ) → i < 32 → Writable (session_at m i)
  unfolding session_at time_at gathered_at
  session-writable i h =
      let n : length (span m (times_at + i * 8) 8) ≡ 8 = length-span m (times_at + i * 8) 8 (omega arith) in
      record {
        since = rw n at (le-lt (span m (times_at + i * 8) 8) (octets-span m (times_at + i * 8) 8 bytes));
        bytes = octets-take (count_at m i) (joined m (blocks_of m i)) (octets-joined (blocks_of m i));
      }

  place-writable : (i : ℕ) → i < 32 → WritableAt (place_at m i)
  unfolding place_at
  place-writable i h = go (eqb (key_at m i) 0) where
    go : (b : Bool) → WritableAt (pick b empty (held (stream_of_key (key_at m i)) (session_at m i) (blocks_of m i)))
    go true = tt
    go false = session-writable i h

  from-writable : (n i : ℕ) → i + n ≤ 32 → AllWritable (tabulate (place_at m) i n)
  unfolding tabulate
  from-writable zero i h = tt
  from-writable (suc n) i h = (place-writable i (omega arith), from-writable n (suc i) (omega arith))

  table-writable : AllWritable (places_of m)
  unfolding places_of
  table-writable = from-writable 32 0 (omega arith)

-- ── a table without a fault ──

pub table-law : TableLaw
table-law m ps fine bytes ok w =
    let l = long m fine in
    let g = good ps ok w in
    record {
      sound = sound-written m ps fine ok g;
      bytes = octets-written ps m bytes (all_plain ps ok w);
      setup = setup-written m ps l g (setup-fine m fine);
      places = view-written m ps l g;
      as_long = length-written m ps l g;
      past = past-written m ps l g;
    }

-- ── the state after ──

module _ (m : List ℕ) (f : Arrival) (out : List ℕ) (fine : sound_state m ≡ true) (bytes : Octets m) (typed : Typed f.frame) where
  state-is : (received m f out).state ≡ written m (step_on m f out).places
  unfolding received received_if
  state-is = rw fine

  stands : Stands m (step_on m f out).places
  stands =
      let u = setup_of m in
      let r = arriving f out in
      table-law m (step_on m f out).places fine bytes (lasting.reception u (places_of m) r (table-sound m fine))
      (step-writable u (places_of m) r (table-writable m bytes (long m fine)) typed)

pub view-law : ViewLaw
view-law m f out fine bytes typed =
    let e = state-is m f out fine bytes typed in
    let s = stands m f out fine bytes typed in
    record {
      setup = ap setup_of e ∙ s.setup;
      places = ap places_of e ∙ s.places;
      as_long = ap length e ∙ s.as_long;
      past = ap (drop size) e ∙ s.past;
    }

pub sound-law : SoundLaw
sound-law m f out fine bytes typed =
    let s = stands m f out fine bytes typed in
    rw (state-is m f out fine bytes typed) (s.sound, s.bytes)

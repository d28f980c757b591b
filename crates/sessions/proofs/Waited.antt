-- `wait` writes one place that has nothing in hand.
use mathlib.Core.Path.{◌≡◌, refl, sym, ap, ap₂, ◌∙◌}
use mathlib.Core.Bool.{Bool}
use mathlib.Core.List.{List, [], ◌∷◌, ◌++◌}
use Prim.Native.Nat.{ℕ, ◌+◌, ◌*◌, ◌^◌, ◌<◌}
use native.Mathlib.Omega.{arith}
use lib.ListN.{get_or, set}
use Rattle.bits.proofs.Splice.{splice-same}
use Rattle.bits.specs.Little.{le_bytes}
use Rattle.bits.specs.Order.{Octets}
use Rattle.blocks.specs.Stores.{Store, store_all}
use Rattle.blocks.specs.inside.Bit.{including_all}
use Rattle.frame.specs.Key.{stream_of_key}
use Rattle.rules.proofs.Lasting.{place-fits}
use Rattle.rules.specs.Blocks.{blocks_in}
use Rattle.rules.specs.Limits.{blocks_each}
use Rattle.rules.specs.Session.{Session, waiting}
use Rattle.rules.specs.Table.{Place, empty, held}
use Rattle.session.specs.declared.Session as coded
use Rattle.sessions.specs.inside.Place.{code_stores, Waits}
use Rattle.state.proofs.Free.{times_none, free-given}
use Rattle.state.proofs.Good.{Good, good-set, good-view, ready-shared, small_at}
use Rattle.state.proofs.Keys.{key-stream}
use Rattle.state.proofs.Put.{put}
use Rattle.state.proofs.Table.{length-places}
use Rattle.state.specs.Layout.{block_lists_at, free_of, places_of}
use Rattle.state.specs.Place.{one, control_of, free_set, free_store, key_store, control_store, time_store, list_store, block_stores, place_stores, written}

module _ (m : List ℕ) (i k : ℕ) (c : coded.Session) (bytes : Octets m) (word : k < 4294967296) (time : c.time < 2 ^ 64) (w : Waits m i k c) where
  abbrev s : Session
  s = waiting c.expected c.time c.follows

  abbrev p : Place
  p = held (stream_of_key k) s []

  pub good : Good (set (places_of m) i p)
  good =
      good-set (places_of m) i p (good-view m w.ready bytes) w.place
      (place-fits (stream_of_key k) s [] w.stream (record { expected = w.expected; follows = w.follows; size = omega arith; toggle = refl }) refl)
      time (λ b. omega (arith, times_none b))

  abbrev free : ℕ
  free = including_all (free_of m) (blocks_in (get_or (places_of m) i empty))

  freed : free ≡ free_set (set (places_of m) i p)
  freed =
      let sh = ready-shared m w.ready bytes in
      ap (λ (x : ℕ). including_all x (blocks_in (get_or (places_of m) i empty))) w.ready.free
      ∙ free-given (places_of m) i p (omega (arith, w.place, length-places m)) sh.once (small_at (places_of m) i sh) refl

  -- the stores of the code, and one of no bytes
  pub waited : store_all m (free_store free ∷ key_store i k ∷ code_stores i c) ≡ written m (set (places_of m) i p)
  unfolding store_all place_stores block_stores control_of
  waited =
      let l = w.ready.long in
      let m₄ = store_all m (free_store free ∷ key_store i k ∷ code_stores i c) in
      sym (splice-same m₄ (block_lists_at + i * blocks_each) [] 0 refl refl)
      ∙ ap₂ (λ (x : ℕ) (y : List Store). store_all m (free_store free ∷ key_store i x ∷ (y ++ (list_store i [] ∷ [])))) (sym (key-stream k word)) codes
      ∙ put m w.ready bytes i w.place p free good freed
    where
      codes : code_stores i c ≡ control_store i s ∷ time_store i s ∷ []
      codes =
          ap₂ (λ (n : ℕ) (t : Bool). record { at = 1168 + i * 4; bytes = le_bytes 2 n ++ (c.expected ∷ (one t + 2 * c.follows) ∷ []) } ∷ time_store i s ∷ []) w.len w.toggle

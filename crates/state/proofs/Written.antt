-- A whole table that is written: everything else is as it was, and a state without a fault stays one.
use mathlib.Core.Path.{◌≡◌, refl, sym, ap, ◌∙◌}
use mathlib.Core.Logic.{◌⊎◌, inl, inr}
use mathlib.Core.Bool.{Bool, true, false, ◌&&◌}
use mathlib.Core.List.{List, [], ◌∷◌, ◌++◌}
use Prim.Native.Nat.{ℕ, suc, ◌+◌, ◌*◌, ◌≤◌, ◌<◌}
use native.Mathlib.Omega.{arith}
use borrow.Author.Tests.{leb-true, le-leb, eq-eqb}
use lib.Dec.{leb, ltb}
use lib.ListN.{length, drop, get_or, length-drop}
use lib.Seq.{take_all}
use Rattle.bits.proofs.Little.{length-le_bytes, le-one}
use Rattle.bits.proofs.Octets.{octets-append, octets-splice, octets-le_bytes, octets-take, octets-drop}
use Rattle.bits.proofs.Tabulate.{length-tabulate, tab-same}
use Rattle.bits.specs.Little.{le, le_bytes}
use Rattle.bits.specs.Order.{Octets}
use Rattle.bits.specs.Part.{span, splice}
use Rattle.bits.specs.Tabulate.{tabulate}
use Rattle.blocks.proofs.Stores.{Clear, span-clear}
use Rattle.blocks.specs.Stores.{Store, store_all}
use Rattle.rules.specs.Limits.{subscriptions_max, block_size}
use Rattle.rules.specs.Setup.{all_fit, acceptable}
use Rattle.rules.specs.Sound.{sound}
use Rattle.rules.specs.Table.{Place, empty, held, Places}
use Rattle.state.specs.Layout.{size, subscription_key_at, subscription_at, setup_of, signatures_at, times_at, free_at, subscription_keys_at, stream_keys_at, own_at, subscription_count_at}
use Rattle.state.specs.Place.{one, flags_of, control_of, free_set, block_stores, place_stores, table_stores, written}
use Rattle.state.specs.Sound.{sound_state}
use Rattle.state.proofs.Bools.{and_left, and_right}
use Rattle.state.proofs.Faultless.{long, setup-fine}
use Rattle.state.proofs.Good.{Good, good-table, length-written, view-written, free-written, raw-written}
use Rattle.state.proofs.Places.{setup-clear, past-clear}
use Rattle.state.proofs.Table.{stores, within-stores, clear-table}
use Rattle.frame.specs.Key.{key_of}

-- ── bytes stay bytes ──

-- a place whose bytes are bytes
abbrev pub Plain : Place → Type 0
Plain empty = Unit {0}
Plain (held d s bs) = ((s.expected < 256) × (s.follows < 128)) × (Octets s.gathered × Octets bs)

abbrev pub AllPlain : Places → Type 0
AllPlain [] = Unit {0}
AllPlain (p ∷ ps) = Plain p × AllPlain ps

pub one-lt : (b : Bool) → one b < 2
one-lt true = omega arith
one-lt false = omega arith

abbrev AllOctets : List Store → Type 0
AllOctets [] = Unit {0}
AllOctets (w ∷ ws) = Octets w.bytes × AllOctets ws

octets-stores : (ws : List Store) (m : List ℕ) → Octets m → AllOctets ws → Octets (store_all m ws)
unfolding store_all
octets-stores [] m o h = o
octets-stores (w ∷ ws) m o h = octets-stores ws (splice m w.at w.bytes) (octets-splice m w.at w.bytes o h.0) h.1

append-octets : (vs ws : List Store) → AllOctets vs → AllOctets ws → AllOctets (vs ++ ws)
append-octets [] ws h k = k
append-octets (v ∷ vs) ws h k = (h.0, append-octets vs ws h.1 k)

blocks-octets : (bs g : List ℕ) → Octets g → AllOctets (block_stores bs g)
unfolding block_stores
blocks-octets [] g o = tt
blocks-octets (b ∷ bs) g o = (octets-take block_size g o, blocks-octets bs (drop block_size g) (octets-drop block_size g o))

place-octets : (i : ℕ) (p : Place) → Plain p → AllOctets (place_stores i p)
unfolding place_stores control_of
place-octets i empty h = (octets-le_bytes 4 0, tt)
place-octets i (held d s bs) h =
    let n = length s.gathered in (
      octets-le_bytes 4 (key_of d),
      (
        octets-append (le_bytes 2 n) (s.expected ∷ flags_of s ∷ []) (octets-le_bytes 2 n) (h.0.0, (omega (arith, one-lt s.toggle, h.0.1), tt)),
        (octets-le_bytes 8 s.since, (h.1.1, blocks-octets bs s.gathered h.1.0)),
      ),
    )

table-octets : (j : ℕ) (ps : Places) → AllPlain ps → AllOctets (table_stores j ps)
unfolding table_stores
table-octets j [] h = tt
table-octets j (p ∷ ps) h = append-octets (place_stores j p) (table_stores (suc j) ps) (place-octets j p h.0) (table-octets (suc j) ps h.1)

pub octets-written : (ps : Places) (m : List ℕ) → Octets m → AllPlain ps → Octets (written m ps)
unfolding written
octets-written ps m o h = octets-stores (stores ps) m o (octets-le_bytes 8 (free_set ps), table-octets 0 ps h)

-- ── what setup wrote, and what is past the layout ──

few-subscriptions : (m : List ℕ) → acceptable (setup_of m) ≡ true → get_or m subscription_count_at 0 ≤ subscriptions_max
unfolding acceptable setup_of
few-subscriptions m e =
    let xs = tabulate (subscription_at m) 0 (get_or m subscription_count_at 0) in
    omega (
      arith,
      leb-true (length xs) subscriptions_max (and_left (leb (length xs) subscriptions_max) (all_fit xs) (and_right (ltb (get_or m own_at 0) 128) (leb (length xs) subscriptions_max && all_fit xs) e)),
      length-tabulate (subscription_at m) 0 (get_or m subscription_count_at 0),
    )

module _ (m : List ℕ) (ps : Places) (long : size ≤ length m) (g : Good ps) where
  stays : (a n : ℕ) → Clear a n (stores ps) → span (written m ps) a n ≡ span m a n
  unfolding written
  stays a n c = span-clear (stores ps) m a n (within-stores m ps long (good-table ps g)) c

  setup-part : (a n : ℕ) → (a + n ≤ times_at) ⊎ ((free_at + 8 ≤ a) × (a + n ≤ stream_keys_at)) → span (written m ps) a n ≡ span m a n
  setup-part a n h =
      let t = good-table ps g in
      stays a n (free h, clear-table a n 0 ps (omega (arith, t.whole)) t.storable (λ i p k w. setup-clear i k p w a n h))
    where
      free : (a + n ≤ times_at) ⊎ ((free_at + 8 ≤ a) × (a + n ≤ stream_keys_at)) → (a + n ≤ free_at) ⊎ (free_at + length (le_bytes 8 (free_set ps)) ≤ a)
      free (inl k) = inl (omega (arith, k))
      free (inr k) = inr (omega (arith, k.0, length-le_bytes 8 (free_set ps)))

  high : (n : ℕ) → span (written m ps) size n ≡ span m size n
  high n =
      let t = good-table ps g in
      stays size n (inr (omega (arith, length-le_bytes 8 (free_set ps))), clear-table size n 0 ps (omega (arith, t.whole)) t.storable (λ i p k w. past-clear i k p w n))

  -- the bytes past the layout
  pub past-written : drop size (written m ps) ≡ drop size m
  past-written =
      let n = length m in
      let l = length-written m ps long g in
      sym (take_all n (drop size (written m ps)) (omega (arith, length-drop size (written m ps))))
      ∙ high n ∙ take_all n (drop size m) (omega (arith, length-drop size m))

  byte : (a : ℕ) → a < times_at → get_or (written m ps) a 0 ≡ get_or m a 0
  byte a h =
      let l = length-written m ps long g in
      sym (le-one (written m ps) a (omega arith)) ∙ ap le (setup-part a 1 (inl (omega arith))) ∙ le-one m a (omega arith)

  subscription : (j : ℕ) → j < subscriptions_max → subscription_at (written m ps) j ≡ subscription_at m j
  unfolding subscription_at subscription_key_at
  subscription j h = rw (setup-part (subscription_keys_at + j * 4) 4 (inr (omega arith, omega arith)), setup-part (signatures_at + j * 8) 8 (inl (omega arith)))

  pub setup-written : acceptable (setup_of m) ≡ true → setup_of (written m ps) ≡ setup_of m
  unfolding setup_of
  setup-written ok =
      let f = few-subscriptions m ok in
      let o = byte own_at (omega arith) in
      let s : tabulate (subscription_at (written m ps)) 0 (get_or (written m ps) subscription_count_at 0) ≡ tabulate (subscription_at m) 0 (get_or m subscription_count_at 0) =
      ap (tabulate (subscription_at (written m ps)) 0) (byte subscription_count_at (omega arith))
      ∙ tab-same (subscription_at (written m ps)) (subscription_at m) (get_or m subscription_count_at 0) 0 (λ l a b. subscription l (omega arith)) in
      λ i. record { own = o i; subscriptions = s i }

-- a state without a fault that a table without one is written into has none
pub sound-written : (m : List ℕ) (ps : Places) → sound_state m ≡ true → sound ps ≡ true → Good ps → sound_state (written m ps) ≡ true
unfolding sound_state
sound-written m ps fine ok g =
    let l = long m fine in
    let u = setup-fine m fine in
    rw (
      length-written m ps l g,
      le-leb size (length m) l,
      setup-written m ps l g u,
      u,
      raw-written m ps l g,
      free-written m ps l g,
      view-written m ps l g,
      eq-eqb (free_set ps) (free_set ps) refl,
      ok,
    )

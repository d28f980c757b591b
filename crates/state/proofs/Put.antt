-- One place of the table written: the free blocks and what the place then holds.
use mathlib.Core.Path.{◌≡◌, sym, ap, subst, ◌∙◌}
use mathlib.Core.Logic.{◌⊎◌, inl, inr}
use mathlib.Core.List.{List, [], ◌∷◌}
use Prim.Native.Nat.{ℕ, zero, suc, ◌+◌, ◌≤◌, ◌<◌}
use native.Mathlib.Omega.{arith}
use lib.ListN.{length, get_or, set}
use lib.Seq.{get_or-set_same, get_or-set_other}
use Rattle.bits.proofs.Little.{length-le_bytes}
use Rattle.bits.specs.Little.{le_bytes}
use Rattle.bits.specs.Order.{Octets}
use Rattle.bits.specs.Part.{span}
use Rattle.blocks.proofs.Stores.{Within, There, Clear, Apart, Agree, Covered, stored, apart-append, covered-by, there-all}
use Rattle.blocks.specs.Stores.{Store, store_all}
use Rattle.rules.proofs.Shares.{used-set}
use Rattle.rules.specs.Blocks.{blocks_in, used, times}
use Rattle.rules.specs.Limits.{sessions_max}
use Rattle.rules.specs.Table.{Place, empty, Places}
use Rattle.state.proofs.Chunks.{Once}
use Rattle.state.proofs.Free.{times_none}
use Rattle.state.proofs.Good.{Good, good-table, times-at, view-place}
use Rattle.state.proofs.Places.{free-clear, within-place, apart-places, disjoint-place, resized}
use Rattle.state.proofs.Table.{AllStorable, puts, within-stores, once-of, place_of, length-places}
use Rattle.state.proofs.View.{Storable}
use Rattle.state.specs.Layout.{free_at, place_at, places_of}
use Rattle.state.specs.Place.{free_set, free_store, place_stores, written}
use Rattle.state.specs.inside.Ready.{Ready}

-- what is clear of stores, the stores are apart from
flip : (a : ℕ) (ys : List ℕ) (ws : List Store) → Clear a (length ys) ws → Apart ws (record { at = a; bytes = ys } ∷ [])
flip a ys [] c = tt
flip a ys (w ∷ ws) c = ((turn c.0, tt), flip a ys ws c.1)
  where
    turn : (a + length ys ≤ w.at) ⊎ (w.at + length w.bytes ≤ a) → (w.at + length w.bytes ≤ a) ⊎ (a + length ys ≤ w.at)
    turn (inl h) = inr h
    turn (inr h) = inl h

storable-at : (ps : Places) (l : ℕ) → AllStorable ps → Storable (get_or ps l empty)
storable-at [] l w = tt
storable-at (p ∷ ps) zero w = w.0
storable-at (p ∷ ps) (suc l) w = storable-at ps l w.1

-- two places of a table
two-places : (ps : Places) (i j b : ℕ) → i < length ps → (j ≡ i → ⊥)
    → times b (blocks_in (get_or ps i empty)) + times b (blocks_in (get_or ps j empty)) ≤ times b (used ps)
two-places ps i j b h o =
    omega (
      arith,
      used-set ps i empty b h,
      times_none b,
      times-at b j (set ps i empty),
      ap (λ (p : Place). times b (blocks_in p)) (get_or-set_other ps i j empty empty o),
    )

module _ (m : List ℕ) (r : Ready m) (bytes : Octets m) (i : ℕ) (in_table : i < sessions_max) (p : Place) (free : ℕ)
    (g : Good (set (places_of m) i p)) (freed : free ≡ free_set (set (places_of m) i p)) where
  abbrev qs : Places
  qs = set (places_of m) i p

  abbrev all : List Store
  all = free_store free ∷ place_stores i p

  inside : i < length qs
  inside = omega (arith, in_table, g.whole)

  here : get_or qs i empty ≡ p
  here = get_or-set_same (places_of m) i p empty (omega (arith, in_table, length-places m))

  there : (j : ℕ) → j < sessions_max → (j ≡ i → ⊥) → get_or qs j empty ≡ place_at m j
  there j h o = get_or-set_other (places_of m) i j p empty o ∙ place_of m j h

  storable : Storable p
  storable = subst Storable here (storable-at qs i (good-table qs g).storable)

  once : Once (blocks_in p)
  once = once-of (blocks_in p) (λ b. omega (arith, ap (λ (q : Place). times b (blocks_in q)) here, times-at b i qs, g.shared.once b))

  within : Within (length m) all
  within = let l = r.long in (omega (arith, length-le_bytes 8 free), within-place (length m) i p l in_table storable)

  covered : Covered m (free_store 0 ∷ place_stores i p) all
  covered = (
    inr (λ x t. inl (t.0, omega (arith, t.1, length-le_bytes 8 free, length-le_bytes 8 0))),
    covered-by m (free_store 0 ∷ place_stores i p) (place_stores i p) (λ x t. inr t),
  )

  others : (j : ℕ) → j < sessions_max → (j ≡ i → ⊥) → Apart (place_stores j (place_at m j)) all
  others j h o =
      let w : Storable (place_at m j) = subst Storable (there j h o) (storable-at qs j (good-table qs g).storable) in
      apart-append (place_stores j (place_at m j)) (free_store free ∷ []) (place_stores i p)
      (flip free_at (le_bytes 8 free) (place_stores j (place_at m j)) (resized free_at (place_stores j (place_at m j)) (length-le_bytes 8 free) (free-clear j h (place_at m j) w)))
      (apart-places j i h in_table o (place_at m j) p w storable
      (λ b n. omega (
        arith,
        n,
        two-places qs i j b inside o,
        ap (λ (q : Place). times b (blocks_in q)) here,
        ap (λ (q : Place). times b (blocks_in q)) (there j h o),
        g.shared.once b,
      )))

  written_all : There (store_all m all) all
  written_all =
      there-all all m within
      (resized free_at (place_stores i p) (length-le_bytes 8 free) (free-clear i in_table p storable), disjoint-place i in_table p storable once)

  pub put : store_all m all ≡ written m qs
  put =
      puts m r.long (view-place m r bytes) i p all in_table (within-stores m qs r.long (good-table qs g))
      (record {
        within = within;
        covered = covered;
        others = others;
        own = written_all.1;
        free = ap (span (store_all m all) free_at) (sym (length-le_bytes 8 free)) ∙ written_all.0 ∙ ap (le_bytes 8) freed;
      })

  -- any bytes that hold all of this, and are else as they were
  pub put-by : (n : List ℕ) → Agree all m n → There n all → n ≡ written m qs
  put-by n a t = stored all m n within a t ∙ put

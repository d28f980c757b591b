-- Tables that the rules and the layout allow, and the bytes that hold one.
use mathlib.Core.Path.{◌≡◌, refl, sym, ap, subst, ◌∙◌}
use mathlib.Core.Bool.{Bool, true, false, ◌&&◌}
use mathlib.Core.List.{List, [], ◌∷◌}
use Prim.Native.Nat.{ℕ, zero, suc, ◌+◌, ◌*◌, ◌^◌, ◌≤◌, ◌<◌}
use native.Mathlib.Omega.{arith}
use borrow.Author.Tests.{eqb-true, ne_eqb, ltb-true, ltb-false, leb-true}
use lib.Dec.{eqb, ltb}
use lib.ListN.{length, get_or, set, length-set}
use Rattle.bits.proofs.Every.{every-at}
use Rattle.bits.proofs.Little.{length-le_bytes, le_bytes-le, le-le_bytes, le-lt}
use Rattle.bits.proofs.Octets.{octets-span}
use Rattle.bits.proofs.Splice.{length-span}
use Rattle.bits.specs.Little.{le, le_bytes}
use Rattle.bits.specs.Order.{Octets}
use Rattle.bits.specs.Part.{span}
use Rattle.bits.specs.Tabulate.{tabulate, every}
use Rattle.blocks.proofs.Stores.{There, length-stores}
use Rattle.rules.proofs.Lasting.{set-fits}
use Rattle.rules.proofs.Shares.{times-append, times-here, Shared, fit-shared, shared-fit, fewer, used-set}
use Rattle.rules.specs.Blocks.{need, blocks_in, used, times}
use Rattle.rules.specs.Frame.{Stream}
use Rattle.rules.specs.Limits.{sessions_max, gathered_max, blocks_max, interfaces_max}
use Rattle.rules.specs.Sound.{message_fits, service_fits, stream_fits, session_fits, place_fits, places_fit, blocks_fit}
use Rattle.rules.specs.Table.{Place, empty, held, Places}
use Rattle.rules.specs.Tests.{pick}
use Rattle.frame.specs.Key.{key_of, stream_of_key}
use Rattle.state.specs.Layout.{size, free_at, times_at, free_of, key_at, time_at, blocks_of, session_at, place_at, places_of}
use Rattle.state.specs.Place.{free_set, place_stores, written}
use Rattle.state.specs.Sound.{raw_fits}
use Rattle.state.specs.inside.Ready.{Ready, Small}
use Rattle.state.proofs.Bools.{and_left, and_right}
use Rattle.state.proofs.Free.{free-lt}
use Rattle.state.proofs.Keys.{stream-key}
use Rattle.state.proofs.Table.{AllStorable, Table, stores, within-stores, there-written, view-there, raw-there, place_of, length-places, kept}
use Rattle.state.proofs.View.{Storable, place-there}

-- ── a stream in its key ──

module _ (d : Stream) where
  pub record InKey : Type 0 where
    pub transfer_type : d.transfer_type < 3
    pub type : d.type < 65536
    pub source : d.source < 128
    pub named : 0 < d.source
    pub destination : d.destination < 128

  of-kind : (c : Bool) → pick c (message_fits d) (service_fits d) ≡ true → (d.type < 65536) × (d.destination < 128)
  of-kind true e =
      let z = eqb-true d.destination 0 (and_right (ltb d.type 65536) (eqb d.destination 0) e) in
      (ltb-true d.type 65536 (and_left (ltb d.type 65536) (eqb d.destination 0) e), omega arith)
  of-kind false e =
      let a = and_right (ltb d.type 256) (ltb 0 d.destination && ltb d.destination 128) e in
      let t = ltb-true d.type 256 (and_left (ltb d.type 256) (ltb 0 d.destination && ltb d.destination 128) e) in
      (omega arith, ltb-true d.destination 128 (and_right (ltb 0 d.destination) (ltb d.destination 128) a))

  pub in-key : stream_fits d ≡ true → InKey
  unfolding stream_fits
  in-key e =
      let a = and_left (ltb 0 d.source && ltb d.source 128) _ e in
      let b = and_right (ltb 0 d.source && ltb d.source 128) (ltb d.transfer_type 3 && pick (eqb d.transfer_type 0) (message_fits d) (service_fits d)) e in
      let c = of-kind (eqb d.transfer_type 0) (and_right (ltb d.transfer_type 3) (pick (eqb d.transfer_type 0) (message_fits d) (service_fits d)) b) in
      record {
        transfer_type = ltb-true d.transfer_type 3 (and_left _ _ b);
        type = c.0;
        source = ltb-true d.source 128 (and_right (ltb 0 d.source) _ a);
        named = ltb-true 0 d.source (and_left _ _ a);
        destination = c.1;
      }

-- ── tables ──

abbrev pub Timed : Place → Type 0
Timed empty = Unit {0}
Timed (held d s bs) = s.since < 2 ^ 64

abbrev pub AllTimed : Places → Type 0
AllTimed [] = Unit {0}
AllTimed (p ∷ ps) = Timed p × AllTimed ps

-- a table whose places fit, that has no block twice, and whose times are words
pub record Good (ps : Places) : Type 0 where
  pub whole : length ps ≡ sessions_max
  pub fit : places_fit ps ≡ true
  pub shared : Shared (used ps)
  pub timed : AllTimed ps

small_of : (bs : List ℕ) → ((b : ℕ) → blocks_max ≤ b → times b bs ≡ 0) → Small bs
unfolding times
small_of [] h = tt
small_of (c ∷ bs) h = (below (ltb c blocks_max) refl, small_of bs (λ b k. more b (eqb b c) (h b k)))
  where
    more : (b : ℕ) (t : Bool) → pick t (suc (times b bs)) (times b bs) ≡ 0 → times b bs ≡ 0
    more b true k = absurd (omega (arith, k))
    more b false k = k

    below : (t : Bool) → ltb c blocks_max ≡ t → c < blocks_max
    below true e = ltb-true c blocks_max e
    below false e = absurd (omega (arith, h c (ltb-false c blocks_max e), times-here c bs))

module _ (d : Stream) where
  key-some : 0 < d.source → key_of d ≡ 0 → ⊥
  unfolding key_of
  key-some n z = omega arith

  key-word : InKey d → key_of d < 4294967296
  unfolding key_of
  key-word k = omega (arith, k.transfer_type, k.type, k.source, k.destination)

pub storable-place : (p : Place) → place_fits p ≡ true → Timed p → Small (blocks_in p) → Storable p
unfolding session_fits
storable-place empty f t m = tt
storable-place (held d s bs) f t m =
    let k = in-key d (and_left (stream_fits d) _ f) in
    let g = and_right (stream_fits d) (session_fits s && eqb (length bs) (need (length s.gathered))) f in
    let h = and_left (session_fits s) _ g in
    record {
      some = key-some d k.named;
      word = key-word d k;
      stream = stream-key d (omega (arith, k.transfer_type)) k.type k.source k.destination;
      few = leb-true (length s.gathered) gathered_max (and_left _ _ (and_right (ltb s.expected 32 && ltb s.follows interfaces_max) _ h));
      since = t;
      many = eqb-true (length bs) (need (length s.gathered)) (and_right (session_fits s) _ g);
      small = m;
    }

all-storable : (ps : Places) → places_fit ps ≡ true → AllTimed ps → ((b : ℕ) → blocks_max ≤ b → times b (used ps) ≡ 0) → AllStorable ps
unfolding used
all-storable [] f t m = tt
all-storable (p ∷ ps) f t m = (
  storable-place p (and_left (place_fits p) (places_fit ps) f) t.0 (small_of (blocks_in p) (λ b k. omega (arith, m b k, times-append b (blocks_in p) (used ps)))),
  all-storable ps (and_right (place_fits p) (places_fit ps) f) t.1 (λ b k. omega (arith, m b k, times-append b (blocks_in p) (used ps))),
)

pub good-table : (ps : Places) → Good ps → Table ps
good-table ps g = record { whole = g.whole; storable = all-storable ps g.fit g.timed g.shared.small; once = g.shared.once }

pub times-at : (b l : ℕ) (ps : Places) → times b (blocks_in (get_or ps l empty)) ≤ times b (used ps)
unfolding used times
times-at b l [] = omega arith
times-at b zero (p ∷ ps) = omega (arith, times-append b (blocks_in p) (used ps))
times-at b (suc l) (p ∷ ps) = omega (arith, times-append b (blocks_in p) (used ps), times-at b l ps)

pub small_at : (ps : Places) (l : ℕ) → Shared (used ps) → Small (blocks_in (get_or ps l empty))
small_at ps l s = small_of (blocks_in (get_or ps l empty)) (λ b k. omega (arith, times-at b l ps, s.small b k))

pub set-timed : (ps : Places) (i : ℕ) (q : Place) → AllTimed ps → Timed q → AllTimed (set ps i q)
set-timed [] i q h k = tt
set-timed (p ∷ ps) zero q h k = (k, h.1)
set-timed (p ∷ ps) (suc i) q h k = (h.0, set-timed ps i q h.1 k)

-- one place changed, which has no more blocks than before
pub good-set : (ps : Places) (i : ℕ) (q : Place) → Good ps → i < sessions_max → place_fits q ≡ true → Timed q
    → ((b : ℕ) → times b (blocks_in q) ≤ times b (blocks_in (get_or ps i empty))) → Good (set ps i q)
good-set ps i q g h f t c =
    record {
      whole = length-set ps i q ∙ g.whole;
      fit = set-fits ps i q g.fit f;
      shared = fewer (used ps) (used (set ps i q)) (λ b. omega (arith, used-set ps i q b (omega (arith, h, g.whole)), c b)) g.shared;
      timed = set-timed ps i q g.timed t;
    }

-- ── bytes that hold a table ──

module _ (m : List ℕ) (r : Ready m) (bytes : Octets m) where
  pub ready-shared : Shared (used (places_of m))
  ready-shared = fit-shared (used (places_of m)) r.blocks

  raw_at : (l : ℕ) → l < sessions_max → raw_fits m l ≡ true
  raw_at l h = every-at (raw_fits m) sessions_max 0 r.raw l (omega arith) (omega arith)

  held_small : (l : ℕ) → l < sessions_max → (key_at m l ≡ 0 → ⊥) → Small (blocks_of m l)
  unfolding place_at
  held_small l h z =
      let e : eqb (key_at m l) 0 ≡ false = ne_eqb (key_at m l) 0 z in
      let q : blocks_in (get_or (places_of m) l empty) ≡ blocks_of m l = ap blocks_in (place_of m l h) ∙ rw e in
      subst Small q (small_at (places_of m) l ready-shared)

  pub view-place : (l : ℕ) → l < sessions_max → There m (place_stores l (place_at m l))
  view-place l h = place-there m l r.long h bytes (raw_at l h) (held_small l h)

  time-lt : (l : ℕ) → l < sessions_max → (session_at m l).since < 2 ^ 64
  unfolding session_at time_at
  time-lt l h =
      let long = r.long in
      let n : length (span m (times_at + l * 8) 8) ≡ 8 = length-span m (times_at + l * 8) 8 (omega arith) in
      rw n at (le-lt (span m (times_at + l * 8) 8) (octets-span m (times_at + l * 8) 8 bytes))

  timed-at : (l : ℕ) → l < sessions_max → Timed (place_at m l)
  unfolding place_at
  timed-at l h = go (eqb (key_at m l) 0)
    where
      go : (b : Bool) → Timed (pick b empty (held (stream_of_key (key_at m l)) (session_at m l) (blocks_of m l)))
      go true = tt
      go false = time-lt l h

  timed-from : (n j : ℕ) → j + n ≤ sessions_max → AllTimed (tabulate (place_at m) j n)
  unfolding tabulate
  timed-from zero j h = tt
  timed-from (suc n) j h = (timed-at j (omega arith), timed-from n (suc j) (omega arith))

  timed-places : AllTimed (places_of m)
  unfolding places_of
  timed-places = timed-from sessions_max 0 (omega arith)

  pub good-view : Good (places_of m)
  good-view = record { whole = length-places m; fit = r.fit; shared = ready-shared; timed = timed-places }

  pub free-there : span m free_at 8 ≡ le_bytes 8 (free_set (places_of m))
  unfolding free_of
  free-there =
      let long = r.long in
      let n : length (span m free_at 8) ≡ 8 = length-span m free_at 8 (omega arith) in
      sym (ap (le_bytes 8) (sym r.free) ∙ ap (λ (k : ℕ). le_bytes k (le (span m free_at 8))) (sym n) ∙ le_bytes-le (span m free_at 8) (octets-span m free_at 8 bytes))

  -- writing what is there
  pub same-table : written m (places_of m) ≡ m
  same-table = kept m r.long view-place free-there

module _ (m : List ℕ) (ps : Places) (long : size ≤ length m) (g : Good ps) where
  table : Table ps
  table = good-table ps g

  pub length-written : length (written m ps) ≡ length m
  unfolding written
  length-written = length-stores (stores ps) m (within-stores m ps long table)

  long-written : size ≤ length (written m ps)
  long-written = omega (arith, length-written)

  pub view-written : places_of (written m ps) ≡ ps
  view-written = view-there (written m ps) ps long-written table (there-written m ps long table).1

  pub free-written : free_of (written m ps) ≡ free_set ps
  unfolding free_of
  free-written =
      ap (λ (k : ℕ). le (span (written m ps) free_at k)) (sym (length-le_bytes 8 (free_set ps))) ∙ ap le (there-written m ps long table).0
      ∙ le-le_bytes 8 (free_set ps) (free-lt ps)

  pub raw-written : every (raw_fits (written m ps)) 0 sessions_max ≡ true
  raw-written = raw-there (written m ps) ps long-written table (there-written m ps long table).1

  pub ready-written : Ready (written m ps)
  ready-written =
      record {
        long = long-written;
        raw = raw-written;
        free = free-written ∙ ap free_set (sym view-written);
        fit = ap places_fit view-written ∙ g.fit;
        blocks = ap (λ (x : Places). blocks_fit (used x)) view-written ∙ shared-fit (used ps) g.shared;
      }

-- One place of the bytes: what the view shows of it is there, and what is there is what the view shows.
use mathlib.Core.Path.{◌≡◌, refl, sym, ap, ap₂, ◌∙◌}
use mathlib.Core.Bool.{Bool, true, false, ◌||◌}
use mathlib.Core.List.{List, [], ◌∷◌, ◌++◌}
use Prim.Native.Nat.{ℕ, zero, suc, ◌+◌, ◌*◌, ◌-◌, ◌/◌, ◌%◌, ◌^◌, ◌≤◌, ◌<◌}
use native.Mathlib.Omega.{arith}
use borrow.Author.Tests.{eqb-true, eqb-false, eq-eqb, ne_eqb, leb-true, le-leb}
use lib.Dec.{eqb, leb}
use lib.ListN.{length, take, drop, length-append}
use lib.Seq.{length-take-le, take-add, take-take, take-nil, take_at, drop_at, drop-cons, drop-drop}
use Rattle.bits.specs.Little.{le, le_bytes}
use Rattle.bits.specs.Order.{Octets}
use Rattle.bits.specs.Part.{span}
use Rattle.bits.proofs.Little.{length-le_bytes, le-le_bytes, le_bytes-le, le-one}
use Rattle.bits.proofs.Octets.{octets-span}
use Rattle.bits.proofs.Splice.{length-span}
use Rattle.blocks.proofs.Stores.{There}
use Rattle.rules.specs.Blocks.{need}
use Rattle.rules.specs.Frame.{Stream}
use Rattle.rules.specs.Limits.{sessions_max, gathered_max, blocks_each}
use Rattle.rules.specs.Session.{Session}
use Rattle.rules.specs.Table.{Place, empty, held}
use Rattle.rules.specs.Tests.{pick}
use Rattle.frame.specs.Key.{key_of, stream_of_key}
use Rattle.state.specs.Layout.{size, times_at, stream_keys_at, controls_at, block_lists_at}
use Rattle.state.specs.Layout.{key_at, count_at, expected_at, flags_at, time_at, blocks_of, joined, gathered_at, session_at, place_at}
use Rattle.state.specs.Place.{one, flags_of, control_of, block_stores, place_stores}
use Rattle.state.specs.Sound.{raw_fits}
use Rattle.state.specs.inside.Ready.{Small}
use Rattle.state.proofs.Chunks.{joined_length, there-blocks, joined_back}
use Rattle.state.proofs.Keys.{key-stream}
use Rattle.state.proofs.Soundness.{key-lt}

-- ── parts of parts ──

drop-take : (i j : ℕ) (l : List ℕ) → drop i (take (i + j) l) ≡ take j (drop i l)
drop-take zero j l = let z : 0 + j ≡ j = omega arith in ap (λ (k : ℕ). take k l) z
drop-take (suc i) j [] = let z : suc i + j ≡ suc (i + j) = omega arith in ap (λ (k : ℕ). drop (suc i) (take k [])) z ∙ sym (take-nil j)
drop-take (suc i) j (x ∷ l) = let z : suc i + j ≡ suc (i + j) = omega arith in ap (λ (k : ℕ). drop (suc i) (take k (x ∷ l))) z ∙ drop-take i j l

span-span : (m : List ℕ) (a n b k : ℕ) → b + k ≤ n → span (span m a n) b k ≡ span m (a + b) k
span-span m a n b k h =
    let e : n ≡ b + (n - b) = omega arith in
    let q : drop b (take n (drop a m)) ≡ take (n - b) (drop (a + b) m) =
    ap (λ (j : ℕ). drop b (take j (drop a m))) e ∙ drop-take b (n - b) (drop a m) ∙ ap (take (n - b)) (drop-drop b a m) in
    ap (take k) q ∙ take-take k (n - b) (drop (a + b) m) (omega arith)

cut : (m : List ℕ) (a n k : ℕ) → span m a (n + k) ≡ span m a n ++ span m (a + n) k
cut m a n k = take-add n k (drop a m) ∙ ap (λ (l : List ℕ). span m a n ++ take k l) (drop-drop n a m)

pub length-control : (s : Session) → length (control_of s) ≡ 4
unfolding control_of
length-control s = length-append (le_bytes 2 (length s.gathered)) (s.expected ∷ flags_of s ∷ []) ∙ omega (arith, length-le_bytes 2 (length s.gathered))

-- ── what a place may be written with ──

-- a stream and a session that the layout can hold, with its blocks
pub record Holdable (d : Stream) (s : Session) (bs : List ℕ) : Type 0 where
  pub some : key_of d ≡ 0 → ⊥
  pub word : key_of d < 4294967296
  pub stream : stream_of_key (key_of d) ≡ d
  pub few : length s.gathered ≤ gathered_max
  pub since : s.since < 2 ^ 64
  pub many : length bs ≡ need (length s.gathered)
  pub small : Small bs

abbrev pub Storable : Place → Type 0
Storable empty = Unit {0}
Storable (held d s bs) = Holdable d s bs

-- ── from the stores to the view ──

-- the toggle and the interface in the flags
toggle-back : (b : Bool) (n : ℕ) → eqb ((one b + 2 * n) % 2) 1 ≡ b
toggle-back true n = eq-eqb ((1 + 2 * n) % 2) 1 (omega arith)
toggle-back false n = ne_eqb ((0 + 2 * n) % 2) 1 (λ z. omega arith)

follows-back : (b : Bool) (n : ℕ) → (one b + 2 * n) / 2 ≡ n
follows-back true n = omega arith
follows-back false n = omega arith

module _ (m : List ℕ) (i : ℕ) (long : size ≤ length m) (in_table : i < sessions_max) where
  key_back : (k : ℕ) → k < 4294967296 → span m (stream_keys_at + i * 4) (length (le_bytes 4 k)) ≡ le_bytes 4 k → key_at m i ≡ k
  unfolding key_at
  key_back k h e = ap (λ (n : ℕ). le (span m (stream_keys_at + i * 4) n)) (sym (length-le_bytes 4 k)) ∙ ap le e ∙ le-le_bytes 4 k h

  module _ (s : Session) (few : length s.gathered ≤ gathered_max) (there : span m (controls_at + i * 4) (length (control_of s)) ≡ control_of s) where
    four : span m (controls_at + i * 4) 4 ≡ control_of s
    four = ap (span m (controls_at + i * 4)) (sym (length-control s)) ∙ there

    pub count-back : count_at m i ≡ length s.gathered
    unfolding count_at control_of
    count-back =
        let n = length s.gathered in
        ap le (sym (take-take 2 4 (drop (controls_at + i * 4) m) (omega arith)) ∙ ap (take 2) four ∙ take_at (le_bytes 2 n) (s.expected ∷ flags_of s ∷ []) 2 (length-le_bytes 2 n))
        ∙ le-le_bytes 2 n (omega arith)

    tail_at : (b : ℕ) (x : ℕ) → drop b (s.expected ∷ flags_of s ∷ []) ≡ x ∷ drop (suc b) (s.expected ∷ flags_of s ∷ []) → b < 2
        → span (control_of s) (2 + b) 1 ≡ x ∷ []
    unfolding control_of
    tail_at b x e h =
        let n = length s.gathered in
        ap (take 1) (sym (drop-drop b 2 (le_bytes 2 n ++ (s.expected ∷ flags_of s ∷ [])))
        ∙ ap (drop b) (drop_at (le_bytes 2 n) (s.expected ∷ flags_of s ∷ []) 2 (length-le_bytes 2 n)) ∙ e)

    own-byte : (b x a : ℕ) → a ≡ controls_at + i * 4 + b → b < 4 → span (control_of s) b 1 ≡ x ∷ [] → le (span m a 1) ≡ x
    unfolding le
    own-byte b x a z h e =
        ap (λ (k : ℕ). le (span m k 1)) z ∙ ap le (sym (span-span m (controls_at + i * 4) 4 b 1 (omega arith)) ∙ ap (λ (l : List ℕ). span l b 1) four ∙ e) ∙ omega arith

    own-expected : expected_at m i ≡ s.expected
    unfolding expected_at
    own-expected = own-byte 2 s.expected (controls_at + 2 + i * 4) (omega arith) (omega arith) (tail_at 0 s.expected refl (omega arith))

    own-flags : flags_at m i ≡ flags_of s
    unfolding flags_at
    own-flags = own-byte 3 (flags_of s) (controls_at + 3 + i * 4) (omega arith) (omega arith) (tail_at 1 (flags_of s) refl (omega arith))

  module _ (d : Stream) (s : Session) (bs : List ℕ) (w : Holdable d s bs) (there : There m (place_stores i (held d s bs))) where
    control-there : span m (controls_at + i * 4) (length (control_of s)) ≡ control_of s
    unfolding place_stores
    control-there = there.1.0

    key-is : key_at m i ≡ key_of d
    unfolding place_stores
    key-is = key_back (key_of d) w.word there.0

    pub count-is : count_at m i ≡ length s.gathered
    count-is = count-back s w.few control-there

    time-is : time_at m i ≡ s.since
    unfolding time_at place_stores
    time-is = ap (λ (n : ℕ). le (span m (times_at + i * 8) n)) (sym (length-le_bytes 8 s.since)) ∙ ap le there.1.1.0 ∙ le-le_bytes 8 s.since w.since

    blocks-are : blocks_of m i ≡ bs
    unfolding blocks_of place_stores
    blocks-are = ap (λ (n : ℕ). span m (block_lists_at + i * blocks_each) (need n)) count-is ∙ ap (span m (block_lists_at + i * blocks_each)) (sym w.many) ∙ there.1.1.1.0

    gathered-is : gathered_at m i ≡ s.gathered
    unfolding gathered_at place_stores
    gathered-is =
        ap₂ (λ (n : ℕ) (l : List ℕ). take n (joined m l)) count-is blocks-are
        ∙ joined_back m long bs s.gathered w.small (omega (arith, w.many)) there.1.1.1.1

    session-is : session_at m i ≡ s
    unfolding session_at
    session-is =
        let e = own-expected s w.few control-there in
        let g = gathered-is in
        let f = own-flags s w.few control-there in
        let t : eqb (flags_at m i % 2) 1 ≡ s.toggle = ap (λ (x : ℕ). eqb (x % 2) 1) f ∙ toggle-back s.toggle s.follows in
        let v : flags_at m i / 2 ≡ s.follows = ap (λ (x : ℕ). x / 2) f ∙ follows-back s.toggle s.follows in
        let q = time-is in
        λ j. record { expected = e j; gathered = g j; toggle = t j; since = q j; follows = v j }

    held_back : place_at m i ≡ held d s bs
    unfolding place_at
    held_back = rw (key-is, ne_eqb (key_of d) 0 w.some, session-is, blocks-are, w.stream)

    held-raw : raw_fits m i ≡ true
    unfolding raw_fits
    held-raw = rw (key-is, ne_eqb (key_of d) 0 w.some, count-is, le-leb (length s.gathered) gathered_max w.few)

  key-none : There m (place_stores i empty) → key_at m i ≡ 0
  unfolding place_stores
  key-none t = key_back 0 (omega arith) t.0

  pub place-back : (p : Place) → Storable p → There m (place_stores i p) → place_at m i ≡ p
  unfolding place_at
  place-back empty w t = rw (key-none t)
  place-back (held d s bs) w t = held_back d s bs w t

  pub raw-back : (p : Place) → Storable p → There m (place_stores i p) → raw_fits m i ≡ true
  unfolding raw_fits
  raw-back empty w t = rw (key-none t)
  raw-back (held d s bs) w t = held-raw d s bs w t

  -- ── from the view to the stores ──

  module _ (bytes : Octets m) where
    key-there : (k : ℕ) → k ≡ key_at m i → span m (stream_keys_at + i * 4) (length (le_bytes 4 k)) ≡ le_bytes 4 k
    unfolding key_at
    key-there k e =
        let l : length (span m (stream_keys_at + i * 4) 4) ≡ 4 = length-span m (stream_keys_at + i * 4) 4 (omega arith) in
        ap (span m (stream_keys_at + i * 4)) (length-le_bytes 4 k)
        ∙ sym (ap₂ le_bytes (sym l) e ∙ le_bytes-le (span m (stream_keys_at + i * 4) 4) (octets-span m (stream_keys_at + i * 4) 4 bytes))

    one_byte : (a b : ℕ) → a < length m → b ≡ le (span m a 1) → b ∷ [] ≡ span m a 1
    one_byte a b h e = ap (λ (x : ℕ). x ∷ []) (e ∙ le-one m a h) ∙ sym (ap (take 1) (drop-cons m a 0 h))

    one_of : (t : ℕ) → t < 2 → one (eqb t 1) ≡ t
    one_of zero h = refl
    one_of (suc zero) h = refl
    one_of (suc (suc t)) h = absurd (omega arith)

    flags-of : (t : ℕ) → one (eqb (t % 2) 1) + 2 * (t / 2) ≡ t
    flags-of t = omega (arith, one_of (t % 2) (omega arith))

    expected-place : (a : ℕ) → controls_at + 2 + i * 4 ≡ a → expected_at m i ≡ le (span m a 1)
    unfolding expected_at
    expected-place a e = ap (λ (x : ℕ). le (span m x 1)) e

    flags-place : (a : ℕ) → controls_at + 3 + i * 4 ≡ a → flags_at m i ≡ le (span m a 1)
    unfolding flags_at
    flags-place a e = ap (λ (x : ℕ). le (span m x 1)) e

    module _ (few : count_at m i ≤ gathered_max) where
      pub list_length : length (blocks_of m i) ≡ need (count_at m i)
      unfolding blocks_of
      list_length = length-span m (block_lists_at + i * blocks_each) (need (count_at m i)) (omega arith)

      module _ (small : Small (blocks_of m i)) where
        pub gathered-length : length (gathered_at m i) ≡ count_at m i
        unfolding gathered_at
        gathered-length = length-take-le (count_at m i) (joined m (blocks_of m i)) (omega (arith, joined_length m long (blocks_of m i) small, list_length))

        count-at : count_at m i ≡ le (span m (controls_at + i * 4) 2)
        unfolding count_at
        count-at = refl

        -- the four control bytes are the count's two, the transfer ID and the flags
        control-there-at : control_of (session_at m i) ≡ span m (controls_at + i * 4) 4
        unfolding control_of session_at
        control-there-at =
            let at = controls_at + i * 4 in
            let three : at + 2 + 1 ≡ at + 3 = omega arith in
            let l : length (span m at 2) ≡ 2 = length-span m at 2 (omega arith) in
            let two : le_bytes 2 (length (gathered_at m i)) ≡ span m at 2 = ap₂ le_bytes (sym l) (gathered-length ∙ count-at) ∙ le_bytes-le (span m at 2) (octets-span m at 2 bytes) in
            let e : expected_at m i ∷ [] ≡ span m (at + 2) 1 = one_byte (at + 2) (expected_at m i) (omega arith) (expected-place (at + 2) (omega arith)) in
            let g : flags_of (session_at m i) ∷ [] ≡ span m (at + 3) 1 = one_byte (at + 3) (flags_of (session_at m i)) (omega arith) (flags-of (flags_at m i) ∙ flags-place (at + 3) (omega arith)) in
            sym (cut m at 2 2 ∙ ap (λ (x : List ℕ). span m at 2 ++ x) (cut m (at + 2) 1 1 ∙ ap (λ (k : ℕ). span m (at + 2) 1 ++ span m k 1) three)
            ∙ sym (ap₂ (λ (x y : List ℕ). x ++ y) two (ap₂ (λ (x y : List ℕ). x ++ y) e g)))

        time-there : span m (times_at + i * 8) (length (le_bytes 8 (session_at m i).since)) ≡ le_bytes 8 (session_at m i).since
        unfolding session_at time_at
        time-there =
            let v = le (span m (times_at + i * 8) 8) in
            let l : length (span m (times_at + i * 8) 8) ≡ 8 = length-span m (times_at + i * 8) 8 (omega arith) in
            ap (span m (times_at + i * 8)) (length-le_bytes 8 v)
            ∙ sym (ap (λ (n : ℕ). le_bytes n v) (sym l) ∙ le_bytes-le (span m (times_at + i * 8) 8) (octets-span m (times_at + i * 8) 8 bytes))

        list-there : span m (block_lists_at + i * blocks_each) (length (blocks_of m i)) ≡ blocks_of m i
        unfolding blocks_of
        list-there = ap (span m (block_lists_at + i * blocks_each)) (length-span m (block_lists_at + i * blocks_each) (need (count_at m i)) (omega arith))

        gathered-there : There m (block_stores (blocks_of m i) (session_at m i).gathered)
        unfolding session_at gathered_at
        gathered-there = there-blocks m long (blocks_of m i) (count_at m i) small

        held-there : There m (place_stores i (held (stream_of_key (key_at m i)) (session_at m i) (blocks_of m i)))
        unfolding place_stores
        held-there =
            let c = control-there-at in
            let e : span m (controls_at + i * 4) (length (control_of (session_at m i))) ≡ control_of (session_at m i) =
            ap (span m (controls_at + i * 4)) (length-control (session_at m i)) ∙ sym c in
            (key-there (key_of (stream_of_key (key_at m i))) (key-stream (key_at m i) (key-lt m bytes long i in_table)), (e, (time-there, (list-there, gathered-there))))

    pub place-there : raw_fits m i ≡ true → ((key_at m i ≡ 0 → ⊥) → Small (blocks_of m i)) → There m (place_stores i (place_at m i))
    unfolding place_at raw_fits place_stores
    place-there r small = go (eqb (key_at m i) 0) refl r
      where
        go : (b : Bool) → eqb (key_at m i) 0 ≡ b → (b || leb (count_at m i) gathered_max) ≡ true
            → There m (place_stores i (pick b empty (held (stream_of_key (key_at m i)) (session_at m i) (blocks_of m i))))
        go true e h = (key-there 0 (sym (eqb-true (key_at m i) 0 e)), tt)
        go false e h = held-there (leb-true (count_at m i) gathered_max h) (small (eqb-false (key_at m i) 0 e))

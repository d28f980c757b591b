-- `grow` writes one place that has a frame's bytes more in hand.
use mathlib.Core.Path.{◌≡◌, refl, sym, ap, subst, ◌∙◌}
use mathlib.Core.Logic.{◌⊎◌, inl, inr}
use mathlib.Core.Bool.{Bool, true, false}
use mathlib.Core.List.{List, [], ◌∷◌, ◌++◌}
use Prim.Native.Nat.{ℕ, ◌+◌, ◌*◌, ◌-◌, ◌/◌, ◌%◌, ◌≤◌, ◌<◌}
use native.Mathlib.Omega.{arith}
use borrow.Author.Tests.{ltb-true, ltb-false}
use lib.Dec.{ltb}
use lib.ListN.{length, get_or, take, set, length-append, get_or-append}
use lib.Seq.{get_or-take, get_or-append-add, ext_get_or, length-take-le}
use Rattle.bits.proofs.Little.{length-le_bytes}
use Rattle.bits.specs.Little.{le_bytes}
use Rattle.bits.specs.Order.{Octets}
use Rattle.bits.specs.Part.{span}
use Rattle.blocks.proofs.Stores.{Touched, Within, There, Agree, Covered, Disjoint, length-stores, agree-stores, span-clear, within-append, there-right, covered-by, there-all}
use Rattle.blocks.specs.Stores.{Store, store_all}
use Rattle.frame.specs.Key.{key_of, stream_of_key}
use Rattle.rules.specs.Blocks.{need}
use Rattle.rules.specs.Limits.{block_size, blocks_each}
use Rattle.rules.specs.Session.{Session}
use Rattle.rules.specs.Table.{Place, held}
use Rattle.session.specs.declared.Session as coded
use Rattle.sessions.specs.inside.Blocks.{number_at, tail_stores}
use Rattle.sessions.specs.inside.Place.{code_stores, Grows}
use Rattle.state.proofs.Chunks.{Once, address_of, joined_length, joined-byte, touched-blocks, there-blocks}
use Rattle.state.proofs.Good.{Good, view-place}
use Rattle.state.proofs.Held.{count-le, place-held, small, hand-length}
use Rattle.state.proofs.Put.{put-by}
use Rattle.state.proofs.View.{list_length}
use Rattle.state.specs.Layout.{size, free_at, stream_keys_at, controls_at, times_at, block_lists_at, blocks_at, key_at, count_at, blocks_of, joined, gathered_at, places_of}
use Rattle.state.specs.Place.{one, control_of, free_set, free_store, block_stores, place_stores, written}
use Rattle.state.specs.inside.Ready.{Small}
use Rattle.sessions.proofs.Stored.{number_of}
use Rattle.sessions.proofs.Tail.{Tail, tail, address-inj}

module _ (m : List ℕ) (i : ℕ) (c : coded.Session) (q : List ℕ) (bytes : Octets m) (g : Grows m i c q) where
  abbrev n : ℕ
  n = count_at m i

  abbrev hand : List ℕ
  hand = gathered_at m i

  pub in-hand : length hand ≡ n
  in-hand = hand-length m g.ready bytes i g.place g.key

  pub grown-length : length (hand ++ q) ≡ c.len
  grown-length = length-append hand q ∙ omega (arith, in-hand, g.len)

  pub list-many : length (blocks_of m i) ≡ need n
  list-many = list_length m i g.ready.long g.place bytes (count-le m g.ready bytes i g.place g.key)

  abbrev session : Session
  session = record { expected = c.expected; gathered = hand ++ q; toggle = c.toggle; since = c.time; follows = c.follows }

  -- the blocks bs, those before with one more or none, are listed in the bytes m₁
  module _ (bs : List ℕ) (free : ℕ) (m₁ : List ℕ) (as_long : length m₁ ≡ length m) (many : length bs ≡ need c.len) (bs-small : Small bs) (once : Once bs)
      (prefix : (j : ℕ) → j < need n → get_or bs j 0 ≡ get_or (blocks_of m i) j 0)
      (key₁ : span m₁ (stream_keys_at + i * 4) 4 ≡ span m (stream_keys_at + i * 4) 4)
      (high₁ : (x : ℕ) → blocks_at ≤ x → get_or m₁ x 0 ≡ get_or m x 0)
      (list₁ : span m₁ (block_lists_at + i * blocks_each) (length bs) ≡ bs)
      (free₁ : span m₁ free_at 8 ≡ le_bytes 8 free) where
    abbrev place : Place
    place = held (stream_of_key (key_at m i)) session bs

    abbrev all : List Store
    all = free_store free ∷ place_stores i place

    module _ (agree₁ : Agree all m m₁) (good : Good (set (places_of m) i place)) (freed : free ≡ free_set (set (places_of m) i place)) where
      long : size ≤ length m₁
      long = omega (arith, g.ready.long)

      number₁ : (j : ℕ) → j < length bs → number_at m₁ i j ≡ get_or bs j 0
      number₁ j h = sym (number_of m₁ (block_lists_at + i * blocks_each) (length bs) j h) ∙ ap (λ (l : List ℕ). get_or l j 0) list₁

      abbrev tl : List Store
      tl = tail_stores m₁ i n q

      tails : Tail bs n q tl
      unfolding tail_stores
      tails =
          tail bs n q bs-small once (omega (arith, many, g.len)) g.some (omega (arith, g.short)) (number_at m₁ i (n / block_size)) (number_at m₁ i (n / block_size + 1))
          (number₁ (n / block_size) (omega (arith, many, g.len, g.some))) (λ h. number₁ (n / block_size + 1) (omega (arith, many, g.len, h)))

      abbrev vs : List Store
      vs = code_stores i c ++ tl

      control-length : length (le_bytes 2 c.len ++ (c.expected ∷ (one c.toggle + 2 * c.follows) ∷ [])) ≡ 4
      control-length = length-append (le_bytes 2 c.len) (c.expected ∷ (one c.toggle + 2 * c.follows) ∷ []) ∙ omega (arith, length-le_bytes 2 c.len)

      time-length : length (le_bytes 8 c.time) ≡ 8
      time-length = length-le_bytes 8 c.time

      within : Within (length m₁) vs
      within =
          within-append (length m₁) (code_stores i c) tl
          (omega (arith, long, g.place, control-length), (omega (arith, long, g.place, time-length), tt)) (tails.within (length m₁) long)

      abbrev m' : List ℕ
      m' = store_all m₁ vs

      long' : size ≤ length m'
      long' = omega (arith, long, length-stores vs m₁ within)

      disjoint : Disjoint vs
      disjoint = (
        (
          inr (omega (arith, g.place, time-length)),
          tails.low (controls_at + i * 4) (length (le_bytes 2 c.len ++ (c.expected ∷ (one c.toggle + 2 * c.follows) ∷ []))) (omega (arith, g.place, control-length)),
        ),
        (tails.low (times_at + i * 8) (length (le_bytes 8 c.time)) (omega (arith, g.place, time-length)), tails.disjoint),
      )

      wrote : There m' vs
      wrote = there-all vs m₁ within disjoint

      -- a field that is not written
      field : (a k : ℕ) → (a + k ≤ controls_at + i * 4) ⊎ (controls_at + i * 4 + 4 ≤ a) → (a + k ≤ times_at + i * 8) ⊎ (times_at + i * 8 + 8 ≤ a) → a + k ≤ blocks_at → span m' a k ≡ span m₁ a k
      field a k x y l = span-clear vs m₁ a k within (control x, (times y, tails.low a k l))
        where
          control : (a + k ≤ controls_at + i * 4) ⊎ (controls_at + i * 4 + 4 ≤ a)
              → (a + k ≤ controls_at + i * 4) ⊎ (controls_at + i * 4 + length (le_bytes 2 c.len ++ (c.expected ∷ (one c.toggle + 2 * c.follows) ∷ [])) ≤ a)
          control (inl h) = inl h
          control (inr h) = inr (omega (arith, h, control-length))

          times : (a + k ≤ times_at + i * 8) ⊎ (times_at + i * 8 + 8 ≤ a) → (a + k ≤ times_at + i * 8) ⊎ (times_at + i * 8 + length (le_bytes 8 c.time) ≤ a)
          times (inl h) = inl h
          times (inr h) = inr (omega (arith, h, time-length))

      key-there : span m' (stream_keys_at + i * 4) (length (le_bytes 4 (key_of (stream_of_key (key_at m i))))) ≡ le_bytes 4 (key_of (stream_of_key (key_at m i)))
      unfolding place_stores
      key-there =
          let k = key_of (stream_of_key (key_at m i)) in
          let l = length-le_bytes 4 k in
          let v : There m (place_stores i (held (stream_of_key (key_at m i)) _ _)) =
          subst (λ (p : Place). There m (place_stores i p)) (place-held m g.ready bytes i g.place g.key) (view-place m g.ready bytes i g.place) in
          ap (span m' (stream_keys_at + i * 4)) l ∙ field (stream_keys_at + i * 4) 4 (inl (omega (arith, g.place))) (inr (omega (arith, g.place))) (omega (arith, g.place)) ∙ key₁
          ∙ ap (span m (stream_keys_at + i * 4)) (sym l) ∙ v.0

      control-there : span m' (controls_at + i * 4) (length (control_of session)) ≡ control_of session
      unfolding control_of
      control-there =
          subst (λ (x : ℕ). span m' (controls_at + i * 4) (length (le_bytes 2 x ++ (c.expected ∷ (one c.toggle + 2 * c.follows) ∷ []))) ≡ le_bytes 2 x ++ (c.expected ∷ (one c.toggle + 2 * c.follows) ∷ []))
          (sym grown-length) wrote.0

      -- ── the bytes in hand ──

      address-high : (x : ℕ) → blocks_at ≤ address_of bs x
      address-high x = omega arith

      code-low : (x : ℕ) → Touched (code_stores i c) x → x < blocks_at
      code-low x (inl r) = omega (arith, r.1, control-length, g.place)
      code-low x (inr (inl r)) = omega (arith, r.1, time-length, g.place)
      code-low x (inr (inr t)) = absurd t

      untouched : (x : ℕ) → x < n → Touched vs (address_of bs x) → ⊥
      untouched x h (inl r) = let z = code-low (address_of bs x) (inl r) in omega arith
      untouched x h (inr (inl r)) = let z = code-low (address_of bs x) (inr (inl r)) in omega arith
      untouched x h (inr (inr t)) =
          let a = tails.among (address_of bs x) t in
          let e : x ≡ a.number = address-inj bs x a.number once (omega (arith, many, g.len, h)) (omega (arith, many, g.len, a.to)) a.is in
          omega (arith, h, e, a.from)

      old-byte : (x : ℕ) → x < n → get_or m' (address_of bs x) 0 ≡ get_or (hand ++ q) x 0
      unfolding gathered_at
      old-byte x h =
          let k = small m g.ready bytes i g.place g.key in
          let b : address_of bs x ≡ address_of (blocks_of m i) x = ap (λ (j : ℕ). blocks_at + j * block_size + x % block_size) (prefix (x / block_size) (omega (arith, h))) in
          sym ((agree-stores vs vs m₁ within (covered-by m₁ vs vs (λ y t. t))).bytes (address_of bs x) (untouched x h)) ∙ high₁ (address_of bs x) (address-high x) ∙ ap (λ (a : ℕ). get_or m a 0) b
          ∙ sym (joined-byte m g.ready.long (blocks_of m i) x k (omega (arith, h, list-many)))
          ∙ sym (get_or-take n (joined m (blocks_of m i)) x 0 h) ∙ sym (get_or-append hand q 0 x (omega (arith, h, in-hand)))

      new-byte : (x : ℕ) → n ≤ x → x < c.len → get_or m' (address_of bs x) 0 ≡ get_or (hand ++ q) x 0
      new-byte x h k =
          let e : x ≡ length hand + (x - n) = omega (arith, in-hand, h) in
          tails.byte m' (there-right m' (code_stores i c) tl wrote) x h (omega (arith, k, g.len)) ∙ sym (ap (λ (j : ℕ). get_or (hand ++ q) j 0) e ∙ get_or-append-add hand q (x - n) 0)

      gathered : take c.len (joined m' bs) ≡ hand ++ q
      gathered =
          ext_get_or 0 (take c.len (joined m' bs)) (hand ++ q) (taken ∙ sym grown-length)
          (λ x h. get_or-take c.len (joined m' bs) x 0 (omega (arith, h, taken)) ∙ joined-byte m' long' bs x bs-small (omega (arith, h, taken, many)) ∙ go x (omega (arith, h, taken)) (ltb x n) refl)
        where
          taken : length (take c.len (joined m' bs)) ≡ c.len
          taken = length-take-le c.len (joined m' bs) (omega (arith, joined_length m' long' bs bs-small, many))

          go : (x : ℕ) → x < c.len → (b : Bool) → ltb x n ≡ b → get_or m' (address_of bs x) 0 ≡ get_or (hand ++ q) x 0
          go x h true e = old-byte x (ltb-true x n e)
          go x h false e = new-byte x (ltb-false x n e) h

      -- ── the whole place ──

      there : There m' all
      unfolding place_stores
      there = (
        ap (span m' free_at) (length-le_bytes 8 free) ∙ field free_at 8 (inl (omega (arith, g.place))) (inr (omega (arith, g.place))) (omega arith) ∙ free₁,
        (
          key-there,
          (
            control-there,
            (
              wrote.1.0,
              (
                field (block_lists_at + i * blocks_each) (length bs) (inr (omega (arith, g.place))) (inr (omega (arith, g.place))) (omega (arith, g.place, many, g.few)) ∙ list₁,
                subst (λ (l : List ℕ). There m' (block_stores bs l)) gathered (there-blocks m' long' bs c.len bs-small),
              ),
            ),
          ),
        ),
      )

      reach-block : (x : ℕ) → Touched tl x → Touched all x
      unfolding place_stores
      reach-block x t =
          let a = tails.among x t in
          inr (inr (inr (inr (inr (subst (λ (y : ℕ). Touched (block_stores bs (hand ++ q)) y) (sym a.is) (touched-blocks bs (hand ++ q) a.number (omega (arith, a.to, grown-length, g.len)) (omega (arith, a.to, many, g.len))))))))

      covers : Covered m₁ all vs
      unfolding place_stores control_of
      covers = (
        inr (λ x r. inr (inr (inl (r.0, omega (arith, r.1, control-length, length-append (le_bytes 2 (length (hand ++ q))) (c.expected ∷ (one c.toggle + 2 * c.follows) ∷ []), length-le_bytes 2 (length (hand ++ q))))))),
        (inr (λ x r. inr (inr (inr (inl r)))), covered-by m₁ all tl reach-block),
      )

      pub grown-by : m' ≡ written m (set (places_of m) i place)
      grown-by =
          put-by m g.ready bytes i g.place place free good freed m'
          (record {
            as_long = agree₁.as_long ∙ (agree-stores vs all m₁ within covers).as_long;
            bytes = λ x t. agree₁.bytes x t ∙ (agree-stores vs all m₁ within covers).bytes x t;
          }) there

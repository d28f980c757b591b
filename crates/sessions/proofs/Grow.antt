-- The two cases of `grow`: with the blocks that the session has, and with one more.
use mathlib.Core.Path.{◌≡◌, refl, sym, ap, ap₂, subst, ◌∙◌}
use mathlib.Core.Logic.{inl, inr}
use mathlib.Core.Bool.{Bool, true, false, not, or-true}
use mathlib.Core.List.{List, [], ◌∷◌, ◌++◌}
use mathlib.Core.Option.{none, some}
use Prim.Native.Nat.{ℕ, ◌+◌, ◌*◌, ◌/◌, ◌%◌, ◌^◌, ◌≤◌, ◌<◌}
use native.Mathlib.Omega.{arith}
use borrow.Author.Tests.{eqb-true, lt-ltb, le-ltb}
use lib.Count.{count_trailing_zeros}
use lib.Dec.{eqb, ltb}
use lib.ListN.{length, get_or, take, drop, set, length-append, length-set, get_or-append}
use lib.Seq.{take-add, drop-drop}
use Rattle.bits.proofs.Little.{length-le_bytes}
use Rattle.bits.specs.Little.{le_bytes}
use Rattle.bits.specs.Order.{Octets}
use Rattle.bits.specs.Part.{span}
use Rattle.blocks.proofs.Stores.{Touched, Within, There, Agree, length-stores, agree-stores, span-clear, there-all}
use Rattle.blocks.specs.Stores.{Store, store_all}
use Rattle.blocks.specs.inside.Bit.{excluding}
use Rattle.frame.specs.Key.{stream_of_key}
use Rattle.rules.proofs.Lasting.{set-fits, place-fits}
use Rattle.rules.proofs.Shares.{Shared, times-append, used-set, lowest-free}
use Rattle.rules.specs.Blocks.{need, blocks_in, used, times, free_block}
use Rattle.rules.specs.Limits.{blocks_max, blocks_each}
use Rattle.rules.specs.Session.{Session}
use Rattle.rules.specs.Sound.{place_fits}
use Rattle.rules.specs.Table.{Place, empty, held}
use Rattle.rules.specs.Tests.{pick, is_empty}
use Rattle.session.specs.declared.Session as coded
use Rattle.sessions.specs.inside.Blocks.{number_at, claim_stores, tail_stores, Appends}
use Rattle.sessions.specs.inside.Place.{code_stores, Grows, grown}
use Rattle.state.proofs.Free.{free-kept, free-taken, free-lowest}
use Rattle.state.proofs.Good.{Good, set-timed, good-set, good-view, ready-shared, free-there, times-at}
use Rattle.state.proofs.Held.{table-held, stream-fits, small}
use Rattle.state.proofs.Table.{once-of, length-places}
use Rattle.state.specs.Layout.{free_at, stream_keys_at, block_lists_at, blocks_at, free_of, key_at, count_at, blocks_of, gathered_at, places_of}
use Rattle.state.specs.Place.{free_set, free_store, place_stores, written}
use Rattle.state.specs.inside.Ready.{Small}
use Rattle.sessions.proofs.Grown.{grown-length, list-many, grown-by}
use Rattle.sessions.proofs.Stored.{number_of, small-in}

append-some : (a b : List ℕ) → 0 < length b → is_empty (a ++ b) ≡ false
append-some [] [] h = absurd (omega arith)
append-some [] (x ∷ b) h = refl
append-some (x ∷ a) b h = refl

module _ (m : List ℕ) (i : ℕ) (c : coded.Session) (q : List ℕ) (bytes : Octets m) (g : Grows m i c q) (time : c.time < 2 ^ 64) where
  abbrev n : ℕ
  n = count_at m i

  abbrev bs : List ℕ
  bs = blocks_of m i

  abbrev session : Session
  session = record { expected = c.expected; gathered = gathered_at m i ++ q; toggle = c.toggle; since = c.time; follows = c.follows }

  many : length bs ≡ need n
  many = list-many m i c q bytes g

  blocks-here : blocks_in (get_or (places_of m) i empty) ≡ bs
  blocks-here = ap blocks_in (table-held m g.ready bytes i g.place g.key)

  inside : i < length (places_of m)
  inside = omega (arith, g.place, length-places m)

  shared : Shared (used (places_of m))
  shared = ready-shared m g.ready bytes

  small-bs : Small bs
  small-bs = small m g.ready bytes i g.place g.key

  few-at : (b : ℕ) → times b bs ≤ times b (used (places_of m))
  few-at b = omega (arith, ap (times b) blocks-here, times-at b i (places_of m))

  fits : (cs : List ℕ) → length cs ≡ need c.len → place_fits (held (stream_of_key (key_at m i)) session cs) ≡ true
  fits cs e =
      place-fits (stream_of_key (key_at m i)) session cs (stream-fits m g.ready bytes i g.place g.key)
      (record {
        expected = g.expected;
        follows = g.follows;
        size = omega (arith, grown-length m i c q bytes g, g.few);
        toggle = rw (append-some (gathered_at m i) q g.some) (or-true (not c.toggle));
      }) (e ∙ ap need (sym (grown-length m i c q bytes g)))

  -- the numbers of the blocks, as the bytes m₁ list them
  numbers : (m₁ cs : List ℕ) → span m₁ (block_lists_at + i * blocks_each) (length cs) ≡ cs → (j : ℕ) → j < length cs → number_at m₁ i j ≡ get_or cs j 0
  numbers m₁ cs e j h = sym (number_of m₁ (block_lists_at + i * blocks_each) (length cs) j h) ∙ ap (λ (l : List ℕ). get_or l j 0) e

  appends : (m₁ cs : List ℕ) → length m₁ ≡ length m → length cs ≡ need c.len → Small cs → span m₁ (block_lists_at + i * blocks_each) (length cs) ≡ cs → Appends m₁ i n q
  appends m₁ cs l k s e =
      record {
        long = omega (arith, l, g.ready.long);
        place = g.place;
        few = omega (arith, g.len, g.few);
        some = g.some;
        short = g.short;
        number = omega (arith, numbers m₁ cs e (n / 64) (omega (arith, k, g.len, g.some)), small-in cs (n / 64) (omega (arith, k, g.len, g.some)) s);
        next = λ h. omega (arith, numbers m₁ cs e (n / 64 + 1) (omega (arith, k, g.len, h)), small-in cs (n / 64 + 1) (omega (arith, k, g.len, h)) s);
      }

  -- ── the blocks are enough ──

  module _ (enough : need c.len ≤ need n) where
    same : length bs ≡ need c.len
    same = omega (arith, many, enough, g.len)

    listed : span m (block_lists_at + i * blocks_each) (length bs) ≡ bs
    unfolding blocks_of
    listed = ap (span m (block_lists_at + i * blocks_each)) many

    pub kept-appends : Appends m i n q
    kept-appends = appends m bs refl same small-bs listed

    abbrev kept-place : Place
    kept-place = held (stream_of_key (key_at m i)) session bs

    pub kept-good : Good (set (places_of m) i kept-place)
    kept-good = good-set (places_of m) i kept-place (good-view m g.ready bytes) g.place (fits bs same) time (λ b. omega (arith, ap (times b) blocks-here))

    pub kept-grown : store_all m (code_stores i c ++ tail_stores m i n q) ≡ written m (set (places_of m) i (grown m i c q))
    kept-grown =
        grown-by m i c q bytes g bs (free_of m) m refl same small-bs (once-of bs (λ b. omega (arith, few-at b, shared.once b))) (λ j h. refl) refl (λ x h. refl) listed
        (free-there m g.ready bytes ∙ ap (le_bytes 8) (sym g.ready.free)) (record { as_long = refl; bytes = λ x t. refl }) kept-good
        (g.ready.free ∙ free-kept (places_of m) i kept-place inside (sym blocks-here))
        ∙ ap (λ (b : Bool). written m (set (places_of m) i (held (stream_of_key (key_at m i)) session (pick b (bs ++ (count_trailing_zeros blocks_max (free_of m) ∷ [])) bs))))
        (sym (le-ltb (need n) (need c.len) enough))

    -- as the code has them
    pub kept-fill : (k : ℕ) → k ≡ n → Appends m i k q
    kept-fill k e = subst (λ (x : ℕ). Appends m i x q) (sym e) kept-appends

    pub kept-done : (k : ℕ) → k ≡ n → (m' : List ℕ) → m' ≡ store_all m (code_stores i c ++ tail_stores m i k q) → m' ≡ written m (set (places_of m) i (grown m i c q))
    kept-done k e m' f = f ∙ ap (λ (x : ℕ). store_all m (code_stores i c ++ tail_stores m i x q)) e ∙ kept-grown

  -- ── one more ──

  module _ (more : need n < need c.len) where
    abbrev z : ℕ
    z = count_trailing_zeros blocks_max (free_of m)

    is_block : z < blocks_max
    is_block = g.block more

    found : free_block (places_of m) ≡ some z
    found =
        free-lowest (places_of m) ∙ ap (λ (x : ℕ). pick (ltb (count_trailing_zeros blocks_max x) blocks_max) (some (count_trailing_zeros blocks_max x)) none) (sym g.ready.free)
        ∙ ap (λ (b : Bool). pick b (some z) none) (lt-ltb z blocks_max is_block)

    unused : times z (used (places_of m)) ≡ 0
    unfolding free_block
    unused = (lowest-free 64 0 (used (places_of m)) z found).1

    abbrev cs : List ℕ
    cs = bs ++ (z ∷ [])

    one_more : length cs ≡ need c.len
    one_more = length-append bs (z ∷ []) ∙ omega (arith, many, more, g.len, g.short)

    small-append : (xs : List ℕ) → Small xs → Small (xs ++ (z ∷ []))
    small-append [] s = (is_block, tt)
    small-append (x ∷ xs) s = (s.0, small-append xs s.1)

    single : (b : ℕ) (t : Bool) → eqb b z ≡ t → times b (z ∷ []) ≡ pick t 1 0
    unfolding times
    single b true e = rw e
    single b false e = rw e

    count-cs : (b : ℕ) (t : Bool) → eqb b z ≡ t → times b cs ≡ times b bs + pick t 1 0
    count-cs b t e = times-append b bs (z ∷ []) ∙ ap (λ (x : ℕ). times b bs + x) (single b t e)

    once-cs : (b : ℕ) → times b cs ≤ 1
    once-cs b = go (eqb b z) refl
      where
        go : (t : Bool) → eqb b z ≡ t → times b cs ≤ 1
        go true e = omega (arith, count-cs b true e, few-at b, ap (λ (x : ℕ). times x (used (places_of m))) (eqb-true b z e), unused)
        go false e = omega (arith, count-cs b false e, few-at b, shared.once b)

    abbrev place : Place
    place = held (stream_of_key (key_at m i)) session cs

    shared-more : Shared (used (set (places_of m) i place))
    shared-more = record { once = λ b. once b (eqb b z) refl; small = λ b h. large b h (eqb b z) refl }
      where
        counts : (b : ℕ) (t : Bool) → eqb b z ≡ t → times b (used (set (places_of m) i place)) ≡ times b (used (places_of m)) + pick t 1 0
        counts b t e = omega (arith, used-set (places_of m) i place b inside, ap (times b) blocks-here, count-cs b t e)

        once : (b : ℕ) (t : Bool) → eqb b z ≡ t → times b (used (set (places_of m) i place)) ≤ 1
        once b true e = omega (arith, counts b true e, ap (λ (x : ℕ). times x (used (places_of m))) (eqb-true b z e), unused)
        once b false e = omega (arith, counts b false e, shared.once b)

        large : (b : ℕ) → 64 ≤ b → (t : Bool) → eqb b z ≡ t → times b (used (set (places_of m) i place)) ≡ 0
        large b h true e = absurd (omega (arith, h, eqb-true b z e, is_block))
        large b h false e = omega (arith, counts b false e, shared.small b h)

    pub more-good : Good (set (places_of m) i place)
    more-good =
        record {
          whole = length-set (places_of m) i place ∙ length-places m;
          fit = set-fits (places_of m) i place g.ready.fit (fits cs one_more);
          shared = shared-more;
          timed = set-timed (places_of m) i place (good-view m g.ready bytes).timed time;
        }

    -- the bytes once the block is claimed
    abbrev hs : List Store
    hs = claim_stores (free_of m) i (need n)

    abbrev m₁ : List ℕ
    m₁ = store_all m hs

    at-most : need n < blocks_each
    at-most = omega (arith, more, g.few)

    within : Within (length m) hs
    within = (
      omega (arith, g.ready.long, length-le_bytes 8 (excluding (free_of m) z)),
      (omega (arith, g.ready.long, g.place, at-most, length-le_bytes 1 z), tt),
    )

    as_long : length m₁ ≡ length m
    as_long = length-stores hs m within

    wrote : There m₁ hs
    wrote = there-all hs m within ((inl (omega (arith, length-le_bytes 8 (excluding (free_of m) z))), tt), (tt, tt))

    low : (x : ℕ) → Touched hs x → x < blocks_at
    low x (inl r) = omega (arith, r.1, length-le_bytes 8 (excluding (free_of m) z))
    low x (inr (inl r)) = omega (arith, r.1, length-le_bytes 1 z, g.place, at-most)
    low x (inr (inr t)) = absurd t

    high₁ : (x : ℕ) → blocks_at ≤ x → get_or m₁ x 0 ≡ get_or m x 0
    high₁ x h = sym ((agree-stores hs hs m within (inr (λ y r. inl r), (inr (λ y r. inr (inl r)), tt))).bytes x (λ t. omega (arith, h, low x t)))

    key₁ : span m₁ (stream_keys_at + i * 4) 4 ≡ span m (stream_keys_at + i * 4) 4
    key₁ = span-clear hs m (stream_keys_at + i * 4) 4 within (inr (omega (arith, length-le_bytes 8 (excluding (free_of m) z))), (inl (omega (arith, g.place)), tt))

    byte-z : le_bytes 1 z ≡ z ∷ []
    unfolding le_bytes
    byte-z = let e : z % 256 ≡ z = omega (arith, is_block) in ap (λ (x : ℕ). x ∷ []) e

    listed-before : span m₁ (block_lists_at + i * blocks_each) (need n) ≡ bs
    unfolding blocks_of
    listed-before =
        span-clear hs m (block_lists_at + i * blocks_each) (need n) within (inr (omega (arith, length-le_bytes 8 (excluding (free_of m) z))), (inl (omega arith), tt))

    listed-last : span m₁ (block_lists_at + i * blocks_each + need n) 1 ≡ z ∷ []
    listed-last = ap (span m₁ (block_lists_at + i * blocks_each + need n)) (sym (length-le_bytes 1 z)) ∙ wrote.1.0 ∙ byte-z

    list₁ : span m₁ (block_lists_at + i * blocks_each) (length cs) ≡ cs
    list₁ =
        let e : length cs ≡ need n + 1 = length-append bs (z ∷ []) ∙ omega (arith, many) in
        ap (span m₁ (block_lists_at + i * blocks_each)) e ∙ take-add (need n) 1 (drop (block_lists_at + i * blocks_each) m₁)
        ∙ ap₂ (λ (x y : List ℕ). x ++ y) listed-before (ap (take 1) (drop-drop (need n) (block_lists_at + i * blocks_each) m₁) ∙ listed-last)

    free₁ : span m₁ free_at 8 ≡ le_bytes 8 (excluding (free_of m) z)
    free₁ = ap (span m₁ free_at) (sym (length-le_bytes 8 (excluding (free_of m) z))) ∙ wrote.0

    prefix : (j : ℕ) → j < need n → get_or cs j 0 ≡ get_or bs j 0
    prefix j h = get_or-append bs (z ∷ []) 0 j (omega (arith, h, many))

    agree₁ : Agree (free_store (excluding (free_of m) z) ∷ place_stores i place) m m₁
    unfolding place_stores
    agree₁ =
        agree-stores hs (free_store (excluding (free_of m) z) ∷ place_stores i place) m within (
          inr (λ x r. inl r),
          (
            inr (λ x r. inr (inr (inr (inr (inl (omega (arith, r.0), omega (arith, r.1, length-le_bytes 1 z, length-append bs (z ∷ []), many))))))),
            tt,
          ),
        )

    freed : excluding (free_of m) z ≡ free_set (set (places_of m) i place)
    freed =
        ap (λ (x : ℕ). excluding x z) g.ready.free
        ∙ free-taken (places_of m) i z place inside unused (ap (λ (l : List ℕ). l ++ (z ∷ [])) (sym blocks-here))

    pub more-claims : (need n < blocks_each) × (z < blocks_max)
    more-claims = (at-most, is_block)

    pub more-appends : Appends m₁ i n q
    more-appends = appends m₁ cs as_long one_more (small-append bs small-bs) list₁

    pub more-grown : store_all m₁ (code_stores i c ++ tail_stores m₁ i n q) ≡ written m (set (places_of m) i (grown m i c q))
    more-grown =
        grown-by m i c q bytes g cs (excluding (free_of m) z) m₁ as_long one_more (small-append bs small-bs) (once-of cs once-cs) prefix key₁ high₁ list₁ free₁ agree₁ more-good freed
        ∙ ap (λ (b : Bool). written m (set (places_of m) i (held (stream_of_key (key_at m i)) session (pick b cs bs)))) (sym (lt-ltb (need n) (need c.len) more))

    claimed : (k h : ℕ) → k ≡ n → h ≡ need k → (m' : List ℕ) → m' ≡ store_all m (claim_stores (free_of m) i h) → m' ≡ m₁
    claimed k h e f m' d = d ∙ ap (λ (x : ℕ). store_all m (claim_stores (free_of m) i x)) (f ∙ ap need e)

    pub more-fill : (k h : ℕ) → k ≡ n → h ≡ need k → (m' : List ℕ) → m' ≡ store_all m (claim_stores (free_of m) i h) → Appends m' i k q
    more-fill k h e f m' d = subst (λ (x : List ℕ). Appends x i k q) (sym (claimed k h e f m' d)) (subst (λ (x : ℕ). Appends m₁ i x q) (sym e) more-appends)

    pub more-done : (k h : ℕ) → k ≡ n → h ≡ need k → (m' m'' : List ℕ) → m' ≡ store_all m (claim_stores (free_of m) i h) → m'' ≡ store_all m' (code_stores i c ++ tail_stores m' i k q)
        → m'' ≡ written m (set (places_of m) i (grown m i c q))
    more-done k h e f m' m'' d t =
        t ∙ ap₂ (λ (x : List ℕ) (y : ℕ). store_all x (code_stores i c ++ tail_stores x i y q)) (claimed k h e f m' d) e ∙ more-grown

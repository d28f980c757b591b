-- What the functions of `place` and `blocks` read and write, on plain lists.
use mathlib.Core.Path.{◌≡◌, refl, sym, ap, ap₂, subst, ◌∙◌}
use mathlib.Core.Bool.{Bool, true, false}
use mathlib.Core.Logic.{inl, inr}
use mathlib.Core.List.{List, [], ◌∷◌, ◌++◌, append_assoc, append-nil}
use Prim.Native.Nat.{ℕ, zero, suc, ◌+◌, ◌*◌, ◌-◌, ◌/◌, ◌%◌, ◌≤◌, ◌<◌}
use native.Mathlib.Omega.{arith}
use borrow.Author.Tests.{leb-true, leb-false, le-leb, lt-leb}
use lib.Count.{count_trailing_zeros}
use lib.Dec.{eqb, leb}
use lib.ListN.{length, get_or, take, drop, length-append, length-take, length-drop}
use lib.Seq.{take-suc, take_all, take-nil, take-take, take-append-add, get_or-take, get_or-drop}
use Rattle.bits.proofs.Little.{le-one, length-le_bytes}
use Rattle.bits.proofs.Splice.{length-span, length-splice, splice-next}
use Rattle.bits.specs.Little.{le_bytes}
use Rattle.bits.specs.Part.{span, splice}
use Rattle.blocks.proofs.Stores.{Touched, Within, length-stores, agree-stores, store-append}
use Rattle.blocks.specs.inside.Bit.{including, including_all, excluding}
use Rattle.blocks.specs.Stores.{store_all}
use Rattle.rules.specs.Blocks.{need}
use Rattle.rules.specs.Limits.{sessions_max, blocks_max}
use Rattle.sessions.specs.inside.Blocks.{claim_stores, number_at, tail_stores, Appends}
use Rattle.sessions.specs.inside.Place.{coded_at, code_stores}
use Rattle.rules.specs.Tests.{pick}
use Rattle.session.specs.declared.Session.{Session}
use Rattle.state.proofs.Chunks.{joined_length}
use Rattle.state.specs.Layout.{size, free_at, times_at, controls_at, block_lists_at, blocks_at, free_of, time_at, count_at, expected_at, flags_at, joined}
use Rattle.state.specs.Place.{one}
use Rattle.state.specs.inside.Ready.{Small}

-- ── one session ──

-- the fields' places
pub fields : (m : List ℕ) (i : ℕ) → i < sessions_max → size ≤ length m → (get_or m (controls_at + i * 4 + 2) 0 ≡ expected_at m i) × (get_or m (controls_at + i * 4 + 3) 0 ≡ flags_at m i)
unfolding expected_at flags_at
fields m i h l =
    let two : controls_at + i * 4 + 2 ≡ controls_at + 2 + i * 4 = omega arith in
    let three : controls_at + i * 4 + 3 ≡ controls_at + 3 + i * 4 = omega arith in
    (ap (λ (k : ℕ). get_or m k 0) two ∙ sym (le-one m (controls_at + 2 + i * 4) (omega arith)), ap (λ (k : ℕ). get_or m k 0) three ∙ sym (le-one m (controls_at + 3 + i * 4) (omega arith)))

pub loaded : (m : List ℕ) (i e t n f : ℕ) → e ≡ expected_at m i → f ≡ flags_at m i → t ≡ time_at m i → n ≡ count_at m i
    → record { expected = e; toggle = eqb (f % 2) 1; time = t; follows = f / 2; len = n } ≡ coded_at m i
unfolding coded_at
loaded m i e t n f p q r s = λ j. record { expected = p j; toggle = eqb (q j % 2) 1; time = r j; follows = q j / 2; len = s j }

-- the four control bytes as one word
pub word : (n e g : ℕ) → n < 65536 → e < 256 → g < 256 → le_bytes 4 (n + 65536 * (e + 256 * g)) ≡ le_bytes 2 n ++ (e ∷ g ∷ [])
unfolding le_bytes
word n e g hn he hg =
    let v = n + 65536 * (e + 256 * g) in
    let x : v / 256 ≡ n / 256 + 256 * (e + 256 * g) = omega arith in
    let a : v % 256 ≡ n % 256 = omega arith in
    let b : v / 256 % 256 ≡ n / 256 % 256 = rw x (omega arith) in
    let y : v / 256 / 256 ≡ e + 256 * g = omega arith in
    let c : v / 256 / 256 % 256 ≡ e = rw y (omega arith) in
    let z : v / 256 / 256 / 256 ≡ g = rw y (omega arith) in
    let d : v / 256 / 256 / 256 % 256 ≡ g = rw z (omega arith) in
    λ j. a j ∷ b j ∷ c j ∷ d j ∷ []

-- ── numbers of blocks ──

pub all_append : (n : ℕ) (bs : List ℕ) (b : ℕ) → including (including_all n bs) b ≡ including_all n (bs ++ (b ∷ []))
unfolding including_all
all_append n [] b = refl
all_append n (c ∷ bs) b = all_append (including n c) bs b

-- one more
pub span-suc : (m : List ℕ) (a j : ℕ) → a + j < length m → span m a (j + 1) ≡ span m a j ++ (get_or m (a + j) 0 ∷ [])
span-suc m a j h =
    let e : j + 1 ≡ suc j = omega arith in
    ap (span m a) e ∙ take-suc (drop a m) j 0 (omega (arith, length-drop a m)) ∙ ap (λ (x : ℕ). span m a j ++ (x ∷ [])) (get_or-drop a m j 0)

pub small-in : (bs : List ℕ) (j : ℕ) → j < length bs → Small bs → get_or bs j 0 < blocks_max
small-in [] j h s = absurd (omega arith)
small-in (b ∷ bs) zero h s = s.0
small-in (b ∷ bs) (suc j) h s = small-in bs j (omega arith) s.1

pub number_of : (m : List ℕ) (a n j : ℕ) → j < n → get_or (span m a n) j 0 ≡ get_or m (a + j) 0
number_of m a n j h = get_or-take n (drop a m) j 0 h ∙ get_or-drop a m j 0

pub small_one : (m : List ℕ) (a n j : ℕ) → j < n → a + n ≤ length m → Small (span m a n) → get_or m (a + j) 0 < blocks_max
small_one m a n j h l s = omega (arith, number_of m a n j h, small-in (span m a n) j (omega (arith, length-span m a n l)) s)

pub small-front : (bs : List ℕ) (n : ℕ) → Small bs → Small (take n bs)
small-front bs zero s = tt
small-front [] (suc n) s = tt
small-front (b ∷ bs) (suc n) s = (s.0, small-front bs n s.1)

-- ── the functions of `gathered` ──

pub claims : (m m₁ m₂ : List ℕ) (i n all b x : ℕ) → m₂ ≡ splice m₁ (block_lists_at + i * 9 + n) (le_bytes 1 b) → m₁ ≡ splice m free_at (le_bytes 8 x)
    → x ≡ excluding all b → b ≡ count_trailing_zeros blocks_max all → all ≡ free_of m → m₂ ≡ store_all m (claim_stores (free_of m) i n)
unfolding store_all
claims m m₁ m₂ i n all b x e₂ e₁ ex lo fr =
    let z : b ≡ count_trailing_zeros blocks_max (free_of m) = lo ∙ ap (count_trailing_zeros blocks_max) fr in
    e₂ ∙ ap₂ (λ (l : List ℕ) (y : ℕ). splice l (block_lists_at + i * 9 + n) (le_bytes 1 y)) (e₁ ∙ ap (λ (y : ℕ). splice m free_at (le_bytes 8 y)) (ex ∙ ap₂ excluding fr z)) z

pub next-number : (m : List ℕ) (i n : ℕ) → get_or m (block_lists_at + i * 9 + n / 64 + 1) 0 ≡ number_at m i (n / 64 + 1)
next-number m i n = let e : block_lists_at + i * 9 + n / 64 + 1 ≡ block_lists_at + i * 9 + (n / 64 + 1) = omega arith in ap (λ (k : ℕ). get_or m k 0) e

pub one-tail : (m : List ℕ) (i n : ℕ) (p : List ℕ) → n % 64 + length p ≤ 64
    → splice m (blocks_at + get_or m (block_lists_at + i * 9 + n / 64) 0 * 64 + n % 64) p ≡ store_all m (tail_stores m i n p)
unfolding store_all tail_stores
one-tail m i n p h = rw (le-leb (n % 64 + length p) 64 h)

pub two-tails : (m m₁ m₂ : List ℕ) (i n : ℕ) (p : List ℕ) → 64 < n % 64 + length p → 0 < length p
    → m₂ ≡ splice m₁ (blocks_at + get_or m (block_lists_at + i * 9 + n / 64 + 1) 0 * 64) (span p (64 - n % 64) (length p - (64 - n % 64)))
    → m₁ ≡ splice m (blocks_at + get_or m (block_lists_at + i * 9 + n / 64) 0 * 64 + n % 64) (span p 0 (64 - n % 64))
    → m₂ ≡ store_all m (tail_stores m i n p)
unfolding store_all tail_stores
two-tails m m₁ m₂ i n p h s e₂ e₁ =
    let d : span p (64 - n % 64) (length p - (64 - n % 64)) ≡ drop (64 - n % 64) p = take_all (length p - (64 - n % 64)) (drop (64 - n % 64) p) (omega (arith, length-drop (64 - n % 64) p)) in
    e₂ ∙ ap₂ (λ (l : List ℕ) (k : ℕ). splice l (blocks_at + k * 64) (span p (64 - n % 64) (length p - (64 - n % 64)))) e₁ (next-number m i n)
    ∙ ap (λ (y : List ℕ). splice (splice m (blocks_at + number_at m i (n / 64) * 64 + n % 64) (take (64 - n % 64) p)) (blocks_at + number_at m i (n / 64 + 1) * 64) y) d
    ∙ rw (lt-leb (n % 64 + length p) 64 h)

-- one more block in the set
pub one_more : (bs : List ℕ) (j free all : ℕ) → j < length bs → all ≡ including_all free (take j bs) → including all (get_or bs j 0) ≡ including_all free (take (j + 1) bs)
one_more bs j free all h e =
    let k : j + 1 ≡ suc j = omega arith in
    ap (λ (x : ℕ). including x (get_or bs j 0)) e ∙ all_append free (take j bs) (get_or bs j 0)
    ∙ ap (including_all free) (sym (ap (λ (i : ℕ). take i bs) k ∙ take-suc bs j 0 h))

-- ── gathering ──

joined-append : (m : List ℕ) (bs : List ℕ) (b : ℕ) → joined m (bs ++ (b ∷ [])) ≡ joined m bs ++ span m (blocks_at + b * 64) 64
unfolding joined
joined-append m [] b = append-nil (span m (blocks_at + b * 64) 64)
joined-append m (c ∷ bs) b = ap (λ (l : List ℕ). span m (blocks_at + c * 64) 64 ++ l) (joined-append m bs b) ∙ sym (append_assoc (span m (blocks_at + c * 64) 64) (joined m bs) (span m (blocks_at + b * 64) 64))

pub gather_none : (m : List ℕ) (n : ℕ) (all : List ℕ) → all ≡ splice all 0 (take n (joined m []))
unfolding joined
gather_none m n all = ap (splice all 0) (sym (take-nil n))

-- one block more
pub gather-more : (m : List ℕ) (a n j : ℕ) (all₀ all all' : List ℕ) (k : ℕ) → size ≤ length m → a + need n ≤ length m → Small (span m a (need n)) → n ≤ length all₀ → j * 64 < n
    → (k ≤ 64) × ((k ≤ n - j * 64) × (n - j * 64 ≤ 64 → k ≡ n - j * 64) × (64 ≤ n - j * 64 → k ≡ 64))
    → all ≡ splice all₀ 0 (take n (joined m (span m a j))) → all' ≡ splice all (j * 64) (span m (blocks_at + get_or m (a + j) 0 * 64) k)
    → (length all' ≡ length all₀) × (all' ≡ splice all₀ 0 (take n (joined m (span m a (j + 1)))))
gather-more m a n j all₀ all all' k long fits small room more chunk e f =
    let bs = span m a j in
    let b = get_or m (a + j) 0 in
    let at = blocks_at + b * 64 in
    let front : Small bs = subst Small (take-take j (need n) (drop a m) (omega arith)) (small-front (span m a (need n)) j small) in
    let xs = joined m bs in
    let lx : length xs ≡ j * 64 = joined_length m long bs front ∙ ap (λ (c : ℕ). c * 64) (length-span m a j (omega arith)) in
    let here : take n xs ≡ xs = take_all n xs (omega arith) in
    let ys : span m at k ≡ take (n - j * 64) (span m at 64) = part at in
    let q : take n (xs ++ span m at 64) ≡ xs ++ take (n - j * 64) (span m at 64) =
    ap (λ (c : ℕ). take c (xs ++ span m at 64)) (whole xs lx) ∙ take-append-add xs (span m at 64) (n - j * 64) in
    let g : all' ≡ splice all₀ 0 (xs ++ take (n - j * 64) (span m at 64)) =
    splice-next all₀ all all' 0 (j * 64) xs (take (n - j * 64) (span m at 64)) (omega arith) lx (e ∙ ap (splice all₀ 0) here) (f ∙ ap₂ (λ (c : ℕ) (l : List ℕ). splice all c l) zero ys) in
    let r : all' ≡ splice all₀ 0 (take n (joined m (span m a (j + 1)))) =
    g ∙ ap (splice all₀ 0) (sym (ap (λ (l : List ℕ). take n (joined m l)) (span-suc m a j (omega arith)) ∙ ap (take n) (joined-append m bs b) ∙ q)) in
    (ap length r ∙ length-splice all₀ 0 (take n (joined m (span m a (j + 1)))) (omega (arith, length-take n (joined m (span m a (j + 1))))), r)
  where
    zero : j * 64 ≡ 0 + j * 64
    zero = omega arith

    whole : (xs : List ℕ) → length xs ≡ j * 64 → n ≡ length xs + (n - j * 64)
    whole xs l = omega (arith, l, more)

    part : (at : ℕ) → span m at k ≡ take (n - j * 64) (span m at 64)
    part at = go (leb (n - j * 64) 64) refl
      where
        go : (t : Bool) → leb (n - j * 64) 64 ≡ t → span m at k ≡ take (n - j * 64) (span m at 64)
        go true z =
            let l = leb-true (n - j * 64) 64 z in
            ap (span m at) (chunk.1.1 l) ∙ sym (take-take (n - j * 64) 64 (drop at m) l)
        go false z =
            let l = leb-false (n - j * 64) 64 z in
            ap (span m at) (chunk.1.2 (omega arith)) ∙ sym (take_all (n - j * 64) (span m at 64) (omega (arith, length-take 64 (drop at m))))

-- ── the functions of `place` ──

pub codes : (m m₁ m₂ : List ℕ) (i : ℕ) (c : Session) (x y : ℕ) → x ≡ c.expected → y ≡ one c.toggle + 2 * c.follows → c.len < 65536 → x < 256 → y < 256
    → m₁ ≡ splice m (controls_at + i * 4) (le_bytes 4 (c.len + 65536 * (x + 256 * y))) → m₂ ≡ splice m₁ (times_at + i * 8) (le_bytes 8 c.time) → m₂ ≡ store_all m (code_stores i c)
unfolding store_all
codes m m₁ m₂ i c x y ex ey hl hx hy e₁ e₂ =
    e₂ ∙ ap (λ (l : List ℕ). splice l (times_at + i * 8) (le_bytes 8 c.time))
    (e₁ ∙ ap (splice m (controls_at + i * 4)) (word c.len x y hl hx hy ∙ ap₂ (λ (u v : ℕ). le_bytes 2 c.len ++ (u ∷ v ∷ [])) ex ey))

-- the control fields and the time are before the lists
module _ (m : List ℕ) (i : ℕ) (c : Session) (long : size ≤ length m) (place : i < sessions_max) where
  control-length : length (le_bytes 2 c.len ++ (c.expected ∷ (one c.toggle + 2 * c.follows) ∷ [])) ≡ 4
  control-length = length-append (le_bytes 2 c.len) (c.expected ∷ (one c.toggle + 2 * c.follows) ∷ []) ∙ omega (arith, length-le_bytes 2 c.len)

  within : Within (length m) (code_stores i c)
  within = (omega (arith, control-length), (omega (arith, length-le_bytes 8 c.time), tt))

  low : (x : ℕ) → block_lists_at ≤ x → Touched (code_stores i c) x → ⊥
  low x h (inl r) = omega (arith, r.1, control-length)
  low x h (inr (inl r)) = omega (arith, r.1, length-le_bytes 8 c.time)
  low x h (inr (inr t)) = t

  list-kept : (x : ℕ) → block_lists_at ≤ x → get_or (store_all m (code_stores i c)) x 0 ≡ get_or m x 0
  list-kept x h = sym ((agree-stores (code_stores i c) (code_stores i c) m within (inr (λ y r. inl r), (inr (λ y r. inr (inl r)), tt))).bytes x (low x h))

  number-kept : (j : ℕ) → number_at (store_all m (code_stores i c)) i j ≡ number_at m i j
  number-kept j = list-kept (block_lists_at + i * 9 + j) (omega arith)

  pub appends-after : (n : ℕ) (p m₁ : List ℕ) → Appends m i n p → m₁ ≡ store_all m (code_stores i c) → Appends m₁ i n p
  appends-after n p m₁ a e =
      subst (λ (x : List ℕ). Appends x i n p) (sym e)
      (record {
        long = omega (arith, long, length-stores (code_stores i c) m within);
        place = place;
        few = a.few;
        some = a.some;
        short = a.short;
        number = omega (arith, number-kept (n / 64), a.number);
        next = λ h. omega (arith, number-kept (n / 64 + 1), a.next h);
      })

  pub tail-after : (n : ℕ) (p m₁ m₂ : List ℕ) → m₁ ≡ store_all m (code_stores i c) → m₂ ≡ store_all m₁ (tail_stores m₁ i n p) → m₂ ≡ store_all m (code_stores i c ++ tail_stores m i n p)
  unfolding tail_stores
  tail-after n p m₁ m₂ e₁ e₂ =
      e₂ ∙ ap (λ (x : List ℕ). store_all x (tail_stores x i n p)) e₁
      ∙ ap₂ (λ (x y : ℕ). store_all (store_all m (code_stores i c)) (pick (leb (n % 64 + length p) 64) (record { at = blocks_at + x * 64 + n % 64; bytes = p } ∷ [])
      (record { at = blocks_at + x * 64 + n % 64; bytes = take (64 - n % 64) p } ∷ record { at = blocks_at + y * 64; bytes = drop (64 - n % 64) p } ∷ []))) (number-kept (n / 64)) (number-kept (n / 64 + 1))
      ∙ sym (store-append (code_stores i c) (tail_stores m i n p) m)

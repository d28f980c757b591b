-- Bytes in blocks: what is stored block by block is read back joined, and the joined bytes are there block by block.
use mathlib.Core.Path.{◌≡◌, refl, sym, ap, ap₂, subst, ◌∙◌}
use mathlib.Core.Logic.{inl, inr}
use mathlib.Core.Bool.{Bool, true, false}
use mathlib.Core.List.{List, [], ◌∷◌, ◌++◌}
use Prim.Native.Nat.{ℕ, suc, ◌+◌, ◌*◌, ◌-◌, ◌/◌, ◌%◌, ◌≤◌, ◌<◌}
use native.Mathlib.Omega.{arith}
use borrow.Author.Tests.{leb-true, leb-false, eqb-false, ltb-true, ltb-false}
use lib.Dec.{leb, ltb, eqb}
use lib.ListN.{length, get_or, take, drop, get_or-append, length-append, length-take, length-drop, take-append-drop}
use lib.Seq.{get_or-take, get_or-drop, get_or-append-add, length-take-le, take_all, take-append-le, take-append-add, take-take, take_at, drop_at}
use lib.ListN.{drop_of_length-le}
use Rattle.bits.proofs.Splice.{length-span}
use Rattle.bits.specs.Part.{span}
use Rattle.blocks.proofs.Stores.{Touched, Within, There, Clear, Apart, Disjoint, either}
use Rattle.blocks.specs.Stores.{Store}
use Rattle.rules.specs.Blocks.{times}
use Rattle.rules.specs.Limits.{block_size, blocks_max}
use Rattle.rules.specs.Tests.{pick}
use Rattle.state.specs.Layout.{size, blocks_at, joined}
use Rattle.state.specs.Place.{block_stores}
use Rattle.state.specs.inside.Ready.{Small}

-- none is there twice
abbrev pub Once : List ℕ → Type 0
Once [] = Unit {0}
Once (b ∷ bs) = (times b bs ≡ 0) × Once bs

pub times-tail : (b c : ℕ) (bs : List ℕ) → times b (c ∷ bs) ≡ 0 → (b ≡ c → ⊥) × (times b bs ≡ 0)
unfolding times
times-tail b c bs h = go (eqb b c) refl h
  where
    go : (t : Bool) → eqb b c ≡ t → pick t (suc (times b bs)) (times b bs) ≡ 0 → (b ≡ c → ⊥) × (times b bs ≡ 0)
    go true e k = absurd (omega (arith, k))
    go false e k = (eqb-false b c e, k)

-- ── a list cut after a block ──

module _ (xs ys : List ℕ) (n : ℕ) (full : length xs ≡ block_size) where
  pub take-few : n ≤ block_size → take n (xs ++ ys) ≡ take n xs
  take-few h = take-append-le n xs ys (omega arith)

  pub take-many : block_size ≤ n → take n (xs ++ ys) ≡ xs ++ take (n - block_size) ys
  take-many h =
      let e : n ≡ length xs + (n - block_size) = omega arith in
      ap (λ (k : ℕ). take k (xs ++ ys)) e ∙ take-append-add xs ys (n - block_size)

  first-few : n ≤ block_size → take block_size (take n (xs ++ ys)) ≡ take n xs
  first-few h = take_all block_size (take n (xs ++ ys)) (omega (arith, length-take n (xs ++ ys))) ∙ take-few h

  first-many : block_size ≤ n → take block_size (take n (xs ++ ys)) ≡ xs
  first-many h = take-take block_size n (xs ++ ys) h ∙ take_at xs ys block_size full

  pub rest-is : drop block_size (take n (xs ++ ys)) ≡ take (n - block_size) ys
  rest-is = go (leb block_size n) refl
    where
      go : (b : Bool) → leb block_size n ≡ b → drop block_size (take n (xs ++ ys)) ≡ take (n - block_size) ys
      go true e = ap (drop block_size) (take-many (leb-true block_size n e)) ∙ drop_at xs (take (n - block_size) ys) block_size full
      go false e =
          let l = leb-false block_size n e in
          let z : n - block_size ≡ 0 = omega arith in
          drop_of_length-le (take n (xs ++ ys)) {i = block_size} (omega (arith, length-take n (xs ++ ys))) ∙ ap (λ (k : ℕ). take k ys) (sym z)

-- a part's first n are the part of n
shorter : (m : List ℕ) (a n k : ℕ) → n ≤ k → take n (span m a k) ≡ span m a n
shorter m a n k h = take-take n k (drop a m) h

module _ (m : List ℕ) (long : size ≤ length m) where
  block-length : (b : ℕ) → b < blocks_max → length (span m (blocks_at + b * block_size) block_size) ≡ block_size
  block-length b h = length-span m (blocks_at + b * block_size) block_size (omega arith)

  pub joined_length : (bs : List ℕ) → Small bs → length (joined m bs) ≡ length bs * block_size
  unfolding joined
  joined_length [] s = refl
  joined_length (b ∷ bs) s =
      length-append (span m (blocks_at + b * block_size) block_size) (joined m bs) ∙ omega (arith, block-length b s.0, joined_length bs s.1)

  -- the joined bytes are there
  pub there-blocks : (bs : List ℕ) (n : ℕ) → Small bs → There m (block_stores bs (take n (joined m bs)))
  unfolding joined block_stores
  there-blocks [] n s = tt
  there-blocks (b ∷ bs) n s =
      let a = blocks_at + b * block_size in
      let xs = span m a block_size in
      let full = block-length b s.0 in
      (first (leb block_size n) refl, subst (λ (g : List ℕ). There m (block_stores bs g)) (sym (rest-is xs (joined m bs) n full)) (there-blocks bs (n - block_size) s.1))
    where
      first : (t : Bool) → leb block_size n ≡ t
          → span m (blocks_at + b * block_size) (length (take block_size (take n (span m (blocks_at + b * block_size) block_size ++ joined m bs))))
          ≡ take block_size (take n (span m (blocks_at + b * block_size) block_size ++ joined m bs))
      first true e =
          let xs = span m (blocks_at + b * block_size) block_size in
          let full = block-length b s.0 in
          rw (first-many xs (joined m bs) n full (leb-true block_size n e), full)
      first false e =
          let xs = span m (blocks_at + b * block_size) block_size in
          let full = block-length b s.0 in
          let l = leb-false block_size n e in
          let q : take n xs ≡ span m (blocks_at + b * block_size) n = shorter m (blocks_at + b * block_size) n block_size (omega arith) in
          let k : length (span m (blocks_at + b * block_size) n) ≡ n = length-span m (blocks_at + b * block_size) n (omega (arith, s.0)) in
          rw (first-few xs (joined m bs) n full (omega arith), q, k)

  -- what is there is read
  pub joined_back : (bs g : List ℕ) → Small bs → length g ≤ length bs * block_size → There m (block_stores bs g) → take (length g) (joined m bs) ≡ g
  unfolding joined block_stores
  joined_back [] [] s h t = refl
  joined_back [] (x ∷ g) s h t = absurd (omega arith)
  joined_back (b ∷ bs) g s h t = go (leb block_size (length g)) refl (λ k. joined_back bs (drop block_size g) s.1 k t.1)
    where
      at : ℕ
      at = blocks_at + b * block_size

      go : (c : Bool) → leb block_size (length g) ≡ c
          → (length (drop block_size g) ≤ length bs * block_size → take (length (drop block_size g)) (joined m bs) ≡ drop block_size g)
          → take (length g) (span m (blocks_at + b * block_size) block_size ++ joined m bs) ≡ g
      go true e later =
          let l = leb-true block_size (length g) e in
          let k : length (take block_size g) ≡ block_size = length-take-le block_size g l in
          let d : length (drop block_size g) ≡ length g - block_size = length-drop block_size g in
          let x : span m (blocks_at + b * block_size) block_size ≡ take block_size g = ap (span m (blocks_at + b * block_size)) (sym k) ∙ t.0 in
          let r : take (length g - block_size) (joined m bs) ≡ drop block_size g = ap (λ (j : ℕ). take j (joined m bs)) (sym d) ∙ later (omega arith) in
          take-many (span m (blocks_at + b * block_size) block_size) (joined m bs) (length g) (block-length b s.0) l
          ∙ ap₂ (λ (u v : List ℕ). u ++ v) x r ∙ take-append-drop block_size g
      go false e later =
          let l = leb-false block_size (length g) e in
          let w : take block_size g ≡ g = take_all block_size g (omega arith) in
          take-few (span m (blocks_at + b * block_size) block_size) (joined m bs) (length g) (block-length b s.0) (omega arith)
          ∙ shorter m (blocks_at + b * block_size) (length g) block_size (omega arith)
          ∙ ap (λ (u : List ℕ). span m (blocks_at + b * block_size) (length u)) (sym w) ∙ t.0 ∙ w

-- ── where the stores reach ──

few_bytes : (g : List ℕ) → length (take block_size g) ≤ block_size
few_bytes g = omega (arith, length-take block_size g)

pub within-blocks : (n : ℕ) (bs g : List ℕ) → size ≤ n → Small bs → Within n (block_stores bs g)
unfolding block_stores
within-blocks n [] g h s = tt
within-blocks n (b ∷ bs) g h s = (omega (arith, few_bytes g, s.0), within-blocks n bs (drop block_size g) h s.1)

-- a part before the blocks
pub clear-low : (a n : ℕ) (bs g : List ℕ) → a + n ≤ blocks_at → Clear a n (block_stores bs g)
unfolding block_stores
clear-low a n [] g h = tt
clear-low a n (b ∷ bs) g h = (inl (omega arith), clear-low a n bs (drop block_size g) h)

-- a part of another block
pub clear-block : (b r n : ℕ) (bs g : List ℕ) → r + n ≤ block_size → times b bs ≡ 0 → Clear (blocks_at + b * block_size + r) n (block_stores bs g)
unfolding block_stores
clear-block b r n [] g h t = tt
clear-block b r n (c ∷ bs) g h t =
    let d = times-tail b c bs t in (
      either (blocks_at + b * block_size + r) n (blocks_at + c * block_size) (length (take block_size g)) (λ p q. d.0 (omega (arith, few_bytes g, p, q, h))),
      clear-block b r n bs (drop block_size g) h d.1,
    )

-- a part of the whole state behind the blocks
pub clear-high : (a n : ℕ) (bs g : List ℕ) → size ≤ a → Small bs → Clear a n (block_stores bs g)
unfolding block_stores
clear-high a n [] g h s = tt
clear-high a n (b ∷ bs) g h s = (inr (omega (arith, few_bytes g, s.0)), clear-high a n bs (drop block_size g) h s.1)

pub zero-offset : (b : ℕ) (n : ℕ) (ws : List Store) → Clear (blocks_at + b * block_size + 0) n ws → Clear (blocks_at + b * block_size) n ws
zero-offset b n ws c = let z : blocks_at + b * block_size + 0 ≡ blocks_at + b * block_size = omega arith in subst (λ (k : ℕ). Clear k n ws) z c

pub disjoint-blocks : (bs g : List ℕ) → Once bs → Disjoint (block_stores bs g)
unfolding block_stores
disjoint-blocks [] g o = tt
disjoint-blocks (b ∷ bs) g o =
    (zero-offset b (length (take block_size g)) (block_stores bs (drop block_size g)) (clear-block b 0 (length (take block_size g)) bs (drop block_size g) (omega (arith, few_bytes g)) o.0), disjoint-blocks bs (drop block_size g) o.1)

-- the blocks of one session and stores that are clear of each
pub apart-blocks : (bs g : List ℕ) (ws : List Store) → ((b n : ℕ) → (times b bs ≡ 0 → ⊥) → n ≤ block_size → Clear (blocks_at + b * block_size) n ws) → Apart (block_stores bs g) ws
unfolding block_stores
apart-blocks [] g ws c = tt
apart-blocks (b ∷ bs) g ws c =
    (c b (length (take block_size g)) (λ z. (times-tail b b bs z).0 refl) (few_bytes g), apart-blocks bs (drop block_size g) ws (λ e n h k. c e n (λ z. h (times-tail e b bs z).1) k))

-- ── byte by byte ──

-- where byte x of these blocks is
abbrev pub address_of : List ℕ → ℕ → ℕ
address_of bs x = blocks_at + get_or bs (x / block_size) 0 * block_size + x % block_size

pub joined-byte : (m : List ℕ) → size ≤ length m → (bs : List ℕ) (x : ℕ) → Small bs → x < length bs * block_size → get_or (joined m bs) x 0 ≡ get_or m (address_of bs x) 0
unfolding joined
joined-byte m long [] x s h = absurd (omega arith)
joined-byte m long (b ∷ bs) x s h = go (ltb x block_size) refl (λ k. joined-byte m long bs (x - block_size) s.1 k)
  where
    go : (t : Bool) → ltb x block_size ≡ t → (x - block_size < length bs * block_size → get_or (joined m bs) (x - block_size) 0 ≡ get_or m (address_of bs (x - block_size)) 0)
        → get_or (span m (blocks_at + b * block_size) block_size ++ joined m bs) x 0 ≡ get_or m (address_of (b ∷ bs) x) 0
    go true e later =
        let l = ltb-true x block_size e in
        let q : x / block_size ≡ 0 = omega arith in
        let r : x % block_size ≡ x = omega arith in
        get_or-append (span m (blocks_at + b * block_size) block_size) (joined m bs) 0 x (omega (arith, block-length m long b s.0))
        ∙ get_or-take block_size (drop (blocks_at + b * block_size) m) x 0 l ∙ get_or-drop (blocks_at + b * block_size) m x 0
        ∙ sym (ap₂ (λ (i j : ℕ). get_or m (blocks_at + get_or (b ∷ bs) i 0 * block_size + j) 0) q r)
    go false e later =
        let l = ltb-false x block_size e in
        let n = block-length m long b s.0 in
        let j : x ≡ length (span m (blocks_at + b * block_size) block_size) + (x - block_size) = omega arith in
        let q : x / block_size ≡ suc ((x - block_size) / block_size) = omega arith in
        let r : x % block_size ≡ (x - block_size) % block_size = omega arith in
        ap (λ (k : ℕ). get_or (span m (blocks_at + b * block_size) block_size ++ joined m bs) k 0) j
        ∙ get_or-append-add (span m (blocks_at + b * block_size) block_size) (joined m bs) (x - block_size) 0
        ∙ later (omega arith) ∙ sym (ap₂ (λ (i j : ℕ). get_or m (blocks_at + get_or (b ∷ bs) i 0 * block_size + j) 0) q r)

-- the stores reach every byte in hand
pub touched-blocks : (bs g : List ℕ) (x : ℕ) → x < length g → x < length bs * block_size → Touched (block_stores bs g) (address_of bs x)
unfolding block_stores
touched-blocks [] g x h k = absurd (omega arith)
touched-blocks (b ∷ bs) g x h k = go (ltb x block_size) refl (λ i j. touched-blocks bs (drop block_size g) (x - block_size) i j)
  where
    go : (t : Bool) → ltb x block_size ≡ t
        → (x - block_size < length (drop block_size g) → x - block_size < length bs * block_size → Touched (block_stores bs (drop block_size g)) (address_of bs (x - block_size)))
        → Touched (record { at = blocks_at + b * block_size; bytes = take block_size g } ∷ block_stores bs (drop block_size g)) (address_of (b ∷ bs) x)
    go true e later =
        let l = ltb-true x block_size e in
        let q : x / block_size ≡ 0 = omega arith in
        let r : x % block_size ≡ x = omega arith in
        rw (q, r) (inl (omega arith, omega (arith, length-take block_size g)))
    go false e later =
        let l = ltb-false x block_size e in
        let q : x / block_size ≡ suc ((x - block_size) / block_size) = omega arith in
        let r : x % block_size ≡ (x - block_size) % block_size = omega arith in
        rw (q, r) (inr (later (omega (arith, length-drop block_size g)) (omega arith)))

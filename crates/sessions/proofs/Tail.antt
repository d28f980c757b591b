-- The bytes of a frame after those in hand: where they are stored, in one block or in two.
use mathlib.Core.Path.{◌≡◌, refl, sym, ap, ap₂, subst, ◌∙◌}
use mathlib.Core.Logic.{inl, inr}
use mathlib.Core.Bool.{Bool, true, false}
use mathlib.Core.List.{List, [], ◌∷◌}
use Prim.Native.Nat.{ℕ, zero, suc, ◌+◌, ◌*◌, ◌-◌, ◌/◌, ◌%◌, ◌≤◌, ◌<◌}
use native.Mathlib.Omega.{arith}
use borrow.Author.Tests.{ltb-true, ltb-false, leb-true, leb-false}
use lib.Dec.{ltb, leb}
use lib.ListN.{length, get_or, take, drop, length-drop}
use lib.Seq.{get_or-take, get_or-drop, length-take-le}
use Rattle.blocks.proofs.Stores.{Touched, Within, There, Clear, Disjoint, either, byte_of}
use Rattle.blocks.specs.Stores.{Store}
use Rattle.rules.specs.Blocks.{times}
use Rattle.rules.specs.Limits.{block_size, blocks_max}
use Rattle.rules.specs.Tests.{pick}
use Rattle.state.proofs.Chunks.{Once, address_of, times-tail}
use Rattle.state.specs.Layout.{size, blocks_at}
use Rattle.state.specs.inside.Ready.{Small}
use Rattle.sessions.proofs.Stored.{small-in}

-- ── addresses differ ──

listed : (bs : List ℕ) (j : ℕ) → j < length bs → times (get_or bs j 0) bs ≡ 0 → ⊥
listed [] j h z = omega arith
listed (b ∷ bs) zero h z = (times-tail b b bs z).0 refl
listed (b ∷ bs) (suc j) h z = listed bs j (omega arith) (times-tail (get_or bs j 0) b bs z).1

once-inj : (bs : List ℕ) (i j : ℕ) → Once bs → i < length bs → j < length bs → get_or bs i 0 ≡ get_or bs j 0 → i ≡ j
once-inj [] i j o h k e = absurd (omega arith)
once-inj (b ∷ bs) zero zero o h k e = refl
once-inj (b ∷ bs) zero (suc j) o h k e = absurd (listed bs j (omega arith) (ap (λ (x : ℕ). times x bs) (sym e) ∙ o.0))
once-inj (b ∷ bs) (suc i) zero o h k e = absurd (listed bs i (omega arith) (ap (λ (x : ℕ). times x bs) e ∙ o.0))
once-inj (b ∷ bs) (suc i) (suc j) o h k e = ap suc (once-inj bs i j o.1 (omega arith) (omega arith) e)

pub address-inj : (bs : List ℕ) (y z : ℕ) → Once bs → y < length bs * block_size → z < length bs * block_size → address_of bs y ≡ address_of bs z → y ≡ z
address-inj bs y z o h k e =
    let b : get_or bs (y / block_size) 0 ≡ get_or bs (z / block_size) 0 = omega arith in
    let q : y / block_size ≡ z / block_size = once-inj bs (y / block_size) (z / block_size) o (omega arith) (omega arith) b in
    omega arith

-- ── the stores ──

-- one of the bytes of the frame, as a number of all
pub record Among (bs : List ℕ) (n k x : ℕ) : Type 0 where
  pub number : ℕ
  pub from : n ≤ number
  pub to : number < n + k
  pub is : x ≡ address_of bs number

pub record Tail (bs : List ℕ) (n : ℕ) (q : List ℕ) (ws : List Store) : Type 0 where
  pub within : (l : ℕ) → size ≤ l → Within l ws
  pub disjoint : Disjoint ws
  pub among : (x : ℕ) → Touched ws x → Among bs n (length q) x
  pub low : (a k : ℕ) → a + k ≤ blocks_at → Clear a k ws
  pub byte : (m : List ℕ) → There m ws → (y : ℕ) → n ≤ y → y < n + length q → get_or m (address_of bs y) 0 ≡ get_or q (y - n) 0

module _ (bs : List ℕ) (n : ℕ) (q : List ℕ) (small : Small bs) (once : Once bs) (room : n + length q ≤ length bs * block_size) (some : 0 < length q) where
  first : get_or bs (n / block_size) 0 < blocks_max
  first = small-in bs (n / block_size) (omega arith) small

  -- y / 64 and y % 64, of a number in the block of n
  same_block : (y : ℕ) → n ≤ y → n % block_size + (y - n) < block_size → address_of bs y ≡ address_of bs n + (y - n)
  same_block y h k =
      let a : y / block_size ≡ n / block_size = omega arith in
      let b : y % block_size ≡ n % block_size + (y - n) = omega arith in
      ap₂ (λ (i j : ℕ). blocks_at + get_or bs i 0 * block_size + j) a b ∙ omega arith

  one_store : n % block_size + length q ≤ block_size → Tail bs n q (record { at = address_of bs n; bytes = q } ∷ [])
  one_store h =
      let f = first in
      record {
        within = λ l k. (omega arith, tt);
        disjoint = (tt, tt);
        among = among;
        low = λ a k l. (inl (omega arith), tt);
        byte = λ m t y k l. ap (λ (x : ℕ). get_or m x 0) (same_block y k (omega arith)) ∙ byte_of m (address_of bs n) (length q) (address_of bs n + (y - n)) q t.0 (omega arith) (omega arith)
            ∙ ap (λ (x : ℕ). get_or q x 0) (back y k);
      }
    where
      back : (y : ℕ) → n ≤ y → address_of bs n + (y - n) - address_of bs n ≡ y - n
      back y k = omega arith

      among : (x : ℕ) → Touched (record { at = address_of bs n; bytes = q } ∷ []) x → Among bs n (length q) x
      among x (inl r) =
          let y = n + (x - address_of bs n) in
          let e : x ≡ address_of bs n + (y - n) = omega (arith, r.0) in
          record { number = y; from = omega arith; to = omega (arith, r.0, r.1); is = e ∙ sym (same_block y (omega arith) (omega (arith, r.0, r.1, h))) }
      among x (inr t) = absurd t

  module _ (over : block_size < n % block_size + length q) (short : length q ≤ block_size) where
    abbrev cut : ℕ
    cut = block_size - n % block_size

    abbrev next : ℕ
    next = blocks_at + get_or bs (n / block_size + 1) 0 * block_size

    second : get_or bs (n / block_size + 1) 0 < blocks_max
    second = small-in bs (n / block_size + 1) (omega arith) small

    other : get_or bs (n / block_size) 0 ≡ get_or bs (n / block_size + 1) 0 → ⊥
    other e = let z = once-inj bs (n / block_size) (n / block_size + 1) once (omega arith) (omega arith) e in omega arith

    head-length : length (take cut q) ≡ cut
    head-length = length-take-le cut q (omega arith)

    rest-length : length (drop cut q) ≡ length q - cut
    rest-length = length-drop cut q

    next-block : (y : ℕ) → n + cut ≤ y → y < n + length q → address_of bs y ≡ next + (y - n - cut)
    next-block y h k =
        let a : y / block_size ≡ n / block_size + 1 = omega arith in
        let b : y % block_size ≡ y - n - cut = omega arith in
        ap₂ (λ (i j : ℕ). blocks_at + get_or bs i 0 * block_size + j) a b

    abbrev two : List Store
    two = record { at = address_of bs n; bytes = take cut q } ∷ record { at = next; bytes = drop cut q } ∷ []

    two-stores : Tail bs n q two
    two-stores =
        let f = first in
        let s = second in
        let a = head-length in
        let b = rest-length in
        record {
          within = λ l k. (omega arith, (omega arith, tt));
          disjoint = ((either (address_of bs n) (length (take cut q)) next (length (drop cut q)) (λ x y. other (omega arith)), tt), (tt, tt));
          among = among;
          low = λ a k l. (inl (omega arith), (inl (omega arith), tt));
          byte = λ m t y k l. read m t y k l (ltb y (n + cut)) refl;
        }
      where
        among : (x : ℕ) → Touched two x → Among bs n (length q) x
        among x (inl r) =
            let y = n + (x - address_of bs n) in
            let e : x ≡ address_of bs n + (y - n) = omega (arith, r.0) in
            record {
              number = y;
              from = omega arith;
              to = omega (arith, r.0, r.1, head-length, over);
              is = e ∙ sym (same_block y (omega arith) (omega (arith, r.0, r.1, head-length)));
            }
        among x (inr (inl r)) =
            let y = n + cut + (x - next) in
            let e : x ≡ next + (y - n - cut) = omega (arith, r.0) in
            record {
              number = y;
              from = omega arith;
              to = omega (arith, r.0, r.1, rest-length, over);
              is = e ∙ sym (next-block y (omega arith) (omega (arith, r.0, r.1, rest-length, over)));
            }
        among x (inr (inr t)) = absurd t

        read : (m : List ℕ) → There m two → (y : ℕ) → n ≤ y → y < n + length q → (b : Bool) → ltb y (n + cut) ≡ b → get_or m (address_of bs y) 0 ≡ get_or q (y - n) 0
        read m t y k l true e =
            let g = ltb-true y (n + cut) e in
            let z : address_of bs n + (y - n) - address_of bs n ≡ y - n = omega arith in
            ap (λ (x : ℕ). get_or m x 0) (same_block y k (omega (arith, g)))
            ∙ byte_of m (address_of bs n) (length (take cut q)) (address_of bs n + (y - n)) (take cut q) t.0 (omega arith) (omega (arith, g, k, head-length))
            ∙ ap (λ (x : ℕ). get_or (take cut q) x 0) z ∙ get_or-take cut q (y - n) 0 (omega (arith, g, k))
        read m t y k l false e =
            let g = ltb-false y (n + cut) e in
            let z : next + (y - n - cut) - next ≡ y - n - cut = omega arith in
            let w : cut + (y - n - cut) ≡ y - n = omega (arith, g) in
            ap (λ (x : ℕ). get_or m x 0) (next-block y g l)
            ∙ byte_of m next (length (drop cut q)) (next + (y - n - cut)) (drop cut q) t.1.0 (omega arith) (omega (arith, g, l, rest-length))
            ∙ ap (λ (x : ℕ). get_or (drop cut q) x 0) z ∙ get_or-drop cut q (y - n - cut) 0 ∙ ap (λ (x : ℕ). get_or q x 0) w

  -- as `append` chooses: a and b are the numbers of the blocks
  pub tail : length q ≤ block_size → (a b : ℕ) → a ≡ get_or bs (n / block_size) 0 → (block_size < n % block_size + length q → b ≡ get_or bs (n / block_size + 1) 0)
      → Tail bs n q (pick (leb (n % block_size + length q) block_size) (record { at = blocks_at + a * block_size + n % block_size; bytes = q } ∷ [])
      (record { at = blocks_at + a * block_size + n % block_size; bytes = take (block_size - n % block_size) q } ∷ record { at = blocks_at + b * block_size; bytes = drop (block_size - n % block_size) q } ∷ []))
  tail short a b e f = go (leb (n % block_size + length q) block_size) refl
    where
      go : (t : Bool) → leb (n % block_size + length q) block_size ≡ t
          → Tail bs n q (pick t (record { at = blocks_at + a * block_size + n % block_size; bytes = q } ∷ [])
          (record { at = blocks_at + a * block_size + n % block_size; bytes = take (block_size - n % block_size) q } ∷ record { at = blocks_at + b * block_size; bytes = drop (block_size - n % block_size) q } ∷ []))
      go true k =
          subst (λ (x : ℕ). Tail bs n q (record { at = blocks_at + x * block_size + n % block_size; bytes = q } ∷ [])) (sym e) (one_store (leb-true (n % block_size + length q) block_size k))
      go false k =
          let l = leb-false (n % block_size + length q) block_size k in
          subst (λ (x : ℕ). Tail bs n q (record { at = blocks_at + x * block_size + n % block_size; bytes = take (block_size - n % block_size) q } ∷ record { at = blocks_at + b * block_size; bytes = drop (block_size - n % block_size) q } ∷ [])) (sym e)
          (subst (λ (y : ℕ). Tail bs n q (record { at = address_of bs n; bytes = take (block_size - n % block_size) q } ∷ record { at = blocks_at + y * block_size; bytes = drop (block_size - n % block_size) q } ∷ [])) (sym (f l)) (two-stores l short))

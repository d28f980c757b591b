-- Items that follow each other: one item more, read or stored; and what a list at the end is refused for.
use mathlib.Core.Path.{◌≡◌, refl, sym, ap, ◌∙◌}
use mathlib.Core.Bool.{Bool, true, false, not}
use mathlib.Core.List.{List, [], ◌∷◌, ◌++◌, append-nil, append_assoc}
use Prim.Native.Nat.{ℕ, zero, suc, ◌+◌, ◌*◌, ◌/◌, ◌%◌, ◌≤◌, ◌<◌}
use native.Mathlib.Nat.{zero-mul, suc-mul, mul-le-mul, mul-le-mul_right, div-add-mod'}
use native.Mathlib.Numerals.{add-one}
use native.Mathlib.Omega.{arith}
use borrow.Author.Tests.{le-ltb, le-leb, lt-leb, ltb-true, ltb-false, leb-false, eqb-true, eqb-false}
use lib.Dec.{ltb, leb, eqb}
use lib.ListN.{length, take, drop, get_or, set, length-drop, take-append-drop, replicate, replicate-append-replicate}
use lib.Seq.{drop-drop, take_all, take-suc, take-suc-set, length-take-le}
use Rattle.bits.specs.Order.{Octets, digits, octets, value_from, value, unpack, number, to_bits, from_bits, bytes, store}
use Rattle.bits.proofs.Bytes.{bytes-unpack}
use Rattle.shape.specs.Answer.{Answer, refused, got, numbered, refuse_if, map_answer}
use Rattle.shape.specs.Shape.{end, tail, anything, item_bits, items_of, all_zero, decode}
use Rattle.shape.specs.inside.Items.{refusal_of}
use Rattle.shape.proofs.Fields.{length-item_bits, length-items_of}
use Rattle.shape.proofs.Writing.{more-from}
use Rattle.shape.proofs.Reading.{refused-on, got-on, unrefused, unread}

-- ── places ──

-- the i-th of n items lies among them
pub place_in : (i n w : ℕ) → i < n → i * w + w ≤ n * w
place_in i n w h =
    let e : suc i * w ≡ i * w + w = suc-mul i w in
    let l : suc i * w ≤ n * w = mul-le-mul_right w h in
    omega arith

-- and takes few enough bits
pub place-low : (i w : ℕ) → i < 65536 → w ≤ 64 → i * w ≤ 4194304
place-low i w h l =
    let a : i ≤ 65536 = omega arith in
    let k : i * w ≤ 65536 * 64 = mul-le-mul a l in
    omega arith

-- ── one item more ──

pub items-snoc : (w n : ℕ) (bs : List Bool) → items_of w (suc n) bs ≡ items_of w n bs ++ (from_bits w (drop (n * w) bs) ∷ [])
unfolding items_of
items-snoc w zero bs = ap (λ (k : ℕ). from_bits w (drop k bs) ∷ []) (sym (zero-mul w))
items-snoc w (suc n) bs =
    let e : w + n * w ≡ suc n * w = sym (suc-mul n w ∙ omega arith) in
    ap (λ (l : List ℕ). from_bits w bs ∷ l) (items-snoc w n (drop w bs))
    ∙ ap (λ (l : List Bool). from_bits w bs ∷ (items_of w n (drop w bs) ++ (from_bits w l ∷ []))) (drop-drop (n * w) w bs)
    ∙ ap (λ (k : ℕ). from_bits w bs ∷ (items_of w n (drop w bs) ++ (from_bits w (drop k bs) ∷ []))) e

item_bits-append : (w : ℕ) (xs ys : List ℕ) → item_bits w (xs ++ ys) ≡ item_bits w xs ++ item_bits w ys
unfolding item_bits
item_bits-append w [] ys = refl
item_bits-append w (x ∷ xs) ys = rw (item_bits-append w xs ys) (sym (append_assoc (to_bits w x) (item_bits w xs) (item_bits w ys)))

one-item : (w x : ℕ) → item_bits w (x ∷ []) ≡ to_bits w x
unfolding item_bits
one-item w x = append-nil (to_bits w x)

pub read-turn : (u : List Bool) (at w : ℕ) (out : List ℕ) (i x : ℕ) → i < length out → take i out ≡ items_of w i (drop at u) → x ≡ from_bits w (drop (at + i * w) u)
    → take (suc i) (set out i x) ≡ items_of w (suc i) (drop at u)
read-turn u at w out i x h e f =
    take-suc-set out i x h ∙ ap (λ (l : List ℕ). l ++ (x ∷ [])) e ∙ ap (λ (y : ℕ). items_of w i (drop at u) ++ (y ∷ [])) f
    ∙ ap (λ (b : List Bool). items_of w i (drop at u) ++ (from_bits w b ∷ [])) (sym (drop-drop (i * w) at u)) ∙ sym (items-snoc w i (drop at u))

pub write-turn : (m m' m'' : List ℕ) (at w : ℕ) (xs : List ℕ) (i : ℕ) → i < length xs → at + i * w ≤ length m * 8 → m' ≡ store m at (item_bits w (take i xs))
    → m'' ≡ store m' (at + i * w) (to_bits w (get_or xs i 0)) → m'' ≡ store m at (item_bits w (take (suc i) xs))
write-turn m m' m'' at w xs i h l e f =
    let k : length (item_bits w (take i xs)) ≡ i * w = length-item_bits w (take i xs) ∙ ap (λ (j : ℕ). j * w) (length-take-le i xs (omega arith)) in
    more-from at m m' m'' (item_bits w (take i xs)) (to_bits w (get_or xs i 0)) (at + i * w) e (omega arith) l f
    ∙ ap (λ (b : List Bool). store m at (item_bits w (take i xs) ++ b)) (sym (one-item w (get_or xs i 0)))
    ∙ ap (λ (b : List Bool). store m at b) (sym (item_bits-append w (take i xs) (get_or xs i 0 ∷ [])) ∙ ap (λ (ys : List ℕ). item_bits w ys) (sym (take-suc xs i 0 h)))

-- nothing stored
pub store-none : (m : List ℕ) (at : ℕ) → Octets m → store m at [] ≡ m
unfolding store
store-none m at o =
    let z : at + 0 ≡ at = omega arith in
    ap (λ (k : ℕ). bytes (length m) (take at (unpack m) ++ drop k (unpack m))) z
    ∙ ap (λ (b : List Bool). bytes (length m) b) (take-append-drop at (unpack m)) ∙ bytes-unpack (length m) m refl o

-- ── padding ──

zero-digits : (k : ℕ) → digits k 0 ≡ replicate k false
unfolding digits
zero-digits zero = refl
zero-digits (suc k) = rw (zero-digits k, replicate-append-replicate k 1 false, add-one)

pub zero_bits : (k : ℕ) → k < 8 → to_bits k 0 ≡ replicate k false
unfolding to_bits octets
zero_bits k h =
    let q : k / 8 ≡ 0 = omega arith in
    let r : k % 8 ≡ k = omega arith in
    rw (q, r) (zero-digits k)

-- ── the end ──

-- fewer than 8 bits, as a number
few : (r : ℕ) (bs : List Bool) → r < 8 → length bs ≡ r → from_bits r bs ≡ value bs
unfolding from_bits number
few r bs h e =
    let q : r / 8 ≡ 0 = omega arith in
    let m : r % 8 ≡ r = omega arith in
    rw (q, m, take_all r bs (omega arith))

value-zero : (a : ℕ) (bs : List Bool) → value_from a bs ≡ 0 → (a ≡ 0) × (all_zero bs ≡ true)
unfolding value_from
value-zero a [] e = (e, refl)
value-zero a (true ∷ bs) e = let i : (a + a + 1 ≡ 0) × (all_zero bs ≡ true) = value-zero (a + a + 1) bs e in absurd (omega (arith, i.0))
value-zero a (false ∷ bs) e = let i : (a + a + 0 ≡ 0) × (all_zero bs ≡ true) = value-zero (a + a + 0) bs e in (omega (arith, i.0), i.1)

zero-value : (bs : List Bool) → all_zero bs ≡ true → value bs ≡ 0
unfolding value_from
zero-value [] e = refl
zero-value (true ∷ bs) e = absurd (let z : ◌≡◌ {A = ℕ} 0 1 = cc in omega arith)
zero-value (false ∷ bs) e = zero-value bs e

not-zero : (bs : List Bool) → (value bs ≡ 0 → ⊥) → all_zero bs ≡ false
not-zero bs n = go (all_zero bs) refl where
  go : (b : Bool) → all_zero bs ≡ b → all_zero bs ≡ false
  go true e = absurd (n (zero-value bs e))
  go false e = e

-- the end without a list, fewer than 8 bits before that of the payload
module _ (bs : List Bool) (r : ℕ) (h : r < 8) (e : length bs ≡ r) where
  pub end-set : (from_bits r bs ≡ 0 → ⊥) → decode end bs ≡ refused 25
  unfolding decode refuse_if
  end-set n = rw (lt-leb 8 (length bs) (omega arith), not-zero bs (λ z. n (few r bs h e ∙ z)))

  pub end-clear : from_bits r bs ≡ 0 → decode end bs ≡ got tt
  unfolding decode refuse_if
  end-clear z = rw (lt-leb 8 (length bs) (omega arith), (value-zero 0 bs (sym (few r bs h e) ∙ z)).1)

-- bs: the bits from the list's start on; k of them
module _ (w m : ℕ) (hw : 8 ≤ w) (bs : List Bool) (k : ℕ) (e : length bs ≡ k) where
  abbrev answer : Answer ℕ
  answer = map_answer length (decode (tail w m anything) bs)

  split : k / w * w + k % w ≡ k
  split = div-add-mod' k w

  -- more bits than m items and a short byte
  pub too_long : m * w + 7 < k → answer ≡ refused 16
  unfolding decode refuse_if map_answer
  too_long h = go (ltb m (k / w)) refl where
    go : (b : Bool) → ltb m (k / w) ≡ b → answer ≡ refused 16
    go true f = rw (e, f)
    go false f =
        let l : k / w * w ≤ m * w = mul-le-mul_right w (ltb-false m (k / w) f) in
        rw (e, f, le-leb 8 (k % w) (omega (arith, split)))

  -- no more than these
  module _ (h : k ≤ m * w + 7) where
    pub in_count : k / w ≤ m
    in_count = go (ltb m (k / w)) refl where
      go : (b : Bool) → ltb m (k / w) ≡ b → k / w ≤ m
      go true f =
          let l : suc m * w ≤ k / w * w = mul-le-mul_right w (ltb-true m (k / w) f) in
          absurd (omega (arith, split, suc-mul m w))
      go false f = ltb-false m (k / w) f

    -- x: the value of the bits left over
    module _ (x : ℕ) (ex : x ≡ from_bits (k % w) (drop (k / w * w) bs)) where
      left : length (drop (k / w * w) bs) ≡ k % w
      left = length-drop (k / w * w) bs ∙ omega (arith, split)

      is-value : k % w < 8 → x ≡ value (drop (k / w * w) bs)
      is-value l = ex ∙ few (k % w) (drop (k / w * w) bs) l left

      -- refused for the bits left over, or counted
      judged : (a b : Bool) → leb 8 (k % w) ≡ a → eqb x 0 ≡ b → answer ≡ map_answer (λ (u : Unit {0}). k / w) (refusal_of a b)
      unfolding decode refuse_if map_answer
      judged true b f g = rw (e, le-ltb m (k / w) in_count, f)
      judged false false f g =
          let l : k % w < 8 = leb-false 8 (k % w) f in
          rw (e, le-ltb m (k / w) in_count, f, not-zero (drop (k / w * w) bs) (λ z. eqb-false x 0 g (is-value l ∙ z)))
      judged false true f g =
          let l : k % w < 8 = leb-false 8 (k % w) f in
          let z : all_zero (drop (k / w * w) bs) ≡ true = (value-zero 0 (drop (k / w * w) bs) (sym (is-value l) ∙ eqb-true x 0 g)).1 in
          rw (e, le-ltb m (k / w) in_count, f, z) (ap got (length-items_of w (k / w) bs))

      pub refusal : (n : ℕ) → numbered (refused n) ≡ numbered (refusal_of (leb 8 (k % w)) (eqb x 0)) → answer ≡ refused n
      refusal n f = refused-on (λ (u : Unit {0}). k / w) (judged (leb 8 (k % w)) (eqb x 0) refl refl) (unrefused (refusal_of (leb 8 (k % w)) (eqb x 0)) n f)

      pub count : numbered (got tt) ≡ numbered (refusal_of (leb 8 (k % w)) (eqb x 0)) → answer ≡ got (k / w)
      count f = got-on (λ (u : Unit {0}). k / w) (judged (leb 8 (k % w)) (eqb x 0) refl refl) (unread (refusal_of (leb 8 (k % w)) (eqb x 0)) tt f)

-- what a count tells
pub record Counts (w m n : ℕ) (bs : List Bool) : Type 0 where
  pub is : decode (tail w m anything) bs ≡ got (items_of w n bs)
  pub few : n ≤ m
  pub inside : n * w ≤ length bs

module _ (w m n : ℕ) (bs : List Bool) where
  abbrev k : ℕ
  k = length bs / w

  by : (b₁ b₂ b₃ : Bool) → ltb m k ≡ b₁ → leb 8 (length bs % w) ≡ b₂ → all_zero (drop (k * w) bs) ≡ b₃
      → map_answer length (refuse_if b₁ 16 (refuse_if b₂ 16 (refuse_if (not b₃) 25 (got (items_of w k bs))))) ≡ got n → Counts w m n bs
  unfolding decode refuse_if map_answer
  by true b₂ b₃ e₁ e₂ e₃ e = absurd (let z : ◌≡◌ {A = ℕ} 0 1 = cc in omega arith)
  by false true b₃ e₁ e₂ e₃ e = absurd (let z : ◌≡◌ {A = ℕ} 0 1 = cc in omega arith)
  by false false false e₁ e₂ e₃ e = absurd (let z : ◌≡◌ {A = ℕ} 0 1 = cc in omega arith)
  by false false true e₁ e₂ e₃ e =
      let l : length (items_of w k bs) ≡ n = cc in
      let j : k ≡ n = sym (length-items_of w k bs) ∙ l in
      record {
        is = rw (e₁, e₂, e₃) (ap (λ (i : ℕ). got (items_of w i bs)) j);
        few = omega (arith, ltb-false m k e₁);
        inside = let i : k * w ≡ n * w = ap (λ (x : ℕ). x * w) j in omega (arith, div-add-mod' (length bs) w);
      }

  pub counts : map_answer length (decode (tail w m anything) bs) ≡ got n → Counts w m n bs
  unfolding decode refuse_if
  counts e = by (ltb m k) (leb 8 (length bs % w)) (all_zero (drop (k * w) bs)) refl refl refl e

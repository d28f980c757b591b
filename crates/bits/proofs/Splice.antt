-- Laws of `span` and `splice`: what a store at a place leaves there and elsewhere.
use mathlib.Core.Path.{◌≡◌, refl, sym, ap, ap₂, ◌∙◌}
use mathlib.Core.Bool.{Bool, true, false}
use mathlib.Core.List.{List, [], ◌∷◌, ◌++◌, append_assoc, append-nil}
use Prim.Native.Nat.{ℕ, ◌+◌, ◌-◌, ◌≤◌, ◌<◌}
use native.Mathlib.Nat.{add-sub_cancel_left}
use native.Mathlib.Numerals.{add-one}
use native.Mathlib.Omega.{arith}
use borrow.Author.Tests.{ltb-true, ltb-false}
use lib.Dec.{ltb}
use lib.ListN.{length, take, drop, set, length-append, length-drop, take-append-drop}
use lib.Seq.{length-take-le, set_split, take_at, drop_at, take-append-le, take-take, take-add, drop-drop, drop-length, drop-append-le}
use borrow.Rule.Slice.PartMut.{put_mid}
use Rattle.bits.specs.Part.{span, splice}

-- what the borrow checker says of a part `&mut m[at..at + n]` that has come back
pub mid-splice : (m ys zs : List ℕ) (at n : ℕ) → ys ≡ zs → length zs ≡ n → put_mid at (at + n - at) m ys ≡ splice m at zs
mid-splice m ys zs at n e l =
    ap (λ (j : ℕ). put_mid at j m ys) (add-sub_cancel_left at n ∙ sym l) ∙ ap (λ (x : List ℕ). take at m ++ (x ++ drop (length zs) (drop at m))) e
    ∙ ap (λ (x : List ℕ). take at m ++ (zs ++ x)) (drop-drop (length zs) at m)

pub length-span : {A : Type 0} (m : List A) (at n : ℕ) → at + n ≤ length m → length (span m at n) ≡ n
length-span m at n h = let d : length (drop at m) ≡ length m - at = length-drop at m in length-take-le n (drop at m) (omega arith)

span-take : {A : Type 0} (m : List A) (at n : ℕ) → at ≤ length m → span m at n ≡ drop at (take (at + n) m)
span-take m at n h = sym (ap (λ l. drop at l) (take-add at n m) ∙ drop_at (take at m) (span m at n) at (length-take-le at m h))

module _ {A : Type 0} (m : List A) (at : ℕ) (ys : List A) (fits : at + length ys ≤ length m) where
  front : length (take at m) ≡ at
  front = length-take-le at m (omega arith)

  head : length (take at m ++ ys) ≡ at + length ys
  head = omega (arith, front, length-append (take at m) ys)

  grouped : splice m at ys ≡ (take at m ++ ys) ++ drop (at + length ys) m
  grouped = sym (append_assoc (take at m) ys (drop (at + length ys) m))

  pub length-splice : length (splice m at ys) ≡ length m
  length-splice = simp length-append (omega (arith, front, length-drop (at + length ys) m))

  -- up to the end of what was stored
  pub take-splice : (n : ℕ) → n ≡ at + length ys → take n (splice m at ys) ≡ take at m ++ ys
  take-splice n e = ap (λ l. take n l) grouped ∙ take_at (take at m ++ ys) (drop (at + length ys) m) n (head ∙ sym e)

  -- after what was stored
  pub drop-splice : drop (at + length ys) (splice m at ys) ≡ drop (at + length ys) m
  drop-splice = ap (λ l. drop (at + length ys) l) grouped ∙ drop_at (take at m ++ ys) (drop (at + length ys) m) (at + length ys) head

  -- what was stored is read back
  pub span_same : (n : ℕ) → n ≡ length ys → span (splice m at ys) at n ≡ ys
  span_same n e =
      ap (λ l. take n l) (drop_at (take at m) (ys ++ drop (at + length ys) m) at front) ∙ take_at ys (drop (at + length ys) m) n (sym e)

  -- what lies before is as it was
  pub span-before : (a n : ℕ) → a + n ≤ at → span (splice m at ys) a n ≡ span m a n
  span-before a n h =
      span-take (splice m at ys) a n (omega (arith, length-splice))
      ∙ ap (λ l. drop a l) (take-append-le (a + n) (take at m) (ys ++ drop (at + length ys) m) (omega (arith, front)) ∙ take-take (a + n) at m h)
      ∙ sym (span-take m a n (omega arith))

  -- what comes after is as it was
  pub span-behind : (a n : ℕ) → at + length ys ≤ a → span (splice m at ys) a n ≡ span m a n
  span-behind a n h =
      let j : (at + length ys) + (a - (at + length ys)) ≡ a = omega arith in
      ap (λ l. take n l)
      (ap (λ (i : ℕ). drop i (splice m at ys)) (sym j) ∙ sym (drop-drop (a - (at + length ys)) (at + length ys) (splice m at ys))
      ∙ ap (λ l. drop (a - (at + length ys)) l) drop-splice ∙ drop-drop (a - (at + length ys)) (at + length ys) m ∙ ap (λ (i : ℕ). drop i m) j)

  -- two stores side by side are one
  pub splice-splice : (zs : List A) → splice (splice m at ys) (at + length ys) zs ≡ splice m at (ys ++ zs)
  splice-splice zs =
      let j : at + length ys + length zs ≡ at + length (ys ++ zs) = omega (arith, length-append ys zs) in
      let d : drop (at + length ys + length zs) (splice m at ys) ≡ drop (at + length (ys ++ zs)) m =
      sym (drop-drop (length zs) (at + length ys) (splice m at ys)) ∙ ap (λ l. drop (length zs) l) drop-splice
      ∙ drop-drop (length zs) (at + length ys) m ∙ ap (λ (n : ℕ). drop n m) j in
      rw (take-splice (at + length ys) refl, d) (simp append_assoc)

-- a store right after another
pub splice-next : {A : Type 0} (m m' m'' : List A) (at n : ℕ) (ys zs : List A) → at + n ≤ length m → length ys ≡ n → m' ≡ splice m at ys
    → m'' ≡ splice m' (at + n) zs → m'' ≡ splice m at (ys ++ zs)
splice-next m m' m'' at n ys zs h l e f =
    f ∙ rw (e, ← l) (splice-splice m at ys (omega arith) zs)

-- one element stored
pub set-splice : {A : Type 0} (m : List A) (i : ℕ) (x : A) → i < length m → set m i x ≡ splice m i (x ∷ [])
set-splice m i x h = rw (add-one, set_split m i x)

-- a store over all of m
pub splice_all : {A : Type 0} (m ys : List A) → length ys ≡ length m → splice m 0 ys ≡ ys
splice_all m ys e =
    let z : 0 + length ys ≡ length m = omega arith in
    ap (λ (n : ℕ). ys ++ drop n m) z ∙ ap (λ l. ys ++ l) (drop-length m) ∙ append-nil ys

-- ── a part of a part ──

-- ── a part of the whole after a store ──

-- a part that a store does not reach
pub span-apart : {A : Type 0} (m : List A) (at : ℕ) (ys : List A) (a n : ℕ) → at + length ys ≤ length m → (a < at → a + n ≤ at) → (at ≤ a → at + length ys ≤ a)
    → span (splice m at ys) a n ≡ span m a n
span-apart m at ys a n h before behind = go (ltb a at) refl where
  go : (b : Bool) → ltb a at ≡ b → span (splice m at ys) a n ≡ span m a n
  go true e = span-before m at ys h a n (before (ltb-true a at e))
  go false e = span-behind m at ys h a n (behind (ltb-false a at e))

-- a part of what was stored
pub span-inside : {A : Type 0} (m : List A) (at : ℕ) (ys : List A) (b n : ℕ) → at + length ys ≤ length m → b + n ≤ length ys → span (splice m at ys) (at + b) n ≡ span ys b n
span-inside m at ys b n h l =
    let f : length (take at m) ≡ at = length-take-le at m (omega arith) in
    let d : drop (at + b) (splice m at ys) ≡ drop b ys ++ drop (at + length ys) m =
    sym (drop-drop b at (splice m at ys)) ∙ ap (drop b) (drop_at (take at m) (ys ++ drop (at + length ys) m) at f)
    ∙ drop-append-le b ys (drop (at + length ys) m) (omega arith) in
    ap (take n) d ∙ take-append-le n (drop b ys) (drop (at + length ys) m) (omega (arith, length-drop b ys))

-- a store of what is there
pub splice-same : {A : Type 0} (m : List A) (at : ℕ) (ys : List A) (n : ℕ) → length ys ≡ n → ys ≡ span m at n → splice m at ys ≡ m
splice-same m at ys n l e =
    ap (λ (k : ℕ). take at m ++ (ys ++ drop (at + k) m)) l
    ∙ ap (λ x. take at m ++ (x ++ drop (at + n) m)) e
    ∙ ap (λ x. take at m ++ (span m at n ++ x)) (sym (drop-drop n at m))
    ∙ ap (λ x. take at m ++ x) (take-append-drop n (drop at m)) ∙ take-append-drop at m

-- ── a list in three parts ──

module _ {A : Type 0} (xs ys zs : List A) (at : ℕ) (front : length xs ≡ at) where
  -- the part in the middle is read
  pub span-middle : (n : ℕ) → length ys ≡ n → span (xs ++ (ys ++ zs)) at n ≡ ys
  span-middle n l = ap (λ x. take n x) (drop_at xs (ys ++ zs) at front) ∙ take_at ys zs n l

  -- the part in the middle is replaced by one as long
  pub splice-middle : (ws : List A) → length ws ≡ length ys → splice (xs ++ (ys ++ zs)) at ws ≡ xs ++ (ws ++ zs)
  splice-middle ws l =
      let d : drop (at + length ws) (xs ++ (ys ++ zs)) ≡ zs =
      sym (drop-drop (length ws) at (xs ++ (ys ++ zs))) ∙ ap (λ x. drop (length ws) x) (drop_at xs (ys ++ zs) at front) ∙ drop_at ys zs (length ws) (sym l) in
      ap₂ (λ x y. x ++ (ws ++ y)) (take_at xs (ys ++ zs) at front) d

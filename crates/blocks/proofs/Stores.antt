-- Stores into lent bytes: where they reach, what stays, and that a list of bytes with every store in it, and all else as it was, is the result.
use mathlib.Core.Path.{◌≡◌, refl, sym, ap, ◌∙◌}
use mathlib.Core.Logic.{◌⊎◌, inl, inr}
use mathlib.Core.Bool.{Bool, true, false}
use mathlib.Core.List.{List, [], ◌∷◌, ◌++◌}
use Prim.Native.Nat.{ℕ, ◌+◌, ◌-◌, ◌≤◌, ◌<◌}
use native.Mathlib.Omega.{arith}
use borrow.Author.Tests.{ltb-true, ltb-false}
use lib.Dec.{ltb}
use lib.ListN.{length, take, drop, get_or, get_or-append}
use lib.Seq.{get_or-take, get_or-drop, get_or-append-add, ext_get_or, length-take-le}
use Rattle.bits.proofs.Splice.{length-splice, span_same, span-before, span-behind, splice-same}
use Rattle.bits.specs.Part.{span, splice}
use Rattle.blocks.specs.Stores.{Store, store_all}

-- ── one store ──

abbrev pub Reaches : Store → ℕ → Type 0
Reaches w x = (w.at ≤ x) × (x < w.at + length w.bytes)

get_d_tail : (xs ys : List ℕ) (x : ℕ) → length xs ≤ x → get_or (xs ++ ys) x 0 ≡ get_or ys (x - length xs) 0
get_d_tail xs ys x h = let e : x ≡ length xs + (x - length xs) = omega arith in ap (λ (k : ℕ). get_or (xs ++ ys) k 0) e ∙ get_or-append-add xs ys (x - length xs) 0

module _ (m : List ℕ) (at : ℕ) (ys : List ℕ) (fits : at + length ys ≤ length m) where
  front : length (take at m) ≡ at
  front = length-take-le at m (omega arith)

  byte-in : (x : ℕ) → at ≤ x → x < at + length ys → get_or (splice m at ys) x 0 ≡ get_or ys (x - at) 0
  byte-in x h k =
      let f = front in
      get_d_tail (take at m) (ys ++ drop (at + length ys) m) x (omega arith) ∙ get_or-append ys (drop (at + length ys) m) 0 (x - length (take at m)) (omega arith)
      ∙ ap (λ (j : ℕ). get_or ys (x - j) 0) f

  byte-before : (x : ℕ) → x < at → get_or (splice m at ys) x 0 ≡ get_or m x 0
  byte-before x h =
      let f = front in
      get_or-append (take at m) (ys ++ drop (at + length ys) m) 0 x (omega arith) ∙ get_or-take at m x 0 h

  byte-behind : (x : ℕ) → at + length ys ≤ x → get_or (splice m at ys) x 0 ≡ get_or m x 0
  byte-behind x h =
      let f = front in
      let e : at + length ys + (x - length (take at m) - length ys) ≡ x = omega arith in
      get_d_tail (take at m) (ys ++ drop (at + length ys) m) x (omega arith)
      ∙ get_d_tail ys (drop (at + length ys) m) (x - length (take at m)) (omega arith)
      ∙ get_or-drop (at + length ys) m (x - length (take at m) - length ys) 0 ∙ ap (λ (j : ℕ). get_or m j 0) e

-- ── lists of stores ──

-- some store of the list reaches byte x
abbrev pub Touched : List Store → ℕ → Type 0
Touched [] x = ⊥
Touched (w ∷ ws) x = Reaches w x ⊎ Touched ws x

-- all inside of n bytes
abbrev pub Within : ℕ → List Store → Type 0
Within n [] = Unit {0}
Within n (w ∷ ws) = (w.at + length w.bytes ≤ n) × Within n ws

-- what each store would write is there
abbrev pub There : List ℕ → List Store → Type 0
There m [] = Unit {0}
There m (w ∷ ws) = (span m w.at (length w.bytes) ≡ w.bytes) × There m ws

-- the n bytes from a on are before or behind what each store writes
abbrev pub Clear : ℕ → ℕ → List Store → Type 0
Clear a n [] = Unit {0}
Clear a n (w ∷ ws) = ((a + n ≤ w.at) ⊎ (w.at + length w.bytes ≤ a)) × Clear a n ws

-- each store of the first list is clear of each of the second
abbrev pub Apart : List Store → List Store → Type 0
Apart [] vs = Unit {0}
Apart (w ∷ ws) vs = Clear w.at (length w.bytes) vs × Apart ws vs

-- m and n agree wherever no store reaches
pub record Agree (ws : List Store) (m n : List ℕ) : Type 0 where
  pub as_long : length m ≡ length n
  pub bytes : (x : ℕ) → (Touched ws x → ⊥) → get_or m x 0 ≡ get_or n x 0

pub length-stores : (ws : List Store) (m : List ℕ) → Within (length m) ws → length (store_all m ws) ≡ length m
unfolding store_all
length-stores [] m h = refl
length-stores (w ∷ ws) m h =
    let l = length-splice m w.at w.bytes h.0 in
    length-stores ws (splice m w.at w.bytes) (rw l h.1) ∙ l

-- a store of the same bytes at the same place of both
agree-splice : (w : Store) (ws : List Store) (m n : List ℕ) → w.at + length w.bytes ≤ length m → Agree (w ∷ ws) m n
    → Agree ws (splice m w.at w.bytes) (splice n w.at w.bytes)
agree-splice w ws m n h a =
    let k : w.at + length w.bytes ≤ length n = omega (arith, a.as_long) in
    record {
      as_long = length-splice m w.at w.bytes h ∙ a.as_long ∙ sym (length-splice n w.at w.bytes k);
      bytes = λ x t. go k x t (ltb x w.at) refl (ltb x (w.at + length w.bytes)) refl;
    }
  where
    go : w.at + length w.bytes ≤ length n → (x : ℕ) → (Touched ws x → ⊥) → (b : Bool) → ltb x w.at ≡ b → (c : Bool) → ltb x (w.at + length w.bytes) ≡ c
        → get_or (splice m w.at w.bytes) x 0 ≡ get_or (splice n w.at w.bytes) x 0
    go k x t true e c f =
        let l = ltb-true x w.at e in
        byte-before m w.at w.bytes h x l ∙ a.bytes x (off l) ∙ sym (byte-before n w.at w.bytes k x l)
      where
        off : x < w.at → Touched (w ∷ ws) x → ⊥
        off l (inl r) = omega (arith, l, r.0)
        off l (inr r) = t r
    go k x t false e true f =
        let l = ltb-false x w.at e in
        let g = ltb-true x (w.at + length w.bytes) f in
        byte-in m w.at w.bytes h x l g ∙ sym (byte-in n w.at w.bytes k x l g)
    go k x t false e false f =
        let l = ltb-false x (w.at + length w.bytes) f in
        byte-behind m w.at w.bytes h x l ∙ a.bytes x (off l) ∙ sym (byte-behind n w.at w.bytes k x l)
      where
        off : w.at + length w.bytes ≤ x → Touched (w ∷ ws) x → ⊥
        off l (inl r) = omega (arith, l, r.1)
        off l (inr r) = t r

-- what stores leave depends only on the bytes that they do not reach
pub same-stores : (ws : List Store) (m n : List ℕ) → Within (length m) ws → Agree ws m n → store_all m ws ≡ store_all n ws
unfolding store_all
same-stores [] m n h a = ext_get_or 0 m n a.as_long (λ x l. a.bytes x (λ t. t))
same-stores (w ∷ ws) m n h a =
    same-stores ws (splice m w.at w.bytes) (splice n w.at w.bytes) (rw (length-splice m w.at w.bytes h.0) h.1) (agree-splice w ws m n h.0 a)

-- stores of what is there
pub kept-stores : (ws : List Store) (m : List ℕ) → There m ws → store_all m ws ≡ m
unfolding store_all
kept-stores [] m h = refl
kept-stores (w ∷ ws) m h =
    ap (λ (x : List ℕ). store_all x ws) (splice-same m w.at w.bytes (length w.bytes) refl (sym h.0)) ∙ kept-stores ws m h.1

-- bytes with every store in them, and all else as it was
pub stored : (ws : List Store) (m n : List ℕ) → Within (length m) ws → Agree ws m n → There n ws → n ≡ store_all m ws
stored ws m n h a t = sym (same-stores ws m n h a ∙ kept-stores ws n t)

-- ── stores before others ──

-- each store of vs writes what is there, or where a store of ws reaches
abbrev pub Covered : List ℕ → List Store → List Store → Type 0
Covered m ws [] = Unit {0}
Covered m ws (v ∷ vs) = ((span m v.at (length v.bytes) ≡ v.bytes) ⊎ ((x : ℕ) → Reaches v x → Touched ws x)) × Covered m ws vs

pub byte_of : (m : List ℕ) (a n x : ℕ) (ys : List ℕ) → span m a n ≡ ys → a ≤ x → x < a + n → get_or m x 0 ≡ get_or ys (x - a) 0
byte_of m a n x ys e h k =
    let j : x ≡ a + (x - a) = omega arith in
    ap (λ (i : ℕ). get_or m i 0) j ∙ sym (ap (λ (l : List ℕ). get_or l (x - a) 0) (sym e) ∙ get_or-take n (drop a m) (x - a) 0 (omega arith) ∙ get_or-drop a m (x - a) 0)

agree-one : (m n : List ℕ) (ws : List Store) (v : Store) → v.at + length v.bytes ≤ length n → Agree ws m n
    → ((span m v.at (length v.bytes) ≡ v.bytes) ⊎ ((x : ℕ) → Reaches v x → Touched ws x)) → Agree ws m (splice n v.at v.bytes)
agree-one m n ws v h a o =
    record {
      as_long = a.as_long ∙ sym (length-splice n v.at v.bytes h);
      bytes = λ x t. go o x t (ltb x v.at) refl (ltb x (v.at + length v.bytes)) refl;
    }
  where
    go : ((span m v.at (length v.bytes) ≡ v.bytes) ⊎ ((x : ℕ) → Reaches v x → Touched ws x)) → (x : ℕ) → (Touched ws x → ⊥)
        → (b : Bool) → ltb x v.at ≡ b → (c : Bool) → ltb x (v.at + length v.bytes) ≡ c → get_or m x 0 ≡ get_or (splice n v.at v.bytes) x 0
    go o x t true e c f = a.bytes x t ∙ sym (byte-before n v.at v.bytes h x (ltb-true x v.at e))
    go o x t false e false f = a.bytes x t ∙ sym (byte-behind n v.at v.bytes h x (ltb-false x (v.at + length v.bytes) f))
    go (inl q) x t false e true f =
        let l = ltb-false x v.at e in
        let g = ltb-true x (v.at + length v.bytes) f in
        byte_of m v.at (length v.bytes) x v.bytes q l g ∙ sym (byte-in n v.at v.bytes h x l g)
    go (inr q) x t false e true f = absurd (t (q x (ltb-false x v.at e, ltb-true x (v.at + length v.bytes) f)))

agree-from : (vs : List Store) (m n : List ℕ) (ws : List Store) → Within (length n) vs → Agree ws m n → Covered m ws vs → Agree ws m (store_all n vs)
unfolding store_all
agree-from [] m n ws h a c = a
agree-from (v ∷ vs) m n ws h a c =
    agree-from vs m (splice n v.at v.bytes) ws (rw (length-splice n v.at v.bytes h.0) h.1) (agree-one m n ws v h.0 a c.0) c.1

pub agree-stores : (vs ws : List Store) (m : List ℕ) → Within (length m) vs → Covered m ws vs → Agree ws m (store_all m vs)
agree-stores vs ws m h c = agree-from vs m m ws h (record { as_long = refl; bytes = λ x t. refl }) c

-- ── what stores leave in place ──

pub span-clear : (ws : List Store) (m : List ℕ) (a n : ℕ) → Within (length m) ws → Clear a n ws → span (store_all m ws) a n ≡ span m a n
unfolding store_all
span-clear [] m a n h c = refl
span-clear (w ∷ ws) m a n h c =
    span-clear ws (splice m w.at w.bytes) a n (rw (length-splice m w.at w.bytes h.0) h.1) c.1 ∙ here c.0
  where
    here : ((a + n ≤ w.at) ⊎ (w.at + length w.bytes ≤ a)) → span (splice m w.at w.bytes) a n ≡ span m a n
    here (inl q) = span-before m w.at w.bytes h.0 a n q
    here (inr q) = span-behind m w.at w.bytes h.0 a n q

pub there-apart : (ws vs : List Store) (m : List ℕ) → Within (length m) vs → Apart ws vs → There m ws → There (store_all m vs) ws
there-apart [] vs m h c t = tt
there-apart (w ∷ ws) vs m h c t = (span-clear vs m w.at (length w.bytes) h c.0 ∙ t.0, there-apart ws vs m h c.1 t.1)

-- what the first store wrote stays, where the others are clear of it
pub span-first : (w : Store) (ws : List Store) (m : List ℕ) → Within (length m) (w ∷ ws) → Clear w.at (length w.bytes) ws
    → span (store_all m (w ∷ ws)) w.at (length w.bytes) ≡ w.bytes
unfolding store_all
span-first w ws m h c =
    span-clear ws (splice m w.at w.bytes) w.at (length w.bytes) (rw (length-splice m w.at w.bytes h.0) h.1) c
    ∙ span_same m w.at w.bytes h.0 (length w.bytes) refl

-- ── parts that do not meet ──

pub either : (a n b k : ℕ) → (a < b + k → b < a + n → ⊥) → (a + n ≤ b) ⊎ (b + k ≤ a)
either a n b k h = go (ltb a (b + k)) refl (ltb b (a + n)) refl
  where
    go : (s : Bool) → ltb a (b + k) ≡ s → (t : Bool) → ltb b (a + n) ≡ t → (a + n ≤ b) ⊎ (b + k ≤ a)
    go false e t f = inr (ltb-false a (b + k) e)
    go true e false f = inl (ltb-false b (a + n) f)
    go true e true f = absurd (h (ltb-true a (b + k) e) (ltb-true b (a + n) f))

-- ── lists one after the other ──

pub within-append : (n : ℕ) (vs ws : List Store) → Within n vs → Within n ws → Within n (vs ++ ws)
within-append n [] ws h k = k
within-append n (v ∷ vs) ws h k = (h.0, within-append n vs ws h.1 k)

pub there-append : (m : List ℕ) (vs ws : List Store) → There m vs → There m ws → There m (vs ++ ws)
there-append m [] ws h k = k
there-append m (v ∷ vs) ws h k = (h.0, there-append m vs ws h.1 k)

pub there-left : (m : List ℕ) (vs ws : List Store) → There m (vs ++ ws) → There m vs
there-left m [] ws h = tt
there-left m (v ∷ vs) ws h = (h.0, there-left m vs ws h.1)

pub there-right : (m : List ℕ) (vs ws : List Store) → There m (vs ++ ws) → There m ws
there-right m [] ws h = h
there-right m (v ∷ vs) ws h = there-right m vs ws h.1

pub clear-append : (a n : ℕ) (vs ws : List Store) → Clear a n vs → Clear a n ws → Clear a n (vs ++ ws)
clear-append a n [] ws h k = k
clear-append a n (v ∷ vs) ws h k = (h.0, clear-append a n vs ws h.1 k)

pub apart-append : (us vs ws : List Store) → Apart us vs → Apart us ws → Apart us (vs ++ ws)
apart-append [] vs ws h k = tt
apart-append (u ∷ us) vs ws h k = (clear-append u.at (length u.bytes) vs ws h.0 k.0, apart-append us vs ws h.1 k.1)

pub touched-left : (vs ws : List Store) (x : ℕ) → Touched vs x → Touched (vs ++ ws) x
touched-left [] ws x t = absurd t
touched-left (v ∷ vs) ws x (inl r) = inl r
touched-left (v ∷ vs) ws x (inr t) = inr (touched-left vs ws x t)

pub touched-right : (vs ws : List Store) (x : ℕ) → Touched ws x → Touched (vs ++ ws) x
touched-right [] ws x t = t
touched-right (v ∷ vs) ws x t = inr (touched-right vs ws x t)

pub covered-append : (m : List ℕ) (us vs ws : List Store) → Covered m us vs → Covered m us ws → Covered m us (vs ++ ws)
covered-append m us [] ws h k = k
covered-append m us (v ∷ vs) ws h k = (h.0, covered-append m us vs ws h.1 k)

pub covered-there : (m : List ℕ) (us vs : List Store) → There m vs → Covered m us vs
covered-there m us [] h = tt
covered-there m us (v ∷ vs) h = (inl h.0, covered-there m us vs h.1)

pub covered-by : (m : List ℕ) (us ws : List Store) → ((x : ℕ) → Touched ws x → Touched us x) → Covered m us ws
covered-by m us [] f = tt
covered-by m us (w ∷ ws) f = (inr (λ x r. f x (inl r)), covered-by m us ws (λ x t. f x (inr t)))

-- ── stores that do not meet ──

abbrev pub Disjoint : List Store → Type 0
Disjoint [] = Unit {0}
Disjoint (w ∷ ws) = Clear w.at (length w.bytes) ws × Disjoint ws

pub disjoint-append : (vs ws : List Store) → Disjoint vs → Disjoint ws → Apart vs ws → Disjoint (vs ++ ws)
disjoint-append [] ws h k a = k
disjoint-append (v ∷ vs) ws h k a = (clear-append v.at (length v.bytes) vs ws h.0 a.0, disjoint-append vs ws h.1 k a.1)

-- all that such stores wrote is there
pub there-all : (ws : List Store) (m : List ℕ) → Within (length m) ws → Disjoint ws → There (store_all m ws) ws
unfolding store_all
there-all [] m h d = tt
there-all (w ∷ ws) m h d =
    (span-first w ws m h d.0, there-all ws (splice m w.at w.bytes) (rw (length-splice m w.at w.bytes h.0) h.1) d.1)

-- lists of stores, one list after the other
pub store-append : (vs ws : List Store) (m : List ℕ) → store_all m (vs ++ ws) ≡ store_all (store_all m vs) ws
unfolding store_all
store-append [] ws m = refl
store-append (v ∷ vs) ws m = store-append vs ws (splice m v.at v.bytes)

-- Lines that may be left out of a text, or changed, without a fault.
use mathlib.Core.Path.{◌≡◌, refl, sym, ap, ◌∙◌}
use mathlib.Core.Bool.{Bool, true, false, cond, ◌||◌}
use mathlib.Core.List.{List, [], ◌∷◌}
use mathlib.Core.Option.{Option, none, some}
use Prim.Native.Nat.{ℕ, suc, ◌≤◌}
use native.Mathlib.Omega.{arith}
use lib.Dec.{ltb}
use borrow.Author.Tests.{ltb-true, ltb-false, lt-ltb, le-ltb}
use Rattle.dsdl_text.specs.Text.{same}
use Rattle.dsdl_line.specs.declared.shape.Cast.{Cast}
use Rattle.dsdl_line.specs.Line.{Line}
use Rattle.dsdl_line.specs.Line.Line.{nothing, marker, union, padding, field, constant, wrong}
use Rattle.dsdl.specs.Definition.{Part, empty_part, with_padding, is_among, fault_at_end, or_fault, fault_from}
use Rattle.dsdl_laws.proofs.Characters.{no}

-- the lines behind are no more at fault than those in front
pub data Milder : List Line → List Line → Type 0 where
  end : Milder [] []
  on-marker : {ls ms : List Line} → Milder ls ms → Milder (marker ∷ ls) (marker ∷ ms)
  on-union : {ls ms : List Line} → Milder ls ms → Milder (union ∷ ls) (union ∷ ms)
  on-padding : {w v : List ℕ} {ls ms : List Line} → Milder ls ms → Milder (padding w ∷ ls) (padding v ∷ ms)
  on-field : {c d : Cast} {w v x : List ℕ} {ls ms : List Line} → Milder ls ms → Milder (field c w x ∷ ls) (field d v x ∷ ms)
  on-constant : {x : List ℕ} {ls ms : List Line} → Milder ls ms → Milder (constant x ∷ ls) (constant x ∷ ms)
  on-wrong : {ls ms : List Line} → Milder (wrong ∷ ls) ms
  -- left out
  no_line : {ls ms : List Line} → Milder ls ms → Milder (nothing ∷ ls) ms
  no-constant : {x : List ℕ} {ls ms : List Line} → Milder ls ms → Milder (constant x ∷ ls) ms
  -- put in
  a-line : {ls ms : List Line} → Milder ls ms → Milder ls (nothing ∷ ms)

-- the same of parts
record Less (p q : Part) : Type 0 where
  unions : ltb 0 p.union ≡ ltb 0 q.union
  attributes : q.attributes ≤ p.attributes
  fields : p.fields ≡ q.fields
  names : (x : List ℕ) → is_among x p.names ≡ false → is_among x q.names ≡ false

at-end : (p q : Part) → Less p q → fault_at_end p ≡ 0 → fault_at_end q ≡ 0
at-end p q h = rw h.fields (go (ltb q.fields 2)) where
  go : (b : Bool) → cond b p.union 0 ≡ 0 → cond b q.union 0 ≡ 0
  go true e = let z = ltb-false 0 q.union (sym h.unions ∙ le-ltb 0 p.union (omega arith)) in omega arith
  go false e = refl

or_left : (a b : ℕ) → or_fault a b ≡ 0 → a ≡ 0
or_left a b = go (ltb 0 a) refl where
  go : (t : Bool) → ltb 0 a ≡ t → cond t a b ≡ 0 → a ≡ 0
  go true p e = e
  go false p e = let z = ltb-false 0 a p in omega arith

or_right : (a b : ℕ) → or_fault a b ≡ 0 → b ≡ 0
or_right a b = go (ltb 0 a) refl where
  go : (t : Bool) → ltb 0 a ≡ t → cond t a b ≡ 0 → b ≡ 0
  go true p e = let z = ltb-true 0 a p in absurd (omega arith)
  go false p e = e

or-none : (a b : ℕ) → a ≡ 0 → b ≡ 0 → or_fault a b ≡ 0
or-none a b p q = rw p q

same-less : (p : Part) → Less p p
same-less p = record { unions = refl; attributes = omega arith; fields = refl; names = λ x e. e }

-- one more name
one_more : (x : List ℕ) (ns ms : List (List ℕ)) → ((y : List ℕ) → is_among y ns ≡ false → is_among y ms ≡ false)
    → (y : List ℕ) → is_among y (x ∷ ns) ≡ false → is_among y (x ∷ ms) ≡ false
unfolding is_among
one_more x ns ms f y = go (same y x) where
  go : (b : Bool) → (b || is_among y ns) ≡ false → (b || is_among y ms) ≡ false
  go true e = e
  go false e = f y e

one_less : (x : List ℕ) (ns : List (List ℕ)) (y : List ℕ) → is_among y (x ∷ ns) ≡ false → is_among y ns ≡ false
unfolding is_among
one_less x ns y = go (same y x) where
  go : (b : Bool) → (b || is_among y ns) ≡ false → is_among y ns ≡ false
  go true e = no (sym e)
  go false e = e

-- what follows a line that is no marker
abbrev after : Bool → ℕ → Option Part → List Line → ℕ
after r n o ls = elim o [ none ↦ n | some p ↦ fault_from r (suc n) p ls ]

-- a line with a test was passed
passed : (r : Bool) (n : ℕ) (s : Bool) (p : Part) (ls : List Line) → 1 ≤ n → after r n (cond s none (some p)) ls ≡ 0
    → (s ≡ false) × (fault_from r (suc n) p ls ≡ 0)
passed r n true p ls h e = absurd (omega arith)
passed r n false p ls h e = (refl, e)

passes : (r : Bool) (n : ℕ) (s : Bool) (p : Part) (ls : List Line) → s ≡ false → fault_from r (suc n) p ls ≡ 0
    → after r n (cond s none (some p)) ls ≡ 0
passes r n s p ls e f = rw e f

neither : (a b : Bool) → (a || b) ≡ false → (a ≡ false) × (b ≡ false)
neither true b e = no (sym e)
neither false b e = (refl, e)

abbrev with_union_at : ℕ → Part → Part
with_union_at n p = record { union = n; attributes = p.attributes; fields = p.fields; names = p.names }

module _ (n m : ℕ) (p q : Part) (h : Less p q) where
  less-union : 1 ≤ n → 1 ≤ m → Less (with_union_at n p) (with_union_at m q)
  less-union u v = record { unions = lt-ltb 0 n u ∙ sym (lt-ltb 0 m v); attributes = h.attributes; fields = h.fields; names = h.names }

  no-union : (ltb 0 p.union || ltb 0 p.attributes) ≡ false → (ltb 0 q.union || ltb 0 q.attributes) ≡ false
  no-union e =
      let k = neither (ltb 0 p.union) (ltb 0 p.attributes) e in
      let z = ltb-false 0 p.attributes k.1 in
      let y = h.attributes in
      rw (← h.unions, k.0) (le-ltb 0 q.attributes (omega arith))

  less-padding : Less (with_padding p) (with_padding q)
  less-padding = let y = h.attributes in record { unions = h.unions; attributes = omega arith; fields = ap suc h.fields; names = h.names }

  abbrev field_in : List ℕ → Part → Part
  field_in x k = record { union = k.union; attributes = suc k.attributes; fields = suc k.fields; names = x ∷ k.names }

  abbrev constant_in : List ℕ → Part → Part
  constant_in x k = record { union = k.union; attributes = suc k.attributes; fields = k.fields; names = x ∷ k.names }

  less-field : (x : List ℕ) → Less (field_in x p) (field_in x q)
  less-field x =
      let y = h.attributes in
      record { unions = h.unions; attributes = omega arith; fields = ap suc h.fields; names = one_more x p.names q.names h.names }

  less-constant : (x : List ℕ) → Less (constant_in x p) (constant_in x q)
  less-constant x =
      let y = h.attributes in
      record { unions = h.unions; attributes = omega arith; fields = h.fields; names = one_more x p.names q.names h.names }

  less-left : (x : List ℕ) → Less (constant_in x p) q
  less-left x =
      let y = h.attributes in
      record { unions = h.unions; attributes = omega arith; fields = h.fields; names = λ z e. h.names z (one_less x p.names z e) }

milder : {ls ms : List Line} → Milder ls ms → (r : Bool) (n m : ℕ) (p q : Part) → 1 ≤ n → 1 ≤ m → Less p q
    → fault_from r n p ls ≡ 0 → fault_from r m q ms ≡ 0
unfolding fault_from
milder end r n m p q u v h e = at-end p q h e
milder (on-marker {ls} {ms} k) true n m p q u v h e = absurd (omega arith)
milder (on-marker {ls} {ms} k) false n m p q u v h e =
    let a = fault_from true (suc n) empty_part ls in
    or-none (fault_at_end q) (fault_from true (suc m) empty_part ms) (at-end p q h (or_left (fault_at_end p) a e))
    (milder k true (suc n) (suc m) empty_part empty_part (omega arith) (omega arith) (same-less empty_part) (or_right (fault_at_end p) a e))
milder (on-union {ls} {ms} k) r n m p q u v h e =
    let a = passed r n (ltb 0 p.union || ltb 0 p.attributes) (with_union_at n p) ls u e in
    passes r m (ltb 0 q.union || ltb 0 q.attributes) (with_union_at m q) ms (no-union n m p q h a.0)
    (milder k r (suc n) (suc m) (with_union_at n p) (with_union_at m q) (omega arith) (omega arith) (less-union n m p q h u v) a.1)
milder (on-padding {ls} {ms} k) r n m p q u v h e =
    milder k r (suc n) (suc m) (with_padding p) (with_padding q) (omega arith) (omega arith) (less-padding n m p q h) e
milder (on-field {x} {ls} {ms} k) r n m p q u v h e =
    let a = passed r n (is_among x p.names) (field_in n m p q h x p) ls u e in
    passes r m (is_among x q.names) (field_in n m p q h x q) ms (h.names x a.0)
    (milder k r (suc n) (suc m) (field_in n m p q h x p) (field_in n m p q h x q) (omega arith) (omega arith) (less-field n m p q h x) a.1)
milder (on-constant {x} {ls} {ms} k) r n m p q u v h e =
    let a = passed r n (is_among x p.names) (constant_in n m p q h x p) ls u e in
    passes r m (is_among x q.names) (constant_in n m p q h x q) ms (h.names x a.0)
    (milder k r (suc n) (suc m) (constant_in n m p q h x p) (constant_in n m p q h x q) (omega arith) (omega arith) (less-constant n m p q h x) a.1)
milder (on-wrong {ls} {ms}) r n m p q u v h e = absurd (omega arith)
milder (no_line {ls} {ms} k) r n m p q u v h e = milder k r (suc n) m p q (omega arith) v h e
milder (no-constant {x} {ls} {ms} k) r n m p q u v h e =
    let a = passed r n (is_among x p.names) (constant_in n m p q h x p) ls u e in
    milder k r (suc n) m (constant_in n m p q h x p) q (omega arith) v (less-left n m p q h x) a.1
milder (a-line {ls} {ms} k) r n m p q u v h e = milder k r n (suc m) p q u (omega arith) h e

pub no-fault : {ls ms : List Line} → Milder ls ms → fault_from false 1 empty_part ls ≡ 0 → fault_from false 1 empty_part ms ≡ 0
no-fault k e = milder k false 1 1 empty_part empty_part (omega arith) (omega arith) (same-less empty_part) e

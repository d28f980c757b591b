-- Words by their places in a line and in the text, and the names of a part by theirs.
use mathlib.Core.Path.{◌≡◌, refl, sym, ap, ap₂, ◌∙◌}
use mathlib.Core.Bool.{Bool, true, false, ◌&&◌, ◌||◌}
use mathlib.Core.List.{List, [], ◌∷◌}
use Prim.Native.Nat.{ℕ, zero, suc, ◌+◌, ◌-◌, ◌*◌, ◌/◌, ◌%◌, ◌≤◌, ◌<◌}
use native.Mathlib.Omega.{arith}
use borrow.Author.Tests.{eqb-true}
use lib.Dec.{eqb}
use lib.ListN.{length, get_or, set, take, drop, length-take, length-drop, drop_of_length-le, length-set}
use lib.Seq.{drop-cons, drop-length, take_all, take-nil, take-take, get_or-set_same, get_or-set_other}
use Rattle.dsdl_text.specs.Text.{same}
use Rattle.dsdl_text.specs.declared.class.Class.TheVariants.{Blank, Unbracketed}
use Rattle.dsdl_text.specs.Class.{run}
use Rattle.dsdl_text.specs.Words.{skip}
use Rattle.dsdl_text.specs.declared.word.Word.{Word}
use Rattle.dsdl_text.specs.inside.Words.{part}
use Rattle.dsdl_text.proofs.Runs.{short}
use Rattle.dsdl_text.proofs.Words.{drop-part, skipped}
use Rattle.dsdl_type.specs.Base.{base_text}
use Rattle.dsdl_line.specs.inside.Places.{word_of}
use Rattle.dsdl.specs.Definition.{text_max, is_among}
use Rattle.dsdl.specs.inside.Names.{names_max, word_at, names_at, mark_from, mark_of, Kept}

-- ── as far as a line reaches ──

module _ (l : List ℕ) (a e : ℕ) where
  out : length l ≤ a → part l a e ≡ []
  out h = rw (drop_of_length-le l h) (take-nil (e - a))

  empty : e ≤ a → part l a e ≡ []
  empty h = let z : e - a ≡ 0 = omega arith in ap (λ (k : ℕ). take k (drop a l)) z

  all : length l ≤ e → part l a e ≡ drop a l
  all h = let d = length-drop a l in take_all (e - a) (drop a l) (omega arith)

module _ (l : List ℕ) (a e : ℕ) where
  pub from_out : length l ≤ a → part l (length l) (length l) ≡ part l a e
  from_out h = out l (length l) (length l) (omega arith) ∙ sym (out l a e h)

  pub from_empty : e ≤ a → part l a a ≡ part l a e
  from_empty h = empty l a a (omega arith) ∙ sym (empty l a e h)

  pub to_end : length l ≤ e → part l a (length l) ≡ part l a e
  to_end h = all l a (length l) (omega arith) ∙ sym (all l a e h)

-- ── from a line to the text ──

pub in-text : (t : List ℕ) (at end a e : ℕ) → at ≤ end → a ≤ e → e ≤ length (part t at end) → part t (at + a) (at + e) ≡ part (part t at end) a e
in-text t at end a e h i k =
    ap (λ (n : ℕ). take n (drop (at + a) t)) width
    ∙ (sym (take-take (e - a) (end - (at + a)) (drop (at + a) t) less) ∙ sym (ap (take (e - a)) (drop-part t at a end))) where
      width : at + e - (at + a) ≡ e - a
      width = omega arith

      less : e - a ≤ end - (at + a)
      less = let m = length-take (end - at) (drop at t) in omega arith

pub in-text-ends : (t : List ℕ) (at end e : ℕ) → at ≤ end → e ≤ length (part t at end) → at + e ≤ end
in-text-ends t at end e h k = let m = length-take (end - at) (drop at t) in omega arith

-- ── a place as one number ──

pub unpacked : (w : Word) → w.end ≤ text_max → word_at (w.at * 8192 + w.end) ≡ w
unpacked w h =
    let a : (w.at * 8192 + w.end) / 8192 ≡ w.at = omega arith in
    let e : (w.at * 8192 + w.end) % 8192 ≡ w.end = omega arith in
    ap₂ (λ (x y : ℕ). record { at = x; end = y }) a e

-- ── the names ──

module _ (t seen : List ℕ) (i : ℕ) (x : List ℕ) where
  pub among_first : same x (word_of t (word_at (get_or seen i 0))) ≡ true → is_among x (names_at t seen (suc i)) ≡ true
  unfolding is_among names_at
  among_first e = rw e

  pub among_next : same x (word_of t (word_at (get_or seen i 0))) ≡ false → is_among x (names_at t seen (suc i)) ≡ is_among x (names_at t seen i)
  unfolding is_among names_at
  among_next e = rw e

pub among_none : (t seen x : List ℕ) → is_among x (names_at t seen 0) ≡ false
unfolding is_among names_at
among_none t seen x = refl

-- a store behind the names leaves them
kept : (t seen : List ℕ) (i p n : ℕ) → n ≤ i → names_at t (set seen i p) n ≡ names_at t seen n
unfolding names_at
kept t seen i p zero h = refl
kept t seen i p (suc n) h =
    ap₂ (λ (q : ℕ) (ns : List (List ℕ)). word_of t (word_at q) ∷ ns) (get_or-set_other seen i n p 0 (λ e. omega arith)) (kept t seen i p n (omega arith))

pub stored : (t seen : List ℕ) (w : Word) (i p : ℕ) → i < length seen → word_at p ≡ w → names_at t (set seen i p) (suc i) ≡ word_of t w ∷ names_at t seen i
unfolding names_at
stored t seen w i p h e =
    ap₂ (λ (v : Word) (ns : List (List ℕ)). word_of t v ∷ ns) (ap word_at (get_or-set_same seen i p 0 h) ∙ e) (kept t seen i p i (omega arith))

-- ── their marks ──

pub mark_on : (x : List ℕ) (mark i : ℕ) → i < length x → mark_from mark (drop i x) ≡ mark_from ((mark * 131 + get_or x i 0) % names_max) (drop (suc i) x)
unfolding mark_from
mark_on x mark i h = rw (drop-cons x i 0)

pub mark-done : (x : List ℕ) (mark i : ℕ) → i ≡ length x → mark_from mark (drop i x) ≡ mark
unfolding mark_from
mark-done x mark i e = rw (e, drop-length x)

same_text : (a b : List ℕ) → same a b ≡ true → a ≡ b
unfolding same
same_text [] [] e = refl
same_text [] (y ∷ ys) e = let z : ◌≡◌ {A = ℕ} 0 1 = cc in absurd (omega arith)
same_text (x ∷ xs) [] e = let z : ◌≡◌ {A = ℕ} 0 1 = cc in absurd (omega arith)
same_text (x ∷ xs) (y ∷ ys) e = go (eqb x y) refl e (same_text xs ys) where
  go : (b : Bool) → eqb x y ≡ b → (b && same xs ys) ≡ true → (same xs ys ≡ true → xs ≡ ys) → x ∷ xs ≡ y ∷ ys
  go true q f r = ap₂ (λ (c : ℕ) (cs : List ℕ). c ∷ cs) (eqb-true x y q) (r f)
  go false q f r = let z : ◌≡◌ {A = ℕ} 0 1 = cc in absurd (omega arith)

pub none_kept : (t seen marks : List ℕ) → length seen ≡ names_max → length marks ≡ names_max → Kept t seen marks 0
none_kept t seen marks p m = record { places = p; marked = m; free = λ x e. among_none t seen x }

module _ (t seen marks : List ℕ) (w : Word) (i p m : ℕ) (k : Kept t seen marks i) (h : i < names_max) (q : word_at p ≡ w) (e : m ≡ mark_of (word_of t w)) (g : m < names_max) where
  elsewhere : (x : List ℕ) → get_or (set marks m 1) (mark_of x) 0 ≡ 0 → mark_of x ≡ m → ⊥
  elsewhere x z r =
      let o = get_or-set_same marks m 1 0 (omega (arith, k.marked)) in
      let f = ap (λ (j : ℕ). get_or (set marks m 1) j 0) r in
      omega arith

  unlike : (x : List ℕ) → get_or (set marks m 1) (mark_of x) 0 ≡ 0 → is_among x (word_of t w ∷ names_at t seen i) ≡ false
  unfolding is_among
  unlike x z = go (same x (word_of t w)) refl where
    go : (b : Bool) → same x (word_of t w) ≡ b → (b || is_among x (names_at t seen i)) ≡ false
    go true f = absurd (elsewhere x z (ap mark_of (same_text x (word_of t w) f) ∙ sym e))
    go false f = k.free x (sym (get_or-set_other marks m (mark_of x) 1 0 (elsewhere x z)) ∙ z)

  pub one_kept : Kept t (set seen i p) (set marks m 1) (suc i)
  one_kept =
      record {
        places = length-set seen i p ∙ k.places;
        marked = length-set marks m 1 ∙ k.marked;
        free = λ x z. ap (is_among x) (stored t seen w i p (omega (arith, k.places)) q) ∙ unlike x z;
      }

-- ── a constant's type, and what follows its equals sign ──

module _ (l : List ℕ) (a e n : ℕ) where
  pub base-part : n ≡ run Unbracketed (part l a e) → part l a (a + n) ≡ base_text (part l a e)
  base-part q =
      let z : a + n - a ≡ n = omega arith in
      let k : n ≤ e - a = omega (arith, short Unbracketed (part l a e), length-take (e - a) (drop a l)) in
      ap (λ (m : ℕ). take m (drop a l)) z ∙ (sym (take-take n (e - a) (drop a l) k) ∙ ap (λ (m : ℕ). take m (part l a e)) q)

  pub value-part : n ≡ run Blank (part l a e) → part l (a + n) e ≡ skip (part l a e)
  value-part q = ap (λ (m : ℕ). part l (a + m) e) q ∙ sym (skipped l a e)

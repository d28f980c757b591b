-- Lines that differ in their blanks alone, outside quotes.
use mathlib.Core.Path.{◌≡◌, refl, sym, ap, ◌∙◌}
use mathlib.Core.Bool.{Bool, true, false, not, cond, ◌&&◌}
use mathlib.Core.List.{List, [], ◌∷◌, ◌++◌, append-nil}
use mathlib.Core.Logic.{◌⊎◌, inl, inr, ⊎_elim}
use mathlib.Core.Option.{Option}
use Prim.Native.Nat.{ℕ, zero, suc, ◌≤◌, ◌<◌}
use native.Mathlib.Omega.{arith}
use lib.Dec.{eqb, ltb}
use borrow.Author.Tests.{eqb-true, ne_eqb, not-true}
use lib.ListN.{length, get_or, take, drop, length-drop, get_or-append}
use lib.Seq.{take-append-le, drop-append-le}
use Rattle.dsdl_text.specs.declared.class.Class.TheVariants.{Bare, Blank, Visible}
use Rattle.dsdl_text.specs.Text.{chars, same, first}
use Rattle.dsdl_text.specs.Class.{is_blank, is_in, run, all, many}
use Rattle.dsdl_text.specs.Words.{bare, skip, word, past, ended}
use Rattle.dsdl_text.specs.Names.{is_name}
use Rattle.dsdl_number.specs.Number.{Number, is_closed, plain, coded, escape, quoted, character, initializer}
use Rattle.dsdl_type.specs.Base.{base_text, base_of, is_void}
use Rattle.dsdl_type.specs.Constant.{fits}
use Rattle.dsdl_line.specs.declared.shape.Cast.{Cast}
use Rattle.dsdl_line.specs.declared.shape.Cast.TheVariants.{Unsaid, Saturated, Truncated}
use Rattle.dsdl_line.specs.Line.{Shape, Line, field_type, constant_type, attribute_with, attribute, cast_attribute, shape_with, shape_of, judged, line_of}
use Rattle.dsdl_line.specs.Line.Line.{nothing, constant, wrong}
use Rattle.dsdl_laws.specs.Laws.{is_unquoted}
use Rattle.dsdl_laws.proofs.Characters.{no, and_left, and_right, decided, Each, each, each_all, all_cons}

-- ── blanks at the front ──

visible-blank : (c : ℕ) → is_in Blank c ≡ true → is_in Visible c ≡ false
unfolding is_in
visible-blank c e = ap not e

pub not-blank : (c : ℕ) → is_in Visible c ≡ true → is_in Blank c ≡ false
unfolding is_in
not-blank c e = go (is_blank c) e where
  go : (b : Bool) → not b ≡ true → b ≡ false
  go true q = no q
  go false q = refl

pub skip-blank : (c : ℕ) (l : List ℕ) → is_in Blank c ≡ true → skip (c ∷ l) ≡ skip l
unfolding run
skip-blank c l e = rw e

pub skip-visible : (c : ℕ) (l : List ℕ) → is_in Visible c ≡ true → skip (c ∷ l) ≡ c ∷ l
unfolding run
skip-visible c l e = rw (not-blank c e)

skip_all : (l : List ℕ) → Each Blank l → skip l ≡ []
unfolding run
skip_all [] p = refl
skip_all (c ∷ cs) p = skip-blank c cs p.0 ∙ skip_all cs p.1

pub skip-over : (g l : List ℕ) → Each Blank g → skip (g ++ l) ≡ skip l
skip-over [] l p = refl
skip-over (c ∷ g) l p = skip-blank c (g ++ l) p.0 ∙ skip-over g l p.1

seen : (c : ℕ) → is_in Blank c ≡ false → is_in Visible c ≡ true
unfolding is_in
seen c e = ap not e

skip-twice : (l : List ℕ) → skip (skip l) ≡ skip l
unfolding run
skip-twice [] = refl
skip-twice (c ∷ cs) =
    ⊎_elim (λ e. ap skip (skip-blank c cs e) ∙ (skip-twice cs ∙ sym (skip-blank c cs e))) (λ e. ap skip (skip-visible c cs (seen c e)))
    (decided (is_in Blank c))

ended-skip : (l : List ℕ) → ended (skip l) ≡ ended l
unfolding run
ended-skip [] = refl
ended-skip (c ∷ cs) =
    ⊎_elim (λ e. ap ended (skip-blank c cs e) ∙ (ended-skip cs ∙ sym (all_cons Blank c cs ∙ blank (is_in Blank c) e)))
    (λ e. ap ended (skip-visible c cs (seen c e))) (decided (is_in Blank c)) where
      blank : (b : Bool) → b ≡ true → (b && all Blank cs) ≡ all Blank cs
      blank true e = refl
      blank false e = no e

-- ── words ──

word-visible : (c : ℕ) (l : List ℕ) → is_in Visible c ≡ true → word (c ∷ l) ≡ c ∷ word l
unfolding run
word-visible c l e = rw e

past-visible : (c : ℕ) (l : List ℕ) → is_in Visible c ≡ true → past (c ∷ l) ≡ past l
unfolding run
past-visible c l e = rw e

word_blank : (c : ℕ) (l : List ℕ) → is_in Blank c ≡ true → word (c ∷ l) ≡ []
unfolding run
word_blank c l e = rw (visible-blank c e)

past-blank : (c : ℕ) (l : List ℕ) → is_in Blank c ≡ true → past (c ∷ l) ≡ c ∷ l
unfolding run
past-blank c l e = rw (visible-blank c e)

word-all : (l : List ℕ) → Each Blank l → word l ≡ []
unfolding run
word-all [] p = refl
word-all (c ∷ cs) p = word_blank c cs p.0

past_all : (l : List ℕ) → Each Blank l → past l ≡ l
unfolding run
past_all [] p = refl
past_all (c ∷ cs) p = past-blank c cs p.0

-- ── alike ──

pub data Alike : List ℕ → List ℕ → Type 0 where
  -- no word is left
  over : {a b : List ℕ} → Each Blank a → Each Blank b → Alike a b
  -- the same character
  char : {c : ℕ} {a b : List ℕ} → is_in Visible c ≡ true → eqb c 39 ≡ false → Alike a b → Alike (c ∷ a) (c ∷ b)
  -- blanks
  gap : {c d : ℕ} {a b : List ℕ} → is_in Blank c ≡ true → is_in Blank d ≡ true → Alike (skip a) (skip b) → Alike (c ∷ a) (d ∷ b)
  -- from a quote on the same but for blanks at the end
  quote : {a b : List ℕ} (s g h : List ℕ) → a ≡ s ++ g → b ≡ s ++ h → Each Blank g → Each Blank h → Alike (39 ∷ a) (39 ∷ b)

quote-visible : is_in Visible 39 ≡ true
unfolding is_in
quote-visible = refl

pub alike-skip : {a b : List ℕ} → Alike a b → Alike (skip a) (skip b)
alike-skip (over {a} {b} p q) = rw (skip_all a p, skip_all b q) (over tt tt)
alike-skip (char {c} {a} {b} v n r) = rw (skip-visible c a v, skip-visible c b v) (char v n r)
alike-skip (gap {c} {d} {a} {b} p q r) = rw (skip-blank c a p, skip-blank d b q) r
alike-skip (quote {a} {b} s g h x y p q) = rw (skip-visible 39 a quote-visible, skip-visible 39 b quote-visible) (quote s g h x y p q)

-- a character before texts that are the same but for blanks at the end
before : (c : ℕ) (s g h : List ℕ) → Each Blank g → Each Blank h → Alike (s ++ g) (s ++ h) → Alike (c ∷ (s ++ g)) (c ∷ (s ++ h))
before c s g h p q r = ⊎_elim (λ e. gap e e (alike-skip r)) (λ e. ⊎_elim quoted-on (λ z. char (seen c e) z r) (decided (eqb c 39))) (decided (is_in Blank c)) where
  quoted-on : eqb c 39 ≡ true → Alike (c ∷ (s ++ g)) (c ∷ (s ++ h))
  quoted-on z = rw (eqb-true c 39 z) (quote s g h refl refl p q)

pub tails : (s g h : List ℕ) → Each Blank g → Each Blank h → Alike (s ++ g) (s ++ h)
tails [] g h p q = over p q
tails (c ∷ s) g h p q = before c s g h p q (tails s g h p q)

pub itself : (l : List ℕ) → Alike l l
itself l = let r = tails l [] [] tt tt in rw (← append-nil l) r

module _ (g h : List ℕ) (p : Each Blank g) (q : Each Blank h) where
  word-tail : (s : List ℕ) → word (s ++ g) ≡ word (s ++ h)
  word-tail [] = word-all g p ∙ sym (word-all h q)
  word-tail (c ∷ s) =
      ⊎_elim (λ e. word_blank c (s ++ g) e ∙ sym (word_blank c (s ++ h) e))
      (λ e. word-visible c (s ++ g) (seen c e) ∙ (ap (λ (l : List ℕ). c ∷ l) (word-tail s) ∙ sym (word-visible c (s ++ h) (seen c e))))
      (decided (is_in Blank c))

  past-tail : (s : List ℕ) → Alike (past (s ++ g)) (past (s ++ h))
  past-tail [] = rw (past_all g p, past_all h q) (over p q)
  past-tail (c ∷ s) =
      ⊎_elim (λ e. rw (past-blank c (s ++ g) e, past-blank c (s ++ h) e) (tails (c ∷ s) g h p q))
      (λ e. rw (past-visible c (s ++ g) (seen c e), past-visible c (s ++ h) (seen c e)) (past-tail s)) (decided (is_in Blank c))

pub alike-word : {a b : List ℕ} → Alike a b → word a ≡ word b
alike-word (over {a} {b} p q) = word-all a p ∙ sym (word-all b q)
alike-word (char {c} {a} {b} v n r) = word-visible c a v ∙ (ap (λ (l : List ℕ). c ∷ l) (alike-word r) ∙ sym (word-visible c b v))
alike-word (gap {c} {d} {a} {b} p q r) = word_blank c a p ∙ sym (word_blank d b q)
alike-word (quote {a} {b} s g h x y p q) =
    word-visible 39 a quote-visible
    ∙ (ap (λ (l : List ℕ). 39 ∷ l) (ap word x ∙ (word-tail g h p q s ∙ ap word (sym y))) ∙ sym (word-visible 39 b quote-visible))

pub alike-past : {a b : List ℕ} → Alike a b → Alike (past a) (past b)
alike-past (over {a} {b} p q) = rw (past_all a p, past_all b q) (over p q)
alike-past (char {c} {a} {b} v n r) = rw (past-visible c a v, past-visible c b v) (alike-past r)
alike-past (gap {c} {d} {a} {b} p q r) = rw (past-blank c a p, past-blank d b q) (gap p q r)
alike-past (quote {a} {b} s g h x y p q) = rw (past-visible 39 a quote-visible, past-visible 39 b quote-visible, x, y) (past-tail g h p q s)

pub alike-ended : {a b : List ℕ} → Alike a b → ended a ≡ ended b
alike-ended (over {a} {b} p q) = each_all Blank a p ∙ sym (each_all Blank b q)
alike-ended (char {c} {a} {b} v n r) = rw (all_cons Blank c a, all_cons Blank c b, not-blank c v)
alike-ended (gap {c} {d} {a} {b} p q r) =
    rw (all_cons Blank c a, all_cons Blank d b, p, q) (sym (ended-skip a) ∙ (alike-ended r ∙ ended-skip b))
alike-ended (quote {a} {b} s g h x y p q) = rw (all_cons Blank 39 a, all_cons Blank 39 b, not-blank 39 quote-visible)

-- ── a character in quotes ──

-- a character that is neither a blank nor zero
record Marked (v : ℕ) : Type 0 where
  visible : is_in Blank v ≡ false
  positive : v ≡ 0 → ⊥

module _ (g : List ℕ) (p : Each Blank g) where
  -- no blank at the end is one
  blank-at : (v : ℕ) → Marked v → (l : List ℕ) → Each Blank l → (n : ℕ) → eqb (get_or l n 0) v ≡ false
  blank-at v m [] q n = ne_eqb 0 v (λ e. m.positive (sym e))
  blank-at v m (c ∷ l) q zero = ne_eqb c v (λ e. no (sym m.visible ∙ (ap (is_in Blank) (sym e) ∙ q.0)))
  blank-at v m (c ∷ l) q (suc n) = blank-at v m l q.1 n

  get_d_at : (v : ℕ) → Marked v → (s : List ℕ) (n : ℕ) → eqb (get_or (s ++ g) n 0) v ≡ eqb (get_or s n 0) v
  get_d_at v m [] n = blank-at v m g p n ∙ sym (ne_eqb 0 v (λ e. m.positive (sym e)))
  get_d_at v m (c ∷ s) zero = refl
  get_d_at v m (c ∷ s) (suc n) = get_d_at v m s n

  ended-tail : (s : List ℕ) → ended (s ++ g) ≡ ended s
  unfolding run
  ended-tail [] = each_all Blank g p
  ended-tail (c ∷ s) = all_cons Blank c (s ++ g) ∙ (ap (λ (b : Bool). is_in Blank c && b) (ended-tail s) ∙ sym (all_cons Blank c s))

there : (s : List ℕ) (n : ℕ) → get_or s n 0 ≡ 39 → n < length s
there [] n e = absurd (omega arith)
there (c ∷ s) zero e = omega arith
there (c ∷ s) (suc n) e = let h = there s n e in omega arith

module _ (g : List ℕ) (p : Each Blank g) (s : List ℕ) where
  marked : (v : ℕ) → is_in Blank v ≡ false → (v ≡ 0 → ⊥) → Marked v
  marked v a b = record { visible = a; positive = b }

  quote-mark : Marked 39
  unfolding is_in
  quote-mark = marked 39 refl (λ e. omega arith)

  closed-tail : (k : ℕ) → (eqb (get_or (s ++ g) k 0) 39 && ended (drop (suc k) (s ++ g))) ≡ (eqb (get_or s k 0) 39 && ended (drop (suc k) s))
  closed-tail k = rw (get_d_at g p 39 quote-mark s k) (go (eqb (get_or s k 0) 39) refl) where
    go : (b : Bool) → eqb (get_or s k 0) 39 ≡ b → (b && ended (drop (suc k) (s ++ g))) ≡ (b && ended (drop (suc k) s))
    go true e = ap ended (drop-append-le (suc k) s g (there s k (eqb-true (get_or s k 0) 39 e))) ∙ ended-tail g p (drop (suc k) s)
    go false e = refl

  closed-there : (k : ℕ) → (eqb (get_or s k 0) 39 && ended (drop (suc k) s)) ≡ true → k < length s
  closed-there k e = there s k (eqb-true (get_or s k 0) 39 (and_left (eqb (get_or s k 0) 39) (ended (drop (suc k) s)) e))

  if-closed : (b : Bool) (x y : ℕ) → (b ≡ true → x ≡ y) → cond b x 256 ≡ cond b y 256
  if-closed true x y f = f refl
  if-closed false x y f = refl

  digits-there : 5 ≤ length s → take 2 (drop 2 (s ++ g)) ≡ take 2 (drop 2 s)
  digits-there h =
      ap (take 2) (drop-append-le 2 s g (omega arith)) ∙ take-append-le 2 (drop 2 s) g (omega (arith, length-drop 2 s))

  pub quoted-tail : quoted (s ++ g) ≡ quoted s
  unfolding quoted is_in
  quoted-tail =
      rw (
        get_d_at g p 92 (marked 92 refl (λ e. omega arith)) s 0,
        get_d_at g p 120 (marked 120 refl (λ e. omega arith)) s 1,
        closed-tail 4,
        closed-tail 2,
        closed-tail 1,
        if-closed (is_closed 5 s) (coded (take 2 (drop 2 (s ++ g)))) (coded (take 2 (drop 2 s))) (λ e. ap coded (digits-there (closed-there 4 e))),
        if-closed (is_closed 3 s) (escape (get_or (s ++ g) 1 0)) (escape (get_or s 1 0))
            (λ e. let h = closed-there 2 e in ap escape (get_or-append s g 0 1 (omega arith))),
        if-closed (is_closed 2 s) (plain (first (s ++ g))) (plain (first s))
            (λ e. let h = closed-there 1 e in ap plain (get_or-append s g 0 0 (omega arith))),
      )

-- ── an initializer ──

char-init : (c : ℕ) (a b : List ℕ) → is_in Visible c ≡ true → eqb c 39 ≡ false → Alike a b → initializer (c ∷ a) ≡ initializer (c ∷ b)
unfolding initializer
char-init c a b v n r =
    let k = alike-skip r in
    let w = char {c = c} v n r in
    rw (n, alike-word k, alike-ended (alike-past k), alike-word w, alike-ended (alike-past w))

pub alike-init : {a b : List ℕ} → Alike a b → initializer (skip a) ≡ initializer (skip b)
unfolding initializer
alike-init (over {a} {b} p q) = ap initializer (skip_all a p ∙ sym (skip_all b q))
alike-init (char {c} {a} {b} v n r) = ap initializer (skip-visible c a v) ∙ (char-init c a b v n r ∙ ap initializer (sym (skip-visible c b v)))
alike-init (gap {c} {d} {a} {b} p q r) =
    ap initializer (skip-blank c a p ∙ sym (skip-twice a)) ∙ (alike-init r ∙ ap initializer (skip-twice b ∙ sym (skip-blank d b q)))
alike-init (quote {a} {b} s g h x y p q) =
    ap initializer (skip-visible 39 a quote-visible)
    ∙ (ap (λ (l : List ℕ). character (quoted l)) x
    ∙ (ap character (quoted-tail g p s ∙ sym (quoted-tail h q s)) ∙ ap (λ (l : List ℕ). character (quoted l)) (sym y))
    ∙ ap initializer (sym (skip-visible 39 b quote-visible)))

-- ── a line ──

module _ (c : Cast) (w x l m : List ℕ) (r : Alike l m) where
  named-alike : judged (attribute_with c w x l) ≡ judged (attribute_with c w x m)
  named-alike =
      rw (alike-ended r, alike-word (alike-skip r))
      (go (is_name x) (ended m) (field_type c w) (constant_type w && same (word (skip m)) (chars "="))) where
        go : (n d t k : Bool)
            → judged (cond n (cond d (cond t (Shape.field c w x) Shape.wrong) (cond k (Shape.constant w x (past (skip l))) Shape.wrong)) Shape.wrong)
            ≡ judged (cond n (cond d (cond t (Shape.field c w x) Shape.wrong) (cond k (Shape.constant w x (past (skip m))) Shape.wrong)) Shape.wrong)
        go true true t k = refl
        go true false t true = ap (λ (o : Option Number). cond (fits (base_of (base_text w)) o) (constant x) wrong) (alike-init (alike-past (alike-skip r)))
        go true false t false = refl
        go false d t k = refl

attribute-alike : (c : Cast) (w l m : List ℕ) → Alike l m → judged (attribute c w l) ≡ judged (attribute c w m)
attribute-alike c w l m r =
    ap (λ (x : List ℕ). judged (attribute_with c w x (past (skip l)))) (alike-word (alike-skip r))
    ∙ named-alike c w (word (skip m)) (past (skip l)) (past (skip m)) (alike-past (alike-skip r))

cast-alike : (c : Cast) (l m : List ℕ) → Alike l m → judged (cast_attribute c l) ≡ judged (cast_attribute c m)
cast-alike c l m r =
    ap (λ (w : List ℕ). judged (attribute c w (past (skip l)))) (alike-word (alike-skip r))
    ∙ attribute-alike c (word (skip m)) (past (skip l)) (past (skip m)) (alike-past (alike-skip r))

with-alike : (w l m : List ℕ) → Alike l m → judged (shape_with w l) ≡ judged (shape_with w m)
with-alike w l m r =
    rw (alike-ended r)
    (go (same w (chars "---") && ended m) (same w (chars "@union") && ended m) (same w (chars "saturated")) (same w (chars "truncated"))
    (is_void (base_of w) && ended m)) where
      go : (a b c d e : Bool)
          → judged (cond a Shape.marker (cond b Shape.union (cond c (cast_attribute Saturated l) (cond d (cast_attribute Truncated l)
          (cond e (Shape.padding w) (attribute Unsaid w l))))))
          ≡ judged (cond a Shape.marker (cond b Shape.union (cond c (cast_attribute Saturated m) (cond d (cast_attribute Truncated m)
          (cond e (Shape.padding w) (attribute Unsaid w m))))))
      go true b c d e = refl
      go false true c d e = refl
      go false false true d e = cast-alike Saturated l m r
      go false false false true e = cast-alike Truncated l m r
      go false false false false true = refl
      go false false false false false = attribute-alike Unsaid w l m r

-- a line by what is left of it without comment and blanks at the front
abbrev pub by_front : List ℕ → Line
by_front k = judged (cond (ended k) Shape.nothing (shape_with (word k) (past k)))

pub by-front : (l : List ℕ) → line_of l ≡ by_front (skip (bare l))
unfolding shape_of
by-front l =
    ap (λ (b : Bool). judged (cond b Shape.nothing (shape_with (word (skip (bare l))) (past (skip (bare l)))))) (sym (ended-skip (bare l)))

front-alike : (k j : List ℕ) → Alike k j → by_front k ≡ by_front j
front-alike k j r = rw (alike-ended r, alike-word r) (go (ended j)) where
  go : (b : Bool) → judged (cond b Shape.nothing (shape_with (word j) (past k))) ≡ judged (cond b Shape.nothing (shape_with (word j) (past j)))
  go true = refl
  go false = with-alike (word j) (past k) (past j) (alike-past r)

pub line-alike : (l m : List ℕ) → Alike (bare l) (bare m) → line_of l ≡ line_of m
line-alike l m r = by-front l ∙ (front-alike (skip (bare l)) (skip (bare m)) (alike-skip r) ∙ sym (by-front m))

-- ── comments ──

bare-on : (c : ℕ) (l : List ℕ) → is_in Bare c ≡ true → bare (c ∷ l) ≡ c ∷ bare l
unfolding run
bare-on c l e = rw e

bare-off : (c : ℕ) (l : List ℕ) → is_in Bare c ≡ false → bare (c ∷ l) ≡ []
unfolding run
bare-off c l e = rw e

-- a comment begins in l, or not
bare-cases : (l : List ℕ) → ((m : List ℕ) → bare (l ++ m) ≡ bare l) ⊎ ((m : List ℕ) → bare (l ++ m) ≡ l ++ bare m)
bare-cases [] = inr (λ m. refl)
bare-cases (c ∷ l) =
    ⊎_elim
    (λ e. ⊎_elim (λ f. inl (λ m. bare-on c (l ++ m) e ∙ (ap (λ (k : List ℕ). c ∷ k) (f m) ∙ sym (bare-on c l e))))
    (λ f. inr (λ m. bare-on c (l ++ m) e ∙ ap (λ (k : List ℕ). c ∷ k) (f m))) (bare-cases l))
    (λ e. inl (λ m. bare-off c (l ++ m) e ∙ sym (bare-off c l e))) (decided (is_in Bare c))

blank-bare : (c : ℕ) → is_in Blank c ≡ true → is_in Bare c ≡ true
unfolding is_in
blank-bare c e = rw (ne_eqb c 35 (λ z. no (sym (ap is_blank z) ∙ e)))

blanks-bare : (g l : List ℕ) → Each Blank g → bare (g ++ l) ≡ g ++ bare l
blanks-bare [] l p = refl
blanks-bare (c ∷ g) l p = bare-on c (g ++ l) (blank-bare c p.0) ∙ ap (λ (k : List ℕ). c ∷ k) (blanks-bare g l p.1)

same-bare : (l m : List ℕ) → bare l ≡ bare m → line_of l ≡ line_of m
unfolding shape_of
same-bare l m e = rw e

-- ── the laws of a line ──

pub front : (g l : List ℕ) → all Blank g ≡ true → line_of (g ++ l) ≡ line_of l
front g l e =
    by-front (g ++ l) ∙ (ap by_front (ap skip (blanks-bare g l (each Blank g e)) ∙ skip-over g (bare l) (each Blank g e)) ∙ sym (by-front l))

pub comment : (l cs : List ℕ) → line_of (l ++ (35 ∷ cs)) ≡ line_of l
unfolding is_in run
comment l cs = ⊎_elim (λ f. same-bare (l ++ (35 ∷ cs)) l (f (35 ∷ cs))) (λ f. same-bare (l ++ (35 ∷ cs)) l (bares f)) (bare-cases l) where
  bares : ((m : List ℕ) → bare (l ++ m) ≡ l ++ bare m) → bare (l ++ (35 ∷ cs)) ≡ bare l
  bares f = f (35 ∷ cs) ∙ (ap (λ (k : List ℕ). l ++ k) (bare-off 35 cs refl) ∙ (sym (f []) ∙ ap bare (append-nil l)))

pub back : (l g : List ℕ) → all Blank g ≡ true → line_of (l ++ g) ≡ line_of l
unfolding run
back l g e = ⊎_elim (λ f. same-bare (l ++ g) l (f g)) (λ f. line-alike (l ++ g) l (bares f)) (bare-cases l) where
  bares : ((m : List ℕ) → bare (l ++ m) ≡ l ++ bare m) → Alike (bare (l ++ g)) (bare l)
  bares f =
      let b : bare g ≡ g = ap bare (sym (append-nil g)) ∙ (blanks-bare g [] (each Blank g e) ∙ append-nil g) in
      let p : bare (l ++ g) ≡ l ++ g = f g ∙ ap (λ (k : List ℕ). l ++ k) b in
      let q : bare l ≡ l ++ [] = ap bare (sym (append-nil l)) ∙ f [] in
      rw (p, q) (tails l g [] (each Blank g e) tt)

gap-alike : (g h b : List ℕ) → Each Blank g → Each Blank h → ltb 0 (length g) ≡ true → ltb 0 (length h) ≡ true → Alike (g ++ b) (h ++ b)
gap-alike [] h b p q m n = no m
gap-alike (c ∷ g) [] b p q m n = no n
gap-alike (c ∷ g) (d ∷ h) b p q m n = gap {a = g ++ b} {b = h ++ b} p.0 q.0 (rw (skip-over g b p.1, skip-over h b q.1) (itself (skip b)))

behind-alike : (a k j : List ℕ) → is_unquoted a ≡ true → Alike k j → Alike (a ++ k) (a ++ j)
unfolding is_unquoted
behind-alike [] k j e r = r
behind-alike (c ∷ a) k j e r = go (behind-alike a k j (and_right (not (eqb c 39)) (is_unquoted a) e) r) where
  go : Alike (a ++ k) (a ++ j) → Alike (c ∷ (a ++ k)) (c ∷ (a ++ j))
  go t =
      ⊎_elim (λ z. gap z z (alike-skip t)) (λ z. char (seen c z) (not-true (eqb c 39) (and_left (not (eqb c 39)) (is_unquoted a) e)) t)
      (decided (is_in Blank c))

pub between : (a g h b : List ℕ) → is_unquoted a ≡ true → many Blank g ≡ true → many Blank h ≡ true → line_of (a ++ (g ++ b)) ≡ line_of (a ++ (h ++ b))
between a g h b u m n =
    ⊎_elim (λ f. same-bare (a ++ (g ++ b)) (a ++ (h ++ b)) (f (g ++ b) ∙ sym (f (h ++ b))))
    (λ f. line-alike (a ++ (g ++ b)) (a ++ (h ++ b)) (bares f)) (bare-cases a) where
      p : Each Blank g
      p = each Blank g (and_right (ltb 0 (length g)) (all Blank g) m)

      q : Each Blank h
      q = each Blank h (and_right (ltb 0 (length h)) (all Blank h) n)

      bares : ((m : List ℕ) → bare (a ++ m) ≡ a ++ bare m) → Alike (bare (a ++ (g ++ b))) (bare (a ++ (h ++ b)))
      bares f =
          rw (f (g ++ b), f (h ++ b), blanks-bare g b p, blanks-bare h b q)
          (behind-alike a (g ++ bare b) (h ++ bare b) u
          (gap-alike g h (bare b) p q (and_left (ltb 0 (length g)) (all Blank g) m) (and_left (ltb 0 (length h)) (all Blank h) n)))

pub empty : line_of [] ≡ nothing
unfolding shape_of run
empty = refl

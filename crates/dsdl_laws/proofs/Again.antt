-- A row of a form, read as a line.
use mathlib.Core.Path.{◌≡◌, refl, sym, ap, ◌∙◌}
use mathlib.Core.Bool.{Bool, true, false, not, cond, ◌&&◌, ◌||◌}
use mathlib.Core.List.{List, [], ◌∷◌, ◌++◌, append-nil, append_assoc}
use mathlib.Core.Logic.{⊎_elim}
use Prim.Native.Nat.{ℕ, ◌≤◌}
use native.Mathlib.Omega.{arith}
use lib.Dec.{leb}
use borrow.Author.Tests.{not-true}
use lib.ListN.{length}
use Rattle.dsdl_text.specs.declared.class.Class.TheVariants.{Bare, Blank, Letter, Naming, Visible, Undotted, Unbracketed}
use Rattle.dsdl_text.specs.Text.{chars, same, first}
use Rattle.dsdl_text.specs.Class.{is_in, run, all}
use Rattle.dsdl_text.specs.Words.{bare, skip, word, past, ended}
use Rattle.dsdl_text.specs.Names.{is_name, dotted_from, is_dotted, has_dot, name_max, full_name}
use Rattle.dsdl_type.specs.Base.{base_text, size_text, base_of, is_primitive, is_nested, is_void}
use Rattle.dsdl_type.specs.Size.{size_fits, size_form}
use Rattle.dsdl_line.specs.declared.shape.Cast.{Cast}
use Rattle.dsdl_line.specs.declared.shape.Cast.TheVariants.{Unsaid, Saturated, Truncated}
use Rattle.dsdl_line.specs.Line.{Shape, is_unsaid, field_type, attribute_with, attribute, cast_attribute, shape_with, judged, line_of}
use Rattle.dsdl_line.specs.Line.Line.{padding, field}
use Rattle.dsdl.specs.Form.{cast_form, type_form}
use Rattle.dsdl_laws.proofs.Characters.{no, and_left, decided, Each, each_append, all_cons, taken, dropped, Solid, solid-append, solid-each, visible, bare-char, naming, naming-solid, naming-unbracketed, same-equal}
use Rattle.dsdl_laws.proofs.Dots.{dotted-solid, dotted-unbracketed}
use Rattle.dsdl_laws.proofs.Bases.{size-solid, is_known, known-naming, full-nested}
use Rattle.dsdl_laws.proofs.Sizes.{size-again, size-fits}
use Rattle.dsdl_laws.proofs.Spaces.{skip-blank, skip-visible, not-blank, by_front, by-front}
use Rattle.dsdl_laws.proofs.Rows.{Typed, known-name, void-name, name-naming, base-of, size_of, first_word, after-word}
use Rattle.dsdl_laws.proofs.Rows.Typed.{nests, known}

-- ── words ──

-- a text that begins with a word
module _ (l : List ℕ) (h : 36 ≤ first l) where
  begins : skip l ≡ l
  begins = go l h where
    go : (m : List ℕ) → 36 ≤ first m → skip m ≡ m
    go [] k = absurd (omega arith)
    go (c ∷ cs) k = skip-visible c cs (visible c k)

  not-ended : ended l ≡ false
  not-ended = go l h where
    go : (m : List ℕ) → 36 ≤ first m → ended m ≡ false
    go [] k = absurd (omega arith)
    go (c ∷ cs) k = all_cons Blank c cs ∙ rw (not-blank c (visible c k))

  behind-blank : skip (32 ∷ l) ≡ l
  unfolding is_in
  behind-blank = skip-blank 32 l refl ∙ begins

  blank-not-ended : ended (32 ∷ l) ≡ false
  unfolding is_in
  blank-not-ended = all_cons Blank 32 l ∙ not-ended

-- a text that is one word
module _ (w : List ℕ) (p : Solid w) where
  seen : Each Visible w
  seen = solid-each Visible visible w p

  one_word : word w ≡ w
  unfolding run
  one_word = ap word (sym (append-nil w)) ∙ taken Visible w [] seen refl

  nothing-past : past w ≡ []
  unfolding run
  nothing-past = ap past (sym (append-nil w)) ∙ dropped Visible w [] seen refl

uncommented : (l : List ℕ) → Each Bare l → bare l ≡ l
unfolding run
uncommented l p = ap bare (sym (append-nil l)) ∙ taken Bare l [] p refl

solid-bare : (l : List ℕ) → Solid l → Each Bare l
solid-bare l p = solid-each Bare bare-char l p

-- a word and what is behind it
module _ (w r : List ℕ) (p : Solid w) (h : 36 ≤ first w) (b : Each Bare r) where
  first_of : (x : List ℕ) → 36 ≤ first (w ++ x)
  first_of x = go w h where
    go : (v : List ℕ) → 36 ≤ first v → 36 ≤ first (v ++ x)
    go [] k = absurd (omega arith)
    go (c ∷ v) k = k

  by_word : line_of (w ++ (32 ∷ r)) ≡ judged (shape_with w (32 ∷ r))
  unfolding is_in
  by_word =
      let l = w ++ (32 ∷ r) in
      let e = uncommented l (each_append Bare w (32 ∷ r) (solid-bare w p) (refl, b)) in
      let f = first_of (32 ∷ r) in
      by-front l ∙ (ap by_front (ap skip e ∙ begins l f) ∙ rw (not-ended l f, first_word w r p, after-word w r p))

-- ── a name behind a type ──

name-first : (x : List ℕ) → is_name x ≡ true → 36 ≤ first x
unfolding is_in
name-first x e = let n = naming (first x) (rw (and_left (is_in Letter (first x)) (all Naming x) e)) in omega arith

name-solid : (x : List ℕ) → is_name x ≡ true → Solid x
name-solid x e = naming-solid x (name-naming x e)

module _ (c : Cast) (w x : List ℕ) (n : is_name x ≡ true) (t : field_type c w ≡ true) where
  field-read : attribute c w (32 ∷ x) ≡ Shape.field c w x
  unfolding run
  field-read =
      ap (λ (k : List ℕ). attribute_with c w (word k) (past k)) (behind-blank x (name-first x n))
      ∙ (ap (λ (k : List ℕ). attribute_with c w k (past x)) (one_word x (name-solid x n))
      ∙ (ap (attribute_with c w x) (nothing-past x (name-solid x n)) ∙ rw (n, t)))

step : (b : Bool) (x y : Shape) → cond (b && false) x y ≡ y
step true x y = refl
step false x y = refl

-- a type without a cast mode
plain-shape : (w r : List ℕ) → ended r ≡ false → same w (chars "saturated") ≡ false → same w (chars "truncated") ≡ false
    → shape_with w r ≡ attribute Unsaid w r
plain-shape w r e s t =
    rw (e, s, t) (step (same w (chars "---")) Shape.marker _ ∙ (step (same w (chars "@union")) Shape.union _
    ∙ step (is_void (base_of w)) (Shape.padding w) (attribute Unsaid w r)))

-- the cast mode that a form has
abbrev pub said : Cast → Cast
said Unsaid = Saturated
said Saturated = Saturated
said Truncated = Truncated

module _ (w x : List ℕ) (p : Solid w) (h : 36 ≤ first w) (n : is_name x ≡ true) where
  pub plain-line : same w (chars "saturated") ≡ false → same w (chars "truncated") ≡ false → field_type Unsaid w ≡ true
      → line_of (w ++ (32 ∷ x)) ≡ field Unsaid w x
  plain-line s t f =
      by_word w x p h (solid-bare x (name-solid x n)) ∙ (ap judged (plain-shape w (32 ∷ x) (blank-not-ended x (name-first x n)) s t)
      ∙ ap judged (field-read Unsaid w x n f))

  -- behind a cast mode
  cast-read : (c : Cast) → field_type c w ≡ true → cast_attribute c (32 ∷ (w ++ (32 ∷ x))) ≡ Shape.field c w x
  cast-read c f =
      let l = w ++ (32 ∷ x) in
      let g = first_of w x p h (solid-bare x (name-solid x n)) (32 ∷ x) in
      ap (λ (k : List ℕ). attribute c (word k) (past k)) (behind-blank l g)
      ∙ (ap (λ (k : List ℕ). attribute c k (past l)) (first_word w x p) ∙ (ap (attribute c w) (after-word w x p) ∙ field-read c w x n f))

  all-bare : Each Bare (w ++ (32 ∷ x))
  unfolding is_in
  all-bare = each_append Bare w (32 ∷ x) (solid-bare w p) (refl, solid-bare x (name-solid x n))

  pub cast-line : (c : Cast) → field_type (said c) w ≡ true → line_of (cast_form c ++ (w ++ (32 ∷ x))) ≡ field (said c) w x
  unfolding same
  cast-line Unsaid f = by_word (chars "saturated") (w ++ (32 ∷ x)) (omega arith) (omega arith) all-bare ∙ ap judged (cast-read Saturated f)
  cast-line Saturated f = by_word (chars "saturated") (w ++ (32 ∷ x)) (omega arith) (omega arith) all-bare ∙ ap judged (cast-read Saturated f)
  cast-line Truncated f = by_word (chars "truncated") (w ++ (32 ∷ x)) (omega arith) (omega arith) all-bare ∙ ap judged (cast-read Truncated f)

-- ── padding ──

pub padding-line : (w : List ℕ) → is_void (base_of w) ≡ true → line_of w ≡ padding w
unfolding run base_of same is_in dotted_from
padding-line w e =
    let p = naming-solid w (void-name w e) in
    let h = first-in w e in
    by-front w ∙ (ap by_front (ap skip (uncommented w (solid-bare w p)) ∙ begins w h)
    ∙ rw (
      not-ended w h,
      one_word w p,
      nothing-past w p,
      other (chars "---") refl,
      other (chars "@union") refl,
      other (chars "saturated") refl,
      other (chars "truncated") refl,
      e,
    )) where
      other : (l : List ℕ) → is_void (base_of l) ≡ false → same w l ≡ false
      other l f = ⊎_elim (λ q. no (sym f ∙ (ap (λ (m : List ℕ). is_void (base_of m)) (sym (same-equal w l q)) ∙ e))) (λ q. q) (decided (same w l))

      first-in : (l : List ℕ) → is_void (base_of l) ≡ true → 36 ≤ first l
      first-in [] q = no q
      first-in (c ∷ cs) q = (naming-solid (c ∷ cs) (void-name (c ∷ cs) q)).0

-- ── fields ──

-- the type of a field, as its row has it
abbrev pub cast_again : Cast → List ℕ → Cast
cast_again c w = cond (is_nested (base_of (base_text w))) Unsaid (said c)

abbrev pub type_again : List ℕ → List ℕ → List ℕ
type_again space w = cond (is_nested (base_of (base_text w))) (full_name space (base_text w)) (base_text w) ++ size_form (size_text w)

dot-in : (a b : List ℕ) → has_dot a ≡ true → has_dot (a ++ b) ≡ true
unfolding run
dot-in a b e = ap not (go a (not-true (all Undotted a) e)) where
  go : (l : List ℕ) → all Undotted l ≡ false → all Undotted (l ++ b) ≡ false
  go [] q = no (sym q)
  go (c ∷ l) q = all_cons Undotted c (l ++ b) ∙ turn (is_in Undotted c) (go l) (sym (all_cons Undotted c l) ∙ q) where
    turn : (t : Bool) → (all Undotted l ≡ false → all Undotted (l ++ b) ≡ false) → (t && all Undotted l) ≡ false
        → (t && all Undotted (l ++ b)) ≡ false
    turn true f u = f u
    turn false f u = refl

dotted-first : (l z : List ℕ) → is_dotted l ≡ true → 36 ≤ first (l ++ z)
unfolding dotted_from
dotted-first [] z e = no e
dotted-first (c ∷ l) z e = (dotted-solid true (c ∷ l) e).0

known-first : (l z : List ℕ) → is_known (base_of l) ≡ true → 36 ≤ first (l ++ z)
unfolding run base_of same is_in dotted_from
known-first [] z e = no e
known-first (c ∷ l) z e = (naming-solid (c ∷ l) (known-naming (c ∷ l) e)).0

module _ (b s : List ℕ) (u : Each Unbracketed b) (e : size_fits s ≡ true) where
  abbrev whole : List ℕ
  whole = b ++ size_form s

  fits-again : (c : Cast) → (is_primitive (base_of b) || (is_unsaid c && is_nested (base_of b))) ≡ true → field_type c whole ≡ true
  fits-again c k = rw (size_of b s u, base-of b s u, size-fits s e) k

  form-again : (space : List ℕ) (c : Cast)
      → type_form space c whole ≡ cond (is_nested (base_of b)) (full_name space b) (cast_form c ++ b) ++ size_form s
  form-again space c = rw (size_of b s u, base-of b s u, size-again s e)

module _ (space : List ℕ) (c : Cast) (w x : List ℕ) (n : is_name x ≡ true) (e : size_fits (size_text w) ≡ true)
    (short : is_nested (base_of (base_text w)) ≡ true → leb (length (full_name space (base_text w))) name_max ≡ true) where
  abbrev size : List ℕ
  size = size_form (size_text w)

  pub field-line : Typed space c w → line_of (type_form space c w ++ (32 ∷ x)) ≡ field (cast_again c w) (type_again space w) x
  unfolding run is_in
  field-line (nests i u d h) =
      let f = full_name space (base_text w) in
      let p = solid-append f size (dotted-solid true f d) (size-solid (size_text w)) in
      let t = fits-again f (size_text w) (dotted-unbracketed true f d) e Unsaid (rw (full-nested f d h (short i))) in
      let k = dot-in f size h in
      rw i
      (plain-line (f ++ size) x p (dotted-first f size d) n (other (f ++ size) (chars "saturated") k refl)
      (other (f ++ size) (chars "truncated") k refl) t) where
        other : (v l : List ℕ) → has_dot v ≡ true → has_dot l ≡ false → same v l ≡ false
        other v l p q = ⊎_elim (λ z. no (sym q ∙ (ap has_dot (sym (same-equal v l z)) ∙ p))) (λ z. z) (decided (same v l))
  field-line (known i k) =
      let b = base_text w in
      let m = known-name b k in
      let p = solid-append b size (naming-solid b m) (size-solid (size_text w)) in
      let t = fits-again b (size_text w) (naming-unbracketed b m) e (said c) (rw k) in
      rw (i, append_assoc (cast_form c ++ b) size (32 ∷ x), append_assoc (cast_form c) b (size ++ (32 ∷ x)), ← append_assoc b size (32 ∷ x))
      (cast-line (b ++ size) x p (known-first b size (rw k)) n c t)

  pub field-form : Typed space c w → type_form space (cast_again c w) (type_again space w) ≡ type_form space c w
  field-form (nests i u d h) =
      let f = full_name space (base_text w) in
      rw i (form-again f (size_text w) (dotted-unbracketed true f d) e space Unsaid ∙ rw (full-nested f d h (short i), h))
  field-form (known i k) =
      let b = base_text w in
      rw i (form-again b (size_text w) (naming-unbracketed b (known-name b k)) e space (said c) ∙ rw (i, said-form c)) where
        said-form : (a : Cast) → cast_form (said a) ≡ cast_form a
        said-form Unsaid = refl
        said-form Saturated = refl
        said-form Truncated = refl

-- The lines of a form: its name, and a row for each line that adds one.
use mathlib.Core.Path.{◌≡◌, refl, sym, ap, ◌∙◌}
use mathlib.Core.Bool.{Bool, true, false, not, cond, ◌&&◌, ◌||◌}
use mathlib.Core.List.{List, [], ◌∷◌, ◌++◌, append-nil, append_assoc, map}
use mathlib.Core.Logic.{⊎_elim}
use Prim.Native.Nat.{ℕ}
use lib.Dec.{leb, eqb}
use lib.ListN.{length}
use Rattle.dsdl_text.specs.declared.class.Class.TheVariants.{Inline, Letter, Naming, Visible, Unbracketed, Undotted}
use Rattle.dsdl_text.specs.Text.{chars, same, first}
use Rattle.dsdl_text.specs.Class.{is_in, run, all}
use Rattle.dsdl_text.specs.Words.{bare, skip, word, past, ended}
use Rattle.dsdl_text.specs.Lines.{lines_after, lines}
use Rattle.dsdl_text.specs.Names.{is_name, is_dotted, has_dot, name_max, is_full_name, space_of, full_name}
use Rattle.dsdl_number.specs.Number.{initializer}
use Rattle.dsdl_type.specs.declared.base.Base.{Base}
use Rattle.dsdl_type.specs.declared.base.Base.TheVariants.{Boolean, Signed, Unsigned, Floating, Void, Nested, Unknown}
use Rattle.dsdl_type.specs.Base.{base_text, size_text, base_of, is_primitive, is_nested, is_void}
use Rattle.dsdl_type.specs.Size.{size_fits, size_form}
use Rattle.dsdl_type.specs.Constant.{fits}
use Rattle.dsdl_line.specs.declared.shape.Cast.{Cast}
use Rattle.dsdl_line.specs.declared.shape.Cast.TheVariants.{Unsaid, Saturated, Truncated}
use Rattle.dsdl_line.specs.Line.{Shape, Line, is_unsaid, field_type, constant_type, attribute_with, attribute, cast_attribute, shape_with, shape_of, judged, line_of}
use Rattle.dsdl_line.specs.Line.Line.{nothing, marker, union, padding, field, constant, wrong}
use Rattle.dsdl.specs.Definition.{lines_of}
use Rattle.dsdl.specs.Form.{cast_form, type_form, line_form, lines_form, form_of, nested_in, nested_types}
use Rattle.dsdl_laws.proofs.Characters.{no, and_left, and_right, or-true, Each, each, each_all, each_append, taken, dropped, Solid, solid-append, solid-each, visible, inline, naming-solid, naming-unbracketed, naming-undotted}
use Rattle.dsdl_laws.proofs.Dots.{dotted-solid, dotted-unbracketed, Space, is-dotted, space-of, full-name}
use Rattle.dsdl_laws.proofs.Bases.{size-solid, size-begins, known-naming, nested-name}

-- ── what a line that was read has ──

abbrev pub Read : Line → Type 0
Read nothing = Unit
Read marker = Unit
Read union = Unit
Read (padding w) = is_void (base_of w) ≡ true
Read (field c w x) = (field_type c w ≡ true) × (is_name x ≡ true)
Read (constant x) = Unit
Read wrong = Unit

attribute-read : (c : Cast) (w x l : List ℕ) → Read (judged (attribute_with c w x l))
attribute-read c w x l = go (is_name x) (ended l) (field_type c w) (constant_type w && same (word (skip l)) (chars "=")) refl refl where
  valued : (b : Bool) → Read (cond b (constant x) wrong)
  valued true = tt
  valued false = tt

  go : (n d t k : Bool) → is_name x ≡ n → field_type c w ≡ t
      → Read (judged (cond n (cond d (cond t (Shape.field c w x) Shape.wrong) (cond k (Shape.constant w x (past (skip l))) Shape.wrong)) Shape.wrong))
  go true true true k p q = (q, p)
  go true true false k p q = tt
  go true false t true p q = valued (fits (base_of (base_text w)) (initializer (skip (past (skip l)))))
  go true false t false p q = tt
  go false d t k p q = tt

with_read : (w l : List ℕ) → Read (judged (shape_with w l))
with_read w l =
    go (same w (chars "---") && ended l) (same w (chars "@union") && ended l) (same w (chars "saturated")) (same w (chars "truncated"))
    (is_void (base_of w) && ended l) refl where
      cast : (c : Cast) → Read (judged (cast_attribute c l))
      cast c = attribute-read c (word (skip l)) (word (skip (past (skip l)))) (past (skip (past (skip l))))

      go : (a b c d e : Bool) → (is_void (base_of w) && ended l) ≡ e
          → Read (judged (cond a Shape.marker (cond b Shape.union (cond c (cast_attribute Saturated l)
          (cond d (cast_attribute Truncated l) (cond e (Shape.padding w) (attribute Unsaid w l)))))))
      go true b c d e p = tt
      go false true c d e p = tt
      go false false true d e p = cast Saturated
      go false false false true e p = cast Truncated
      go false false false false true p = and_left (is_void (base_of w)) (ended l) p
      go false false false false false p = attribute-read Unsaid w (word (skip l)) (past (skip l))

pub line_read : (l : List ℕ) → Read (line_of l)
unfolding shape_of
line_read l = go (ended (bare l)) where
  go : (b : Bool) → Read (judged (cond b Shape.nothing (shape_with (word (skip (bare l))) (past (skip (bare l))))))
  go true = tt
  go false = with_read (word (skip (bare l))) (past (skip (bare l)))

abbrev pub AllRead : List Line → Type 0
AllRead [] = Unit
AllRead (l ∷ ls) = Read l × AllRead ls

pub lines-read : (ls : List (List ℕ)) → AllRead (map line_of ls)
lines-read [] = tt
lines-read (l ∷ ls) = (line_read l, lines-read ls)

-- ── the type of a field ──

pub data Typed (space : List ℕ) (c : Cast) (w : List ℕ) : Type 0 where
  nests : is_nested (base_of (base_text w)) ≡ true → is_unsaid c ≡ true → is_dotted (full_name space (base_text w)) ≡ true
      → has_dot (full_name space (base_text w)) ≡ true → Typed space c w
  known : is_nested (base_of (base_text w)) ≡ false → is_primitive (base_of (base_text w)) ≡ true → Typed space c w

pub typed : (space : List ℕ) (c : Cast) (w : List ℕ) → Space space → field_type c w ≡ true → Typed space c w
typed space c w s e =
    ⊎_elim (λ p. known (other (base_of (base_text w)) p) p)
    (λ p. let n = and_right (is_unsaid c) (is_nested (base_of (base_text w))) p in
    let h = and_left (is_dotted (base_text w)) (not (has_dot (base_text w)) || leb (length (base_text w)) name_max) (nested-name (base_text w) n) in
    let f = full-name space (base_text w) s h in
    nests n (and_left (is_unsaid c) (is_nested (base_of (base_text w))) p) f.0 f.1)
    (or-true _ _ (and_right (size_fits (size_text w)) (is_primitive (base_of (base_text w)) || (is_unsaid c && is_nested (base_of (base_text w)))) e)) where
      other : (b : Base) → is_primitive b ≡ true → is_nested b ≡ false
      other Boolean p = refl
      other (Signed n) p = refl
      other (Unsigned n) p = refl
      other (Floating n) p = refl
      other (Void n) p = refl
      other Nested p = no p
      other Unknown p = refl

-- a primitive base is a name
pub known-name : (l : List ℕ) → is_primitive (base_of l) ≡ true → Each Naming l
known-name l p = known-naming l (rw p)

pub void-name : (l : List ℕ) → is_void (base_of l) ≡ true → Each Naming l
void-name l p = known-naming l (last (is_primitive (base_of l)) p) where
  last : (b : Bool) → is_void (base_of l) ≡ true → (b || is_void (base_of l)) ≡ true
  last true q = refl
  last false q = q

pub name-naming : (x : List ℕ) → is_name x ≡ true → Each Naming x
name-naming x e = each Naming x (and_right (is_in Letter (first x)) (all Naming x) e)

-- ── rows ──

abbrev row_of : List ℕ → Line → List (List ℕ)
row_of space nothing = []
row_of space marker = chars "---" ∷ []
row_of space union = chars "@union" ∷ []
row_of space (padding w) = w ∷ []
row_of space (field c w x) = (type_form space c w ++ (32 ∷ x)) ∷ []
row_of space (constant x) = []
row_of space wrong = []

abbrev pub rows : List ℕ → List Line → List (List ℕ)
rows space [] = []
rows space (l ∷ ls) = row_of space l ++ rows space ls

-- each after a line feed
abbrev pub joined : List (List ℕ) → List ℕ
joined [] = []
joined (r ∷ rs) = 10 ∷ (r ++ joined rs)

pub form-rows : (space : List ℕ) (ls : List Line) → lines_form space ls ≡ joined (rows space ls)
unfolding lines_form line_form
form-rows space [] = refl
form-rows space (nothing ∷ ls) = form-rows space ls
form-rows space (marker ∷ ls) = ap (λ (t : List ℕ). 10 ∷ (chars "---" ++ t)) (form-rows space ls)
form-rows space (union ∷ ls) = ap (λ (t : List ℕ). 10 ∷ (chars "@union" ++ t)) (form-rows space ls)
form-rows space (padding w ∷ ls) = ap (λ (t : List ℕ). 10 ∷ (w ++ t)) (form-rows space ls)
form-rows space (field c w x ∷ ls) = ap (λ (t : List ℕ). 10 ∷ ((type_form space c w ++ (32 ∷ x)) ++ t)) (form-rows space ls)
form-rows space (constant x ∷ ls) = form-rows space ls
form-rows space (wrong ∷ ls) = form-rows space ls

-- ── no row has a line's end ──

abbrev pub Inlines : List (List ℕ) → Type 0
Inlines [] = Unit
Inlines (r ∷ rs) = Each Inline r × Inlines rs

solid-inline : (l : List ℕ) → Solid l → Each Inline l
solid-inline l p = solid-each Inline inline l p

pub cast-inline : (c : Cast) → Each Inline (cast_form c)
unfolding is_in
cast-inline Unsaid = (refl, (refl, (refl, (refl, (refl, (refl, (refl, (refl, (refl, (refl, tt))))))))))
cast-inline Saturated = (refl, (refl, (refl, (refl, (refl, (refl, (refl, (refl, (refl, (refl, tt))))))))))
cast-inline Truncated = (refl, (refl, (refl, (refl, (refl, (refl, (refl, (refl, (refl, (refl, tt))))))))))

type-inline : (space : List ℕ) (c : Cast) (w : List ℕ) → Typed space c w → Each Inline (type_form space c w)
type-inline space c w (nests n u d h) =
    rw n (each_append Inline (full_name space (base_text w)) (size_form (size_text w))
    (solid-inline (full_name space (base_text w)) (dotted-solid true (full_name space (base_text w)) d))
    (solid-inline (size_form (size_text w)) (size-solid (size_text w))))
type-inline space c w (known n p) =
    rw n (each_append Inline (cast_form c ++ base_text w) (size_form (size_text w))
    (each_append Inline (cast_form c) (base_text w) (cast-inline c) (solid-inline (base_text w) (naming-solid (base_text w) (known-name (base_text w) p))))
    (solid-inline (size_form (size_text w)) (size-solid (size_text w))))

pub rows-inline : (space : List ℕ) (ls : List Line) → Space space → AllRead ls → Inlines (rows space ls)
unfolding is_in
rows-inline space [] s p = tt
rows-inline space (nothing ∷ ls) s p = rows-inline space ls s p.1
rows-inline space (marker ∷ ls) s p = ((refl, (refl, (refl, tt))), rows-inline space ls s p.1)
rows-inline space (union ∷ ls) s p = ((refl, (refl, (refl, (refl, (refl, (refl, tt)))))), rows-inline space ls s p.1)
rows-inline space (padding w ∷ ls) s p = (solid-inline w (naming-solid w (void-name w p.0)), rows-inline space ls s p.1)
rows-inline space (field c w x ∷ ls) s p = (
  each_append Inline (type_form space c w) (32 ∷ x) (type-inline space c w (typed space c w s p.0.0))
      (refl, solid-inline x (naming-solid x (name-naming x p.0.1))),
  rows-inline space ls s p.1,
)
rows-inline space (constant x ∷ ls) s p = rows-inline space ls s p.1
rows-inline space (wrong ∷ ls) s p = rows-inline space ls s p.1

-- ── the lines of a form ──

-- a line is cut off behind characters that end none
not-return : (c : ℕ) → is_in Inline c ≡ true → eqb c 13 ≡ false
unfolding is_in
not-return c e = go (eqb c 10) (eqb c 13) e where
  go : (a b : Bool) → not (a || b) ≡ true → b ≡ false
  go true b q = no q
  go false true q = no q
  go false false q = refl

pub front : (r t l : List ℕ) (ls : List (List ℕ)) → Each Inline r → lines t ≡ l ∷ ls → lines (r ++ t) ≡ (r ++ l) ∷ ls
unfolding lines_after
front [] t l ls p e = e
front (c ∷ cs) t l ls p e = rw (p.0, not-return c p.0, front cs t l ls p.1 e)

pub joined-lines : (rs : List (List ℕ)) → Inlines rs → lines (joined rs) ≡ [] ∷ rs
unfolding lines_after is_in
joined-lines [] p = refl
joined-lines (r ∷ rs) p = rw (front r (joined rs) [] rs p.0 (joined-lines rs p.1), append-nil r)

pub name-inline : (name : List ℕ) → is_full_name name ≡ true → Each Inline name
name-inline name e = solid-inline name (dotted-solid true name (is-dotted name e))

pub form-lines : (name text : List ℕ) → is_full_name name ≡ true → lines (form_of name text) ≡ name ∷ rows (space_of name) (lines_of text)
form-lines name text e =
    let r = rows (space_of name) (lines_of text) in
    ap (λ (t : List ℕ). lines (name ++ t)) (form-rows (space_of name) (lines_of text))
    ∙ (front name (joined r) [] r (name-inline name e)
    (joined-lines r (rows-inline (space_of name) (lines_of text) (space-of name e) (lines-read (lines text))))
    ∙ ap (λ (x : List ℕ). x ∷ r) (append-nil name))

-- ── the nested types of a form ──

-- the base of a row's first word, if it has a dot
abbrev nested_row : List ℕ → List (List ℕ)
nested_row r = cond (has_dot (base_text (word r))) (base_text (word r) ∷ []) []

abbrev pub nested_rows : List (List ℕ) → List (List ℕ)
nested_rows [] = []
nested_rows (r ∷ rs) = nested_row r ++ nested_rows rs

-- a base with its size behind it
pub base-of : (b s : List ℕ) → Each Unbracketed b → base_text (b ++ size_form s) ≡ b
base-of b s p = taken Unbracketed b (size_form s) p (size-begins s)

pub size_of : (b s : List ℕ) → Each Unbracketed b → size_text (b ++ size_form s) ≡ size_form s
size_of b s p = dropped Unbracketed b (size_form s) p (size-begins s)

-- a word before a blank
module _ (w x : List ℕ) (p : Solid w) where
  stop : run Visible (32 ∷ x) ≡ 0
  unfolding run is_in
  stop = refl

  pub first_word : word (w ++ (32 ∷ x)) ≡ w
  first_word = taken Visible w (32 ∷ x) (solid-each Visible visible w p) stop

  pub after-word : past (w ++ (32 ∷ x)) ≡ 32 ∷ x
  after-word = dropped Visible w (32 ∷ x) (solid-each Visible visible w p) stop

no_row : (r b : List ℕ) → base_text (word r) ≡ b → has_dot b ≡ false → [] ≡ nested_row r
no_row r b e h = rw (e, h)

one-row : (r b : List ℕ) → base_text (word r) ≡ b → has_dot b ≡ true → b ∷ [] ≡ nested_row r
one-row r b e h = rw (e, h)

undotted : (l : List ℕ) → Each Naming l → has_dot l ≡ false
undotted l p = ap not (each_all Undotted l (naming-undotted l p))

padding-row : (w : List ℕ) → Each Naming w → [] ≡ nested_row w
unfolding run
padding-row w p =
    let v = solid-each Visible visible w (naming-solid w p) in
    let e : word w ≡ w = ap word (sym (append-nil w)) ∙ taken Visible w [] v refl in
    let b : base_text w ≡ w = ap base_text (sym (append-nil w)) ∙ taken Unbracketed w [] (naming-unbracketed w p) refl in
    no_row w w (ap base_text e ∙ b) (undotted w p)

cast-row : (c : Cast) (b x : List ℕ) → [] ≡ nested_row ((cast_form c ++ b) ++ x)
unfolding run is_in
cast-row Unsaid b x = refl
cast-row Saturated b x = refl
cast-row Truncated b x = refl

field_row : (space : List ℕ) (c : Cast) (w x : List ℕ) → Typed space c w → nested_in space (field c w x) ≡ nested_row (type_form space c w ++ (32 ∷ x))
field_row space c w x (nests n u d h) =
    let f = full_name space (base_text w) in
    let z = size_form (size_text w) in
    let v = solid-append f z (dotted-solid true f d) (size-solid (size_text w)) in
    rw n (one-row ((f ++ z) ++ (32 ∷ x)) f (ap base_text (first_word (f ++ z) x v) ∙ base-of f (size_text w) (dotted-unbracketed true f d)) h)
field_row space c w x (known n p) =
    rw (n, append_assoc (cast_form c ++ base_text w) (size_form (size_text w)) (32 ∷ x)) (cast-row c (base_text w) (size_form (size_text w) ++ (32 ∷ x)))

pub nested-rows : (space : List ℕ) (ls : List Line) → Space space → AllRead ls → nested_types space ls ≡ nested_rows (rows space ls)
unfolding nested_types run is_in
nested-rows space [] s p = refl
nested-rows space (nothing ∷ ls) s p = nested-rows space ls s p.1
nested-rows space (marker ∷ ls) s p = nested-rows space ls s p.1
nested-rows space (union ∷ ls) s p = nested-rows space ls s p.1
nested-rows space (padding w ∷ ls) s p = rw (← padding-row w (void-name w p.0)) (nested-rows space ls s p.1)
nested-rows space (field c w x ∷ ls) s p =
    ap (λ (r : List (List ℕ)). r ++ nested_types space ls) (field_row space c w x (typed space c w s p.0.0))
    ∙ ap (λ (r : List (List ℕ)). nested_row (type_form space c w ++ (32 ∷ x)) ++ r) (nested-rows space ls s p.1)
nested-rows space (constant x ∷ ls) s p = nested-rows space ls s p.1
nested-rows space (wrong ∷ ls) s p = nested-rows space ls s p.1

-- The form of a form is itself.
use mathlib.Core.Path.{◌≡◌, refl, ap, ◌∙◌}
use mathlib.Core.Bool.{Bool, true, false, not, cond, ◌&&◌, ◌||◌}
use mathlib.Core.List.{List, [], ◌∷◌, ◌++◌, append-nil, map}
use mathlib.Core.Logic.{⊎_elim}
use Prim.Native.Nat.{ℕ, zero, suc}
use native.Mathlib.Omega.{arith}
use lib.Dec.{leb, ltb}
use borrow.Author.Tests.{ltb-false}
use lib.ListN.{length, drop}
use Rattle.dsdl_text.specs.declared.class.Class.TheVariants.{Inline}
use Rattle.dsdl_text.specs.Text.{same}
use Rattle.dsdl_text.specs.Class.{is_in, run}
use Rattle.dsdl_text.specs.Lines.{lines_after, lines}
use Rattle.dsdl_text.specs.Names.{is_dotted, has_dot, name_max, is_full_name, space_of, full_name}
use Rattle.dsdl_type.specs.Base.{base_text, size_text, base_of, is_primitive, is_nested}
use Rattle.dsdl_type.specs.Size.{size_fits}
use Rattle.dsdl_line.specs.declared.shape.Cast.{Cast}
use Rattle.dsdl_line.specs.Line.{Line, is_unsaid, field_type, shape_of, line_of}
use Rattle.dsdl_line.specs.Line.Line.{nothing, marker, union, padding, field, constant, wrong}
use Rattle.dsdl.specs.Definition.{lines_of, fault_in, verdict, is_service}
use Rattle.dsdl.specs.Definition.Verdict.{good, faulty}
use Rattle.dsdl.specs.Form.{line_form, lines_form, form_of, nested_types}
use Rattle.dsdl_given.specs.Given.{Definition, is_service_of, nested_of}
use Rattle.dsdl_nesting.specs.Nesting.{is_given, every_name, every_one, all_given}
use Rattle.dsdl_laws.specs.Laws.{is_named, after_first, are_short}
use Rattle.dsdl_laws.proofs.Characters.{no, and_left, and_right, or-true, dropped, same-equal}
use Rattle.dsdl_laws.proofs.Dots.{Space, space-of}
use Rattle.dsdl_laws.proofs.Rows.{AllRead, lines-read, typed, rows, joined, form-rows, Inlines, rows-inline, front, joined-lines, name-inline}
use Rattle.dsdl_laws.proofs.Spaces.{empty}
use Rattle.dsdl_laws.proofs.Faults.{Milder, no-fault}
use Rattle.dsdl_laws.proofs.Faults.Milder.{end, on-marker, on-union, on-padding, on-field, on-wrong, no_line, no-constant, a-line}
use Rattle.dsdl_laws.proofs.Again.{padding-line, cast_again, type_again, field-line, field-form}

-- ── the lines of a form, as a text ──

abbrev again_of : List ℕ → Line → List Line
again_of space nothing = []
again_of space marker = marker ∷ []
again_of space union = union ∷ []
again_of space (padding w) = padding w ∷ []
again_of space (field c w x) = field (cast_again c w) (type_again space w) x ∷ []
again_of space (constant x) = []
again_of space wrong = []

abbrev again : List ℕ → List Line → List Line
again space [] = []
again space (l ∷ ls) = again_of space l ++ again space ls

-- a text has a line at least
abbrev or_nothing : List Line → List Line
or_nothing [] = nothing ∷ []
or_nothing (l ∷ ls) = l ∷ ls

-- ── line by line ──

abbrev is_short : List ℕ → Bool
is_short x = leb (length x) name_max

abbrev Short : List ℕ → List Line → Type 0
Short space ls = every_name is_short (nested_types space ls) ≡ true

short-first : (b : Bool) (f : List ℕ) (xs : List (List ℕ)) → every_name is_short (cond b (f ∷ []) [] ++ xs) ≡ true → b ≡ true → is_short f ≡ true
unfolding every_name
short-first true f xs e q = and_left (is_short f) (every_name is_short xs) e
short-first false f xs e q = no q

short-rest : (b : Bool) (f : List ℕ) (xs : List (List ℕ)) → every_name is_short (cond b (f ∷ []) [] ++ xs) ≡ true → every_name is_short xs ≡ true
unfolding every_name
short-rest true f xs e = and_right (is_short f) (every_name is_short xs) e
short-rest false f xs e = e

size-right : (c : Cast) (w : List ℕ) → field_type c w ≡ true → size_fits (size_text w) ≡ true
size-right c w e = and_left (size_fits (size_text w)) (is_primitive (base_of (base_text w)) || (is_unsaid c && is_nested (base_of (base_text w)))) e

module _ (space : List ℕ) (s : Space space) where
  rows-again : (ls : List Line) → AllRead ls → Short space ls → map line_of (rows space ls) ≡ again space ls
  unfolding nested_types shape_of run is_in same
  rows-again [] p q = refl
  rows-again (nothing ∷ ls) p q = rows-again ls p.1 q
  rows-again (marker ∷ ls) p q = ap (λ (k : List Line). marker ∷ k) (rows-again ls p.1 q)
  rows-again (union ∷ ls) p q = ap (λ (k : List Line). union ∷ k) (rows-again ls p.1 q)
  rows-again (padding w ∷ ls) p q =
      ap (λ (l : Line). l ∷ map line_of (rows space ls)) (padding-line w p.0) ∙ ap (λ (k : List Line). padding w ∷ k) (rows-again ls p.1 q)
  rows-again (field c w x ∷ ls) p q =
      let n = is_nested (base_of (base_text w)) in
      let f = full_name space (base_text w) in
      let l = field-line space c w x p.0.1 (size-right c w p.0.0) (short-first n f (nested_types space ls) q) (typed space c w s p.0.0) in
      ap (λ (k : Line). k ∷ map line_of (rows space ls)) l
      ∙ ap (λ (k : List Line). field (cast_again c w) (type_again space w) x ∷ k) (rows-again ls p.1 (short-rest n f (nested_types space ls) q))
  rows-again (constant x ∷ ls) p q = rows-again ls p.1 q
  rows-again (wrong ∷ ls) p q = rows-again ls p.1 q

  form-again : (ls : List Line) → AllRead ls → Short space ls → lines_form space (again space ls) ≡ lines_form space ls
  unfolding nested_types lines_form line_form
  form-again [] p q = refl
  form-again (nothing ∷ ls) p q = form-again ls p.1 q
  form-again (marker ∷ ls) p q = ap (λ (k : List ℕ). line_form space marker ++ k) (form-again ls p.1 q)
  form-again (union ∷ ls) p q = ap (λ (k : List ℕ). line_form space union ++ k) (form-again ls p.1 q)
  form-again (padding w ∷ ls) p q = ap (λ (k : List ℕ). line_form space (padding w) ++ k) (form-again ls p.1 q)
  form-again (field c w x ∷ ls) p q =
      let n = is_nested (base_of (base_text w)) in
      let f = full_name space (base_text w) in
      let t = field-form space c w x p.0.1 (size-right c w p.0.0) (short-first n f (nested_types space ls) q) (typed space c w s p.0.0) in
      ap (λ (k : List ℕ). (10 ∷ (k ++ (32 ∷ x))) ++ lines_form space (again space ls)) t
      ∙ ap (λ (k : List ℕ). line_form space (field c w x) ++ k) (form-again ls p.1 (short-rest n f (nested_types space ls) q))
  form-again (constant x ∷ ls) p q = form-again ls p.1 q
  form-again (wrong ∷ ls) p q = form-again ls p.1 q

milder-again : (space : List ℕ) (ls : List Line) → Milder ls (again space ls)
milder-again space [] = end
milder-again space (nothing ∷ ls) = no_line (milder-again space ls)
milder-again space (marker ∷ ls) = on-marker (milder-again space ls)
milder-again space (union ∷ ls) = on-union (milder-again space ls)
milder-again space (padding w ∷ ls) = on-padding (milder-again space ls)
milder-again space (field c w x ∷ ls) = on-field (milder-again space ls)
milder-again space (constant x ∷ ls) = no-constant (milder-again space ls)
milder-again space (wrong ∷ ls) = on-wrong

service-again : (space : List ℕ) (ls : List Line) → is_service (again space ls) ≡ is_service ls
unfolding is_service
service-again space [] = refl
service-again space (nothing ∷ ls) = service-again space ls
service-again space (marker ∷ ls) = refl
service-again space (union ∷ ls) = service-again space ls
service-again space (padding w ∷ ls) = service-again space ls
service-again space (field c w x ∷ ls) = service-again space ls
service-again space (constant x ∷ ls) = service-again space ls
service-again space (wrong ∷ ls) = service-again space ls

-- ── with nothing for an empty text ──

or-milder : (ls ms : List Line) → Milder ls ms → Milder ls (or_nothing ms)
or-milder ls [] k = a-line k
or-milder ls (m ∷ ms) k = k

or-form : (space : List ℕ) (ls : List Line) → lines_form space (or_nothing ls) ≡ lines_form space ls
unfolding lines_form line_form
or-form space [] = refl
or-form space (l ∷ ls) = refl

or-service : (ls : List Line) → is_service (or_nothing ls) ≡ is_service ls
unfolding is_service
or-service [] = refl
or-service (l ∷ ls) = refl

-- ── the text after a form's first line ──

text-lines : (rs : List (List ℕ)) → Inlines rs → map line_of (lines (drop 1 (joined rs))) ≡ or_nothing (map line_of rs)
unfolding lines_after
text-lines [] p = ap (λ (l : Line). l ∷ []) empty
text-lines (r ∷ rs) p = ap (map line_of) (front r (joined rs) [] rs p.0 (joined-lines rs p.1) ∙ ap (λ (l : List ℕ). l ∷ rs) (append-nil r))

drop-one-more : (n : ℕ) (l : List ℕ) → drop (suc n) l ≡ drop 1 (drop n l)
drop-one-more zero l = refl
drop-one-more (suc n) [] = refl
drop-one-more (suc n) (x ∷ l) = drop-one-more n l

joined-stop : (rs : List (List ℕ)) → run Inline (joined rs) ≡ 0
unfolding run is_in
joined-stop [] = refl
joined-stop (r ∷ rs) = refl

module _ (name text : List ℕ) (n : is_full_name name ≡ true) (q : are_short name text ≡ true) where
  abbrev space : List ℕ
  space = space_of name

  abbrev read : List Line
  read = lines_of text

  after-first : after_first (form_of name text) ≡ drop 1 (joined (rows space read))
  after-first =
      let j = joined (rows space read) in
      ap (λ (t : List ℕ). after_first (name ++ t)) (form-rows space read)
      ∙ (drop-one-more (run Inline (name ++ j)) (name ++ j)
      ∙ ap (drop 1) (dropped Inline name j (name-inline name n) (joined-stop (rows space read))))

  lines-again : lines_of (after_first (form_of name text)) ≡ or_nothing (again space read)
  lines-again =
      let p = lines-read (lines text) in
      ap lines_of after-first ∙ (text-lines (rows space read) (rows-inline space read (space-of name n) p)
      ∙ ap or_nothing (rows-again space (space-of name n) read p q))

  no-fault-again : fault_in text ≡ 0 → fault_in (after_first (form_of name text)) ≡ 0
  no-fault-again e = rw lines-again (no-fault (or-milder read (again space read) (milder-again space read)) e)

  same-form : form_of name (after_first (form_of name text)) ≡ form_of name text
  same-form =
      ap (λ (ls : List Line). name ++ lines_form space ls) lines-again
      ∙ ap (λ (t : List ℕ). name ++ t) (or-form space (again space read) ∙ form-again space (space-of name n) read (lines-read (lines text)) q)

  same-service : is_service (lines_of (after_first (form_of name text))) ≡ is_service (lines_of text)
  same-service = ap is_service lines-again ∙ (or-service (again space read) ∙ service-again space read)

-- ── in the grammar ──

is-good : (name text : List ℕ) → verdict name text ≡ good → (is_full_name name ≡ true) × (fault_in text ≡ 0)
unfolding verdict
is-good name text = go (is_full_name name) (ltb 0 (fault_in text)) refl refl where
  go : (a b : Bool) → is_full_name name ≡ a → ltb 0 (fault_in text) ≡ b → cond a (cond b (faulty (fault_in text)) good) (faulty 0) ≡ good
      → (is_full_name name ≡ true) × (fault_in text ≡ 0)
  go true true p q e = let z : ◌≡◌ {A = ℕ} 0 1 = cc in absurd (omega arith)
  go true false p q e = let z = ltb-false 0 (fault_in text) q in (p, omega arith)
  go false b p q e = let z : ◌≡◌ {A = ℕ} 0 1 = cc in absurd (omega arith)

good-if : (name text : List ℕ) → is_full_name name ≡ true → fault_in text ≡ 0 → verdict name text ≡ good
unfolding verdict
good-if name text n e = rw (n, e)

module _ (name text : List ℕ) (g : verdict name text ≡ good) (s : are_short name text ≡ true) where
  pub grammar : verdict name (after_first (form_of name text)) ≡ good
  grammar = let i = is-good name text g in good-if name (after_first (form_of name text)) i.0 (no-fault-again name text i.0 s i.1)

  pub form : form_of name (after_first (form_of name text)) ≡ form_of name text
  form = same-form name text (is-good name text g).0 s

  pub service : is_service (lines_of (after_first (form_of name text))) ≡ is_service (lines_of text)
  service = same-service name text (is-good name text g).0 s

-- ── names of types that are given ──

-- they are names of definitions
given-short : (ds : List Definition) → every_one is_named ds ≡ true → (x : List ℕ) → is_given ds x ≡ true → is_short x ≡ true
unfolding every_one is_given
given-short [] n x g = no g
given-short (d ∷ ds) n x g =
    ⊎_elim (λ p. ap is_short (same-equal x d.name (and_left (same x d.name) (not (is_service_of d)) p)) ∙ named)
    (given-short ds (and_right (is_named d) (every_one is_named ds) n) x) (or-true (same x d.name && not (is_service_of d)) (is_given ds x) g) where
      named : is_short d.name ≡ true
      named =
          and_right (has_dot d.name) (is_short d.name)
          (and_right (is_dotted d.name) (has_dot d.name && is_short d.name) (and_left (is_named d) (every_one is_named ds) n))

every-name : (f g : List ℕ → Bool) → ((x : List ℕ) → f x ≡ true → g x ≡ true) → (xs : List (List ℕ)) → every_name f xs ≡ true → every_name g xs ≡ true
unfolding every_name
every-name f g h [] e = refl
every-name f g h (x ∷ xs) e = rw (h x (and_left (f x) (every_name f xs) e)) (every-name f g h xs (and_right (f x) (every_name f xs) e))

every-one : (f g : Definition → Bool) → ((d : Definition) → f d ≡ true → g d ≡ true) → (ds : List Definition) → every_one f ds ≡ true
    → every_one g ds ≡ true
unfolding every_one
every-one f g h [] e = refl
every-one f g h (d ∷ ds) e = rw (h d (and_left (f d) (every_one f ds) e)) (every-one f g h ds (and_right (f d) (every_one f ds) e))

pub short : (ds : List Definition) → every_one is_named ds ≡ true → all_given ds ≡ true
    → every_one (λ (d : Definition). are_short d.name d.text) ds ≡ true
short ds n g =
    every-one (λ (d : Definition). every_name (is_given ds) (nested_of d)) (λ (d : Definition). are_short d.name d.text)
    (λ d e. every-name (is_given ds) is_short (given-short ds n) (nested_of d) e) ds g

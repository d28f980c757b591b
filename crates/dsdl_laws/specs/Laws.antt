-- RULES 17.13: what holds of normalized forms and signatures.
use Rattle.std.specs.Prelude.{◌≡◌, Bool, true, false, not, cond, ◌&&◌, List, [], ◌∷◌, ◌++◌, map, ℕ, suc, leb, eqb, length, drop}
use Rattle.dsdl_text.specs.Text.{first}
use Rattle.dsdl_text.specs.declared.class.Class.TheVariants.{Inline, Blank}
use Rattle.dsdl_text.specs.Class.{run, all, many}
use Rattle.dsdl_text.specs.Lines.{lines}
use Rattle.dsdl_text.specs.Names.{name_max, is_full_name, space_of}
use Rattle.dsdl_line.specs.Line.{Line, line_of}
use Rattle.dsdl_line.specs.Line.Line.{nothing, marker, union, padding, field, constant, wrong}
use Rattle.dsdl.specs.Definition.{is_among, lines_of, fault_in, verdict, is_service}
use Rattle.dsdl.specs.Definition.Verdict.{good}
use Rattle.dsdl.specs.Form.{form_of, nested_types}
use Rattle.dsdl_given.specs.Given.{Definition, form, nested_of}
use Rattle.dsdl_nesting.specs.Nesting.{every_name, every_one, all_given, find, chain_max, within}
use Rattle.dsdl_nesting.specs.Signature.{signature}

-- ── equal forms have equal signatures ──

abbrev pub is_named : Definition → Bool
is_named d = is_full_name d.name

pub record EqualForms : Type 0 where
  -- a form tells the name and the nested types
  pub name : (d e : Definition) → is_named d ≡ true → is_named e ≡ true → form d ≡ form e → d.name ≡ e.name
  pub nested : (d e : Definition) → is_named d ≡ true → is_named e ≡ true → form d ≡ form e → nested_of d ≡ nested_of e
  -- a definition of ds and one of es, where the nested types have equal signatures
  pub one : (ds es : List Definition) (d e : Definition) → is_named d ≡ true → is_named e ≡ true → form d ≡ form e
      → within chain_max ds d ≡ true → within chain_max es e ≡ true
      → ((x : List ℕ) → is_among x (nested_of d) ≡ true → signature ds (find ds x) ≡ signature es (find es x))
      → signature ds d ≡ signature es e
  -- all definitions of two calls
  pub all : (ds es : List Definition) → every_one is_named ds ≡ true → every_one is_named es ≡ true → map form ds ≡ map form es
      → map (signature ds) ds ≡ map (signature es) es

-- ── white space and comments do not matter ──

-- no quote is in it
unfoldable pub is_unquoted : List ℕ → Bool
is_unquoted [] = true
is_unquoted (c ∷ cs) = not (eqb c 39) && is_unquoted cs

abbrev pub is_nothing : Line → Bool
is_nothing nothing = true
is_nothing marker = false
is_nothing union = false
is_nothing (padding w) = false
is_nothing (field c w x) = false
is_nothing (constant x) = false
is_nothing wrong = false

-- the lines that have a word
unfoldable pub with_words : List Line → List Line
with_words [] = []
with_words (l ∷ ls) = cond (is_nothing l) (with_words ls) (l ∷ with_words ls)

pub record WhiteSpace : Type 0 where
  -- a line: blanks at both ends, others where there are some (a character between quotes may be one), and a comment behind it
  pub front : (g l : List ℕ) → all Blank g ≡ true → line_of (g ++ l) ≡ line_of l
  pub back : (l g : List ℕ) → all Blank g ≡ true → line_of (l ++ g) ≡ line_of l
  pub between : (a g h b : List ℕ) → is_unquoted a ≡ true → many Blank g ≡ true → many Blank h ≡ true → line_of (a ++ (g ++ b)) ≡ line_of (a ++ (h ++ b))
  pub comment : (l cs : List ℕ) → line_of (l ++ (35 ∷ cs)) ≡ line_of l
  pub empty : line_of [] ≡ nothing
  -- the three kinds of line end, and the last line
  pub feed : (l t : List ℕ) → all Inline l ≡ true → lines (l ++ (10 ∷ t)) ≡ l ∷ lines t
  pub return : (l t : List ℕ) → all Inline l ≡ true → eqb (first t) 10 ≡ false → lines (l ++ (13 ∷ t)) ≡ l ∷ lines t
  pub return_feed : (l t : List ℕ) → all Inline l ≡ true → lines (l ++ (13 ∷ (10 ∷ t))) ≡ l ∷ lines t
  pub last : (l : List ℕ) → all Inline l ≡ true → lines l ≡ l ∷ []
  -- two texts with the same lines, those left out that have no word
  pub grammar : (t u : List ℕ) → with_words (lines_of t) ≡ with_words (lines_of u) → eqb (fault_in t) 0 ≡ eqb (fault_in u) 0
  pub service : (t u : List ℕ) → with_words (lines_of t) ≡ with_words (lines_of u) → is_service (lines_of t) ≡ is_service (lines_of u)
  pub form : (t u : List ℕ) → with_words (lines_of t) ≡ with_words (lines_of u) → (name : List ℕ) → form_of name t ≡ form_of name u
  pub nested : (t u : List ℕ) → with_words (lines_of t) ≡ with_words (lines_of u) → (space : List ℕ)
      → nested_types space (lines_of t) ≡ nested_types space (lines_of u)

-- ── the form of a form is itself ──

-- the lines of a form after its first, as a text; line feeds end them
abbrev pub after_first : List ℕ → List ℕ
after_first t = drop (suc (run Inline t)) t

-- no nested type's full name is too long
abbrev pub are_short : List ℕ → List ℕ → Bool
are_short name text = every_name (λ (x : List ℕ). leb (length x) name_max) (nested_types (space_of name) (lines_of text))

pub record FormOfForm : Type 0 where
  pub grammar : (name text : List ℕ) → verdict name text ≡ good → are_short name text ≡ true
      → verdict name (after_first (form_of name text)) ≡ good
  pub form : (name text : List ℕ) → verdict name text ≡ good → are_short name text ≡ true
      → form_of name (after_first (form_of name text)) ≡ form_of name text
  pub service : (name text : List ℕ) → verdict name text ≡ good → are_short name text ≡ true
      → is_service (lines_of (after_first (form_of name text))) ≡ is_service (lines_of text)
  -- where 41 does not answer, none is too long
  pub short : (ds : List Definition) → every_one is_named ds ≡ true → all_given ds ≡ true
      → every_one (λ (d : Definition). are_short d.name d.text) ds ≡ true

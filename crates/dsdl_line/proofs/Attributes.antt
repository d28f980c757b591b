-- A line's attribute, by the places of its words.
use mathlib.Core.Path.{◌≡◌, sym, ap, ◌∙◌}
use mathlib.Core.Bool.{Bool, true, false, cond, ◌&&◌}
use mathlib.Core.List.{List}
use Prim.Native.Nat.{ℕ, ◌-◌}
use native.Mathlib.Omega.{arith}
use lib.ListN.{take}
use Rattle.dsdl_text.specs.declared.word.Word.{Word}
use Rattle.dsdl_text.specs.Text.{chars, same}
use Rattle.dsdl_text.specs.declared.class.Class.TheVariants.{Bare}
use Rattle.dsdl_text.specs.Class.{run}
use Rattle.dsdl_text.specs.Words.{bare, skip, word, past, ended}
use Rattle.dsdl_text.specs.Names.{is_name}
use Rattle.dsdl_text.specs.inside.Words.{part, word_in}
use Rattle.dsdl_text.proofs.Words.{the_word, the_rest}
use Rattle.dsdl_line.specs.declared.shape.Cast.{Cast}
use Rattle.dsdl_line.specs.Line.{Shape, field_type, constant_type, attribute_with, attribute, cast_attribute, shape_with}
use Rattle.dsdl_line.specs.Line.Shape.{field, constant, wrong}
use Rattle.dsdl_line.specs.inside.Places.{word_of, constant_with}

-- a word by its places, and what comes behind it
module _ (l : List ℕ) (from stop : ℕ) (x : Word) (e : x ≡ word_in l from stop) where
  pub word_at : word (skip (part l from stop)) ≡ word_of l x
  word_at = the_word l from stop ∙ ap (word_of l) (sym e)

  pub behind : past (skip (part l from stop)) ≡ part l x.end stop
  behind = the_rest l from stop ∙ ap (λ (w : Word). part l w.end stop) (sym e)

module _ (l : List ℕ) (c : Cast) (w x : Word) (stop : ℕ) (e : x ≡ word_in l w.end stop) where
  by-places : attribute_with c (word_of l w) (word_of l x) (part l x.end stop) ≡ attribute c (word_of l w) (part l w.end stop)
  by-places =
      ap (λ (n : List ℕ). attribute_with c (word_of l w) n (part l x.end stop)) (sym (word_at l w.end stop x e))
      ∙ ap (λ (r : List ℕ). attribute_with c (word_of l w) (word (skip (part l w.end stop))) r) (sym (behind l w.end stop x e))

  pub unnamed : is_name (word_of l x) ≡ false → wrong ≡ attribute c (word_of l w) (part l w.end stop)
  unnamed n = named ∙ by-places where
    named : wrong ≡ attribute_with c (word_of l w) (word_of l x) (part l x.end stop)
    named = rw n

  module _ (n : is_name (word_of l x) ≡ true) where
    pub goes_on : (y : Word) (m : Shape) → ended (part l x.end stop) ≡ false → y ≡ word_in l x.end stop → m ≡ constant_with l w x y stop
        → m ≡ attribute c (word_of l w) (part l w.end stop)
    goes_on y m d f q = read ∙ by-places where
      equals : (constant_type (word_of l w) && same (word_of l y) (chars "=")) ≡ (constant_type (word_of l w) && same (word (skip (part l x.end stop))) (chars "="))
      equals = ap (λ (v : List ℕ). constant_type (word_of l w) && same v (chars "=")) (sym (word_at l x.end stop y f))

      value : part l y.end stop ≡ past (skip (part l x.end stop))
      value = sym (behind l x.end stop y f)

      read : m ≡ attribute_with c (word_of l w) (word_of l x) (part l x.end stop)
      read =
          rw (n, d) (q ∙ (ap (λ (b : Bool). cond b (constant (word_of l w) (word_of l x) (part l y.end stop)) wrong) equals
          ∙ ap (λ (v : List ℕ). cond (constant_type (word_of l w) && same (word (skip (part l x.end stop))) (chars "=")) (constant (word_of l w) (word_of l x) v) wrong) value))

    module _ (d : ended (part l x.end stop) ≡ true) where
      pub fits : field_type c (word_of l w) ≡ true → field c (word_of l w) (word_of l x) ≡ attribute c (word_of l w) (part l w.end stop)
      fits t = read ∙ by-places where
        read : field c (word_of l w) (word_of l x) ≡ attribute_with c (word_of l w) (word_of l x) (part l x.end stop)
        read = rw (n, d, t)

      pub misfits : field_type c (word_of l w) ≡ false → wrong ≡ attribute c (word_of l w) (part l w.end stop)
      misfits t = read ∙ by-places where
        read : wrong ≡ attribute_with c (word_of l w) (word_of l x) (part l x.end stop)
        read = rw (n, d, t)

-- behind a cast mode
pub cast-read : (l : List ℕ) (from stop : ℕ) (w : Word) → w ≡ word_in l from stop → (c : Cast) (m : Shape)
    → m ≡ attribute c (word_of l w) (part l w.end stop) → m ≡ cast_attribute c (part l from stop)
cast-read l from stop w e c m q =
    q ∙ (ap (λ (v : List ℕ). attribute c v (part l w.end stop)) (sym (word_at l from stop w e))
    ∙ ap (λ (v : List ℕ). attribute c (word (skip (part l from stop))) v) (sym (behind l from stop w e)))

-- ── the whole line ──

module _ (l : List ℕ) (stop : ℕ) (e : stop ≡ run Bare l) where
  pub bare-part : part l 0 stop ≡ bare l
  bare-part = let z : stop - 0 ≡ stop = omega arith in ap (λ (k : ℕ). take k l) (z ∙ e)

  pub shape-read : (w : Word) → w ≡ word_in l 0 stop → (m : Shape) → m ≡ shape_with (word_of l w) (part l w.end stop)
      → m ≡ shape_with (word (skip (bare l))) (past (skip (bare l)))
  shape-read w f m q =
      q ∙ (ap (λ (v : List ℕ). shape_with v (part l w.end stop)) (sym (word_at l 0 stop w f) ∙ ap (λ (b : List ℕ). word (skip b)) bare-part)
      ∙ ap (λ (v : List ℕ). shape_with (word (skip (bare l))) v) (sym (behind l 0 stop w f) ∙ ap (λ (b : List ℕ). past (skip b)) bare-part))

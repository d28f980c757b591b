-- Lines without words, and the ends of lines.
use mathlib.Core.Path.{◌≡◌, refl, sym, ap, ◌∙◌}
use mathlib.Core.Bool.{Bool, true, false, ◌||◌}
use mathlib.Core.List.{List, [], ◌∷◌, ◌++◌, append-nil}
use Prim.Native.Nat.{ℕ}
use lib.Dec.{eqb}
use borrow.Author.Tests.{eqb-true, eq-eqb}
use Rattle.dsdl_text.specs.declared.class.Class.TheVariants.{Inline}
use Rattle.dsdl_text.specs.Text.{first}
use Rattle.dsdl_text.specs.Class.{is_in, all}
use Rattle.dsdl_text.specs.Lines.{lines_after, lines}
use Rattle.dsdl_text.specs.Names.{space_of}
use Rattle.dsdl_line.specs.Line.{Line}
use Rattle.dsdl_line.specs.Line.Line.{nothing, marker, union, padding, field, constant, wrong}
use Rattle.dsdl.specs.Definition.{is_marker, lines_of, fault_in, is_service}
use Rattle.dsdl.specs.Form.{line_form, lines_form, form_of, nested_in, nested_types}
use Rattle.dsdl_laws.specs.Laws.{with_words}
use Rattle.dsdl_laws.proofs.Characters.{each}
use Rattle.dsdl_laws.proofs.Rows.{front}
use Rattle.dsdl_laws.proofs.Faults.{Milder, no-fault}
use Rattle.dsdl_laws.proofs.Faults.Milder.{end, on-marker, on-union, on-padding, on-field, on-constant, on-wrong, no_line, a-line}

-- ── line ends ──

module _ (l t : List ℕ) (p : all Inline l ≡ true) where
  ends : (u : List ℕ) → lines u ≡ [] ∷ lines t → lines (l ++ u) ≡ l ∷ lines t
  ends u e = front l u [] (lines t) (each Inline l p) e ∙ ap (λ (k : List ℕ). k ∷ lines t) (append-nil l)

  pub feed : lines (l ++ (10 ∷ t)) ≡ l ∷ lines t
  unfolding lines_after is_in
  feed = ends (10 ∷ t) refl

  pub return : eqb (first t) 10 ≡ false → lines (l ++ (13 ∷ t)) ≡ l ∷ lines t
  unfolding lines_after is_in
  return e = ends (13 ∷ t) (ap (λ (ls : List (List ℕ)). [] ∷ ls) (go t e)) where
    go : (u : List ℕ) → eqb (first u) 10 ≡ false → lines_after true u ≡ lines u
    go [] q = refl
    go (c ∷ u) q = rw q

  pub return-feed : lines (l ++ (13 ∷ (10 ∷ t))) ≡ l ∷ lines t
  unfolding lines_after is_in
  return-feed = ends (13 ∷ (10 ∷ t)) refl

pub last : (l : List ℕ) → all Inline l ≡ true → lines l ≡ l ∷ []
unfolding lines_after
last l p = ap lines (sym (append-nil l)) ∙ (front l [] [] [] (each Inline l p) refl ∙ ap (λ (k : List ℕ). k ∷ []) (append-nil l))

-- ── lines without words ──

-- a function of lines that passes over them
passing : {A : Type 0} (f : List Line → A) → ((ls : List Line) → f (nothing ∷ ls) ≡ f ls)
    → ((l : Line) (ls ms : List Line) → f ls ≡ f ms → f (l ∷ ls) ≡ f (l ∷ ms)) → (ls : List Line) → f ls ≡ f (with_words ls)
unfolding with_words
passing f p k [] = refl
passing f p k (nothing ∷ ls) = p ls ∙ passing f p k ls
passing f p k (marker ∷ ls) = k marker ls (with_words ls) (passing f p k ls)
passing f p k (union ∷ ls) = k union ls (with_words ls) (passing f p k ls)
passing f p k (padding w ∷ ls) = k (padding w) ls (with_words ls) (passing f p k ls)
passing f p k (field c w x ∷ ls) = k (field c w x) ls (with_words ls) (passing f p k ls)
passing f p k (constant x ∷ ls) = k (constant x) ls (with_words ls) (passing f p k ls)
passing f p k (wrong ∷ ls) = k wrong ls (with_words ls) (passing f p k ls)

left_out : (ls : List Line) → Milder ls (with_words ls)
unfolding with_words
left_out [] = end
left_out (nothing ∷ ls) = no_line (left_out ls)
left_out (marker ∷ ls) = on-marker (left_out ls)
left_out (union ∷ ls) = on-union (left_out ls)
left_out (padding w ∷ ls) = on-padding (left_out ls)
left_out (field c w x ∷ ls) = on-field (left_out ls)
left_out (constant x ∷ ls) = on-constant (left_out ls)
left_out (wrong ∷ ls) = on-wrong

put_in : (ls : List Line) → Milder (with_words ls) ls
unfolding with_words
put_in [] = end
put_in (nothing ∷ ls) = a-line (put_in ls)
put_in (marker ∷ ls) = on-marker (put_in ls)
put_in (union ∷ ls) = on-union (put_in ls)
put_in (padding w ∷ ls) = on-padding (put_in ls)
put_in (field c w x ∷ ls) = on-field (put_in ls)
put_in (constant x ∷ ls) = on-constant (put_in ls)
put_in (wrong ∷ ls) = on-wrong

module _ (t u : List ℕ) (e : with_words (lines_of t) ≡ with_words (lines_of u)) where
  by-words : {A : Type 0} (f : List Line → A) → ((ls : List Line) → f (nothing ∷ ls) ≡ f ls)
      → ((l : Line) (ls ms : List Line) → f ls ≡ f ms → f (l ∷ ls) ≡ f (l ∷ ms)) → f (lines_of t) ≡ f (lines_of u)
  by-words f p k = passing f p k (lines_of t) ∙ (ap f e ∙ sym (passing f p k (lines_of u)))

  pub service : is_service (lines_of t) ≡ is_service (lines_of u)
  unfolding is_service
  service = by-words is_service (λ ls. refl) (λ l ls ms q. ap (λ (b : Bool). is_marker l || b) q)

  pub form : (name : List ℕ) → form_of name t ≡ form_of name u
  unfolding lines_form line_form
  form name =
      ap (λ (k : List ℕ). name ++ k)
      (by-words (lines_form (space_of name)) (λ ls. refl) (λ l ls ms q. ap (λ (k : List ℕ). line_form (space_of name) l ++ k) q))

  pub nested : (space : List ℕ) → nested_types space (lines_of t) ≡ nested_types space (lines_of u)
  unfolding nested_types
  nested space = by-words (nested_types space) (λ ls. refl) (λ l ls ms q. ap (λ (k : List (List ℕ)). nested_in space l ++ k) q)

in-grammar : (t u : List ℕ) → with_words (lines_of t) ≡ with_words (lines_of u) → fault_in t ≡ 0 → fault_in u ≡ 0
in-grammar t u e f =
    let z = no-fault (left_out (lines_of t)) f in
    no-fault (put_in (lines_of u)) (rw (← e) z)

pub grammar : (t u : List ℕ) → with_words (lines_of t) ≡ with_words (lines_of u) → eqb (fault_in t) 0 ≡ eqb (fault_in u) 0
grammar t u e = go (eqb (fault_in t) 0) (eqb (fault_in u) 0) refl refl where
  go : (a b : Bool) → eqb (fault_in t) 0 ≡ a → eqb (fault_in u) 0 ≡ b → a ≡ b
  go true true p q = refl
  go true false p q = sym (eq-eqb (fault_in u) 0 (in-grammar t u e (eqb-true (fault_in t) 0 p))) ∙ q
  go false true p q = sym p ∙ eq-eqb (fault_in t) 0 (in-grammar u t (sym e) (eqb-true (fault_in u) 0 q))
  go false false p q = refl

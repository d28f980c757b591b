-- What a line adds to the form, by the places of its words; and line by line.
use mathlib.Core.Path.{◌≡◌, refl, sym, ap, ◌∙◌}
use mathlib.Core.Bool.{Bool, true, false, cond, ◌&&◌, ◌||◌}
use mathlib.Core.List.{List, [], ◌∷◌, ◌++◌, map, append-nil}
use Prim.Native.Nat.{ℕ, ◌-◌, ◌≤◌, ◌<◌}
use native.Mathlib.Omega.{arith}
use lib.ListN.{length, take, drop}
use Rattle.bits.specs.Part.{span}
use Rattle.dsdl_text.specs.declared.word.Word.{Word}
use Rattle.dsdl_text.specs.Text.{chars, same}
use Rattle.dsdl_text.specs.Words.{bare, skip, word, past, ended}
use Rattle.dsdl_text.specs.Lines.{lines}
use Rattle.dsdl_text.specs.Names.{is_name, last_dot, space_of}
use Rattle.dsdl_text.specs.inside.Lines.{end_of, after_end}
use Rattle.dsdl_text.proofs.Lines.{next-line, last_line}
use Rattle.dsdl_number.specs.Number.{initializer}
use Rattle.dsdl_number.proofs.Significands.{both}
use Rattle.dsdl_type.specs.Base.{base_text, size_text, base_of, is_primitive, is_nested, is_void}
use Rattle.dsdl_type.specs.Size.{size_fits}
use Rattle.dsdl_type.specs.Constant.{fits}
use Rattle.dsdl_line.specs.declared.shape.Cast.{Cast}
use Rattle.dsdl_line.specs.declared.shape.Cast.TheVariants.{Unsaid, Saturated, Truncated}
use Rattle.dsdl_line.specs.declared.shape.Places.{Places}
use Rattle.dsdl_line.specs.declared.shape.Places.TheVariants.{Nothing, Marker, Union, Padding, Field, Constant, Wrong}
use Rattle.dsdl_line.specs.Line.{Shape, is_unsaid, field_type, constant_type, attribute_with, attribute, cast_attribute, shape_with, judged, shape_of, line_of}
use Rattle.dsdl_line.specs.Line.Shape.{nothing, marker, union, padding, field, constant, wrong}
use Rattle.dsdl_line.specs.Line.Line.{constant as aConstant, wrong as aWrong}
use Rattle.dsdl_line.specs.inside.Places.{word_of, meaning}
use Rattle.dsdl.specs.Form.{type_form, line_form, lines_form}

-- ── a field has a right size ──

never : (P : Type 0) → ◌≡◌ {A = ℕ} 0 1 → P
never P z = absurd (omega arith)

module _ (c : Cast) (w x : List ℕ) where
  abbrev Right : Type 0
  Right = size_fits (size_text w) ≡ true

  in-attribute : (d : Cast) (v y l : List ℕ) → attribute_with d v y l ≡ field c w x → Right
  in-attribute d v y l =
      go (is_name y) (ended l) (field_type d v) refl (constant_type v && same (word (skip l)) (chars "=")) where
        go : (n e t : Bool) → field_type d v ≡ t → (k : Bool)
            → cond n (cond e (cond t (field d v y) wrong) (cond k (constant v y (past (skip l))) wrong)) wrong ≡ field c w x → Right
        go true true true f k q =
            let r : v ≡ w = cc in
            let s = (both (size_fits (size_text v)) (is_primitive (base_of (base_text v)) || (is_unsaid d && is_nested (base_of (base_text v)))) f).0 in
            rw r at s
        go true true false f k q = never Right (cc)
        go true false t f true q = never Right (cc)
        go true false t f false q = never Right (cc)
        go false e t f k q = never Right (cc)

  in-shape : (v l : List ℕ) → shape_with v l ≡ field c w x → Right
  in-shape v l =
      go (same v (chars "---") && ended l) (same v (chars "@union") && ended l) (same v (chars "saturated")) (same v (chars "truncated"))
      (is_void (base_of v) && ended l) where
        go : (m u s t p : Bool)
            → cond m marker (cond u union (cond s (cast_attribute Saturated l) (cond t (cast_attribute Truncated l) (cond p (padding v) (attribute Unsaid v l)))))
            ≡ field c w x → Right
        go true u s t p q = never Right (cc)
        go false true s t p q = never Right (cc)
        go false false true t p q = in-attribute Saturated (word (skip l)) (word (skip (past (skip l)))) (past (skip (past (skip l)))) q
        go false false false true p q = in-attribute Truncated (word (skip l)) (word (skip (past (skip l)))) (past (skip (past (skip l)))) q
        go false false false false true q = never Right (cc)
        go false false false false false q = in-attribute Unsaid v (word (skip l)) (past (skip l)) q

  right-size : (l : List ℕ) → shape_of l ≡ field c w x → Right
  unfolding shape_of
  right-size l = go (ended (bare l)) where
    go : (e : Bool) → cond e nothing (shape_with (word (skip (bare l))) (past (skip (bare l)))) ≡ field c w x → Right
    go true q = never Right (cc)
    go false q = in-shape (word (skip (bare l))) (past (skip (bare l))) q

-- ── what a line adds ──

module _ (space l : List ℕ) (p : Places) (e : meaning l p ≡ shape_of l) where
  by-places : (q : Places) → p ≡ q → line_form space (judged (meaning l q)) ≡ line_form space (line_of l)
  by-places q t = ap (λ (x : Places). line_form space (judged (meaning l x))) (sym t) ∙ ap (λ (s : Shape). line_form space (judged s)) e

  pub of-nothing : p ≡ Nothing → [] ≡ line_form space (line_of l)
  unfolding line_form
  of-nothing t = by-places Nothing t

  pub of-marker : p ≡ Marker → (10 ∷ chars "---") ≡ line_form space (line_of l)
  unfolding line_form
  of-marker t = by-places Marker t

  pub of-union : p ≡ Union → (10 ∷ chars "@union") ≡ line_form space (line_of l)
  unfolding line_form
  of-union t = by-places Union t

  pub of-padding : (w : Word) (v : List ℕ) → p ≡ Padding w → v ≡ word_of l w → (10 ∷ v) ≡ line_form space (line_of l)
  unfolding line_form
  of-padding w v t ev = ap (λ (z : List ℕ). 10 ∷ z) ev ∙ by-places (Padding w) t

  pub of_field : (c : Cast) (w x : Word) (v y : List ℕ) → p ≡ Field c w x → v ≡ word_of l w → y ≡ word_of l x
      → (10 ∷ (type_form space c v ++ (32 ∷ y))) ≡ line_form space (line_of l)
  unfolding line_form
  of_field c w x v y t ev ey =
      ap (λ (z : List ℕ). 10 ∷ (type_form space c z ++ (32 ∷ y))) ev
      ∙ (ap (λ (z : List ℕ). 10 ∷ (type_form space c (word_of l w) ++ (32 ∷ z))) ey ∙ by-places (Field c w x) t)

  pub of-constant : (w x i : Word) → p ≡ Constant w x i → [] ≡ line_form space (line_of l)
  unfolding line_form
  of-constant w x i t =
      adds (fits (base_of (base_text (word_of l w))) (initializer (skip (word_of l i)))) ∙ by-places (Constant w x i) t where
        adds : (b : Bool) → [] ≡ line_form space (cond b (aConstant (word_of l x)) aWrong)
        adds true = refl
        adds false = refl

  pub of-wrong : p ≡ Wrong → [] ≡ line_form space (line_of l)
  unfolding line_form
  of-wrong t = by-places Wrong t

  pub sized : (c : Cast) (w x : Word) (v : List ℕ) → p ≡ Field c w x → v ≡ word_of l w → size_fits (size_text v) ≡ true
  sized c w x v t ev = rw ev (right-size c (word_of l w) (word_of l x) l (sym e ∙ ap (meaning l) t))

-- ── line by line ──

-- what the lines from a place on add
abbrev pub onward : List ℕ → List ℕ → ℕ → List ℕ
onward space t at = lines_form space (map line_of (lines (drop at t)))

module _ (space t : List ℕ) (at end : ℕ) (e : end ≡ end_of t at) where
  pub one_line : end < length t → onward space t at ≡ line_form space (line_of (span t at (end - at))) ++ onward space t (after_end t end)
  unfolding lines_form
  one_line h =
      let c : lines (drop at t) ≡ span t at (end - at) ∷ lines (drop (after_end t end) t) = rw e (next-line t at (rw e at h)) in
      ap (λ (ls : List (List ℕ)). lines_form space (map line_of ls)) c

  pub final-line : length t ≤ end → onward space t at ≡ line_form space (line_of (span t at (end - at)))
  unfolding lines_form
  final-line h =
      let c : lines (drop at t) ≡ span t at (end - at) ∷ [] = rw e (last_line t at (rw e at h)) in
      ap (λ (ls : List (List ℕ)). lines_form space (map line_of ls)) c ∙ append-nil (line_form space (line_of (span t at (end - at))))

-- the namespace that is handed on
pub space-is : (name : List ℕ) (n : ℕ) → n ≡ last_dot 0 0 name → take (n - 0) name ≡ space_of name
space-is name n e = let z : n - 0 ≡ n = omega arith in ap (λ (k : ℕ). take k name) (z ∙ e)

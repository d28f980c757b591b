-- Laws of the nested types of a text, line by line. What is worked out over them goes from value to value, as `extended_by` and `marked_by` do.
use mathlib.Core.Path.{◌≡◌, refl, sym, ◌∙◌}
use mathlib.Core.Bool.{Bool, true}
use mathlib.Core.List.{List, [], ◌∷◌, ◌++◌, map}
use Prim.Native.Nat.{ℕ, ◌-◌, ◌≤◌, ◌<◌}
use native.Mathlib.Omega.{arith}
use lib.ListN.{length, take, drop, set}
use Rattle.bits.specs.Part.{span}
use Rattle.checksum.specs.Signature.{extended}
use Rattle.dsdl_text.specs.Lines.{lines}
use Rattle.dsdl_text.specs.Names.{last_dot, space_of}
use Rattle.dsdl_text.specs.inside.Lines.{end_of, after_end}
use Rattle.dsdl_text.proofs.Lines.{next-line, last_line}
use Rattle.dsdl_line.specs.Line.{line_of}
use Rattle.dsdl.specs.Definition.{lines_of}
use Rattle.dsdl.specs.Form.{nested_in, nested_types}
use Rattle.dsdl_nesting.specs.Signature.{extended_by}
use Rattle.dsdl_nesting.specs.inside.Sets.{marked_by}

-- the names one after the other, from the value of the first ones on
pub record Goes {A : Type 0} (f : A → List (List ℕ) → A) : Type 0 where
  pub none : (a : A) → f a [] ≡ a
  pub join : (a : A) (xs ys : List (List ℕ)) → f a (xs ++ ys) ≡ f (f a xs) ys

extended-join : (f : List ℕ → ℕ) (h : ℕ) (xs ys : List (List ℕ)) → extended_by f h (xs ++ ys) ≡ extended_by f (extended_by f h xs) ys
unfolding extended_by
extended-join f h [] ys = refl
extended-join f h (x ∷ xs) ys = extended-join f (extended h (f x)) xs ys

pub extended-goes : (f : List ℕ → ℕ) → Goes (extended_by f)
unfolding extended_by
extended-goes f = record { none = λ h. refl; join = extended-join f }

marked-join : (f : List ℕ → ℕ) (s : List Bool) (xs ys : List (List ℕ)) → marked_by f s (xs ++ ys) ≡ marked_by f (marked_by f s xs) ys
unfolding marked_by
marked-join f s [] ys = refl
marked-join f s (x ∷ xs) ys = marked-join f (set s (f x) true) xs ys

pub marked-goes : (f : List ℕ → ℕ) → Goes (marked_by f)
unfolding marked_by
marked-goes f = record { none = λ s. refl; join = marked-join f }

-- those of a definition by its name and its text
pub nested_same : (name x text y : List ℕ) (k : ℕ) → k ≡ last_dot 0 0 name → name ≡ x → text ≡ y
    → nested_types (take (k - 0) name) (lines_of text) ≡ nested_types (space_of x) (lines_of y)
nested_same name x text y k e p q = let z : k - 0 ≡ k = omega arith in rw (z, e, p, q)

-- ── line by line ──

-- the nested types of what is left of a text
abbrev pub nested_from : List ℕ → List ℕ → ℕ → List (List ℕ)
nested_from space t at = nested_types space (map line_of (lines (drop at t)))

module _ (space t : List ℕ) (at end : ℕ) (e : end ≡ end_of t at) where
  abbrev here : List (List ℕ)
  here = nested_in space (line_of (span t at (end - at)))

  cut : end < length t → nested_from space t at ≡ here ++ nested_from space t (after_end t end)
  unfolding nested_types
  cut h = rw e (rw (next-line t at (rw e at h)) refl)

  cut-last : length t ≤ end → nested_from space t at ≡ here ++ []
  unfolding nested_types
  cut-last h = rw e (rw (last_line t at (rw e at h)) refl)

  module _ {A : Type 0} (f : A → List (List ℕ) → A) (g : Goes f) (a r : A) (q : r ≡ f a here) where
    pub on : (k : ℕ) → k ≡ after_end t end → end < length t → f r (nested_from space t k) ≡ f a (nested_from space t at)
    on k p l = rw (q, p, cut l) (sym (g.join a here (nested_from space t (after_end t end))))

    pub last : length t ≤ end → r ≡ f a (nested_from space t at)
    last l = rw (q, cut-last l) (sym (g.join a here [] ∙ g.none (f a here)))

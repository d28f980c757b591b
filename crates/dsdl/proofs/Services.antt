-- Laws of services.
use mathlib.Core.Path.{◌≡◌, refl, ap, ◌∙◌}
use mathlib.Core.Bool.{Bool, true, false, cond, or-false}
use mathlib.Core.List.{List, [], ◌∷◌, map}
use Prim.Native.Nat.{ℕ, ◌-◌, ◌≤◌, ◌<◌}
use lib.ListN.{length, drop}
use Rattle.bits.specs.Part.{span}
use Rattle.dsdl_text.specs.Lines.{lines}
use Rattle.dsdl_text.specs.Words.{skip}
use Rattle.dsdl_text.specs.inside.Lines.{end_of, after_end}
use Rattle.dsdl_text.proofs.Lines.{next-line, last_line}
use Rattle.dsdl_number.specs.Number.{initializer}
use Rattle.dsdl_type.specs.Base.{base_text, base_of}
use Rattle.dsdl_type.specs.Constant.{fits}
use Rattle.dsdl_line.specs.declared.shape.Places.{Places}
use Rattle.dsdl_line.specs.declared.shape.Places.TheVariants.{Nothing, Marker, Union, Padding, Field, Constant, Wrong}
use Rattle.dsdl_line.specs.Line.{Shape, judged, shape_of, line_of}
use Rattle.dsdl_line.specs.Line.Line.{constant, wrong}
use Rattle.dsdl_line.specs.inside.Places.{word_of, meaning, is_marker_at}
use Rattle.dsdl.specs.Definition.{is_marker, is_service}

no-marker : (b : Bool) (x : List ℕ) → false ≡ is_marker (cond b (constant x) wrong)
no-marker true x = refl
no-marker false x = refl

by_place : (l : List ℕ) (p : Places) → is_marker_at p ≡ is_marker (judged (meaning l p))
by_place l Nothing = refl
by_place l Marker = refl
by_place l Union = refl
by_place l (Padding w) = refl
by_place l (Field c w x) = refl
by_place l (Constant w x i) = no-marker (fits (base_of (base_text (word_of l w))) (initializer (skip (word_of l i)))) (word_of l x)
by_place l Wrong = refl

pub marked : (l : List ℕ) (p : Places) (r : Bool) → meaning l p ≡ shape_of l → r ≡ is_marker_at p → r ≡ is_marker (line_of l)
marked l p r e q = q ∙ (by_place l p ∙ ap (λ (s : Shape). is_marker (judged s)) e)

-- ── line by line ──

module _ (t : List ℕ) (at end : ℕ) (e : end ≡ end_of t at) where
  pub cut : end < length t → lines (drop at t) ≡ span t at (end - at) ∷ lines (drop (after_end t end) t)
  cut h = rw e (next-line t at (rw e at h))

  pub cut-last : length t ≤ end → lines (drop at t) ≡ span t at (end - at) ∷ []
  cut-last h = rw e (last_line t at (rw e at h))

  pub found : end < length t → is_marker (line_of (span t at (end - at))) ≡ true → is_service (map line_of (lines (drop at t))) ≡ true
  unfolding is_service
  found h m = rw (cut h, m)

  pub passed : end < length t → is_marker (line_of (span t at (end - at))) ≡ false
      → is_service (map line_of (lines (drop at t))) ≡ is_service (map line_of (lines (drop (after_end t end) t)))
  unfolding is_service
  passed h m = rw (cut h, m)

  pub last : length t ≤ end → is_service (map line_of (lines (drop at t))) ≡ is_marker (line_of (span t at (end - at)))
  unfolding is_service
  last h = rw (cut-last h) (or-false (is_marker (line_of (span t at (end - at)))))

-- RULES 17.12: the definitions that a call gives, and what 43 and 40 say of them.
use Rattle.std.specs.Prelude.{Bool, false, ◌||◌, List, [], ◌∷◌, map, ℕ, suc, ◌+◌, ◌*◌, ◌-◌, ◌/◌, ltb, length, drop}
use Rattle.std.proofs.Math.Option.{Option, none, some}
use Rattle.bits.specs.Little.{le}
use Rattle.bits.specs.Part.{span}
use Rattle.bits.specs.Tabulate.{tabulate}
use Rattle.dsdl_text.specs.Names.{space_of}
use Rattle.dsdl.specs.Definition.{text_max, lines_of, is_among, is_service, good, faulty, verdict}
use Rattle.dsdl.specs.Form.{form_of, nested_types}

pub record Definition : Type 0 where
  pub name : List ℕ
  pub text : List ℕ

-- length k: four bytes each, low byte first
abbrev pub length_at : List ℕ → ℕ → ℕ
length_at bytes k = le (span bytes (k * 4) 4)

-- two lengths a definition; bytes after the last two are ignored
abbrev pub lengths_in : List ℕ → List ℕ
lengths_in bytes = tabulate (length_at bytes) 0 (length bytes / 8 * 2)

-- one after the other in the source, by the lengths of name and text
unfoldable pub definitions : List ℕ → List ℕ → List Definition
definitions source [] = []
definitions source (n ∷ []) = []
definitions source (n ∷ (t ∷ ls)) = record { name = span source 0 n; text = span source n t } ∷ definitions (drop (n + t) source) ls

abbrev pub definition_max : ℕ
definition_max = 8

unfoldable pub name_twice : List Definition → Bool
name_twice [] = false
name_twice (d ∷ ds) = is_among d.name (map (λ (e : Definition). e.name) ds) || name_twice ds

-- a text is too long, or lengths reach past what is left of the source
unfoldable pub too_long : ℕ → List ℕ → Bool
too_long left [] = false
too_long left (n ∷ []) = false
too_long left (n ∷ (t ∷ ls)) = ltb text_max t || (ltb left (n + t) || too_long (left - (n + t)) ls)

-- 43
unfoldable pub oversized : List ℕ → List ℕ → Bool
oversized source lengths =
    ltb definition_max (length (definitions source lengths)) || (too_long (length source) lengths || name_twice (definitions source lengths))

-- 40: definition i, if it is the first at fault, with its line
unfoldable pub fault_from : ℕ → List Definition → Option (ℕ × ℕ)
fault_from i [] = none
fault_from i (d ∷ ds) = elim (verdict d.name d.text) [ good ↦ fault_from (suc i) ds | faulty line ↦ some (i, line) ]

-- ── of a definition in the grammar ──

abbrev pub form : Definition → List ℕ
form d = form_of d.name d.text

abbrev pub is_service_of : Definition → Bool
is_service_of d = is_service (lines_of d.text)

abbrev pub nested_of : Definition → List (List ℕ)
nested_of d = nested_types (space_of d.name) (lines_of d.text)

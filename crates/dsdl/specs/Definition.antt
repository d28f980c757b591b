-- RULES 17.8: the first line at fault of a definition.
use Rattle.std.specs.Prelude.{Bool, true, false, cond, ◌||◌, List, [], ◌∷◌, map, ℕ, suc, ltb}
use Rattle.std.proofs.Math.Option.{Option, none, some}
use Rattle.dsdl_text.specs.Text.{same}
use Rattle.dsdl_text.specs.Lines.{lines}
use Rattle.dsdl_text.specs.Names.{is_full_name}
use Rattle.dsdl_line.specs.Line.{Line, line_of}
use Rattle.dsdl_line.specs.Line.Line.{nothing, marker, union, padding, field, constant, wrong}

-- ── a part, request or response, as far as it is read ──

pub record Part : Type 0 where
  pub union : ℕ  -- the line of its union directive, 0 if there is none
  pub attributes : ℕ
  pub fields : ℕ  -- those of them that are fields or padding
  pub names : List (List ℕ)

abbrev pub empty_part : Part
empty_part = record { union = 0; attributes = 0; fields = 0; names = [] }

unfoldable pub is_among : List ℕ → List (List ℕ) → Bool
is_among x [] = false
is_among x (y ∷ ys) = same x y || is_among x ys

abbrev pub with_union : ℕ → Part → Option Part
with_union n p =
    cond (ltb 0 p.union || ltb 0 p.attributes) none
    (some (record { union = n; attributes = p.attributes; fields = p.fields; names = p.names }))

abbrev pub with_padding : Part → Part
with_padding p = record { union = p.union; attributes = suc p.attributes; fields = suc p.fields; names = p.names }

abbrev pub with_field : List ℕ → Part → Option Part
with_field x p =
    cond (is_among x p.names) none
    (some (record { union = p.union; attributes = suc p.attributes; fields = suc p.fields; names = x ∷ p.names }))

abbrev pub with_constant : List ℕ → Part → Option Part
with_constant x p =
    cond (is_among x p.names) none
    (some (record { union = p.union; attributes = suc p.attributes; fields = p.fields; names = x ∷ p.names }))

-- after line n, which is no marker; none: it is at fault
abbrev pub with_line : ℕ → Line → Part → Option Part
with_line n nothing p = some p
with_line n marker p = none
with_line n union p = with_union n p
with_line n (padding w) p = some (with_padding p)
with_line n (field c w x) p = with_field x p
with_line n (constant x) p = with_constant x p
with_line n wrong p = none

-- the fault that shows at a part's end, 0 if there is none: a union with fewer than two fields
abbrev pub fault_at_end : Part → ℕ
fault_at_end p = cond (ltb p.fields 2) p.union 0

-- ── the lines, n being the number of the first; the line at fault, or 0 ──

abbrev pub or_fault : ℕ → ℕ → ℕ
or_fault a b = cond (ltb 0 a) a b

abbrev pub is_marker : Line → Bool
is_marker nothing = false
is_marker marker = true
is_marker union = false
is_marker (padding w) = false
is_marker (field c w x) = false
is_marker (constant x) = false
is_marker wrong = false

-- the state after a line: which part, and what it has; none: it ends here, at fault
unfoldable pub fault_from : Bool → ℕ → Part → List Line → ℕ
fault_from response n p [] = fault_at_end p
fault_from response n p (l ∷ ls) =
    elim (is_marker l) [
      | true ↦ cond response n (or_fault (fault_at_end p) (fault_from true (suc n) empty_part ls))
      | false ↦ elim (with_line n l p) [ none ↦ n | some q ↦ fault_from response (suc n) q ls ]
    ]

abbrev pub lines_of : List ℕ → List Line
lines_of text = map line_of (lines text)

-- the first line at fault of a text, 0 if there is none
abbrev pub fault_in : List ℕ → ℕ
fault_in text = fault_from false 1 empty_part (lines_of text)

-- ── a definition ──

-- bytes of a text at most (RULES 17.12)
abbrev pub text_max : ℕ
text_max = 4096

-- in the grammar, or the line at fault, which is 0 for a bad name
pub data Verdict : Type 0 where
  good : Verdict
  faulty : ℕ → Verdict

unfoldable pub verdict : List ℕ → List ℕ → Verdict
verdict name text = cond (is_full_name name) (cond (ltb 0 (fault_in text)) (faulty (fault_in text)) good) (faulty 0)

-- a service has a marker
unfoldable pub is_service : List Line → Bool
is_service [] = false
is_service (l ∷ ls) = is_marker l || is_service ls

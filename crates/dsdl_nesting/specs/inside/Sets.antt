-- RULES 17.10: the definitions nested in each, as rows of nine marks; the mark behind the last definition is for a name that none has.
use Rattle.std.specs.Prelude.{◌≡◌, Bool, true, false, not, ◌||◌, List, [], ◌∷◌, ℕ, ◌+◌, ◌*◌, ◌≤◌, ◌<◌, eqb, length, get_or, set}
use Rattle.bits.specs.Tabulate.{every}
use Rattle.dsdl_given.specs.Given.{Definition, nested_of}
use Rattle.dsdl_given.specs.inside.Places.{definition_at, given}
use Rattle.dsdl_nesting.specs.inside.Kept.{index_of}

-- the place of a name in row i
abbrev pub place_in : ℕ → List Definition → List ℕ → ℕ
place_in i ds x = i * 9 + index_of ds x

-- marks set at the places of names
unfoldable pub marked_by : (List ℕ → ℕ) → List Bool → List (List ℕ) → List Bool
marked_by place marks [] = marks
marked_by place marks (x ∷ xs) = marked_by place (set marks (place x) true) xs

-- one of the names is that of definition j
unfoldable pub has_index : List Definition → ℕ → List (List ℕ) → Bool
has_index ds j [] = false
has_index ds j (x ∷ xs) = eqb (index_of ds x) j || has_index ds j xs

-- the first i rows of n definitions
pub record Nested (source bounds : List ℕ) (n i : ℕ) (sets : List Bool) : Type 0 where
  pub size : length sets ≡ 72
  pub row : (k j : ℕ) → k < i → j < 9 → get_or sets (k * 9 + j) false ≡ has_index (given source bounds n) j (nested_of (definition_at source bounds k))
  pub rest : (k : ℕ) → i * 9 ≤ k → get_or sets k false ≡ false

-- what row i marks is marked
abbrev pub row_holds : List Bool → List Bool → ℕ → Bool
row_holds sets marks i = every (λ (j : ℕ). not (get_or sets (i * 9 + j) false) || get_or marks j false) 0 9

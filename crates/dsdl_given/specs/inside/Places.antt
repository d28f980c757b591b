-- Definitions by their places in the source: name i goes from bound 2 i to the next one, and its text from there to the one after.
use Rattle.std.specs.Prelude.{◌≡◌, List, map, ℕ, ◌+◌, ◌*◌, ◌-◌, ◌≤◌, ◌<◌, length, get_or}
use Rattle.bits.specs.Part.{span}
use Rattle.bits.specs.Tabulate.{tabulate}
use Rattle.dsdl.specs.Definition.{text_max}
use Rattle.dsdl_given.specs.Given.{Definition, definition_max}

-- from bound k to the next one
abbrev pub part : List ℕ → List ℕ → ℕ → List ℕ
part source bounds k = span source (get_or bounds k 0) (get_or bounds (k + 1) 0 - get_or bounds k 0)

abbrev pub definition_at : List ℕ → List ℕ → ℕ → Definition
definition_at source bounds i = record { name = part source bounds (i * 2); text = part source bounds (i * 2 + 1) }

-- the first n definitions
abbrev pub given : List ℕ → List ℕ → ℕ → List Definition
given source bounds n = tabulate (definition_at source bounds) 0 n

-- the names of definitions i to n
abbrev pub names_from : List ℕ → List ℕ → ℕ → ℕ → List (List ℕ)
names_from source bounds i n = map (λ (d : Definition). d.name) (tabulate (definition_at source bounds) i (n - i))

-- the bounds of n parts, one after the other, by their lengths
pub record Bounds (by : ℕ → ℕ) (bounds : List ℕ) (n : ℕ) : Type 0 where
  pub first : get_or bounds 0 0 ≡ 0
  pub next : (k : ℕ) → k < n → get_or bounds (k + 1) 0 ≡ get_or bounds k 0 + by k

-- definition i is inside the source, and its text is not too long
pub record Holds (source bounds : List ℕ) (i : ℕ) : Type 0 where
  pub few : i < definition_max
  pub name : get_or bounds (i * 2) 0 ≤ get_or bounds (i * 2 + 1) 0
  pub text : get_or bounds (i * 2 + 1) 0 ≤ get_or bounds (i * 2 + 1 + 1) 0
  pub inside : get_or bounds (i * 2 + 1 + 1) 0 ≤ length source
  pub short : get_or bounds (i * 2 + 1 + 1) 0 ≤ get_or bounds (i * 2 + 1) 0 + text_max

-- so are n of them
pub record Inside (source bounds : List ℕ) (n : ℕ) : Type 0 where
  pub few : n ≤ definition_max
  pub holds : (i : ℕ) → i < n → Holds source bounds i

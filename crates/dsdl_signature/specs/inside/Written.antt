-- What the call writes, by the places of the definitions.
use Rattle.std.specs.Prelude.{List, [], ◌++◌, ℕ, zero, suc, ◌+◌, ◌-◌, ◌≤◌, ◌<◌, length, get_or}
use Rattle.dsdl_text.specs.Names.{name_max}
use Rattle.dsdl_given.specs.Given.{form}
use Rattle.dsdl_given.specs.inside.Places.{definition_at, Bounds}
use Rattle.dsdl_signature.specs.Call.{record_of}

-- f at the n numbers from i on, one after the other
unfoldable pub joined : (ℕ → List ℕ) → ℕ → ℕ → List ℕ
joined f i zero = []
joined f i (suc n) = f i ++ joined f (suc i) n

abbrev pub form_at : List ℕ → List ℕ → ℕ → List ℕ
form_at source bounds i = form (definition_at source bounds i)

-- the names of n definitions are not too long
abbrev pub Named : List ℕ → List ℕ → ℕ → Type 0
Named source bounds n = (i : ℕ) → i < n → length (definition_at source bounds i).name ≤ name_max

-- where n forms end, one after the other
abbrev pub Ends : List ℕ → List ℕ → List ℕ → ℕ → Type 0
Ends source bounds ends n = Bounds (λ (i : ℕ). length (form_at source bounds i)) ends n

-- record i, from where forms end and from signatures
abbrev pub record_at : List ℕ → List ℕ → ℕ → List ℕ
record_at ends signatures i = record_of (get_or ends (i + 1) 0 - get_or ends i 0) (get_or signatures i 0)

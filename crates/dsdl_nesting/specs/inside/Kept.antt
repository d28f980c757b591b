-- Values of the definitions by their indexes.
use Rattle.std.specs.Prelude.{◌≡◌, cond, List, [], ◌∷◌, ℕ, suc, ◌<◌, length, get_or}
use Rattle.checksum.specs.Signature.{hash_from}
use Rattle.dsdl_text.specs.Text.{same}
use Rattle.dsdl_given.specs.Given.{Definition, form}
use Rattle.dsdl_given.specs.inside.Places.{definition_at, given}
use Rattle.dsdl_nesting.specs.Signature.{signature}

-- the first definition of that name; their number if there is none
unfoldable pub index_of : List Definition → List ℕ → ℕ
index_of [] x = 0
index_of (d ∷ ds) x = cond (same x d.name) 0 (suc (index_of ds x))

-- the value that is kept for a name; z past the end of the list
abbrev pub value_of : {A : Type 0} → A → List A → List Definition → List ℕ → A
value_of z vs ds x = get_or vs (index_of ds x) z

-- nine values: those of the first i of n definitions, and another one for a name that none has
pub record Kept {A : Type 0} (z : A) (f : ℕ → A) (other : A) (n i : ℕ) (vs : List A) : Type 0 where
  pub size : length vs ≡ 9
  pub at : (j : ℕ) → j < i → get_or vs j z ≡ f j
  pub behind : get_or vs n z ≡ other

-- the hashes of the forms of n definitions
abbrev pub Hashes : List ℕ → List ℕ → ℕ → List ℕ → Type 0
Hashes source bounds n hashes = (i : ℕ) → i < n → get_or hashes i 0 ≡ hash_from 0 (form (definition_at source bounds i))

-- the signatures of n definitions
abbrev pub Signatures : List ℕ → List ℕ → ℕ → List ℕ → Type 0
Signatures source bounds n values = (i : ℕ) → i < n → get_or values i 0 ≡ signature (given source bounds n) (definition_at source bounds i)

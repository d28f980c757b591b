-- RULES 17.11: the signature of a definition.
use Rattle.std.specs.Prelude.{List, [], ◌∷◌, ℕ, zero, suc}
use Rattle.checksum.specs.Signature.{hash_from, extended}
use Rattle.dsdl_given.specs.Given.{Definition, form, nested_of}
use Rattle.dsdl_nesting.specs.Nesting.{chain_max, find}

-- h extended by the signatures of nested types, in order
unfoldable pub extended_by : (List ℕ → ℕ) → ℕ → List (List ℕ) → ℕ
extended_by signature h [] = h
extended_by signature h (x ∷ xs) = extended_by signature (extended h (signature x)) xs

-- of a definition from which no chain has more than k
unfoldable pub signature_within : ℕ → List Definition → Definition → ℕ
signature_within zero ds d = 0
signature_within (suc k) ds d = extended_by (λ (x : List ℕ). signature_within k ds (find ds x)) (hash_from 0 (form d)) (nested_of d)

abbrev pub signature : List Definition → Definition → ℕ
signature ds d = signature_within chain_max ds d

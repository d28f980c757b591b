-- A record as the code makes it: three stores, and the data as one number.
use mathlib.Core.Path.{◌≡◌, ap, ap₂, ◌∙◌}
use mathlib.Core.List.{List, [], ◌∷◌, ◌++◌, append_assoc}
use Prim.Native.Nat.{ℕ, ◌+◌, ◌%◌, ◌≤◌, ◌<◌}
use native.Mathlib.Omega.{arith}
use lib.ListN.{length, length-append}
use Rattle.bits.specs.Little.{le, le_bytes}
use Rattle.bits.specs.Order.{Octets}
use Rattle.bits.specs.Part.{splice}
use Rattle.bits.proofs.Little.{length-le_bytes, le_bytes-padded}
use Rattle.bits.proofs.Octets.{octets-append}
use Rattle.bits.proofs.Splice.{splice-splice}
use Rattle.rules.specs.Sending.{record_of}
use Rattle.rules.specs.Sent.{framed}

one_byte : (n : ℕ) → n < 256 → le_bytes 1 n ≡ n ∷ []
unfolding le_bytes
one_byte n h = let e : n % 256 ≡ n = omega arith in rw e

-- three stores in a row
pub stored : (m m₁ m₂ m₃ : List ℕ) (at id n w : ℕ) → at + 13 ≤ length m → n < 256 → m₁ ≡ splice m at (le_bytes 4 id) → m₂ ≡ splice m₁ (at + 4) (le_bytes 1 n)
    → m₃ ≡ splice m₂ (at + 5) (le_bytes 8 w) → m₃ ≡ splice m at (le_bytes 4 id ++ (n ∷ le_bytes 8 w))
stored m m₁ m₂ m₃ at id n w h b e₁ e₂ e₃ =
    let l₄ = length-le_bytes 4 id in
    let one = one_byte n b in
    let a : at + 4 ≡ at + length (le_bytes 4 id) = omega arith in
    let m₂' : m₂ ≡ splice m at (le_bytes 4 id ++ (n ∷ [])) =
    e₂ ∙ ap₂ (λ x y. splice x y (le_bytes 1 n)) e₁ a ∙ ap (splice (splice m at (le_bytes 4 id)) (at + length (le_bytes 4 id))) one
    ∙ splice-splice m at (le_bytes 4 id) (omega arith) (n ∷ []) in
    let l₅ : length (le_bytes 4 id ++ (n ∷ [])) ≡ 5 = length-append (le_bytes 4 id) (n ∷ []) ∙ omega arith in
    let b₅ : at + 5 ≡ at + length (le_bytes 4 id ++ (n ∷ [])) = omega arith in
    e₃ ∙ ap₂ (λ x y. splice x y (le_bytes 8 w)) m₂' b₅ ∙ splice-splice m at (le_bytes 4 id ++ (n ∷ [])) (omega arith) (le_bytes 8 w)
    ∙ ap (splice m at) (append_assoc (le_bytes 4 id) (n ∷ []) (le_bytes 8 w))

-- the data as one number
pub record_is : (id n w : ℕ) (c : List ℕ) → Octets c → length c ≤ 8 → n ≡ length c → w ≡ le c → le_bytes 4 id ++ (n ∷ le_bytes 8 w) ≡ record_of id c
unfolding record_of
record_is id n w c o h e q = rw (e, q, le_bytes-padded c 8 o h)

pub framed-octets : (xs : List ℕ) (t : ℕ) → Octets xs → t < 256 → Octets (framed xs t)
framed-octets xs t o h = octets-append xs (t ∷ []) o (h, tt)

-- `crc64::extend` meets its contract: the nested signature and the hash so far fill sixteen bytes.
use mathlib.Core.Path.{◌≡◌, refl, ap, ◌∙◌}
use mathlib.Core.List.{List, ◌++◌}
use Prim.Native.Nat.{ℕ, ◌+◌}
use native.Mathlib.Omega.{arith}
use lib.ListN.{length, length-append}
use Rattle.bits.specs.Little.{le_bytes}
use Rattle.bits.specs.Part.{splice}
use Rattle.checksum.specs.Signature.{hash_from, extended}
use Rattle.bits.proofs.Little.{length-le_bytes}
use Rattle.bits.proofs.Splice.{splice-splice, splice_all}
use Rattle.checksum.proofs.crc64.extend.Goals as goal

-- the two numbers fill the sixteen bytes
filled : (z a b : List ℕ) → length z ≡ 16 → length a ≡ 8 → length b ≡ 8 → splice (splice z 0 a) 8 b ≡ a ++ b
filled z a b hz ha hb =
    let n : 8 ≡ 0 + length a = omega arith in
    ap (λ (n : ℕ). splice (splice z 0 a) n b) n ∙ splice-splice z 0 a (omega arith) b
    ∙ splice_all z (a ++ b) (length-append a b ∙ omega arith)

whole : (h v r : ℕ) (z x y : List ℕ) → length z ≡ 16 → x ≡ splice z 0 (le_bytes 8 v) → y ≡ splice x 8 (le_bytes 8 h) → r ≡ hash_from h y → r ≡ extended h v
unfolding extended
whole h v r z x y l e f g =
    g ∙ ap (hash_from h) (f ∙ ap (λ (m : List ℕ). splice m 8 (le_bytes 8 h)) e ∙ filled z (le_bytes 8 v) (le_bytes 8 h) l (length-le_bytes 8 v) (length-le_bytes 8 h))

pub returns : goal.returns
returns c =
    let a = c.args in
    whole a.h a.nested c.hash_from.result _ c.put_at.new.s c.put_at-2.new.s refl c.put_at.ensures c.put_at-2.ensures c.hash_from.ensures

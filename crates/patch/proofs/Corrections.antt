-- A correction is the checksum worked out afresh, and leaves the error of a wrong one: from the law of the difference.
use mathlib.Core.Path.{◌≡◌, refl, sym, ap, ap₂, ◌∙◌}
use mathlib.Core.List.{List, [], ◌∷◌, ◌++◌}
use Prim.Native.Nat.{ℕ, suc, ◌+◌, ◌<◌}
use native.Mathlib.Omega.{arith}
use borrow.Author.Tests.{lt-leb}
use lib.Bits.{bit_xor, xor_self}
use lib.ListN.{length, replicate, length-append}
use lib.Seq.{append_snoc}
use Rattle.checksum.specs.Crc.{shift, shifts, crc_byte, crc_over}
use Rattle.checksum.specs.Crc16.{ccitt, checksum}
use Rattle.checksum.specs.Laws.{xors}
use Rattle.checksum.proofs.Linear.{linear-laws}
use Rattle.checksum.proofs.Xor.{xor_assoc, xor-back, xor-none}
use Rattle.rules.specs.Limits.{frame_payload}
use Rattle.rules.specs.Sent.{summed, carrying, carried, sent}
use Rattle.patch.specs.Patch.{patched, patched_field}
use Rattle.patch.specs.Laws.{PatchLaws}

-- ── what differs ──

alike : (q : List ℕ) → xors q q ≡ replicate (length q) 0
unfolding xors
alike [] = refl
alike (x ∷ q) = ap₂ (λ (y : ℕ) (l : List ℕ). y ∷ l) (xor_self x) (alike q)

-- zero bytes in front leave a register of 0 as it is
none : crc_byte ccitt 0 0 ≡ 0
unfolding crc_byte shifts shift
none = refl

from_zero : (x y : ℕ) (p q : List ℕ) → crc_over ccitt 0 (xors (p ++ x ∷ q) (p ++ y ∷ q)) ≡ crc_over ccitt 0 (bit_xor x y ∷ replicate (length q) 0)
unfolding xors crc_over
from_zero x y [] q = ap (λ (l : List ℕ). crc_over ccitt 0 (bit_xor x y ∷ l)) (alike q)
from_zero x y (z ∷ p) q =
    ap (λ (c : ℕ). crc_over ccitt c (xors (p ++ x ∷ q) (p ++ y ∷ q))) (ap (crc_byte ccitt 0) (xor_self z) ∙ none) ∙ from_zero x y p q

same_length : (x y : ℕ) (p q : List ℕ) → length (p ++ x ∷ q) ≡ length (p ++ y ∷ q)
same_length x y [] q = refl
same_length x y (z ∷ p) q = ap suc (same_length x y p q)

differs-by : (signature x y : ℕ) (p q : List ℕ)
    → crc_over ccitt 0 (bit_xor x y ∷ replicate (length q) 0) ≡ bit_xor (checksum signature (p ++ x ∷ q)) (checksum signature (p ++ y ∷ q))
differs-by signature x y p q =
    sym (linear-laws.difference signature (p ++ x ∷ q) (p ++ y ∷ q) (same_length x y p q) ∙ from_zero x y p q)

-- ── the laws ──

error : (signature c x y : ℕ) (p q : List ℕ)
    → bit_xor (patched c x y (length q)) (checksum signature (p ++ y ∷ q)) ≡ bit_xor c (checksum signature (p ++ x ∷ q))
unfolding patched
error signature c x y p q =
    let o = checksum signature (p ++ x ∷ q) in
    let n = checksum signature (p ++ y ∷ q) in
    ap (λ (z : ℕ). bit_xor (bit_xor c z) n) (differs-by signature x y p q) ∙ xor_assoc c (bit_xor o n) n ∙ ap (bit_xor c) (xor-back o n)

afresh : (signature x y : ℕ) (p q : List ℕ) → patched (checksum signature (p ++ x ∷ q)) x y (length q) ≡ checksum signature (p ++ y ∷ q)
afresh signature x y p q =
    let o = checksum signature (p ++ x ∷ q) in
    xor-none (patched o x y (length q)) (checksum signature (p ++ y ∷ q)) (error signature o x y p q ∙ xor_self o)

field : (signature : ℕ) (p old new q : List ℕ) → length old ≡ length new
    → patched_field (checksum signature (p ++ (old ++ q))) old new (length q) ≡ checksum signature (p ++ (new ++ q))
unfolding patched_field
field signature p [] [] q e = refl
field signature p [] (y ∷ new) q e = absurd (omega arith)
field signature p (x ∷ old) [] q e = absurd (omega arith)
field signature p (x ∷ old) (y ∷ new) q e =
    let first : patched (checksum signature (p ++ x ∷ (old ++ q))) x y (length old + length q) ≡ checksum signature ((p ++ (y ∷ [])) ++ (old ++ q)) =
    ap (patched (checksum signature (p ++ x ∷ (old ++ q))) x y) (sym (length-append old q)) ∙ afresh signature x y p (old ++ q)
    ∙ ap (checksum signature) (sym (append_snoc p y (old ++ q))) in
    ap (λ (c : ℕ). patched_field c old new (length q)) first ∙ field signature (p ++ (y ∷ [])) old new q (omega arith)
    ∙ ap (checksum signature) (append_snoc p y (new ++ q))

frames : (signature x y t : ℕ) (p q : List ℕ) → frame_payload < length (p ++ y ∷ q)
    → carrying t (summed (patched (checksum signature (p ++ x ∷ q)) x y (length q)) (p ++ y ∷ q)) ≡ sent signature t (p ++ y ∷ q)
unfolding sent carried
frames signature x y t p q h = rw (lt-leb (length (p ++ y ∷ q)) frame_payload h, afresh signature x y p q)

pub patch-laws : PatchLaws
patch-laws = record { afresh = afresh; field = field; error = error; frames = frames }

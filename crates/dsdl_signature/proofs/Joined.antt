-- Laws of parts that are joined, as loops write them one after the other.
use mathlib.Core.Path.{◌≡◌, refl, sym, ap, ap₂, ◌∙◌}
use mathlib.Core.Bool.{Bool, true, false}
use mathlib.Core.List.{List, ◌++◌, append_assoc, append-nil}
use Prim.Native.Nat.{ℕ, zero, suc, ◌+◌, ◌*◌, ◌-◌, ◌≤◌, ◌<◌}
use native.Mathlib.Nat.{zero-add, add-zero, suc-mul}
use native.Mathlib.Numerals.{add-one}
use native.Mathlib.Omega.{arith}
use borrow.Author.Tests.{ltb-true, ltb-false}
use lib.Dec.{ltb}
use lib.ListN.{length, get_or, set, length-append}
use lib.Seq.{get_or-set_same, get_or-set_other}
use Rattle.bits.specs.Little.{le_bytes}
use Rattle.bits.specs.Part.{splice}
use Rattle.bits.specs.Tabulate.{tabulate}
use Rattle.bits.proofs.Little.{length-le_bytes}
use Rattle.bits.proofs.Splice.{splice-next}
use Rattle.dsdl_given.specs.Given.{Definition, form}
use Rattle.dsdl_given.specs.inside.Places.{Bounds}
use Rattle.dsdl_nesting.specs.Signature.{signature}
use Rattle.dsdl_signature.specs.Call.{forms, record_of, record_size, records_of}
use Rattle.dsdl_signature.specs.inside.Written.{joined}

module _ (f : ℕ → List ℕ) where
  joined-next : (i n : ℕ) → joined f i (suc n) ≡ joined f i n ++ f (i + n)
  unfolding joined
  joined-next i zero = rw add-zero (append-nil (f i))
  joined-next i (suc n) =
      let e : suc i + n ≡ i + suc n = omega arith in
      ap (λ (l : List ℕ). f i ++ l) (joined-next (suc i) n ∙ ap (λ (j : ℕ). joined f (suc i) n ++ f j) e) ∙ sym (append_assoc (f i) (joined f (suc i) n) (f (i + suc n)))

  pub joined-more : (n : ℕ) → joined f 0 (n + 1) ≡ joined f 0 n ++ f n
  joined-more n = ap (joined f 0) (add-one n) ∙ (joined-next 0 n ∙ ap (λ (j : ℕ). joined f 0 n ++ f j) (zero-add n))

  -- the end of k parts is a bound
  pub joined_length : (ends : List ℕ) (n : ℕ) → Bounds (λ (i : ℕ). length (f i)) ends n → (k : ℕ) → k ≤ n → length (joined f 0 k) ≡ get_or ends k 0
  unfolding joined
  joined_length ends n b zero h = sym b.first
  joined_length ends n b (suc k) h =
      let e = joined_length ends n b k (omega arith) in
      let q : k + 1 ≡ suc k = add-one k in
      ap length (ap (joined f 0) (sym q) ∙ joined-more k) ∙ (length-append (joined f 0 k) (f k) ∙ (ap (λ (j : ℕ). j + length (f k)) e ∙ (sym (b.next k (omega arith)) ∙ ap (λ (j : ℕ). get_or ends j 0) q)))

  -- parts of one length
  pub joined-fixed : (size k : ℕ) → ((i : ℕ) → length (f i) ≡ size) → length (joined f 0 k) ≡ k * size
  unfolding joined
  joined-fixed size zero e = omega arith
  joined-fixed size (suc k) e =
      let h = joined-fixed size k e in
      let q : k + 1 ≡ suc k = add-one k in
      ap length (ap (joined f 0) (sym q) ∙ joined-more k) ∙ (length-append (joined f 0 k) (f k) ∙ (ap₂ (λ (a b : ℕ). a + b) h (e k) ∙ sym (suc-mul k size)))

  -- one part more is written
  pub one_written : (m m' m'' : List ℕ) (at k : ℕ) → length (joined f 0 k) ≡ at → at + length (f k) ≤ length m
      → m' ≡ splice m 0 (joined f 0 k) → m'' ≡ splice m' at (f k) → m'' ≡ splice m 0 (joined f 0 (k + 1))
  one_written m m' m'' at k l h e q =
      let z : at ≡ 0 + at = omega arith in
      splice-next m m' m'' 0 at (joined f 0 k) (f k) (omega arith) l e (q ∙ ap (λ (j : ℕ). splice m' j (f k)) z) ∙ ap (splice m 0) (sym (joined-more k))

pub joined_same : (f g : ℕ → List ℕ) (n i : ℕ) → ((j : ℕ) → i ≤ j → j < i + n → f j ≡ g j) → joined f i n ≡ joined g i n
unfolding joined
joined_same f g zero i e = refl
joined_same f g (suc n) i e =
    ap₂ (λ (x y : List ℕ). x ++ y) (e i (omega arith) (omega arith)) (joined_same f g n (suc i) (λ j h k. e j (omega arith) (omega arith)))

-- bounds grow
pub growing : (by : ℕ → ℕ) (ends : List ℕ) (n : ℕ) → Bounds by ends n → (m i : ℕ) → i + m ≤ n → get_or ends i 0 ≤ get_or ends (i + m) 0
growing by ends n b zero i h = rw add-zero (omega arith)
growing by ends n b (suc m) i h =
    let q : i + m + 1 ≡ i + suc m = omega arith in
    let e = growing by ends n b m i (omega arith) in
    let x = b.next (i + m) (omega arith) in
    rw (← q) (omega arith)

-- each part has room where all have
pub room : (by : ℕ → ℕ) (ends : List ℕ) (n i size : ℕ) → Bounds by ends n → i < n → get_or ends n 0 ≤ size → get_or ends i 0 + by i ≤ size
room by ends n i size b h r =
    let q : i + 1 + (n - (i + 1)) ≡ n = omega arith in
    let g : get_or ends (i + 1) 0 ≤ get_or ends n 0 = rw q at (growing by ends n b (n - (i + 1)) (i + 1) (omega arith)) in
    omega (arith, b.next i h)

-- one value more is stored
pub one-stored : (f : ℕ → ℕ) (l : List ℕ) (i x : ℕ) → i < length l → ((j : ℕ) → j < i → get_or l j 0 ≡ f j) → x ≡ f i → (j : ℕ) → j < i + 1 → get_or (set l i x) j 0 ≡ f j
one-stored f l i x h a e j k = go (ltb j i) refl where
  go : (b : Bool) → ltb j i ≡ b → get_or (set l i x) j 0 ≡ f j
  go true t = get_or-set_other l i j x 0 (λ q. omega (arith, ltb-true j i t)) ∙ a j (ltb-true j i t)
  go false t =
      let q : j ≡ i = omega (arith, ltb-false j i t) in
      ap (λ (m : ℕ). get_or (set l i x) m 0) q ∙ (get_or-set_same l i x 0 h ∙ (e ∙ ap f (sym q)))

-- ── forms and records ──

pub forms-joined : (d : ℕ → Definition) (i n : ℕ) → forms (tabulate d i n) ≡ joined (λ (j : ℕ). form (d j)) i n
unfolding forms tabulate joined
forms-joined d i zero = refl
forms-joined d i (suc n) = ap (λ (l : List ℕ). form (d i) ++ l) (forms-joined d (suc i) n)

pub record-length : (n s : ℕ) → length (record_of n s) ≡ record_size
record-length n s = length-append (le_bytes 4 n) (le_bytes 8 s) ∙ ap₂ (λ (a b : ℕ). a + b) (length-le_bytes 4 n) (length-le_bytes 8 s)

pub records-joined : (all : List Definition) (d : ℕ → Definition) (i n : ℕ)
    → records_of all (tabulate d i n) ≡ joined (λ (j : ℕ). record_of (length (form (d j))) (signature all (d j))) i n
unfolding records_of tabulate joined
records-joined all d i zero = refl
records-joined all d i (suc n) = ap (λ (l : List ℕ). record_of (length (form (d i))) (signature all (d i)) ++ l) (records-joined all d (suc i) n)

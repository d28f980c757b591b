-- Bytes that move up, the last one first.
use mathlib.Core.Path.{◌≡◌, refl, sym, ap, ap₂, ◌∙◌}
use mathlib.Core.List.{List, [], ◌∷◌, ◌++◌}
use Prim.Native.Nat.{ℕ, zero, suc, ◌+◌, ◌-◌, ◌≤◌, ◌<◌}
use native.Mathlib.Omega.{arith}
use lib.ListN.{length, take, drop, get_or, set, get_or-append}
use lib.Seq.{drop-cons, get_or-take, length-take-le}
use Rattle.bits.specs.Part.{span, splice}
use Rattle.bits.proofs.Splice.{length-span, splice-same}

-- a store to the last element before a part
set_last : (k : ℕ) (m : List ℕ) (r : List ℕ) (v : ℕ) → k < length m → set (take (suc k) m ++ r) k v ≡ take k m ++ (v ∷ r)
set_last zero [] r v h = absurd (omega arith)
set_last zero (x ∷ xs) r v h = refl
set_last (suc k) [] r v h = absurd (omega arith)
set_last (suc k) (x ∷ xs) r v h = ap (λ (l : List ℕ). x ∷ l) (set_last k xs r v (omega arith))

get-before : (a q : ℕ) (m r : List ℕ) → q < a → a ≤ length m → get_or (take a m ++ r) q 0 ≡ get_or m q 0
get-before a q m r h l =
    let n : length (take a m) ≡ a = length-take-le a m l in
    get_or-append (take a m) r 0 q (omega arith) ∙ get_or-take a m q 0 h

-- the part of n bytes from `at` on moved up by k, but for its first i
abbrev pub moved : List ℕ → ℕ → ℕ → ℕ → ℕ → List ℕ
moved m at k n i = splice m (at + k + i) (span m (at + i) (n - i))

module _ (m : List ℕ) (at k n : ℕ) (fits : at + k + n ≤ length m) where
  pub moved_none : moved m at k n n ≡ m
  moved_none =
      let z : n - n ≡ 0 = omega arith in
      ap (λ (x : ℕ). splice m (at + k + n) (span m (at + n) x)) z ∙ splice-same m (at + k + n) [] 0 refl refl

  -- one byte more
  module _ (i j : ℕ) (e : i ≡ suc j) (l : i ≤ n) where
    longer : span m (at + j) (n - j) ≡ get_or m (at + j) 0 ∷ span m (at + i) (n - i)
    longer =
        let a : n - j ≡ suc (n - i) = omega arith in
        let b : suc (at + j) ≡ at + i = omega arith in
        ap (λ (x : ℕ). take x (drop (at + j) m)) a ∙ ap (take (suc (n - i))) (drop-cons m (at + j) 0 (omega arith))
        ∙ ap (λ (x : ℕ). get_or m (at + j) 0 ∷ take (n - i) (drop x m)) b

    tail_at : (x : ℕ) → x ≤ n → drop (at + k + x + length (span m (at + x) (n - x))) m ≡ drop (at + k + n) m
    tail_at x h =
        let a : length (span m (at + x) (n - x)) ≡ n - x = length-span m (at + x) (n - x) (omega arith) in
        let b : at + k + x + length (span m (at + x) (n - x)) ≡ at + k + n = omega arith in
        ap (λ (y : ℕ). drop y m) b

    pub moved_more : 0 < k → set (moved m at k n i) (at + k + j) (get_or (moved m at k n i) (at + j) 0) ≡ moved m at k n j
    moved_more p =
        let r = span m (at + i) (n - i) ++ drop (at + k + i + length (span m (at + i) (n - i))) m in
        let s : at + k + i ≡ suc (at + k + j) = omega arith in
        ap (set (moved m at k n i) (at + k + j)) (get-before (at + k + i) (at + j) m r (omega arith) (omega arith))
        ∙ ap (λ (x : ℕ). set (take x m ++ r) (at + k + j) (get_or m (at + j) 0)) s ∙ set_last (at + k + j) m r (get_or m (at + j) 0) (omega arith)
        ∙ ap (λ (x : List ℕ). take (at + k + j) m ++ (get_or m (at + j) 0 ∷ (span m (at + i) (n - i) ++ x))) (tail_at i l ∙ sym (tail_at j (omega arith)))
        ∙ ap (λ (x : List ℕ). take (at + k + j) m ++ (x ++ drop (at + k + j + length (span m (at + j) (n - j))) m)) (sym longer)

  pub moved_all : (i : ℕ) → i ≡ 0 → moved m at k n i ≡ splice m (at + k) (span m at n)
  moved_all i e =
      let a : at + k + i ≡ at + k = omega arith in
      let b : at + i ≡ at = omega arith in
      let d : n - i ≡ n = omega arith in
      ap (λ (x : ℕ). splice m x (span m (at + i) (n - i))) a ∙ ap₂ (λ (x y : ℕ). splice m (at + k) (span m x y)) b d

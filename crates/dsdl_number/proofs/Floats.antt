-- Laws of the parts of a floating literal.
use mathlib.Core.Path.{◌≡◌, refl, sym, ap, ◌∙◌}
use mathlib.Core.Bool.{Bool, true, false, cond, ◌&&◌, ◌||◌}
use mathlib.Core.List.{List}
use Prim.Native.Nat.{ℕ, ◌+◌, ◌-◌, ◌≤◌, ◌<◌}
use native.Mathlib.Omega.{arith}
use borrow.Author.Tests.{eq-eqb, ne_eqb, lt-ltb}
use lib.Dec.{ltb, eqb}
use lib.ListN.{length, get_or, take, drop, length-drop}
use lib.Seq.{length-take-le, drop-drop}
use Rattle.dsdl_text.specs.declared.class.Class.TheVariants.{Decimal}
use Rattle.dsdl_text.specs.Class.{run}
use Rattle.dsdl_text.proofs.Parts.{rest}
use Rattle.dsdl_text.proofs.Runs.{short}
use Rattle.dsdl_number.specs.Number.{fraction, is_exponent, is_floating}

-- ── a fraction ──

pub digits : (s : List ℕ) (r : ℕ) → (length s ≡ 0 → ⊥) → get_or s 0 0 ≡ 46 → r ≡ run Decimal (take (length s - 1) (drop 1 s))
    → (r ≡ length (fraction s)) × (0 < r → 1 + r ≤ length s)
digits s r h e q =
    let z : r ≡ run Decimal (drop 1 s) = q ∙ ap (run Decimal) (rest 1 s) in
    let l = short Decimal (drop 1 s) in
    let d = length-drop 1 s in
    (rw (eq-eqb (get_or s 0 0) 46 e) (z ∙ sym (length-take-le (run Decimal (drop 1 s)) (drop 1 s) l)), λ p. omega arith)

-- ── the whole literal: n digits, f digits of a fraction in what follows them, and that ──

abbrev floating_by : ℕ → ℕ → List ℕ → Bool
floating_by n f t =
    ltb 0 n && ((ltb 0 f && eqb (length (cond (ltb 0 f) (drop (1 + f) t) t)) 0) || is_exponent (cond (ltb 0 f) (drop (1 + f) t) t))

by_parts : (s t : List ℕ) (i f : ℕ) → i ≡ run Decimal s → t ≡ drop i s → f ≡ length (fraction t) → floating_by i f t ≡ is_floating s
unfolding is_floating
by_parts s t i f ei et ef =
    let t' : t ≡ drop (run Decimal s) s = et ∙ ap (λ (k : ℕ). drop k s) ei in
    let f' : f ≡ length (fraction (drop (run Decimal s) s)) = ef ∙ ap (λ (u : List ℕ). length (fraction u)) t' in
    ap (λ (n : ℕ). floating_by n f t) ei ∙ (ap (λ (n : ℕ). floating_by (run Decimal s) n t) f'
    ∙ ap (λ (u : List ℕ). floating_by (run Decimal s) (length (fraction (drop (run Decimal s) s))) u) t')

pub no_number : (s : List ℕ) (i : ℕ) → i ≡ run Decimal s → i ≡ 0 → false ≡ is_floating s
no_number s i ei z =
    let q : floating_by i (length (fraction (drop i s))) (drop i s) ≡ is_floating s = by_parts s (drop i s) i (length (fraction (drop i s))) ei refl refl in
    ap (λ (n : ℕ). floating_by n (length (fraction (drop i s))) (drop i s)) (sym z) ∙ q

module _ (s : List ℕ) (i f : ℕ) (ei : i ≡ run Decimal s) (hi : i ≡ 0 → ⊥) (ef : f ≡ length (fraction (take (length s - i) (drop i s)))) where
  parts : floating_by i f (drop i s) ≡ is_floating s
  parts = by_parts s (drop i s) i f ei refl (ef ∙ ap (λ (u : List ℕ). length (fraction u)) (rest i s))

  pub exponent-only : (r : Bool) → f ≡ 0 → r ≡ is_exponent (take (length s - i) (drop i s)) → r ≡ is_floating s
  exponent-only r z q = go ∙ (ap (λ (n : ℕ). floating_by i n (drop i s)) (sym z) ∙ parts) where
    go : r ≡ floating_by i 0 (drop i s)
    go = rw (lt-ltb 0 i (omega arith)) (q ∙ ap is_exponent (rest i s))

  module _ (hf : f ≡ 0 → ⊥) where
    pub fraction-only : i + 1 + f ≡ length s → true ≡ is_floating s
    fraction-only e = go ∙ parts where
      empty : length (drop (1 + f) (drop i s)) ≡ 0
      empty = omega (arith, length-drop (1 + f) (drop i s), length-drop i s)

      go : true ≡ floating_by i f (drop i s)
      go = rw (lt-ltb 0 i (omega arith), lt-ltb 0 f (omega arith), eq-eqb (length (drop (1 + f) (drop i s))) 0 empty)

    pub both : (r : Bool) → i + 1 + f ≤ length s → (i + 1 + f ≡ length s → ⊥) → r ≡ is_exponent (take (length s - (i + 1 + f)) (drop (i + 1 + f) s)) → r ≡ is_floating s
    both r h e q = go ∙ parts where
      more : length (drop (1 + f) (drop i s)) ≡ 0 → ⊥
      more z = e (omega (arith, length-drop (1 + f) (drop i s), length-drop i s))

      place : i + 1 + f ≡ i + (1 + f)
      place = omega arith

      same : drop (i + 1 + f) s ≡ drop (1 + f) (drop i s)
      same = ap (λ (k : ℕ). drop k s) place ∙ sym (drop-drop (1 + f) i s)

      go : r ≡ floating_by i f (drop i s)
      go =
          rw (lt-ltb 0 i (omega arith), lt-ltb 0 f (omega arith), ne_eqb (length (drop (1 + f) (drop i s))) 0 more)
          (q ∙ ap is_exponent (rest (i + 1 + f) s ∙ same))

-- a point and the fraction end in the text
pub room : (s : List ℕ) (i f : ℕ) → (f ≡ 0 → ⊥) → (0 < f → 1 + f ≤ length (take (length s - i) (drop i s))) → i + 1 + f ≤ length s
room s i f h b = omega (arith, b (omega arith), ap length (rest i s), length-drop i s)

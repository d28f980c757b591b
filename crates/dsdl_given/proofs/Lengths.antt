-- Laws of `too_long`, as a loop over pairs of lengths uses them; how many definitions lengths give.
use mathlib.Core.Path.{◌≡◌, refl, sym, ap, ◌∙◌}
use mathlib.Core.Bool.{Bool, true, false}
use mathlib.Core.List.{List, ◌∷◌}
use Prim.Native.Nat.{ℕ, zero, suc, ◌+◌, ◌*◌, ◌-◌, ◌≤◌, ◌<◌}
use native.Mathlib.Nat.{sub-zero}
use native.Mathlib.Omega.{arith}
use borrow.Author.Tests.{ltb-true, ltb-false, lt-ltb, le-ltb}
use lib.Dec.{ltb}
use lib.ListN.{length, drop}
use Rattle.bits.specs.Tabulate.{tabulate}
use Rattle.dsdl_given.specs.Given.{definitions, too_long}
use Rattle.dsdl.specs.Definition.{text_max}
use Rattle.dsdl_given.proofs.Turns.{tab-turn, tab-end}

module _ (f : ℕ → ℕ) (k n : ℕ) (inside : k + 1 < n) where
  pub pair : tabulate f k (n - k) ≡ f k ∷ (f (k + 1) ∷ tabulate f (k + 2) (n - (k + 2)))
  pair =
      let s : k + 1 + 1 ≡ k + 2 = omega arith in
      tab-turn f k n (omega arith) ∙ ap (λ (l : List ℕ). f k ∷ l) (tab-turn f (k + 1) n inside ∙ ap (λ (j : ℕ). f (k + 1) ∷ tabulate f j (n - j)) s)

  module _ (left x y : ℕ) (ex : x ≡ f k) (ey : y ≡ f (k + 1)) where
    pub long-text : text_max < y → true ≡ too_long left (tabulate f k (n - k))
    unfolding too_long
    long-text h = let t = lt-ltb text_max (f (k + 1)) (omega arith) in rw (pair, t)

    pub past : y ≤ text_max → left < x + y → true ≡ too_long left (tabulate f k (n - k))
    unfolding too_long
    past h l =
        let t = le-ltb text_max (f (k + 1)) (omega arith) in
        let p = lt-ltb left (f k + f (k + 1)) (omega arith) in
        rw (pair, t, p)

    pub goes_on : y ≤ text_max → x + y ≤ left → too_long left (tabulate f k (n - k)) ≡ too_long (left - (x + y)) (tabulate f (k + 2) (n - (k + 2)))
    unfolding too_long
    goes_on h l =
        let t = le-ltb text_max (f (k + 1)) (omega arith) in
        let p = le-ltb left (f k + f (k + 1)) (omega arith) in
        rw (pair, t, p, ex, ey)

-- if nothing is too long, a text is not and both lengths are inside
pub record Reaches (left x y : ℕ) (more : ℕ → Bool) : Type 0 where
  pub short : y ≤ text_max
  pub inside : x + y ≤ left
  pub rest : more (left - (x + y)) ≡ false

pub reaches : (f : ℕ → ℕ) (k n left : ℕ) → k + 1 < n → too_long left (tabulate f k (n - k)) ≡ false
    → Reaches left (f k) (f (k + 1)) (λ (l : ℕ). too_long l (tabulate f (k + 2) (n - (k + 2))))
reaches f k n left h e = go (ltb text_max (f (k + 1))) refl (ltb left (f k + f (k + 1))) refl where
  go : (a : Bool) → ltb text_max (f (k + 1)) ≡ a → (b : Bool) → ltb left (f k + f (k + 1)) ≡ b
      → Reaches left (f k) (f (k + 1)) (λ (l : ℕ). too_long l (tabulate f (k + 2) (n - (k + 2))))
  go true p b q = let t = long-text f k n h left (f k) (f (k + 1)) refl refl (ltb-true text_max (f (k + 1)) p) ∙ e in cc
  go false p true q = let t = past f k n h left (f k) (f (k + 1)) refl refl (ltb-false text_max (f (k + 1)) p) (ltb-true left (f k + f (k + 1)) q) ∙ e in cc
  go false p false q =
      let s = ltb-false text_max (f (k + 1)) p in
      let t = ltb-false left (f k + f (k + 1)) q in
      record { short = s; inside = t; rest = sym (goes_on f k n h left (f k) (f (k + 1)) refl refl s t) ∙ e }

pub no_more : (f : ℕ → ℕ) (k n left : ℕ) → n ≤ k → false ≡ too_long left (tabulate f k (n - k))
unfolding too_long
no_more f k n left h = rw (tab-end f k n h)

-- how many definitions there are
counted-from : (f : ℕ → ℕ) (n m i : ℕ) (source : List ℕ) → i + m ≡ n → length (definitions source (tabulate f (i * 2) (n * 2 - i * 2))) ≡ m
unfolding definitions
counted-from f n zero i source e = rw (tab-end f (i * 2) (n * 2) (omega arith))
counted-from f n (suc m) i source e =
    let k : i * 2 + 2 ≡ (i + 1) * 2 = omega arith in
    let s = drop (f (i * 2) + f (i * 2 + 1)) source in
    ap (λ (l : List ℕ). length (definitions source l)) (pair f (i * 2) (n * 2) (omega arith))
    ∙ ap suc (ap (λ (j : ℕ). length (definitions s (tabulate f j (n * 2 - j)))) k ∙ counted-from f n m (i + 1) s (omega arith))

pub counted : (f : ℕ → ℕ) (n : ℕ) (source : List ℕ) → length (definitions source (tabulate f 0 (n * 2))) ≡ n
counted f n source =
    ap (λ (j : ℕ). length (definitions source (tabulate f 0 j))) (sym (sub-zero (n * 2))) ∙ counted-from f n n 0 source (omega arith)

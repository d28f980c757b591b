-- Blocks claimed one after the other.
use mathlib.Core.Path.{◌≡◌, refl, sym, ap, ap₂, ◌∙◌}
use mathlib.Core.Bool.{Bool, true, false, not}
use mathlib.Core.List.{List, [], ◌∷◌, ◌++◌, append_assoc, append-nil}
use mathlib.Core.Option.{Option, none, some}
use mathlib.Mathlib.Data.Bool.Basic.{and_elim_left}
use Prim.Native.Nat.{ℕ, zero, suc, ◌+◌, ◌-◌, ◌≤◌, ◌<◌}
use native.Mathlib.Nat.{zero-add}
use native.Mathlib.Omega.{arith}
use borrow.Author.Tests.{ltb-true}
use lib.Dec.{ltb, eqb}
use lib.ListN.{length, get_or, take, drop}
use lib.Seq.{take-suc}
use Rattle.std.proofs.lemmas.List.{take-append-drop}
use Rattle.bits.proofs.Tabulate.{tab-append, tab-snoc}
use Rattle.bits.specs.Tabulate.{tabulate}
use Rattle.blocks.specs.inside.Bit.{bit_at, including}
use Rattle.rules.specs.Blocks.{blocks_in, used}
use Rattle.rules.specs.Limits.{blocks_max}
use Rattle.rules.specs.Table.{Place, Places}
use Rattle.rules.specs.Tests.{pick}
use Rattle.std.specs.Prelude.{None, Some}
use Rattle.sessions.specs.inside.Blocks.{new_to}
use Rattle.sessions.specs.inside.Sound.{claimed, told}

pub claim-none : (r : ℕ) → claimed r [] ≡ some r
unfolding claimed
claim-none r = refl

pub new-small : (all b : ℕ) → new_to all b ≡ true → b < blocks_max
unfolding new_to
new-small all b e = ltb-true b blocks_max (and_elim_left (ltb b blocks_max) (not (eqb (bit_at b all) 1)) e)

-- one after the other
pub both : (xs ys : List ℕ) (r s : ℕ) → claimed r xs ≡ some s → claimed r (xs ++ ys) ≡ claimed s ys
unfolding claimed
both [] ys r s e = let z : r ≡ s = cc in ap (λ (x : ℕ). claimed x ys) z
both (b ∷ xs) ys r s e = go (new_to r b) e (λ k. both xs ys (including r b) s k)
  where
    go : (t : Bool) → pick t (claimed (including r b) xs) none ≡ some s → (claimed (including r b) xs ≡ some s → claimed (including r b) (xs ++ ys) ≡ claimed s ys)
        → pick t (claimed (including r b) (xs ++ ys)) none ≡ claimed s ys
    go true k later = later k
    go false k later = let z : ◌≡◌ {A = ℕ} 0 1 = cc in absurd (omega arith)

pub fails : (xs ys : List ℕ) (r : ℕ) → claimed r xs ≡ none → claimed r (xs ++ ys) ≡ none
unfolding claimed
fails [] ys r e = let z : ◌≡◌ {A = ℕ} 0 1 = cc in absurd (omega arith)
fails (b ∷ xs) ys r e = go (new_to r b) e (λ k. fails xs ys (including r b) k)
  where
    go : (t : Bool) → pick t (claimed (including r b) xs) none ≡ none → (claimed (including r b) xs ≡ none → claimed (including r b) (xs ++ ys) ≡ none)
        → pick t (claimed (including r b) (xs ++ ys)) none ≡ none
    go true k later = later k
    go false k later = refl

single-new : (s b : ℕ) → new_to s b ≡ true → claimed s (b ∷ []) ≡ some (including s b)
unfolding claimed
single-new s b e = rw e

single-old : (s b : ℕ) → new_to s b ≡ false → claimed s (b ∷ []) ≡ none
unfolding claimed
single-old s b e = rw e

-- the first of those listed, and one more
module _ (bs : List ℕ) (j r s : ℕ) (h : j < length bs) (e : claimed r (take j bs) ≡ some s) where
  front : take (j + 1) bs ≡ take j bs ++ (get_or bs j 0 ∷ [])
  front = let k : j + 1 ≡ suc j = omega arith in ap (λ (i : ℕ). take i bs) k ∙ take-suc bs j 0 h

  pub claim-more : (x : ℕ) → new_to s (get_or bs j 0) ≡ true → x ≡ including s (get_or bs j 0) → claimed r (take (j + 1) bs) ≡ some x
  claim-more x n q =
      ap (claimed r) front ∙ both (take j bs) (get_or bs j 0 ∷ []) r s e ∙ single-new s (get_or bs j 0) n ∙ ap (λ (y : ℕ). some y) (sym q)

  pub claim-fault : new_to s (get_or bs j 0) ≡ false → None ≡ told (claimed r bs)
  claim-fault f =
      let o : claimed r (take (j + 1) bs) ≡ none =
      ap (claimed r) front ∙ both (take j bs) (get_or bs j 0 ∷ []) r s e ∙ single-old s (get_or bs j 0) f in
      sym (ap told (ap (claimed r) (sym (take-append-drop (j + 1) bs)) ∙ fails (take (j + 1) bs) (drop (j + 1) bs) r o))

-- ── place by place ──

used-append : (ps qs : Places) → used (ps ++ qs) ≡ used ps ++ used qs
unfolding used
used-append [] qs = refl
used-append (p ∷ ps) qs = ap (λ (l : List ℕ). blocks_in p ++ l) (used-append ps qs) ∙ sym (append_assoc (blocks_in p) (used ps) (used qs))

used-one : (p : Place) → used (p ∷ []) ≡ blocks_in p
unfolding used
used-one p = append-nil (blocks_in p)

module _ (f : ℕ → Place) (r : ℕ) where
  used-more : (i : ℕ) → used (tabulate f 0 (i + 1)) ≡ used (tabulate f 0 i) ++ blocks_in (f i)
  used-more i =
      let e : i + 1 ≡ suc i = omega arith in
      ap (λ (k : ℕ). used (tabulate f 0 k)) e ∙ ap used (tab-snoc f 0 i) ∙ used-append (tabulate f 0 i) (f (0 + i) ∷ [])
      ∙ ap (λ (l : List ℕ). used (tabulate f 0 i) ++ l) (used-one (f (0 + i)) ∙ ap (λ (k : ℕ). blocks_in (f k)) (zero-add i))

  pub seen_none : claimed r (used (tabulate f 0 0)) ≡ some r
  unfolding tabulate used claimed
  seen_none = refl

  pub seen_more : (i s x : ℕ) → claimed r (used (tabulate f 0 i)) ≡ some s → claimed s (blocks_in (f i)) ≡ some x → claimed r (used (tabulate f 0 (i + 1))) ≡ some x
  seen_more i s x e k = ap (claimed r) (used-more i) ∙ both (used (tabulate f 0 i)) (blocks_in (f i)) r s e ∙ k

  pub seen-fault : (n i s : ℕ) → i < n → claimed r (used (tabulate f 0 i)) ≡ some s → claimed s (blocks_in (f i)) ≡ none → claimed r (used (tabulate f 0 n)) ≡ none
  seen-fault n i s h e k =
      let z : n ≡ (i + 1) + (n - (i + 1)) = omega arith in
      ap (λ (x : ℕ). claimed r (used (tabulate f 0 x))) z ∙ ap (λ (l : Places). claimed r (used l)) (tab-append f 0 (i + 1) (n - (i + 1)))
      ∙ ap (claimed r) (used-append (tabulate f 0 (i + 1)) (tabulate f (0 + (i + 1)) (n - (i + 1))))
      ∙ fails (used (tabulate f 0 (i + 1))) (used (tabulate f (0 + (i + 1)) (n - (i + 1)))) r
      (ap (claimed r) (used-more i) ∙ both (used (tabulate f 0 i)) (blocks_in (f i)) r s e ∙ k)

  -- those from i on have none
  none-used : (n i : ℕ) → ((j : ℕ) → i ≤ j → j < i + n → blocks_in (f j) ≡ []) → used (tabulate f i n) ≡ []
  unfolding tabulate used
  none-used zero i h = refl
  none-used (suc n) i h = ap₂ (λ (x y : List ℕ). x ++ y) (h i (omega arith) (omega arith)) (none-used n (suc i) (λ j a b. h j (omega arith) (omega arith)))

  pub seen_end : (n i s : ℕ) → i ≤ n → ((j : ℕ) → i ≤ j → j < n → blocks_in (f j) ≡ []) → claimed r (used (tabulate f 0 i)) ≡ some s → claimed r (used (tabulate f 0 n)) ≡ some s
  seen_end n i s h k e =
      let z : n ≡ i + (n - i) = omega arith in
      ap (λ (x : ℕ). claimed r (used (tabulate f 0 x))) z ∙ ap (λ (l : Places). claimed r (used l)) (tab-append f 0 i (n - i))
      ∙ ap (claimed r) (used-append (tabulate f 0 i) (tabulate f (0 + i) (n - i)) ∙ ap (λ (l : List ℕ). used (tabulate f 0 i) ++ l) (none-used (n - i) (0 + i) (λ j a b. k j (omega arith) (omega arith))) ∙ append-nil (used (tabulate f 0 i)))
      ∙ e

-- ── as the code tells it ──

pub told-fault : (o : Option ℕ) → None ≡ told o → o ≡ none
told-fault none e = refl
told-fault (some x) e = let z : ◌≡◌ {A = ℕ} 0 1 = cc in absurd (omega arith)

pub told_blocks : (o : Option ℕ) (x : ℕ) → Some x ≡ told o → o ≡ some x
told_blocks none x e = let z : ◌≡◌ {A = ℕ} 0 1 = cc in absurd (omega arith)
told_blocks (some y) x e = cc

-- How many blocks are free and how many are used: together all of them.
use mathlib.Core.Path.{◌≡◌, refl, ap}
use mathlib.Core.Bool.{Bool, true, false, ◌&&◌}
use mathlib.Core.List.{List, [], ◌∷◌}
use mathlib.Core.Option.{none, some}
use mathlib.Mathlib.Data.Bool.Basic.{and_elim_left, and_elim_right}
use Prim.Native.Nat.{ℕ, zero, suc, ◌+◌, ◌≤◌, ◌<◌}
use native.Mathlib.Omega.{arith}
use lib.Dec.{eqb, ltb}
use lib.ListN.{length, length-append}
use borrow.Author.Tests.{eqb-true, eqb-false, ne_eqb, ltb-true}
use Rattle.rules.specs.BlockBounds.{bytes_in, total}
use Rattle.rules.specs.BlockLaws.{absent, free}
use Rattle.rules.specs.Blocks.{need, blocks_in, used, times, lowest, free_block}
use Rattle.rules.specs.Sound.{stream_fits, session_fits, place_fits, places_fit, blocks_fit}
use Rattle.rules.specs.Table.{Place, empty, held, Places}
use Rattle.rules.specs.Tests.{pick}
use Rattle.rules.proofs.Shares.{times-here, Shared, shared-fit}

-- ── numbers of a range in a list ──

-- how often the n numbers from b on are in a list, taken together
unfoldable count : ℕ → ℕ → List ℕ → ℕ
count zero b l = 0
count (suc n) b l = times b l + count n (suc b) l

count-nil : (n b : ℕ) → count n b [] ≡ 0
unfolding count times
count-nil zero b = refl
count-nil (suc n) b = omega (arith, count-nil n (suc b))

times-other : (b c : ℕ) (l : List ℕ) → (b ≡ c → ⊥) → times b (c ∷ l) ≡ times b l
unfolding times
times-other b c l n = rw (ne_eqb b c n)

count-below : (n b c : ℕ) (l : List ℕ) → c < b → count n b (c ∷ l) ≡ count n b l
unfolding count
count-below zero b c l h = refl
count-below (suc n) b c l h = omega (arith, times-other b c l (λ e. omega (arith, e, h)), count-below n (suc b) c l (omega (arith, h)))

count-in : (n b c : ℕ) (l : List ℕ) → b ≤ c → c < n + b → count n b (c ∷ l) ≡ suc (count n b l)
unfolding count
count-in zero b c l h k = absurd (omega (arith, h, k))
count-in (suc n) b c l h k = go (eqb b c) refl (λ g. count-in n (suc b) c l g (omega (arith, k)))
  where
    go : (x : Bool) → eqb b c ≡ x → (suc b ≤ c → count n (suc b) (c ∷ l) ≡ suc (count n (suc b) l)) → count (suc n) b (c ∷ l) ≡ suc (count (suc n) b l)
    go true e on =
        let z = eqb-true b c e in
        omega (arith, ap (λ x. times b (x ∷ l)) z, times-here b l, count-below n (suc b) c l (omega (arith, z)))
    go false e on =
        let z = eqb-false b c e in
        omega (arith, times-other b c l z, on (omega (arith, h, z)))

-- all of a list
count-all : (l : List ℕ) → blocks_fit l ≡ true → count 64 0 l ≡ length l
count-all [] h = count-nil 64 0
count-all (c ∷ l) h =
    omega (
      arith,
      count-in 64 0 c l (omega arith) (omega (arith, ltb-true c 64 (and_elim_left _ _ (and_elim_left (ltb c 64 && eqb (times c l) 0) _ h)))),
      count-all l (and_elim_right (ltb c 64 && eqb (times c l) 0) _ h),
    )

absent-count : (n b : ℕ) (l : List ℕ) → ((c : ℕ) → times c l ≤ 1) → absent n b l + count n b l ≡ n
unfolding absent count
absent-count zero b l h = refl
absent-count (suc n) b l h = go (eqb (times b l) 0) refl (absent-count n (suc b) l h)
  where
    go : (x : Bool) → eqb (times b l) 0 ≡ x → absent n (suc b) l + count n (suc b) l ≡ n
        → pick x (suc (absent n (suc b) l)) (absent n (suc b) l) + (times b l + count n (suc b) l) ≡ suc n
    go true e on = omega (arith, eqb-true (times b l) 0 e, on)
    go false e on = omega (arith, eqb-false (times b l) 0 e, h b, on)

pub free-used : (ps : Places) → Shared (used ps) → free ps + length (used ps) ≡ 64
free-used ps h = omega (arith, absent-count 64 0 (used ps) h.once, count-all (used ps) (shared-fit (used ps) h))

-- ── none is free ──

lowest-absent : (n b : ℕ) (l : List ℕ) → lowest n b l ≡ none → absent n b l ≡ 0
unfolding lowest absent
lowest-absent zero b l e = refl
lowest-absent (suc n) b l e = go (eqb (times b l) 0) e (λ k. lowest-absent n (suc b) l k)
  where
    go : (x : Bool) → pick x (some b) (lowest n (suc b) l) ≡ none → (lowest n (suc b) l ≡ none → absent n (suc b) l ≡ 0)
        → pick x (suc (absent n (suc b) l)) (absent n (suc b) l) ≡ 0
    go true k on = let z : ◌≡◌ {A = ℕ} 0 1 = cc in absurd (omega arith)
    go false k on = on k

absent-some : (n b : ℕ) (l : List ℕ) (c : ℕ) → lowest n b l ≡ some c → 0 < absent n b l
unfolding lowest absent
absent-some zero b l c e = let z : ◌≡◌ {A = ℕ} 0 1 = cc in absurd (omega arith)
absent-some (suc n) b l c e = go (eqb (times b l) 0) e (λ k. absent-some n (suc b) l c k)
  where
    go : (x : Bool) → pick x (some b) (lowest n (suc b) l) ≡ some c → (lowest n (suc b) l ≡ some c → 0 < absent n (suc b) l)
        → 0 < pick x (suc (absent n (suc b) l)) (absent n (suc b) l)
    go true k on = omega arith
    go false k on = on k

pub all-used : (ps : Places) → Shared (used ps) → free_block ps ≡ none → length (used ps) ≡ 64
unfolding free_block
all-used ps h e = omega (arith, free-used ps h, lowest-absent 64 0 (used ps) e)

pub some-free : (ps : Places) (b : ℕ) → Shared (used ps) → free_block ps ≡ some b → length (used ps) < 64
unfolding free_block
some-free ps b h e = omega (arith, free-used ps h, absent-some 64 0 (used ps) b e)

-- ── what the table needs ──

pub many-used : (ps : Places) → places_fit ps ≡ true → length (used ps) ≡ total (λ p. need (bytes_in p)) ps
unfolding used total
many-used [] h = refl
many-used (p ∷ ps) h =
    omega (arith, length-append (blocks_in p) (used ps), here p (and_elim_left _ _ h), many-used ps (and_elim_right (place_fits p) _ h))
  where
    here : (p : Place) → place_fits p ≡ true → length (blocks_in p) ≡ need (bytes_in p)
    here empty k = refl
    here (held d s bs) k = eqb-true (length bs) (need (length s.gathered)) (and_elim_right (session_fits s) _ (and_elim_right (stream_fits d) _ k))

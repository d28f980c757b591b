-- The free blocks as a set: blocks given back, one taken, and the lowest.
use mathlib.Core.Path.{◌≡◌, refl, sym, ap, ap₂, ◌∙◌}
use mathlib.Core.Bool.{Bool, true, false}
use mathlib.Core.List.{List, [], ◌∷◌, ◌++◌}
use mathlib.Core.Option.{none, some}
use Prim.Native.Nat.{ℕ, zero, suc, ◌+◌, ◌^◌, ◌≤◌, ◌<◌}
use native.Mathlib.Nat.{zero-add}
use native.Mathlib.Omega.{arith}
use borrow.Author.Tests.{eqb-true, eqb-false, eq-eqb, ne_eqb, ltb-true, ltb-false, lt-ltb, le-ltb}
use lib.Count.{count_trailing_zeros}
use lib.Dec.{eqb, ltb}
use lib.ListN.{length, get_or, set}
use Rattle.blocks.proofs.Bits.{including-lt, including-same, including-other, excluding-lt, excluding-same, excluding-other, bits-same, set-lt, bit-set, lowest-first, lowest-later}
use Rattle.blocks.specs.Set.{digit, set_of}
use Rattle.blocks.specs.inside.Bit.{bit_at, including, including_all, excluding}
use Rattle.rules.proofs.Shares.{times-append, used-set}
use Rattle.rules.specs.Blocks.{blocks_in, used, times, lowest, free_block}
use Rattle.rules.specs.Limits.{blocks_max}
use Rattle.rules.specs.Table.{Place, empty, Places}
use Rattle.rules.specs.Tests.{pick}
use Rattle.state.specs.Place.{free_set}
use Rattle.state.specs.inside.Ready.{Small}

pub free-lt : (ps : Places) → free_set ps < 2 ^ blocks_max
unfolding free_set
free-lt ps = set-lt (λ b. eqb (times b (used ps)) 0) blocks_max 0

free-bit : (ps : Places) (c : ℕ) → c < blocks_max → bit_at c (free_set ps) ≡ digit (eqb (times c (used ps)) 0)
unfolding free_set
free-bit ps c h =
    bit-set (λ b. eqb (times b (used ps)) 0) blocks_max 0 c h ∙ ap (λ (x : ℕ). digit (eqb (times x (used ps)) 0)) (zero-add c)

free-is : (ps : Places) (n : ℕ) → n < 2 ^ blocks_max → ((c : ℕ) → c < blocks_max → bit_at c n ≡ digit (eqb (times c (used ps)) 0)) → n ≡ free_set ps
free-is ps n h e = bits-same blocks_max n (free_set ps) h (free-lt ps) (λ c l. e c l ∙ sym (free-bit ps c l))

-- ── given back ──

pub times_none : (c : ℕ) → times c [] ≡ 0
unfolding times
times_none c = refl

single : (c b : ℕ) (t : Bool) → eqb c b ≡ t → times c (b ∷ []) ≡ digit t
unfolding times
single c b true e = rw e
single c b false e = rw e

given-bit : (bs : List ℕ) (n c : ℕ) → bit_at c (including_all n bs) ≡ pick (eqb (times c bs) 0) (bit_at c n) 1
unfolding including_all times
given-bit [] n c = refl
given-bit (b ∷ bs) n c = given-bit bs (including n b) c ∙ go (eqb c b) refl
  where
    one : bit_at c (including n b) ≡ 1 → (u : Bool) → pick u (bit_at c (including n b)) 1 ≡ 1
    one e true = e
    one e false = refl

    go : (t : Bool) → eqb c b ≡ t → pick (eqb (times c bs) 0) (bit_at c (including n b)) 1 ≡ pick (eqb (pick t (suc (times c bs)) (times c bs)) 0) (bit_at c n) 1
    go true e =
        let z : eqb (suc (times c bs)) 0 ≡ false = ne_eqb (suc (times c bs)) 0 (λ q. omega (arith, q)) in
        one (ap (λ (x : ℕ). bit_at x (including n b)) (eqb-true c b e) ∙ including-same b n) (eqb (times c bs) 0) ∙ ap (λ (x : Bool). pick x (bit_at c n) 1) (sym z)
    go false e = ap (λ (x : ℕ). pick (eqb (times c bs) 0) x 1) (including-other b c n (eqb-false c b e))

given-lt : (bs : List ℕ) (n : ℕ) → Small bs → n < 2 ^ blocks_max → including_all n bs < 2 ^ blocks_max
unfolding including_all
given-lt [] n s h = h
given-lt (b ∷ bs) n s h = given-lt bs (including n b) s.1 (including-lt b blocks_max n s.0 h)

-- place i gives all its blocks back
pub free-given : (ps : Places) (i : ℕ) (q : Place) → i < length ps → ((b : ℕ) → times b (used ps) ≤ 1) → Small (blocks_in (get_or ps i empty)) → blocks_in q ≡ []
    → including_all (free_set ps) (blocks_in (get_or ps i empty)) ≡ free_set (set ps i q)
free-given ps i q h o s e =
    free-is (set ps i q) (including_all (free_set ps) bs) (given-lt bs (free_set ps) s (free-lt ps))
    (λ c l. given-bit bs (free_set ps) c ∙ ap (λ (x : ℕ). pick (eqb (times c bs) 0) x 1) (free-bit ps c l) ∙ go c (eqb (times c bs) 0) refl)
  where
    bs : List ℕ
    bs = blocks_in (get_or ps i empty)

    counts : (c : ℕ) → times c (used (set ps i q)) + times c bs ≡ times c (used ps)
    counts c = used-set ps i q c h ∙ count_none
      where
        none_in : (l : List ℕ) → l ≡ [] → times c l ≡ 0
        none_in l z = ap (times c) z ∙ times_none c

        count_none : times c (used ps) + times c (blocks_in q) ≡ times c (used ps)
        count_none = omega (arith, none_in (blocks_in q) e)

    go : (c : ℕ) (t : Bool) → eqb (times c bs) 0 ≡ t → pick t (digit (eqb (times c (used ps)) 0)) 1 ≡ digit (eqb (times c (used (set ps i q))) 0)
    go c true z =
        let k : times c (used ps) ≡ times c (used (set ps i q)) = omega (arith, counts c, eqb-true (times c bs) 0 z) in
        ap (λ (x : ℕ). digit (eqb x 0)) k
    go c false z =
        let k : times c (used (set ps i q)) ≡ 0 = omega (arith, counts c, eqb-false (times c bs) 0 z, o c) in
        sym (ap digit (eq-eqb (times c (used (set ps i q))) 0 k))

-- place i keeps what it has
pub free-kept : (ps : Places) (i : ℕ) (q : Place) → i < length ps → blocks_in q ≡ blocks_in (get_or ps i empty) → free_set ps ≡ free_set (set ps i q)
free-kept ps i q h e =
    free-is (set ps i q) (free_set ps) (free-lt ps)
    (λ c l. free-bit ps c l ∙ ap (λ (x : ℕ). digit (eqb x 0)) (counts c))
  where
    counts : (c : ℕ) → times c (used ps) ≡ times c (used (set ps i q))
    counts c = omega (arith, used-set ps i q c h, ap (times c) e)

-- place i takes one more
pub free-taken : (ps : Places) (i b : ℕ) (q : Place) → i < length ps → times b (used ps) ≡ 0 → blocks_in q ≡ blocks_in (get_or ps i empty) ++ (b ∷ [])
    → excluding (free_set ps) b ≡ free_set (set ps i q)
free-taken ps i b q h f e =
    free-is (set ps i q) (excluding (free_set ps) b) (excluding-lt b blocks_max (free_set ps) (free-lt ps)) (λ c l. go c l (eqb c b) refl)
  where
    counts : (c : ℕ) (t : Bool) → eqb c b ≡ t → times c (used (set ps i q)) ≡ times c (used ps) + digit t
    counts c t k =
        omega (
          arith,
          used-set ps i q c h,
          ap (times c) e,
          times-append c (blocks_in (get_or ps i empty)) (b ∷ []),
          single c b t k,
        )

    go : (c : ℕ) → c < blocks_max → (t : Bool) → eqb c b ≡ t → bit_at c (excluding (free_set ps) b) ≡ digit (eqb (times c (used (set ps i q))) 0)
    go c l true k =
        let z = eqb-true c b k in
        let u : times c (used (set ps i q)) ≡ 1 = omega (arith, counts c true k, ap (λ (x : ℕ). times x (used ps)) z, f) in
        ap (λ (x : ℕ). bit_at x (excluding (free_set ps) b)) z ∙ excluding-same b (free_set ps)
        ∙ sym (ap digit (ne_eqb (times c (used (set ps i q))) 0 (λ y. omega (arith, u, y))))
    go c l false k =
        let u : times c (used ps) ≡ times c (used (set ps i q)) = omega (arith, counts c false k) in
        excluding-other b c (free_set ps) (eqb-false c b k) ∙ free-bit ps c l ∙ ap (λ (x : ℕ). digit (eqb x 0)) u

-- ── the lowest ──

ltb-suc : (a b : ℕ) → ltb a b ≡ ltb (suc a) (suc b)
ltb-suc a b = go (ltb a b) refl
  where
    go : (t : Bool) → ltb a b ≡ t → t ≡ ltb (suc a) (suc b)
    go true e = sym (lt-ltb (suc a) (suc b) (omega (arith, ltb-true a b e)))
    go false e = sym (le-ltb (suc a) (suc b) (omega (arith, ltb-false a b e)))

lowest-is : (n b : ℕ) (l : List ℕ)
    → lowest n b l ≡ pick (ltb (count_trailing_zeros n (set_of (λ x. eqb (times x l) 0) b n)) n) (some (b + count_trailing_zeros n (set_of (λ x. eqb (times x l) 0) b n))) none
unfolding lowest count_trailing_zeros set_of
lowest-is zero b l = refl
lowest-is (suc n) b l = go (eqb (times b l) 0) refl (lowest-is n (suc b) l)
  where
    f : ℕ → Bool
    f x = eqb (times x l) 0

    go : (t : Bool) → eqb (times b l) 0 ≡ t → lowest n (suc b) l ≡ pick (ltb (count_trailing_zeros n (set_of f (suc b) n)) n) (some (suc b + count_trailing_zeros n (set_of f (suc b) n))) none
        → pick t (some b) (lowest n (suc b) l) ≡ pick (ltb (count_trailing_zeros (suc n) (set_of f b (suc n))) (suc n)) (some (b + count_trailing_zeros (suc n) (set_of f b (suc n)))) none
    go true e ih =
        let o : ltb 0 (suc n) ≡ true = lt-ltb 0 (suc n) (omega arith) in
        let z : b ≡ b + 0 = omega arith in
        ap (λ (x : ℕ). some x) z ∙ ap (λ (x : Bool). pick x (some (b + 0)) none) (sym o)
        ∙ ap (λ (x : ℕ). pick (ltb x (suc n)) (some (b + x)) none) (sym (lowest-first f n b e))
    go false e ih =
        let w = count_trailing_zeros n (set_of f (suc b) n) in
        let z : suc b + w ≡ b + suc w = omega arith in
        ih ∙ ap₂ (λ (x : Bool) (y : ℕ). pick x (some y) none) (ltb-suc w n) z
        ∙ ap (λ (x : ℕ). pick (ltb x (suc n)) (some (b + x)) none) (sym (lowest-later f n b e))

pub free-lowest : (ps : Places) → free_block ps ≡ pick (ltb (count_trailing_zeros blocks_max (free_set ps)) blocks_max) (some (count_trailing_zeros blocks_max (free_set ps))) none
unfolding free_block free_set
free-lowest ps =
    lowest-is blocks_max 0 (used ps)
    ∙ ap (λ (x : ℕ). pick (ltb (count_trailing_zeros blocks_max (set_of (λ b. eqb (times b (used ps)) 0) 0 blocks_max)) blocks_max) (some x) none)
    (zero-add (count_trailing_zeros blocks_max (set_of (λ b. eqb (times b (used ps)) 0) 0 blocks_max)))

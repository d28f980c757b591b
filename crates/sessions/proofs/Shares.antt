-- Every block is free or in one session: the walk's test is that of the definition.
use mathlib.Core.Path.{◌≡◌, refl, sym, ap, ◌∙◌}
use mathlib.Core.Bool.{Bool, true, false, not, ◌&&◌, and-false, and-true}
use mathlib.Core.List.{List, [], ◌∷◌}
use mathlib.Core.Option.{none}
use Prim.Native.Nat.{ℕ, zero, suc, ◌*◌, ◌-◌, ◌/◌, ◌^◌, ◌<◌}
use native.Mathlib.Nat.{zero-add, pow-suc}
use native.Mathlib.Omega.{arith}
use borrow.Author.Tests.{eqb-true, eqb-false, eq-eqb, ne_eqb, ltb-true}
use lib.Dec.{eqb, ltb}
use lib.Pow.{suc_ones}
use Rattle.blocks.proofs.Bits.{bit-zero, bits-same, set-lt, bit-set, including-lt, including-same, including-other}
use Rattle.blocks.specs.Set.{digit, set_of}
use Rattle.blocks.specs.inside.Bit.{bit_at, including}
use Rattle.rules.proofs.Shares.{times-here}
use Rattle.rules.specs.Blocks.{times}
use Rattle.rules.specs.Limits.{blocks_max}
use Rattle.rules.specs.Sound.{blocks_fit}
use Rattle.rules.specs.Tests.{pick}
use Rattle.sessions.specs.inside.Blocks.{new_to}
use Rattle.sessions.specs.inside.Sound.{claimed, is_all}
use Rattle.state.proofs.Free.{times_none}

pow_pos : (k : ℕ) → 0 < 2 ^ k
pow_pos k = omega (arith, suc_ones k)

-- the blocks that are not in a list
abbrev outside : List ℕ → ℕ
outside l = set_of (λ b. eqb (times b l) 0) 0 blocks_max

out-lt : (l : List ℕ) → outside l < 2 ^ blocks_max
out-lt l = set-lt (λ b. eqb (times b l) 0) blocks_max 0

out-bit : (l : List ℕ) (c : ℕ) → c < blocks_max → bit_at c (outside l) ≡ digit (eqb (times c l) 0)
out-bit l c h = bit-set (λ b. eqb (times b l) 0) blocks_max 0 c h ∙ ap (λ (x : ℕ). digit (eqb (times x l) 0)) (zero-add c)

times-other : (b c : ℕ) (l : List ℕ) → (c ≡ b → ⊥) → times c (b ∷ l) ≡ times c l
unfolding times
times-other b c l n = rw (ne_eqb c b n)

module _ (b : ℕ) (l : List ℕ) (r : ℕ) (small : b < blocks_max) (word : r < 2 ^ blocks_max) where
  -- b itself is not outside of b ∷ l
  own-bit : bit_at b (outside (b ∷ l)) ≡ 0
  own-bit = out-bit (b ∷ l) b small ∙ ap digit (ne_eqb (times b (b ∷ l)) 0 (λ z. omega (arith, z, times-here b l)))

  -- where b is in the set already
  pub there-before : bit_at b r ≡ 1 → eqb r (outside (b ∷ l)) ≡ false
  there-before o = ne_eqb r (outside (b ∷ l)) (λ e. omega (arith, o, ap (bit_at b) e, own-bit))

  -- where it is in the list again
  pub there-again : (times b l ≡ 0 → ⊥) → eqb (including r b) (outside l) ≡ false
  there-again n =
      ne_eqb (including r b) (outside l)
      (λ e. omega (arith, including-same b r, ap (bit_at b) e, out-bit l b small, ap digit (ne_eqb (times b l) 0 n)))

  module _ (new : bit_at b r ≡ 0) (alone : times b l ≡ 0) where
    forth : r ≡ outside (b ∷ l) → including r b ≡ outside l
    forth e = bits-same blocks_max (including r b) (outside l) (including-lt b blocks_max r small word) (out-lt l) (λ c h. go c h (eqb c b) refl)
      where
        go : (c : ℕ) → c < blocks_max → (t : Bool) → eqb c b ≡ t → bit_at c (including r b) ≡ bit_at c (outside l)
        go c h true q =
            let z = eqb-true c b q in
            ap (λ (x : ℕ). bit_at x (including r b)) z ∙ including-same b r
            ∙ sym (ap (λ (x : ℕ). bit_at x (outside l)) z ∙ out-bit l b small ∙ ap digit (eq-eqb (times b l) 0 alone))
        go c h false q =
            including-other b c r (eqb-false c b q) ∙ ap (bit_at c) e ∙ out-bit (b ∷ l) c h
            ∙ ap (λ (x : ℕ). digit (eqb x 0)) (times-other b c l (eqb-false c b q)) ∙ sym (out-bit l c h)

    back : including r b ≡ outside l → r ≡ outside (b ∷ l)
    back e = bits-same blocks_max r (outside (b ∷ l)) word (out-lt (b ∷ l)) (λ c h. go c h (eqb c b) refl)
      where
        go : (c : ℕ) → c < blocks_max → (t : Bool) → eqb c b ≡ t → bit_at c r ≡ bit_at c (outside (b ∷ l))
        go c h true q =
            let z = eqb-true c b q in
            ap (λ (x : ℕ). bit_at x r) z ∙ new ∙ sym (ap (λ (x : ℕ). bit_at x (outside (b ∷ l))) z ∙ own-bit)
        go c h false q =
            sym (including-other b c r (eqb-false c b q)) ∙ ap (bit_at c) e ∙ out-bit l c h
            ∙ ap (λ (x : ℕ). digit (eqb x 0)) (sym (times-other b c l (eqb-false c b q))) ∙ sym (out-bit (b ∷ l) c h)

    pub same_test : eqb (including r b) (outside l) ≡ eqb r (outside (b ∷ l))
    same_test = go (eqb r (outside (b ∷ l))) refl
      where
        go : (t : Bool) → eqb r (outside (b ∷ l)) ≡ t → eqb (including r b) (outside l) ≡ t
        go true e = eq-eqb (including r b) (outside l) (forth (eqb-true r (outside (b ∷ l)) e))
        go false e = ne_eqb (including r b) (outside l) (λ z. eqb-false r (outside (b ∷ l)) e (back z))

-- all bits of a word of ones
ones : (k c : ℕ) → c < k → bit_at c (2 ^ k - 1) ≡ 1
unfolding bit_at
ones zero c h = absurd (omega arith)
ones (suc k) zero h = let p : 2 ^ suc k ≡ 2 ^ k * 2 = pow-suc 2 k in let q = pow_pos k in omega arith
ones (suc k) (suc c) h =
    let p : 2 ^ suc k ≡ 2 ^ k * 2 = pow-suc 2 k in
    let q = pow_pos k in
    let e : (2 ^ suc k - 1) / 2 ≡ 2 ^ k - 1 = omega arith in
    ap (bit_at c) e ∙ ones k c (omega arith)

all-out : outside [] ≡ 18446744073709551615
all-out =
    sym (bits-same blocks_max 18446744073709551615 (outside []) (omega arith) (out-lt [])
    (λ c h. ones blocks_max c h ∙ sym (out-bit [] c h ∙ ap digit (eq-eqb (times c []) 0 (times_none c)))))

pub claimed-all : (l : List ℕ) (r : ℕ) → r < 2 ^ blocks_max → is_all (claimed r l) ≡ (eqb r (outside l) && blocks_fit l)
unfolding claimed new_to
claimed-all [] r h = ap (eqb r) (sym all-out) ∙ sym (and-true (eqb r (outside [])))
claimed-all (b ∷ l) r h = small (λ k. claimed-all l (including r b) k) (ltb b blocks_max) refl
  where
    is_free : (including r b < 2 ^ blocks_max → is_all (claimed (including r b) l) ≡ (eqb (including r b) (outside l) && blocks_fit l)) → ltb b blocks_max ≡ true → (t : Bool) → eqb (bit_at b r) 1 ≡ t
        → is_all (pick (not t) (claimed (including r b) l) none) ≡ (eqb r (outside (b ∷ l)) && (eqb (times b l) 0 && blocks_fit l))
    is_free ih e true o = sym (ap (λ (x : Bool). x && (eqb (times b l) 0 && blocks_fit l)) (there-before b l r (ltb-true b blocks_max e) h (eqb-true (bit_at b r) 1 o)))
    is_free ih e false o =
        let s = ltb-true b blocks_max e in
        ih (including-lt b blocks_max r s h) ∙ twice s (eqb (times b l) 0) refl
      where
        twice : b < blocks_max → (t : Bool) → eqb (times b l) 0 ≡ t → (eqb (including r b) (outside l) && blocks_fit l) ≡ (eqb r (outside (b ∷ l)) && (t && blocks_fit l))
        twice s true z = ap (λ (x : Bool). x && blocks_fit l) (same_test b l r s h (bit-zero b r o) (eqb-true (times b l) 0 z))
        twice s false z = ap (λ (x : Bool). x && blocks_fit l) (there-again b l r s h (eqb-false (times b l) 0 z)) ∙ sym (and-false (eqb r (outside (b ∷ l))))

    small : (including r b < 2 ^ blocks_max → is_all (claimed (including r b) l) ≡ (eqb (including r b) (outside l) && blocks_fit l)) → (t : Bool) → ltb b blocks_max ≡ t
        → is_all (pick (t && not (eqb (bit_at b r) 1)) (claimed (including r b) l) none) ≡ (eqb r (outside (b ∷ l)) && ((t && eqb (times b l) 0) && blocks_fit l))
    small ih true e = is_free ih e (eqb (bit_at b r) 1) refl
    small ih false e = sym (and-false (eqb r (outside (b ∷ l))))

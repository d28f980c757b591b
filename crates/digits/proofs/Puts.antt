-- Text put after text.
use mathlib.Core.Path.{◌≡◌, refl, sym, ap, ◌∙◌}
use mathlib.Core.List.{List, [], ◌∷◌, ◌++◌, append_assoc, append-nil}
use Prim.Native.Nat.{ℕ, suc, ◌+◌, ◌*◌, ◌-◌, ◌/◌, ◌%◌, ◌≤◌, ◌<◌}
use native.Mathlib.Nat.{add-zero}
use native.Mathlib.Numerals.{add-one}
use native.Mathlib.Omega.{arith}
use lib.ListN.{length, take, drop, set, length-append, take-append-drop}
use lib.Seq.{set_split, take-set-le, drop_at, length-take-le, append_snoc}
use Rattle.bits.specs.Part.{splice}
use Rattle.bits.proofs.Splice.{splice-next}
use Rattle.digits.specs.Digits.{glyph, digits, count_of, decimal, words, hexes}
use Rattle.digits.specs.inside.Text.{Puts}
use Rattle.digits.proofs.Digits.{length_digits, digits-snoc}

-- ── stores of one character ──

pub set-splice : (m : List ℕ) (k c : ℕ) → k < length m → set m k c ≡ splice m k (c ∷ [])
set-splice m k c h = set_split m k c h ∙ rw (add-one k)

-- after a text that is to come
pub behind-set : (m ys : List ℕ) (at n c : ℕ) → length ys ≡ n → at + n < length m
    → splice (set m (at + n) c) at ys ≡ splice m at (ys ++ (c ∷ []))
behind-set m ys at n c e h =
    let t : take at (set m (at + n) c) ≡ take at m = take-set-le at m (at + n) c (omega arith) in
    let d : drop (at + n) (set m (at + n) c) ≡ c ∷ drop (suc (at + n)) m =
    ap (λ (l : List ℕ). drop (at + n) l) (set_split m (at + n) c h) ∙ drop_at (take (at + n) m) (c ∷ drop (suc (at + n)) m) (at + n)
    (length-take-le (at + n) m (omega arith)) in
    let k : at + length (ys ++ (c ∷ [])) ≡ suc (at + n) = omega (arith, length-append ys (c ∷ [])) in
    rw (t, e, d, k, append_snoc)

-- nothing put
pub splice-nil : (m : List ℕ) (at : ℕ) → splice m at [] ≡ m
splice-nil m at = rw (add-zero at) (take-append-drop at m)

-- one text after another
pub puts-next : (a b d : List ℕ) (at p q : ℕ) (x y : List ℕ) → Puts a b at p x → Puts b d p q y → at + length x ≤ length a
    → Puts a d at q (x ++ y)
puts-next a b d at p q x y f g h =
    record {
      out = splice-next a b d at (length x) x y h refl f.out (g.out ∙ ap (λ (k : ℕ). splice b k y) f.end);
      end = omega (arith, f.end, g.end, length-append x y);
    }

-- a text of n characters, and a single character
pub puts : (a b : List ℕ) (at n : ℕ) (x : List ℕ) → length x ≡ n → b ≡ splice a at x → Puts a b at (at + n) x
puts a b at n x h e = record { out = e; end = omega arith }

pub puts_one : (m : List ℕ) (k c : ℕ) → k < length m → Puts m (set m k c) k (k + 1) (c ∷ [])
puts_one m k c h = puts m (set m k c) k 1 (c ∷ []) refl (set-splice m k c h)

-- ── digits from the last one on ──

-- a turn: with the digits before it, the digit stored is the last of them
pub digit-turn : (b : ℕ) (m : List ℕ) (at i x c : ℕ) → 0 < i → at + i ≤ length m → c ≡ glyph (x % b)
    → splice (set m (at + (i - 1)) c) at (digits b (i - 1) (x / b)) ≡ splice m at (digits b i x)
digit-turn b m at i x c p h g =
    let j = i - 1 in
    let e : i ≡ suc j = omega arith in
    ap (λ (k : ℕ). splice (set m (at + j) k) at (digits b j (x / b))) g
    ∙ behind-set m (digits b j (x / b)) at j (glyph (x % b)) (length_digits b j (x / b)) (omega arith)
    ∙ ap (λ (l : List ℕ). splice m at l) (sym (digits-snoc b j x) ∙ ap (λ (k : ℕ). digits b k x) (sym e))

pub digits-done : (b : ℕ) (m m' : List ℕ) (at i x : ℕ) → i ≡ 0 → splice m at (digits b i x) ≡ m' → m ≡ m'
unfolding digits
digits-done b m m' at i x z e =
    let q : splice m at (digits b 0 x) ≡ m' = rw z at e in
    sym (splice-nil m at) ∙ q

-- ── words ──

pub words_snoc : (vs : List ℕ) (v : ℕ) → words (vs ++ (v ∷ [])) ≡ words vs ++ words (v ∷ [])
unfolding words
words_snoc [] v = refl
words_snoc (x ∷ xs) v = ap (λ (l : List ℕ). 32 ∷ l) (ap (λ (l : List ℕ). decimal x ++ l) (words_snoc xs v)
    ∙ sym (append_assoc (decimal x) (words xs) (words (v ∷ []))))

pub length-word : (v : ℕ) → length (words (v ∷ [])) ≡ suc (count_of v)
unfolding words decimal
length-word v = rw (append-nil (digits 10 (count_of v) v), length_digits 10 (count_of v) v)

-- ── bytes ──

pub hexes-snoc : (s : List ℕ) (b : ℕ) → hexes (s ++ (b ∷ [])) ≡ hexes s ++ digits 16 2 b
unfolding hexes
hexes-snoc [] b = append-nil (digits 16 2 b)
hexes-snoc (x ∷ xs) b = ap (λ (l : List ℕ). digits 16 2 x ++ l) (hexes-snoc xs b) ∙ sym (append_assoc (digits 16 2 x) (hexes xs) (digits 16 2 b))

pub length-hexes : (s : List ℕ) → length (hexes s) ≡ length s * 2
unfolding hexes
length-hexes [] = refl
length-hexes (x ∷ xs) = omega (arith, length-append (digits 16 2 x) (hexes xs), length_digits 16 2 x, length-hexes xs)

pub two_digits : (b : ℕ) → b < 256 → digits 16 2 b ≡ glyph (b / 16) ∷ glyph (b % 16) ∷ []
unfolding digits
two_digits b h =
    let e : b / 16 % 16 ≡ b / 16 = omega arith in
    let f : b / 1 % 16 ≡ b % 16 = omega arith in
    rw (e, f)

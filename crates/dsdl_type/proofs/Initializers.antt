-- Laws of initializers: the parts that the code finds, and what a type holds of them.
use mathlib.Core.Path.{◌≡◌, refl, sym, ap, ◌∙◌}
use mathlib.Core.Bool.{Bool, true, false}
use mathlib.Core.List.{List, [], ◌∷◌}
use Prim.Native.Nat.{ℕ, zero, suc, ◌+◌, ◌-◌, ◌≤◌, ◌<◌, min}
use native.Mathlib.Omega.{arith}
use borrow.Author.Tests.{lt-ltb, eq-eqb, ne_eqb}
use lib.Dec.{eqb}
use lib.ListN.{length, take, drop, length-drop}
use lib.Seq.{drop-drop}
use Rattle.dsdl_text.specs.declared.class.Class.TheVariants.{Blank, Decimal, Hexadecimal, Binary, Octal}
use Rattle.dsdl_text.specs.Class.{is_in, run}
use Rattle.dsdl_text.specs.Text.{chars, same, first}
use Rattle.dsdl_text.specs.Words.{skip, word}
use Rattle.dsdl_text.proofs.Parts.{rest}
use Rattle.dsdl_number.proofs.Digits.{base_by, literal-below}
use Rattle.dsdl_number.proofs.Values.{no-point, integer-part, integer-whole, fewer, zeros-behind, taken, before, behind, power, digits, digits_are, power-is, small, cut, whole_digits, cut-part, cut-whole, cut-alike}
use Rattle.dsdl_number.specs.Integer.{value, is_decimal, is_prefixed, base_of, digits_of, integer}
use Rattle.dsdl_number.specs.Number.{whole_part, is_whole, whole, is_sign, fraction, exponent, is_floating, floating, quoted, character, number, truth, or_else, only_word, initializer}
use Rattle.dsdl_number.specs.inside.Significand.{significand, zeros, padded, are_zero, are_below}
use Rattle.dsdl_type.specs.Constant.{holds, fits}
use Rattle.dsdl_type.specs.inside.Bases.{is_base, is_sized}
use Rattle.dsdl_type.specs.inside.Whole.{Judged}
use Rattle.dsdl_type.specs.declared.base.Base.{Base}
use Rattle.dsdl_type.proofs.Holding.{alike}

-- ── an integer literal ──

known-base : (w : List ℕ) → (base_of w ≡ 0 → ⊥) → is_base (base_of w) ≡ true
unfolding base_of
known-base w n =
    go (is_decimal w) (is_prefixed (chars "0x") Hexadecimal w) (is_prefixed (chars "0b") Binary w) (is_prefixed (chars "0o") Octal w) n where
      go : (x y z v : Bool) → (base_by x y z v ≡ 0 → ⊥) → is_base (base_by x y z v) ≡ true
      go true y z v h = refl
      go false true z v h = refl
      go false false true v h = refl
      go false false false true h = refl
      go false false false false h = absurd (h refl)

module _ (w : List ℕ) (base : ℕ) (e : base ≡ base_of w) where
  pub decimal-digits : base ≡ 10 → w ≡ digits_of w
  decimal-digits h = let z : base_of w ≡ 10 = sym e ∙ h in rw z

  pub prefixed-digits : (base ≡ 10 → ⊥) → take (length w - 2) (drop 2 w) ≡ digits_of w
  prefixed-digits h = rw (ne_eqb (base_of w) 10 (λ z. h (e ∙ z))) (rest 2 w)

  module _ (t : List ℕ) (m : ℕ) (et : t ≡ digits_of w) (em : m ≡ length t) where
    pub literal-requires : 0 < base → (m ≤ length t) × ((are_below base (significand m t) ≡ true) × (is_base base ≡ true))
    literal-requires h =
        let n : base_of w ≡ 0 → ⊥ = λ z. absurd (omega arith) in (
          omega arith,
          (
            ap (λ (k : ℕ). are_below base (significand k t)) em
                ∙ (ap (are_below base) (no-point t ∙ et) ∙ (ap (λ (k : ℕ). are_below k (digits_of w)) e ∙ literal-below w n)),
            ap is_base e ∙ known-base w n,
          ),
        )

    pub literal-held : (b : Base) (negative r : Bool) → Judged b negative t m m base r → r ≡ holds b (whole negative (integer w))
    literal-held b negative r f =
        let d = whole negative (value base t) in
        f d refl
        (integer-whole negative (value base t) t (significand m t) ∙ ap (λ (k : ℕ). are_zero (drop k (padded (length t) (significand m t)))) (sym em))
        (integer-part negative base t ∙ ap (λ (k : ℕ). value base (padded k (significand k t))) (sym em))
        ∙ ap (λ (v : ℕ). holds b (whole negative v)) (ap (λ (k : ℕ). value k t) e ∙ ap (value (base_of w)) et)

-- ── a floating literal ──

-- a point and the fraction end in the text
pub in-text : (w : List ℕ) (i f k : ℕ) → i ≤ length w → (0 < f → 1 + f ≤ length (take (length w - i) (drop i w))) → k ≡ taken f
    → (i + k ≤ length w) × (i + f ≤ length w)
in-text w i zero k h b e = (omega arith, omega arith)
in-text w i (suc f) k h b e =
    let l = b (omega arith) in
    let z : k ≡ 1 + suc f = e ∙ rw (lt-ltb 0 (suc f) (omega arith)) in
    (omega (arith, ap length (rest i w), length-drop i w), omega (arith, ap length (rest i w), length-drop i w))

module _ (w : List ℕ) (i f k j : ℕ) (ei : i ≡ run Decimal w) (ef : f ≡ length (fraction (take (length w - i) (drop i w)))) (ek : k ≡ taken f) (ej : j ≡ i + k) where
  behind-is : f ≡ behind w
  behind-is = ef ∙ ap (λ (l : List ℕ). length (fraction l)) (rest i w ∙ ap (λ (j : ℕ). drop j w) ei)

  taken_is : k ≡ taken (behind w)
  taken_is = ek ∙ ap taken behind-is

  all_digits : significand i (take j w) ≡ digits w
  all_digits =
      ap (λ (n : ℕ). significand i (take n w)) ej ∙ (ap (λ (n : ℕ). significand n (take (n + k) w)) ei
      ∙ (ap (λ (n : ℕ). significand (before w) (take (before w + n) w)) taken_is ∙ digits_are w))

  the-power : take (length w - (i + k)) (drop (i + k) w) ≡ power w
  the-power =
      rest (i + k) w ∙ (ap (λ (j : ℕ). drop (j + k) w) ei ∙ (ap (λ (j : ℕ). drop (before w + j) w) taken_is ∙ power-is w))

  pub floating-requires : are_below 10 (significand i (take j w)) ≡ true
  floating-requires = ap (are_below 10) all_digits ∙ small w

  module _ (n : ℕ) (en : n ≡ i + min (exponent 43 (take (length w - (i + k)) (drop (i + k) w))) (f + zeros) - exponent 45 (take (length w - (i + k)) (drop (i + k) w))) (negative : Bool) where
    places : n ≡ whole_digits w negative
    places =
        en ∙ (ap (λ (l : List ℕ). i + min (exponent 43 l) (f + zeros) - exponent 45 l) the-power
        ∙ (ap (λ (j : ℕ). j + min (exponent 43 (power w)) (f + zeros) - exponent 45 (power w)) ei
        ∙ ap (λ (j : ℕ). before w + min (exponent 43 (power w)) (j + zeros) - exponent 45 (power w)) behind-is))

    pub floating-held : (b : Base) (r : Bool) → is_sized b ≡ true → Judged b negative (take j w) i n 10 r → r ≡ holds b (floating negative w)
    unfolding floating
    floating-held b r h g =
        let s = take j w in
        let l = significand i s in
        let ew : is_whole (cut w negative) ≡ are_zero (drop n (padded (length s) l))
        = cut-whole w negative ∙ (ap (λ (j : ℕ). are_zero (drop j (digits w))) (sym places)
        ∙ (ap (λ (x : List ℕ). are_zero (drop n x)) (sym all_digits) ∙ sym (zeros-behind n (length s) l (fewer i s)))) in
        let ev : whole_part (cut w negative) ≡ value 10 (padded n l)
        = cut-part w negative ∙ (ap (λ (j : ℕ). value 10 (padded j (digits w))) (sym places) ∙ ap (λ (x : List ℕ). value 10 (padded n x)) (sym all_digits)) in
        g (cut w negative) refl ew ev ∙ sym (alike b h (floating negative w) (cut w negative) (refl, cut-alike w negative))

-- ── the whole initializer ──

pub nothing : (b : Base) (l : List ℕ) → length l ≡ 0 → false ≡ fits b (initializer l)
unfolding initializer run base_of same is_in is_floating
nothing b [] h = refl
nothing b (x ∷ xs) h = absurd (omega arith)

module _ (l : List ℕ) (c : ℕ) (ec : c ≡ first l) where
  module _ (b : Base) where
    pub in-quotes : (q : ℕ) (r : Bool) → c ≡ 39 → q ≡ quoted (take (length l - 1) (drop 1 l)) → r ≡ fits b (character q) → r ≡ fits b (initializer l)
    unfolding initializer
    in-quotes q r h eq er =
        rw (eq-eqb (first l) 39 (sym ec ∙ h)) (er ∙ ap (λ (n : ℕ). fits b (character n)) (eq ∙ ap quoted (rest 1 l)))

    module _ (h : c ≡ 39 → ⊥) (s : Bool) (es : s ≡ is_sign c) where
      sign_of : s ≡ is_sign (first l)
      sign_of = es ∙ ap is_sign ec

      pub behind-sign : (k : ℕ) (r : Bool) → s ≡ true → k ≡ run Blank (take (length l - 1) (drop 1 l))
          → r ≡ fits b (only_word (take (length l - (1 + k)) (drop (1 + k) l)) (number true (eqb c 45) (word (take (length l - (1 + k)) (drop (1 + k) l)))))
          → r ≡ fits b (initializer l)
      unfolding initializer
      behind-sign k r t ek er =
          rw (ne_eqb (first l) 39 (λ z. h (ec ∙ z)), sym sign_of ∙ t)
          (er ∙ (ap (λ (x : List ℕ). fits b (only_word x (number true (eqb c 45) (word x)))) place
          ∙ ap (λ (n : ℕ). fits b (only_word (skip (drop 1 l)) (number true (eqb n 45) (word (skip (drop 1 l)))))) ec)) where
            place : take (length l - (1 + k)) (drop (1 + k) l) ≡ skip (drop 1 l)
            place = rest (1 + k) l ∙ (ap (λ (n : ℕ). drop (1 + n) l) (ek ∙ ap (run Blank) (rest 1 l)) ∙ sym (drop-drop (run Blank (drop 1 l)) 1 l))

      pub no_sign : (r : Bool) → s ≡ false → r ≡ fits b (only_word l (or_else (truth (word l)) (number false false (word l)))) → r ≡ fits b (initializer l)
      unfolding initializer
      no_sign r t q = rw (ne_eqb (first l) 39 (λ z. h (ec ∙ z)), sym sign_of ∙ t) q

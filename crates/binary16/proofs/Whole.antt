-- The laws on whole patterns, from those on patterns without their signs.
use mathlib.Core.Path.{◌≡◌, refl, sym, ap, ap₂, ◌∙◌, subst}
use mathlib.Core.Bool.{Bool, true, false, not, cond}
use Prim.Native.Nat.{ℕ, ◌+◌, ◌*◌, ◌%◌, ◌^◌, ◌≤◌, ◌<◌, min}
use native.Mathlib.Decide.{dec_lt, ℕ_discrete}
use native.Mathlib.Nat.{le_antisymm}
use native.Mathlib.Omega.{arith}
use lib.Dec.{T, ltb, eqb, lt→ltb, eqb→eq, eqb_refl, not_T}
use lib.Arith.{le→nltb}
use lib.Ieee.Bits.{cond_no}
use Rattle.binary16.specs.Format.{magnitude, scale, significand, Number, sign16, code16, sign32, code32, value16, value32, between, apart}
use Rattle.binary16.specs.Convert.{widened_code, widened, rounded_code, narrowed}
use Rattle.binary16.specs.Laws.{Finite16, Finite32, Widening, Narrowing}
use Rattle.binary16.proofs.Wide.{exact-code, wide-finite, back-code}
use Rattle.binary16.proofs.Only.{one_size, even-only}
use Rattle.binary16.proofs.Near.{size16, out_code, nearest-code, tied-code, none-code, clipped-code, rising-code}

cond_yes : {X : Type 0} (b : Bool) (x y : X) → T b → cond b x y ≡ x
cond_yes true x y t = refl
cond_yes false x y t = absurd t

neqb : (a b : ℕ) → (a ≡ b → ⊥) → T (not (eqb a b))
neqb a b d = not_T (eqb a b) (λ t. d (eqb→eq a b t))

eqb_of : (a b : ℕ) → a ≡ b → T (eqb a b)
eqb_of a b e = subst (λ (x : ℕ). T (eqb a x)) e (eqb_refl a)

-- which case a pattern is
pub widened-nan : (h : ℕ) → 0x7C00 < code16 h → widened h ≡ 0x7FC00000
unfolding widened
widened-nan h l = cond_yes (ltb 0x7C00 (code16 h)) _ _ (lt→ltb 0x7C00 (code16 h) l)

pub widened-infinite : (h : ℕ) → code16 h ≡ 0x7C00 → widened h ≡ sign16 h * 0x80000000 + 0x7F800000
unfolding widened
widened-infinite h e =
    cond_no (ltb 0x7C00 (code16 h)) _ _ (le→nltb 0x7C00 (code16 h) (omega arith))
    ∙ ap (λ (x : ℕ). sign16 h * 0x80000000 + x) (cond_yes (eqb (code16 h) 0x7C00) _ _ (eqb_of (code16 h) 0x7C00 e))

pub widened-finite : (h : ℕ) → Finite16 h → widened h ≡ sign16 h * 0x80000000 + widened_code (code16 h)
unfolding widened
widened-finite h l =
    cond_no (ltb 0x7C00 (code16 h)) _ _ (le→nltb 0x7C00 (code16 h) (omega arith))
    ∙ ap (λ (x : ℕ). sign16 h * 0x80000000 + x) (cond_no (eqb (code16 h) 0x7C00) _ _ (neqb (code16 h) 0x7C00 (λ e. omega arith)))

pub narrowed-nan : (x : ℕ) → 0x7F800000 < code32 x → narrowed x ≡ 0x7E00
unfolding narrowed
narrowed-nan x l = cond_yes (ltb 0x7F800000 (code32 x)) _ _ (lt→ltb 0x7F800000 (code32 x) l)

pub narrowed-infinite : (x : ℕ) → code32 x ≡ 0x7F800000 → narrowed x ≡ sign32 x * 0x8000 + 0x7C00
unfolding narrowed
narrowed-infinite x e =
    cond_no (ltb 0x7F800000 (code32 x)) _ _ (le→nltb 0x7F800000 (code32 x) (omega arith))
    ∙ ap (λ (y : ℕ). sign32 x * 0x8000 + y) (cond_yes (eqb (code32 x) 0x7F800000) _ _ (eqb_of (code32 x) 0x7F800000 e))

pub narrowed-finite : (x : ℕ) → Finite32 x → narrowed x ≡ sign32 x * 0x8000 + out_code (code32 x)
unfolding narrowed
narrowed-finite x l =
    cond_no (ltb 0x7F800000 (code32 x)) _ _ (le→nltb 0x7F800000 (code32 x) (omega arith))
    ∙ ap (λ (y : ℕ). sign32 x * 0x8000 + y) (cond_no (eqb (code32 x) 0x7F800000) _ _ (neqb (code32 x) 0x7F800000 (λ e. omega arith)))

-- the parts of what comes out
sign-of16 : (s c h : ℕ) → h ≡ s * 0x8000 + c → c < 0x8000 → sign16 h ≡ s
sign-of16 s c h e l = omega arith

code-of16 : (s c h : ℕ) → h ≡ s * 0x8000 + c → c < 0x8000 → code16 h ≡ c
code-of16 s c h e l = omega arith

sign-of32 : (s c x : ℕ) → x ≡ s * 0x80000000 + c → c < 0x80000000 → sign32 x ≡ s
sign-of32 s c x e l = omega arith

code-of32 : (s c x : ℕ) → x ≡ s * 0x80000000 + c → c < 0x80000000 → code32 x ≡ c
code-of32 s c x e l = omega arith

out-lt : (c : ℕ) → min 0x7BFF c < 0x7C00
out-lt c = omega arith

module _ (h : ℕ) (l : Finite16 h) where
  wide-lt : widened_code (code16 h) < 0x80000000
  wide-lt = let a : widened_code (code16 h) < 0x47800000 = wide-finite (code16 h) l in omega arith

  wide_sign : sign32 (widened h) ≡ sign16 h
  wide_sign = sign-of32 (sign16 h) (widened_code (code16 h)) (widened h) (widened-finite h l) wide-lt

  wide-code : code32 (widened h) ≡ widened_code (code16 h)
  wide-code = code-of32 (sign16 h) (widened_code (code16 h)) (widened h) (widened-finite h l) wide-lt

  wide-number : Finite32 (widened h)
  wide-number = let a : widened_code (code16 h) < 0x47800000 = wide-finite (code16 h) l in rw wide-code (omega arith)

module _ (x : ℕ) (l : Finite32 x) where
  out-sign : sign16 (narrowed x) ≡ sign32 x
  out-sign = sign-of16 (sign32 x) (out_code (code32 x)) (narrowed x) (narrowed-finite x l) (omega (arith, out-lt (rounded_code (code32 x))))

  out-code : code16 (narrowed x) ≡ out_code (code32 x)
  out-code = code-of16 (sign32 x) (out_code (code32 x)) (narrowed x) (narrowed-finite x l) (omega (arith, out-lt (rounded_code (code32 x))))

-- numbers
abbrev mk : ℕ → ℕ → Number
mk s a = record { sign = s; size = a }

value16-is : (h : ℕ) → value16 h ≡ mk (sign16 h) (size16 (code16 h))
unfolding value16
value16-is h = refl

value32-is : (x : ℕ) → value32 x ≡ mk (sign32 x) (magnitude 23 (code32 x))
unfolding value32
value32-is x = refl

value_out : (x : ℕ) → Finite32 x → value16 (narrowed x) ≡ mk (sign32 x) (size16 (out_code (code32 x)))
value_out x l = value16-is (narrowed x) ∙ ap₂ (λ (s c : ℕ). mk s (magnitude 10 c * 2 ^ 125)) (out-sign x l) (out-code x l)

apart-same : (s a b : ℕ) → apart (mk s a) (mk s b) ≡ between a b
unfolding apart
apart-same s a b = cond_yes (eqb s s) (between a b) (a + b) (eqb_refl s)

apart_other : (s t a b : ℕ) → (s ≡ t → ⊥) → apart (mk s a) (mk t b) ≡ a + b
unfolding apart
apart_other s t a b d = cond_no (eqb s t) (between a b) (a + b) (neqb s t d)

nearer-number : (s t n r v : ℕ) → between n r ≤ between n v → between n r ≤ between n 0 → apart (mk s n) (mk s r) ≤ apart (mk s n) (mk t v)
nearer-number s t n r v a b = go (ℕ_discrete s t)
  where
    go : Dec (s ≡ t) → apart (mk s n) (mk s r) ≤ apart (mk s n) (mk t v)
    go (yes e) = rw (← e, apart-same s n r, apart-same s n v) a
    go (no d) = rw (apart-same, apart_other s t n v d) (omega arith)

zero-size : magnitude 10 0 * 2 ^ 125 ≡ 0
unfolding magnitude significand scale
zero-size = refl

nearest-law : (x h : ℕ) → Finite32 x → Finite16 h → apart (value32 x) (value16 (narrowed x)) ≤ apart (value32 x) (value16 h)
nearest-law x h l k =
    rw (value32-is x, value_out x l, value16-is h)
    (nearer-number (sign32 x) (sign16 h) (magnitude 23 (code32 x)) (size16 (out_code (code32 x))) (size16 (code16 h))
    (nearest-code (code32 x) (code16 h) k)
    (rw zero-size at (nearest-code (code32 x) 0 (omega arith))))

none_apart : (n r v : ℕ) → between n r ≡ n + v → between n r ≤ between n 0 → between n r ≡ between n 0
none_apart n r v e a = omega arith

tied-number : (s t n r v p : ℕ) → apart (mk s n) (mk s r) ≡ apart (mk s n) (mk t v) → (mk t v ≡ mk s r → ⊥)
    → (between n r ≡ between n v → (v ≡ r → ⊥) → p % 2 ≡ 0)
    → between n r ≤ between n 0 → (between n r ≡ between n 0 → (0 ≡ r → ⊥) → p % 2 ≡ 0) → (r ≡ 0 → p % 2 ≡ 0)
    → p % 2 ≡ 0
tied-number s t n r v p e d tie least other none = go (ℕ_discrete s t)
  where
    at_none : between n r ≡ between n 0 → Dec (r ≡ 0) → p % 2 ≡ 0
    at_none i (yes z) = none z
    at_none i (no z) = other i (λ (q : 0 ≡ r). z (sym q))

    go : Dec (s ≡ t) → p % 2 ≡ 0
    go (yes i) =
        tie (sym (apart-same s n r) ∙ e ∙ ap (λ (u : ℕ). apart (mk s n) (mk u v)) (sym i) ∙ apart-same s n v)
        (λ (j : v ≡ r). d (ap₂ mk (sym i) j))
    go (no i) = at_none (none_apart n r v (sym (apart-same s n r) ∙ e ∙ apart_other s t n v i) least) (ℕ_discrete r 0)

even-law : (x h : ℕ) → Finite32 x → Finite16 h → apart (value32 x) (value16 (narrowed x)) ≡ apart (value32 x) (value16 h)
    → (value16 h ≡ value16 (narrowed x) → ⊥) → narrowed x % 2 ≡ 0
even-law x h l k e d =
    let z : out_code (code32 x) % 2 ≡ 0 =
    tied-number (sign32 x) (sign16 h) (magnitude 23 (code32 x)) (size16 (out_code (code32 x))) (size16 (code16 h))
    (out_code (code32 x))
    (rw (value32-is x, value_out x l, value16-is h) at e)
    (λ (i : mk (sign16 h) (size16 (code16 h)) ≡ mk (sign32 x) (size16 (out_code (code32 x)))). d (value16-is h ∙ i ∙ sym (value_out x l)))
    (tied-code (code32 x) (code16 h) k)
    (rw zero-size at (nearest-code (code32 x) 0 (omega arith)))
    (rw zero-size at (tied-code (code32 x) 0 (omega arith)))
    (none-code (code32 x)) in
    even-whole (sign32 x) (out_code (code32 x)) (narrowed x) (narrowed-finite x l) z
  where
    even-whole : (s c h : ℕ) → h ≡ s * 0x8000 + c → c % 2 ≡ 0 → h % 2 ≡ 0
    even-whole s c h e z = omega arith

back-law : (h : ℕ) → code16 h ≤ 0x7C00 → narrowed (widened h) ≡ h
back-law h k = go (dec_lt (code16 h) 0x7C00)
  where
    whole : (h c : ℕ) → c ≡ code16 h → sign16 h * 0x8000 + c ≡ h
    whole h c e = omega arith

    kept : (c d : ℕ) → c ≡ d → d < 0x7C00 → min 0x7BFF c ≡ d
    kept c d e l = omega arith

    go : Dec (code16 h < 0x7C00) → narrowed (widened h) ≡ h
    go (yes l) =
        narrowed-finite (widened h) (wide-number h l)
        ∙ ap₂ (λ (s c : ℕ). s * 0x8000 + c) (wide_sign h l)
        (ap (λ (c : ℕ). min 0x7BFF (rounded_code c)) (wide-code h l) ∙ kept (rounded_code (widened_code (code16 h))) (code16 h) (back-code (code16 h)) l)
        ∙ whole h (code16 h) refl
    go (no n) =
        let e : code16 h ≡ 0x7C00 = omega arith in
        let w : widened h ≡ sign16 h * 0x80000000 + 0x7F800000 = widened-infinite h e in
        narrowed-infinite (widened h) (code-of32 (sign16 h) 0x7F800000 (widened h) w (omega arith))
        ∙ ap (λ (s : ℕ). s * 0x8000 + 0x7C00) (sign-of32 (sign16 h) 0x7F800000 (widened h) w (omega arith))
        ∙ whole h 0x7C00 (sym e)

exact-law : (h : ℕ) → Finite16 h → value32 (widened h) ≡ value16 h
exact-law h l =
    value32-is (widened h) ∙ ap₂ mk (wide_sign h l) (ap (magnitude 23) (wide-code h l) ∙ exact-code (code16 h)) ∙ sym (value16-is h)

distinct-law : (g h : ℕ) → value16 g ≡ value16 h → g ≡ h
unfolding value16
distinct-law g h e =
    let s : sign16 g ≡ sign16 h = ap (λ (y : Number). y.sign) e in
    let c : code16 g ≡ code16 h = one_size (code16 g) (code16 h) (ap (λ (y : Number). y.size) e) in
    parts g h s c
  where
    parts : (g h : ℕ) → sign16 g ≡ sign16 h → code16 g ≡ code16 h → g ≡ h
    parts g h s c = omega arith

pub widening-law : Widening
widening-law =
    record { finite = wide-number; exact = exact-law; infinite = widened-infinite; nan = widened-nan; distinct = distinct-law; back = back-law }

clipped-law : (x : ℕ) → Finite32 x → 65504 * 2 ^ 149 ≤ (value32 x).size → narrowed x ≡ sign32 x * 0x8000 + 0x7BFF
unfolding value32
clipped-law x l h = narrowed-finite x l ∙ ap (λ (c : ℕ). sign32 x * 0x8000 + c) (clipped-code (code32 x) h)

sign-law : (x : ℕ) → code32 x ≤ 0x7F800000 → sign16 (narrowed x) ≡ sign32 x
sign-law x k = go (dec_lt (code32 x) 0x7F800000)
  where
    go : Dec (code32 x < 0x7F800000) → sign16 (narrowed x) ≡ sign32 x
    go (yes l) = out-sign x l
    go (no n) = sign-of16 (sign32 x) 0x7C00 (narrowed x) (narrowed-infinite x (omega arith)) (omega arith)

rising-law : (x y : ℕ) → Finite32 x → Finite32 y → (value32 x).size ≤ (value32 y).size → (value16 (narrowed x)).size ≤ (value16 (narrowed y)).size
unfolding value32
rising-law x y l k h = rw (value_out x l, value_out y k) (rising-code (code32 x) (code32 y) h)

finite-law : (x : ℕ) → Finite32 x → Finite16 (narrowed x)
finite-law x l = rw (out-code x l) (out-lt (rounded_code (code32 x)))

only-law : (x g : ℕ) → Finite32 x → Finite16 g → sign16 g ≡ sign32 x
    → ((h : ℕ) → Finite16 h → apart (value32 x) (value16 g) ≤ apart (value32 x) (value16 h))
    → ((h : ℕ) → Finite16 h → apart (value32 x) (value16 g) ≡ apart (value32 x) (value16 h) → (value16 h ≡ value16 g → ⊥) → g % 2 ≡ 0)
    → g ≡ narrowed x
only-law x g l k s near even =
    let e : apart (value32 x) (value16 (narrowed x)) ≡ apart (value32 x) (value16 g) = le_antisymm (nearest-law x g l k) (near (narrowed x) (finite-law x l)) in
    let v : value16 g ≡ mk (sign32 x) (size16 (code16 g)) = value16-is g ∙ ap (λ (i : ℕ). mk i (size16 (code16 g))) s in
    let f : between (magnitude 23 (code32 x)) (size16 (out_code (code32 x))) ≡ between (magnitude 23 (code32 x)) (size16 (code16 g)) =
    sym (apart-same (sign32 x) (magnitude 23 (code32 x)) (size16 (out_code (code32 x)))) ∙ (rw (value32-is x, value_out x l, v) at e)
    ∙ apart-same (sign32 x) (magnitude 23 (code32 x)) (size16 (code16 g)) in
    let c : code16 g ≡ out_code (code32 x) =
    even-only (code32 x) (code16 g) k (out-lt (rounded_code (code32 x))) f
    (λ (d : code16 g ≡ out_code (code32 x) → ⊥). low-out (even-law x g l k e (λ (i : value16 g ≡ value16 (narrowed x)). d (code-eq i))))
    (λ (d : code16 g ≡ out_code (code32 x) → ⊥). low g (even (narrowed x) (finite-law x l) (sym e) (λ (i : value16 (narrowed x) ≡ value16 g). d (code-eq (sym i))))) in
    whole g (sign32 x) (out_code (code32 x)) (narrowed x) s c (narrowed-finite x l)
  where
    code-eq : value16 g ≡ value16 (narrowed x) → code16 g ≡ out_code (code32 x)
    code-eq i = ap code16 (distinct-law g (narrowed x) i) ∙ out-code x l

    low : (h : ℕ) → h % 2 ≡ 0 → code16 h % 2 ≡ 0
    low h z = omega arith

    low-out : narrowed x % 2 ≡ 0 → out_code (code32 x) % 2 ≡ 0
    low-out z = subst (λ (y : ℕ). y % 2 ≡ 0) (out-code x l) (low (narrowed x) z)

    whole : (g s c h : ℕ) → sign16 g ≡ s → code16 g ≡ c → h ≡ s * 0x8000 + c → g ≡ h
    whole g s c h a b e = omega arith

pub narrowing-law : Narrowing
narrowing-law =
    record {
      finite = finite-law;
      nearest = nearest-law;
      even = even-law;
      clipped = clipped-law;
      sign = sign-law;
      infinite = narrowed-infinite;
      nan = narrowed-nan;
      rising = rising-law;
      only = only-law;
    }

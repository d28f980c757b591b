-- The text of a line, piece by piece.
use mathlib.Core.Path.{◌≡◌, sym, ap, ◌∙◌}
use mathlib.Core.List.{List, [], ◌∷◌, ◌++◌, append_assoc, append-nil}
use Prim.Native.Nat.{ℕ, suc, ◌+◌, ◌*◌, ◌/◌, ◌%◌, ◌≤◌, ◌<◌}
use native.Mathlib.Omega.{arith}
use lib.ListN.{length, take, get_or, set, length-append}
use lib.Seq.{take-suc, length-take-le}
use Rattle.bits.specs.Part.{splice}
use Rattle.bits.proofs.Splice.{splice-next}
use Rattle.rules.specs.Frame.{Frame}
use Rattle.digits.specs.Digits.{digits, count_of, decimal}
use Rattle.digits.specs.inside.Text.{Puts}
use Rattle.digits.proofs.Digits.{length_digits}
use Rattle.digits.proofs.Puts.{puts, puts_one, puts-next}
use Rattle.log_line.specs.Line.{time_text, data_text, line_of}
use Rattle.log_line.proofs.Lines.{data-length, time-length}

pub time-puts : (m m₁ m₂ m₃ : List ℕ) (at w t : ℕ) → w ≡ count_of (t / 1000000) → at + (count_of (t / 1000000) + 4) ≤ length m → length m₁ ≡ length m
    → m₁ ≡ splice m at (digits 10 w (t / 1000000)) → m₂ ≡ set m₁ (at + w) 46 → m₃ ≡ splice m₂ (at + w + 1) (digits 10 3 (t / 1000 % 1000))
    → Puts m m₃ at (at + w + 4) (time_text t)
unfolding time_text decimal
time-puts m m₁ m₂ m₃ at w t e h l e₁ e₂ e₃ =
    let ds = digits 10 w (t / 1000000) in
    let ms = digits 10 3 (t / 1000 % 1000) in
    let n = length_digits 10 w (t / 1000000) in
    let a = puts m m₁ at w ds n e₁ in
    let b : Puts m₁ m₂ (at + w) (at + w + 1) (46 ∷ []) = rw e₂ (puts_one m₁ (at + w) 46 (omega arith)) in
    let c = puts m₂ m₃ (at + w + 1) 3 ms (length_digits 10 3 (t / 1000 % 1000)) e₃ in
    let ab = puts-next m m₁ m₂ at (at + w) (at + w + 1) ds (46 ∷ []) a b (omega arith) in
    let abc = puts-next m m₂ m₃ at (at + w + 1) (at + w + 1 + 3) (ds ++ (46 ∷ [])) ms ab c (omega (arith, length-append ds (46 ∷ []))) in
    let p : at + w + 1 + 3 ≡ at + w + 4 = omega arith in
    rw (← e, ← p, ← append_assoc ds (46 ∷ []) ms) abc

pub spaced : (m m₁ m₂ : List ℕ) (at n v : ℕ) → at + (n + 1) ≤ length m → m₁ ≡ set m at 32 → m₂ ≡ splice m₁ (at + 1) (digits 16 n v)
    → Puts m m₂ at (at + 1 + n) (32 ∷ digits 16 n v)
spaced m m₁ m₂ at n v h e₁ e₂ =
    let a : Puts m m₁ at (at + 1) (32 ∷ []) = rw e₁ (puts_one m at 32 (omega arith)) in
    puts-next m m₁ m₂ at (at + 1) (at + 1 + n) (32 ∷ []) (digits 16 n v) a (puts m₁ m₂ (at + 1) n (digits 16 n v) (length_digits 16 n v) e₂)
    (omega arith)

-- ── data bytes ──

data-snoc : (s : List ℕ) (b : ℕ) → data_text (s ++ (b ∷ [])) ≡ data_text s ++ (32 ∷ digits 16 2 b)
unfolding data_text
data-snoc [] b = ap (λ (l : List ℕ). 32 ∷ l) (append-nil (digits 16 2 b))
data-snoc (x ∷ xs) b =
    ap (λ (l : List ℕ). 32 ∷ l)
    (ap (λ (l : List ℕ). digits 16 2 x ++ l) (data-snoc xs b) ∙ sym (append_assoc (digits 16 2 x) (data_text xs) (32 ∷ digits 16 2 b)))

-- a turn: a byte after those before
pub data-turn : (m₀ m m' s : List ℕ) (at i : ℕ) → i < length s → at + length s * 3 ≤ length m₀ → m ≡ splice m₀ at (data_text (take i s))
    → m' ≡ splice m (at + i * 3) (32 ∷ digits 16 2 (get_or s i 0)) → m' ≡ splice m₀ at (data_text (take (suc i) s))
data-turn m₀ m m' s at i h r e f =
    splice-next m₀ m m' at (i * 3) (data_text (take i s)) (32 ∷ digits 16 2 (get_or s i 0)) (omega arith)
    (data-length (take i s) ∙ ap (λ (k : ℕ). k * 3) (length-take-le i s (omega arith))) e f
    ∙ ap (λ (z : List ℕ). splice m₀ at z) (sym (data-snoc (take i s) (get_or s i 0)) ∙ ap data_text (sym (take-suc s i 0 h)))

-- ── the line ──

pub line-puts : (m m₁ m₂ m₃ m₄ : List ℕ) (at p q e : ℕ) (f : Frame)
    → at + (count_of (f.time / 1000000) + 14 + length f.bytes * 3) ≤ length m → length m₃ ≡ length m
    → Puts m m₁ at p (time_text f.time) → Puts m₁ m₂ p q (32 ∷ digits 16 8 f.id) → Puts m₂ m₃ q e (data_text f.bytes) → m₄ ≡ set m₃ e 10
    → Puts m m₄ at (e + 1) (line_of f)
unfolding line_of
line-puts m m₁ m₂ m₃ m₄ at p q e f h l a b c d =
    let t = time_text f.time in
    let i : List ℕ = 32 ∷ digits 16 8 f.id in
    let x = data_text f.bytes in
    let nt : length t ≡ count_of (f.time / 1000000) + 4 = time-length f.time in
    let ni = length_digits 16 8 f.id in
    let nx = data-length f.bytes in
    let pe = a.end in
    let qe = b.end in
    let ee = c.end in
    let z : Puts m₃ m₄ e (e + 1) (10 ∷ []) = rw d (puts_one m₃ e 10 (omega arith)) in
    let ab = puts-next m m₁ m₂ at p q t i a b (omega arith) in
    let n₂ = length-append t i in
    let abc = puts-next m m₂ m₃ at q e (t ++ i) x ab c (omega arith) in
    let n₃ = length-append (t ++ i) x in
    let all = puts-next m m₃ m₄ at e (e + 1) ((t ++ i) ++ x) (10 ∷ []) abc z (omega arith) in
    let g : ((t ++ i) ++ x) ++ (10 ∷ []) ≡ t ++ (i ++ (x ++ (10 ∷ []))) = simp append_assoc in
    rw (← g) all

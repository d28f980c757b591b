-- `end` meets its contract.
use mathlib.Core.Path.{◌≡◌, refl, ◌∙◌}
use mathlib.Core.List.{List, [], ◌∷◌}
use Prim.Native.Nat.{ℕ, ◌+◌, ◌*◌, ◌≤◌}
use native.Mathlib.Omega.{arith}
use lib.ListN.{length, set, length-set}
use Rattle.digits.specs.Digits.{words}
use Rattle.digits.specs.inside.Text.{Puts}
use Rattle.digits.proofs.Puts.{set-splice}
use Rattle.log_answer.proofs.Texts.{char-next, text-next}
use Rattle.log_replay.specs.Replay.{end_text}
use Rattle.log_replay.specs.declared.Counts.{Counts}
use Rattle.log_replay.proofs.end.Goals as goal

put : (m : List ℕ) (at q c : ℕ) → at + 1 ≤ length m → q ≡ at + 1 → Puts m (set m at c) at q (c ∷ [])
put m at q c h e = record { out = set-splice m at c (omega arith); end = e }

joined : (c : Counts) (m m' : List ℕ) (at p : ℕ) → at + 1200 ≤ length m → length m' ≡ length m
    → Puts (set (set (set m at 101) (at + 1) 110) (at + 2) 100) m' (at + 3) p (words (c.lines ∷ c.transfers ∷ [])) → p ≤ at + 3 + 2 * 21
    → (Puts m (set m' p 10) at (p + 1) (end_text c)) × (p + 1 ≤ at + 46)
unfolding end_text
joined c m m' at p h k f l =
    let m₁ = set m at 101 in
    let m₂ = set m₁ (at + 1) 110 in
    let m₃ = set m₂ (at + 2) 100 in
    let k₁ : length m₁ ≡ length m = length-set m at 101 in
    let k₂ : length m₂ ≡ length m = length-set m₁ (at + 1) 110 ∙ k₁ in
    let k₃ : length m₃ ≡ length m = length-set m₂ (at + 2) 100 ∙ k₂ in
    let z = set m' p 10 in
    let x₄ = text-next m₃ m' z (at + 3) p (p + 1) (words (c.lines ∷ c.transfers ∷ [])) (10 ∷ []) f (put m' p (p + 1) 10 (omega arith) refl) (omega arith) in
    let x₃ = char-next m₂ m₃ z (at + 2) (at + 3) (p + 1) 100 _ (put m₂ (at + 2) (at + 3) 100 (omega arith) (omega arith)) x₄ (omega arith) in
    let x₂ = char-next m₁ m₂ z (at + 1) (at + 2) (p + 1) 110 _ (put m₁ (at + 1) (at + 2) 110 (omega arith) (omega arith)) x₃ (omega arith) in
    (char-next m m₁ z at (at + 1) (p + 1) 101 _ (put m at (at + 1) 101 (omega arith) refl) x₂ (omega arith), omega arith)

pub bounds-out-at-2 : goal.bounds-out-at-2
bounds-out-at-2 c = simp length-set (omega (arith, c.requires))

pub bounds-out-at-3 : goal.bounds-out-at-3
bounds-out-at-3 c = simp length-set (omega (arith, c.requires))

pub put_words-p-requires : goal.put_words-p-requires
put_words-p-requires c =
    simp length-set (omega (arith, c.requires))

pub bounds-out-p : goal.bounds-out-p
bounds-out-p c =
    let k = simp length-set at c.put_words-p.auto.out in
    omega (arith, k, c.requires, c.put_words-p.ensures.1)

pub shape_of-out : goal.shape_of-out
shape_of-out c =
    length-set c.put_words-p.new.out c.put_words-p.result 10 ∙ simp length-set at c.put_words-p.auto.out

pub returns : goal.returns
returns c =
    joined c.args.c c.args.out.now c.put_words-p.new.out c.args.at c.put_words-p.result c.requires
    (simp length-set at c.put_words-p.auto.out) c.put_words-p.ensures.0 c.put_words-p.ensures.1

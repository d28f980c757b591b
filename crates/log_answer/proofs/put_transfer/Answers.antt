-- `put_transfer` meets its contract.
use Rattle.log_answer.proofs.Texts.{char-next, text-next}
use Rattle.log_answer.specs.Answer.{letter_of, payload_text, transfer_text}
use Rattle.digits.specs.Digits.{words}
use Rattle.digits.specs.inside.Text.{Puts}
use Rattle.answers.specs.declared.Transfer.{Transfer}
use lib.ListN.{length}
use native.Mathlib.Omega.{arith}
use Prim.Native.Nat.{ℕ, ◌+◌, ◌*◌, ◌≤◌}
use mathlib.Core.List.{List, [], ◌∷◌, ◌++◌}
use mathlib.Core.Path.{◌≡◌, refl, ◌∙◌}
use Rattle.log_answer.proofs.put_transfer.Goals as goal

-- the six parts, one after the other, in a buffer of n bytes
joined : (t : Transfer) (pay m m₁ m₂ m₃ m₄ m₅ m₆ : List ℕ) (n at a b c d e f l : ℕ) → at + 131 + length pay * 2 ≤ n → length m ≡ n
    → length m₁ ≡ n → length m₂ ≡ n
    → length m₃ ≡ n → length m₄ ≡ n → length m₅ ≡ n → l ≡ letter_of t.transfer_type → Puts m m₁ at a (32 ∷ []) → Puts m₁ m₂ a b (l ∷ [])
    → Puts m₂ m₃ b c (words (t.type_id ∷ t.source ∷ t.destination ∷ t.priority ∷ t.transfer ∷ t.len ∷ [])) → c ≤ b + 126 → Puts m₃ m₄ c d
    (32 ∷ [])
    → Puts m₄ m₅ d e (payload_text pay) → e ≤ d + 1 + length pay * 2 → Puts m₅ m₆ e f (10 ∷ [])
    → (Puts m m₆ at f (transfer_text t pay)) × (f ≤ at + 131 + length pay * 2)
unfolding transfer_text
joined t pay m m₁ m₂ m₃ m₄ m₅ m₆ n at a b c d e f l room k k₁ k₂ k₃ k₄ k₅ q p₁ p₂ p₃ le₃ p₄ p₅ le₅ p₆ =
    let e₁ = p₁.end in
    let e₂ = p₂.end in
    let e₄ = p₄.end in
    let x₅ = text-next m₄ m₅ m₆ d e f (payload_text pay) (10 ∷ []) p₅ p₆ (omega arith) in
    let x₄ = char-next m₃ m₄ m₆ c d f 32 (payload_text pay ++ (10 ∷ [])) p₄ x₅ (omega arith) in
    let x₃ = text-next m₂ m₃ m₆ b c f _ _ p₃ x₄ (omega arith) in
    let x₂ = char-next m₁ m₂ m₆ a b f l _ p₂ x₃ (omega arith) in
    let x₁ = char-next m m₁ m₆ at a f 32 _ p₁ x₂ (omega arith) in
    (rw q at x₁, omega (arith, p₆.end))

pub put-requires : goal.put-requires
put-requires c =
    omega (
      arith,
      c.requires,
      c.put-a.auto.out,
      c.put-b.auto.out,
      c.put_words-c.auto.out,
      c.put-d.auto.out,
      c.put_payload-e.auto.out,
      c.put-a.ensures.end,
      c.put-b.ensures.end,
      c.put_words-c.ensures.1,
      c.put-d.ensures.end,
      c.put_payload-e.ensures.1,
    )

pub returns : goal.returns
returns c =
    let a = c.args in
    let m = a.out.now in
    let w = c.put_words-c in
    let y = c.put_payload-e in
    let n = length m in
    let k₁ : length c.put-a.new.out ≡ n = c.put-a.auto.out in
    let k₂ : length c.put-b.new.out ≡ n = c.put-b.auto.out ∙ k₁ in
    let k₃ : length w.new.out ≡ n = w.auto.out ∙ k₂ in
    let k₄ : length c.put-d.new.out ≡ n = c.put-d.auto.out ∙ k₃ in
    let k₅ : length y.new.out ≡ n = y.auto.out ∙ k₄ in
    joined a.t a.payload.now m c.put-a.new.out c.put-b.new.out w.new.out c.put-d.new.out y.new.out
    c.put.new.out n a.at c.put-a.result c.put-b.result w.result c.put-d.result y.result
    c.put.result c.letter.result c.requires refl k₁ k₂ k₃ k₄ k₅ c.letter.ensures c.put-a.ensures
    c.put-b.ensures w.ensures.0 w.ensures.1 c.put-d.ensures y.ensures.0 y.ensures.1 c.put.ensures

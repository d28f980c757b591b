-- `put_answer` meets its contract: a transfer that is handed out, or a sign and a number.
use mathlib.Core.Path.{◌≡◌, sym, subst, ◌∙◌}
use mathlib.Core.List.{List}
use Prim.Native.Nat.{ℕ, ◌+◌, ◌*◌, ◌-◌, ◌≤◌, ◌<◌}
use native.Mathlib.Nat.{sub-zero}
use native.Mathlib.Omega.{arith}
use borrow.Author.Tests.{eq-eqb, ne_eqb}
use lib.Dec.{eqb}
use lib.ListN.{length, take}
use lib.Seq.{take_all, length-take-le}
use Rattle.answers.specs.Reception.{number_of, transfer_in}
use Rattle.answers.specs.declared.Answer.{Answer}
use Rattle.answers.specs.declared.Transfer.{Transfer}
use Rattle.digits.specs.inside.Text.{Puts}
use Rattle.log_answer.specs.Answer.{numbered, transfer_text, answer_text}
use Rattle.rules.specs.Tests.{pick}
use Rattle.log_answer.proofs.put_answer.Goals as goal

module _ (a : Answer) (pay m m' : List ℕ) (at r : ℕ) where
  abbrev Put : Type 0
  Put = (Puts m m' at r (answer_text a pay)) × (r ≤ at + 131 + length pay * 2)

  module _ (n : ℕ) (e : n ≡ number_of a) where
    handed : (t : Transfer) → t ≡ transfer_in a → n ≡ 1 → (Puts m m' at r (transfer_text t (take t.len pay))) × (r ≤ at + 131 + length pay * 2) → Put
    unfolding answer_text
    handed t f q h =
        rw (eq-eqb (number_of a) 1 (sym e ∙ q))
        (subst (λ (x : Transfer). (Puts m m' at r (transfer_text x (take x.len pay))) × (r ≤ at + 131 + length pay * 2)) f h)

    plain : (sign : ℕ) → (n ≡ 1 → ⊥) → pick (eqb n 0) 43 45 ≡ sign → (Puts m m' at r (numbered sign n)) × (r ≤ at + 24) → Put
    unfolding answer_text
    plain sign q s h = rw (ne_eqb (number_of a) 1 (λ z. q (e ∙ z)), ← e, s) (h.0, omega (arith, h.1))

-- the payload at the front of the buffer, or all of it
front : (t : Transfer) (pay m m' : List ℕ) (at r : ℕ) → t.len < length pay
    → (Puts m m' at r (transfer_text t (take (t.len - 0) pay))) × (r ≤ at + 131 + length (take (t.len - 0) pay) * 2)
    → (Puts m m' at r (transfer_text t (take t.len pay))) × (r ≤ at + 131 + length pay * 2)
front t pay m m' at r l h =
    let k = rw (sub-zero t.len) at h in
    (k.0, omega (arith, k.1, length-take-le t.len pay (omega arith)))

whole : (t : Transfer) (pay m m' : List ℕ) (at r : ℕ) → length pay ≤ t.len → (Puts m m' at r (transfer_text t pay)) × (r ≤ at + 131 + length pay * 2)
    → (Puts m m' at r (transfer_text t (take t.len pay))) × (r ≤ at + 131 + length pay * 2)
whole t pay m m' at r l h = rw (take_all t.len pay l) h

pub returns-then-len-payload : goal.returns-then-len-payload
returns-then-len-payload c =
    let g = c.args in
    let p = c.put_transfer in
    handed g.a g.payload.now g.out.now p.new.out g.at p.result c.number-n.result c.number-n.ensures.0
    c.transfer-t.result c.transfer-t.ensures c.if-n-eq1.true
    (front c.transfer-t.result g.payload.now g.out.now p.new.out g.at p.result c.if-len-payload.true p.ensures)

pub returns-then-n-eq1 : goal.returns-then-n-eq1
returns-then-n-eq1 c =
    let g = c.args in
    let p = c.put_transfer-then-n-eq1 in
    handed g.a g.payload.now g.out.now p.new.out g.at p.result c.number-n.result c.number-n.ensures.0
    c.transfer-t.result c.transfer-t.ensures c.if-n-eq1.true
    (whole c.transfer-t.result g.payload.now g.out.now p.new.out g.at p.result c.if-len-payload.false p.ensures)

pub returns-then-n-eq0 : goal.returns-then-n-eq0
returns-then-n-eq0 c =
    let g = c.args in
    let p = c.numbered in
    plain g.a g.payload.now g.out.now p.new.out g.at p.result c.number-n.result c.number-n.ensures.0 43 c.if-n-eq1.false
    (rw (eq-eqb c.number-n.result 0 c.if-n-eq0.true)) p.ensures

pub returns : goal.returns
returns c =
    let g = c.args in
    let p = c.numbered-2 in
    plain g.a g.payload.now g.out.now p.new.out g.at p.result c.number-n.result c.number-n.ensures.0 45 c.if-n-eq1.false
    (rw (ne_eqb c.number-n.result 0 c.if-n-eq0.false)) p.ensures

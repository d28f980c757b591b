-- `last::refusal` meets its contract: 16, 25 or 0.
use mathlib.Core.Path.{◌≡◌, sym, ap, ◌∙◌}
use mathlib.Core.List.{List}
use Prim.Native.Nat.{ℕ, ◌*◌, ◌-◌}
use native.Mathlib.Omega.{arith}
use lib.ListN.{length, drop, length-drop}
use Rattle.bits.specs.Order.{unpack}
use Rattle.bits.proofs.Bytes.{length-unpack}
use Rattle.shape.specs.Answer.{numbered}
use Rattle.shape.proofs.Reading.{end-left}
use Rattle.shape.proofs.ItemFacts.{end-set, end-clear}
use Rattle.shape.proofs.last.refusal.Goals as goal

size : (s : List ℕ) (at : ℕ) → length (drop at (unpack s)) ≡ length s * 8 - at
size s at = length-drop at (unpack s) ∙ ap (λ (n : ℕ). n - at) (length-unpack s)

pub returns-then-at-s : goal.returns-then-at-s
returns-then-at-s c =
    let a = c.args in
    sym (ap numbered (end-left (drop a.at (unpack a.s.now)) (omega (arith, size a.s.now a.at, c.if-at-s.true))))

pub returns-then-read-ne0 : goal.returns-then-read-ne0
returns-then-read-ne0 c =
    let a = c.args in
    let n = a.s.now in
    sym (ap numbered (end-set (drop a.at (unpack n)) (length n * 8 - a.at) (omega (arith, c.if-at-s.false)) (size n a.at) (λ z. c.if-read-ne0.true (c.read.ensures ∙ z))))

pub returns : goal.returns
returns c =
    let a = c.args in
    let n = a.s.now in
    sym (ap numbered (end-clear (drop a.at (unpack n)) (length n * 8 - a.at) (omega (arith, c.if-at-s.false)) (size n a.at) (sym c.read.ensures ∙ c.if-read-ne0.false)))

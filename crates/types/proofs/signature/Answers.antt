-- `signature` meets its contract.
use Rattle.types.specs.Types.{signature_of}
use Rattle.rules.specs.Setup.{subscribed}
use borrow.Author.Tests.{ne_eqb}
use Prim.Native.Nat.{ℕ}
use native.Mathlib.Omega.{arith}
use mathlib.Core.Path.{◌≡◌, sym, ap, ap₂, ◌∙◌}
use Rattle.types.proofs.signature.Goals as goal

other-message : (t : ℕ) → (t ≡ 341 → ⊥) → (t ≡ 1 → ⊥) → (t ≡ 16370 → ⊥) → (t ≡ 16383 → ⊥) → (t ≡ 1092 → ⊥) → (t ≡ 1030 → ⊥) → signature_of 0 t ≡ 0
unfolding signature_of subscribed
other-message t a b d e f g =
    simp (ne_eqb 341 t (λ q. a (sym q)), ne_eqb 1 t (λ q. b (sym q)), ne_eqb 16370 t (λ q. d (sym q)), ne_eqb 16383 t (λ q. e (sym q)), ne_eqb 1092 t (λ q. f (sym q)), ne_eqb 1030 t (λ q. g (sym q)))

other-service : (t : ℕ) → (t ≡ 1 → ⊥) → (t ≡ 11 → ⊥) → (t ≡ 10 → ⊥) → signature_of 1 t ≡ 0
unfolding signature_of subscribed
other-service t a b d = simp (ne_eqb 1 t (λ q. a (sym q)), ne_eqb 11 t (λ q. b (sym q)), ne_eqb 10 t (λ q. d (sym q)))

other-kind : (k t : ℕ) → (k ≡ 0 → ⊥) → (k ≡ 1 → ⊥) → signature_of k t ≡ 0
unfolding signature_of subscribed
other-kind k t a b = simp (ne_eqb 0 k (λ q. a (sym q)), ne_eqb 1 k (λ q. b (sym q)))

pub returns-in-341 : goal.returns-in-341
unfolding signature_of subscribed
returns-in-341 c = ap₂ signature_of (sym c.if-kind-eq0.true) (sym c.in-341.is)

pub returns-in-1 : goal.returns-in-1
unfolding signature_of subscribed
returns-in-1 c = ap₂ signature_of (sym c.if-kind-eq0.true) (sym c.in-1.is)

pub returns-in-16370 : goal.returns-in-16370
unfolding signature_of subscribed
returns-in-16370 c = ap₂ signature_of (sym c.if-kind-eq0.true) (sym c.in-16370.is)

pub returns-in-16383 : goal.returns-in-16383
unfolding signature_of subscribed
returns-in-16383 c = ap₂ signature_of (sym c.if-kind-eq0.true) (sym c.in-16383.is)

pub returns-in-1092 : goal.returns-in-1092
unfolding signature_of subscribed
returns-in-1092 c = ap₂ signature_of (sym c.if-kind-eq0.true) (sym c.in-1092.is)

pub returns-in-1030 : goal.returns-in-1030
unfolding signature_of subscribed
returns-in-1030 c = ap₂ signature_of (sym c.if-kind-eq0.true) (sym c.in-1030.is)

pub returns-in_default : goal.returns-in_default
returns-in_default c =
    let t = c.args.type_id in
    sym (ap (λ (k : ℕ). signature_of k t) c.if-kind-eq0.true ∙ other-message t (omega arith) (omega arith) (omega arith) (omega arith) (omega arith) (omega arith))

pub returns-in-1-type_id : goal.returns-in-1-type_id
unfolding signature_of subscribed
returns-in-1-type_id c = ap₂ signature_of (sym c.if-kind-eq1.true) (sym c.in-1-type_id.is)

pub returns-in-11 : goal.returns-in-11
unfolding signature_of subscribed
returns-in-11 c = ap₂ signature_of (sym c.if-kind-eq1.true) (sym c.in-11.is)

pub returns-in-10 : goal.returns-in-10
unfolding signature_of subscribed
returns-in-10 c = ap₂ signature_of (sym c.if-kind-eq1.true) (sym c.in-10.is)

pub returns-in_default-type_id : goal.returns-in_default-type_id
returns-in_default-type_id c =
    let t = c.args.type_id in
    sym (ap (λ (k : ℕ). signature_of k t) c.if-kind-eq1.true ∙ other-service t (omega arith) (omega arith) (omega arith))

pub returns : goal.returns
returns c =
    let a = c.args in
    sym (other-kind a.kind a.type_id c.if-kind-eq0.false c.if-kind-eq1.false)

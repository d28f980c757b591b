-- A message that came, case by case.
use mathlib.Core.Path.{◌≡◌, sym, ap, ap₂, ◌∙◌}
use mathlib.Core.Bool.{Bool, true, false, not, ◌&&◌}
use mathlib.Core.List.{List}
use Prim.Native.Nat.{ℕ}
use borrow.Author.Tests.{eq-eqb, ne_eqb}
use lib.Dec.{eqb}
use lib.IntN.{nat_abs}
use lib.ListN.{length}
use Rattle.std.specs.Prelude.{Ok, Err}
use Rattle.shape.specs.Answer.{refused, got, number_of}
use Rattle.shape.specs.declared.answer.Refusal.{Refusal}
use Rattle.shape.specs.Shape.{Values, decoded}
use Rattle.protocol_dynamic_node_id.specs.Allocation.{allocation}
use Rattle.allocator.proofs.Messages.{same_refusal}
use Rattle.allocatee.specs.Calls.{state, waits, begins, is_own, skips, on_message, on_read, heard}
use Rattle.allocatee.specs.Layout.{unique_of, node_of, wait_of, sound_state, with_node, with_pending, with_timer}
use Rattle.allocatee.specs.Limits.{unique_id_max}
use Rattle.allocatee.specs.declared.Heard.{Heard}
use Rattle.allocatee.specs.declared.answer.AllocateeError.TheVariants.{Message, Faulty}
use Rattle.allocatee.specs.declared.answer.Step.TheVariants.{Waits, Has}

module _ (m : List ℕ) (source : ℕ) (u : List ℕ) where
  pub own-none : source ≡ 0 → false ≡ is_own m source u
  unfolding is_own
  own-none e = rw (eq-eqb source 0 e)

  pub own-some : (source ≡ 0 → ⊥) → (b : Bool) → b ≡ begins u (unique_of m) → b ≡ is_own m source u
  unfolding is_own
  own-some n b e = rw (ne_eqb source 0 n) e

module _ (m : List ℕ) (q : Heard) (n : ℕ) (u : List ℕ) (own b : Bool) (eo : own ≡ is_own m q.source u) (eb : b ≡ (own && (eqb (length u) unique_id_max && not (eqb n 0)))) where
  test : (is_own m q.source u && (eqb (length u) unique_id_max && not (eqb n 0))) ≡ b
  test = sym (eb ∙ ap (λ (o : Bool). o && (eqb (length u) unique_id_max && not (eqb n 0))) eo)

  pub on-taken : b ≡ true → (m' : List ℕ) → m' ≡ with_node m n → state (Ok (Has n)) m' ≡ on_message m q n u
  unfolding on_message
  on-taken t m' e = rw (test, t) (ap (state (Ok (Has n))) e)

  pub on-waits : b ≡ false → (s : ℕ) → s ≡ skips own (length u) → (m₁ m₂ : List ℕ) → m₁ ≡ with_timer m q.time q.random → m₂ ≡ with_pending m₁ s → (w : ℕ) → w ≡ wait_of m₂ q.time
      → state (Ok (Waits w)) m₂ ≡ on_message m q n u
  unfolding on_message
  on-waits f s es m₁ m₂ e₁ e₂ w ew =
      rw (test, f)
      (ap (λ (k : ℕ). state (Ok (Waits k)) m₂) ew
      ∙ ap (λ x. waits x q.time) (e₂ ∙ ap₂ (λ x (k : ℕ). with_pending x k) e₁ (es ∙ ap (λ (o : Bool). skips o (length u)) eo)))

-- ── the call ──

module _ (m : List ℕ) (q : Heard) (p : List ℕ) where
  pub heard-faulty : sound_state m ≡ false → state (Err Faulty) m ≡ heard m q p
  unfolding heard
  heard-faulty s = rw s

  module _ (s : sound_state m ≡ true) (n : ℕ) (is : n ≡ node_of m) where
    pub heard-has : (n ≡ 0 → ⊥) → state (Ok (Has n)) m ≡ heard m q p
    unfolding heard
    heard-has z = rw (s, ne_eqb (node_of m) 0 (λ e. z (is ∙ e))) (ap (λ (k : ℕ). state (Ok (Has k)) m) is)

    module _ (z : n ≡ 0) where
      by-message : on_read (decoded allocation p) m q ≡ heard m q p
      unfolding heard
      by-message = rw (s, eq-eqb (node_of m) 0 (sym is ∙ z))

      pub heard-refused : (r : Refusal) → decoded allocation p ≡ refused (number_of r) → state (Err (Message r)) m ≡ heard m q p
      heard-refused r e = ap (λ (x : Refusal). state (Err (Message x)) m) (sym (same_refusal r)) ∙ sym (ap (λ x. on_read x m q) e) ∙ by-message

      pub heard-read : (v : Values allocation) → decoded allocation p ≡ got v → on_message m q (nat_abs v.0) v.1.1 ≡ heard m q p
      heard-read v e = sym (ap (λ x. on_read x m q) e) ∙ by-message

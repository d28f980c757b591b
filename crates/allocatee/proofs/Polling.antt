-- A call on time, case by case.
use mathlib.Core.Path.{◌≡◌, sym, ap, ◌∙◌}
use mathlib.Core.Bool.{true, false}
use mathlib.Core.List.{List}
use mathlib.Mathlib.Data.Bool.Basic.{and_elim_left}
use Prim.Native.Nat.{ℕ, ◌<◌}
use borrow.Author.Tests.{eq-eqb, ne_eqb, ltb-true}
use Rattle.std.specs.Prelude.{Ok, Err}
use Rattle.allocatee.specs.Calls.{returned, follows_up, requests, polled}
use Rattle.allocatee.specs.Layout.{node_of, pending_of, follow_up_due, request_due, wait_of, sound_state}
use Rattle.allocatee.specs.declared.answer.AllocateeError.TheVariants.{Faulty}
use Rattle.allocatee.specs.declared.answer.Step.TheVariants.{Waits, Has}

pub is-pending : (m : List ℕ) (t : ℕ) → follow_up_due m t ≡ true → 0 < pending_of m
unfolding follow_up_due
is-pending m t e = ltb-true 0 (pending_of m) (and_elim_left _ _ e)

module _ (m : List ℕ) (t x : ℕ) (out : List ℕ) where
  pub polled-faulty : sound_state m ≡ false → returned (Err Faulty) m out ≡ polled m t x out
  unfolding polled
  polled-faulty s = rw s

  module _ (s : sound_state m ≡ true) (n : ℕ) (is : n ≡ node_of m) where
    pub polled-has : (n ≡ 0 → ⊥) → returned (Ok (Has n)) m out ≡ polled m t x out
    unfolding polled
    polled-has z = rw (s, ne_eqb (node_of m) 0 (λ e. z (is ∙ e))) (ap (λ (k : ℕ). returned (Ok (Has k)) m out) is)

    module _ (z : n ≡ 0) where
      pub polled-follows-up : follow_up_due m t ≡ true → follows_up m t out ≡ polled m t x out
      unfolding polled
      polled-follows-up f = rw (s, eq-eqb (node_of m) 0 (sym is ∙ z), f)

      module _ (f : follow_up_due m t ≡ false) where
        pub polled-requests : request_due m t ≡ true → requests m t x out ≡ polled m t x out
        unfolding polled
        polled-requests r = rw (s, eq-eqb (node_of m) 0 (sym is ∙ z), f, r)

        pub polled-waits : request_due m t ≡ false → (w : ℕ) → w ≡ wait_of m t → returned (Ok (Waits w)) m out ≡ polled m t x out
        unfolding polled
        polled-waits r w e = rw (s, eq-eqb (node_of m) 0 (sym is ∙ z), f, r) (ap (λ (k : ℕ). returned (Ok (Waits k)) m out) e)

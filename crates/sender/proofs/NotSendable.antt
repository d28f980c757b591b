-- The checks of 14, case by case in the order of the code.
use mathlib.Core.Path.{◌≡◌, refl, sym, ap, ◌∙◌}
use mathlib.Core.Bool.{Bool, true, false, false≢true, ◌&&◌, ◌||◌, or-false}
use mathlib.Mathlib.Data.Bool.Basic.{or-eq-false-eq-eq-false-and-eq-false as or_off}
use Prim.Native.Nat.{◌≤◌, ◌<◌}
use lib.Dec.{ltb}
use lib.ListN.{length}
use borrow.Author.Tests.{eq-eqb, ne_eqb, lt-ltb, le-ltb}
use Rattle.rules.specs.Sending.{Call, is_anonymous, is_response, bad_type, bad_destination, bad_anonymous, not_sendable}

or-two : (a b r : Bool) → (a || b) ≡ true → true ≡ (a || (b || r))
or-two true b r e = refl
or-two false true r e = refl
or-two false false r e = absurd (false≢true e)

module _ (c : Call) where
  pub over-own : 127 < c.own → true ≡ not_sendable c
  unfolding not_sendable
  over-own h = rw (lt-ltb 127 c.own h)

  module _ (h₁ : c.own ≤ 127) where
    pub over-kind : 2 < c.transfer_type → true ≡ not_sendable c
    unfolding not_sendable
    over-kind h = rw (le-ltb 127 c.own h₁, lt-ltb 2 c.transfer_type h)

    module _ (h₂ : c.transfer_type ≤ 2) where
      pub off-aim : (bad_type c.transfer_type c.type || bad_destination c.transfer_type c.destination) ≡ true → true ≡ not_sendable c
      unfolding not_sendable
      off-aim e = rw (le-ltb 127 c.own h₁, le-ltb 2 c.transfer_type h₂) (or-two (bad_type c.transfer_type c.type) (bad_destination c.transfer_type c.destination) _ e)

      module _ (h₃ : (bad_type c.transfer_type c.type || bad_destination c.transfer_type c.destination) ≡ false) where
        rest : (e : Bool) → ltb 31 c.priority ≡ e → not_sendable c ≡ (e || ((is_response c && ltb 31 c.transfer)
            || (is_anonymous c && bad_anonymous c.discriminator c.type (length c.payload) c.transfer_type)))
        unfolding not_sendable
        rest e q =
            let z = (or_off (bad_type c.transfer_type c.type) (bad_destination c.transfer_type c.destination)).0 h₃ in
            rw (le-ltb 127 c.own h₁, le-ltb 2 c.transfer_type h₂, z.0, z.1, q)
            (ap (λ b. e || ((is_response c && ltb 31 c.transfer) || b)) (or-false (is_anonymous c && bad_anonymous c.discriminator c.type (length c.payload) c.transfer_type)))

        pub over-priority : 31 < c.priority → true ≡ not_sendable c
        over-priority h = sym (rest true (lt-ltb 31 c.priority h))

        module _ (h₄ : c.priority ≤ 31) where
          pub over-transfer : (is_response c && ltb 31 c.transfer) ≡ true → true ≡ not_sendable c
          over-transfer e = sym (rest false (le-ltb 31 c.priority h₄) ∙ rw e)

          module _ (h₅ : (is_response c && ltb 31 c.transfer) ≡ false) where
            pub unnamed : c.own ≡ 0 → bad_anonymous c.discriminator c.type (length c.payload) c.transfer_type ≡ not_sendable c
            unnamed z = sym (rest false (le-ltb 31 c.priority h₄) ∙ rw (h₅, eq-eqb c.own 0 z))

            pub named : (c.own ≡ 0 → ⊥) → false ≡ not_sendable c
            named z = sym (rest false (le-ltb 31 c.priority h₄) ∙ rw (h₅, ne_eqb c.own 0 z))

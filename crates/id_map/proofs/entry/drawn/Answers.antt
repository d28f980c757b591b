-- `entry::drawn` meets its contract: the place holds the key, or another entry or none.
use mathlib.Core.Path.{◌≡◌, refl, sym, ap, ◌∙◌}
use mathlib.Core.Bool.{Bool, true, false}
use mathlib.Core.List.{List}
use Prim.Native.Nat.{ℕ}
use native.Mathlib.Omega.{arith}
use lib.Dec.{eqb}
use borrow.Author.Tests.{eq-eqb, ne_eqb, eqb-true}
use Rattle.id_map.specs.Layout.{key_at, next_at, time_at, topic_of_key, slot_at}
use Rattle.id_map.proofs.Keys.{same_key}
use Rattle.rules.specs.Map as rules
use Rattle.rules.specs.Tests.{pick}
use Rattle.id_map.proofs.entry.drawn.Goals as goal

module _ (m : List ℕ) (i k : ℕ) where
  -- what is drawn at a place goes by its key alone
  by_key : (k ≡ 0 → ⊥) → rules.drawn (topic_of_key k) (slot_at m i) ≡ pick (eqb (key_at m i) k) (next_at m i) 0
  unfolding slot_at
  by_key z = go (eqb (key_at m i) 0) refl where
    go : (b : Bool) → eqb (key_at m i) 0 ≡ b → rules.drawn (topic_of_key k) (pick b rules.free (rules.used (topic_of_key (key_at m i)) (next_at m i) (time_at m i))) ≡ pick (eqb (key_at m i) k) (next_at m i) 0
    go true e = let q : eqb (key_at m i) k ≡ false = ne_eqb (key_at m i) k (λ h. z (sym h ∙ eqb-true (key_at m i) 0 e)) in rw q
    go false e = ap (λ b. pick b (next_at m i) 0) (same_key (key_at m i) k)

pub returns-then-key-k : goal.returns-then-key-k
unfolding next_at
returns-then-key-k c =
    let a = c.args in
    sym (by_key a.map.now a.i a.k (λ z. omega arith) ∙ ap (λ b. pick b (next_at a.map.now a.i) 0) (eq-eqb (key_at a.map.now a.i) a.k (sym c.key.ensures ∙ c.if-key-k.true)))

pub returns : goal.returns
returns c =
    let a = c.args in
    sym (by_key a.map.now a.i a.k (λ z. omega arith) ∙ ap (λ b. pick b (next_at a.map.now a.i) 0) (ne_eqb (key_at a.map.now a.i) a.k (λ e. c.if-key-k.false (c.key.ensures ∙ e))))

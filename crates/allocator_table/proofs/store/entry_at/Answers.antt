-- `store::entry_at` meets its contract.
use mathlib.Core.Path.{◌≡◌, ap, ◌∙◌}
use mathlib.Core.List.{List}
use Prim.Native.Nat.{ℕ, suc, ◌+◌, ◌*◌, ◌-◌}
use native.Mathlib.Omega.{arith}
use Rattle.bits.specs.Little.{le_bytes}
use Rattle.bits.specs.Part.{span, splice}
use Rattle.allocator_table.specs.Layout.{entries_at, entry_count_at, entry_size, entry_count, opened, with_entry_at}
use Rattle.allocator_table.specs.Limits.{unique_id_max}
use Rattle.allocator_table.proofs.store.entry_at.Goals as goal

-- the four stores
module _ (m : List ℕ) (p n node : ℕ) (u m₁ m₂ m₃ m₄ : List ℕ) (is : n ≡ entry_count m) where
  abbrev at : ℕ
  at = entries_at + p * entry_size

  apart : m₁ ≡ splice m (entries_at + p * entry_size + entry_size) (span m (entries_at + p * entry_size) ((n - p) * entry_size)) → m₁ ≡ opened m p
  unfolding opened
  apart e =
      let k : at + entry_size ≡ entries_at + suc p * entry_size = omega arith in
      e ∙ ap (λ (x : ℕ). splice m x (span m at ((n - p) * entry_size))) k ∙ ap (λ (x : ℕ). splice m (entries_at + suc p * entry_size) (span m at ((x - p) * entry_size))) is

  stored : m₁ ≡ splice m (entries_at + p * entry_size + entry_size) (span m (entries_at + p * entry_size) ((n - p) * entry_size)) → m₂ ≡ splice m₁ (entries_at + p * entry_size) u
      → m₃ ≡ splice m₂ (entries_at + p * entry_size + unique_id_max) (le_bytes 1 node) → m₄ ≡ splice m₃ entry_count_at (le_bytes 1 (n + 1)) → m₄ ≡ with_entry_at m p u node
  unfolding with_entry_at
  stored e₁ e₂ e₃ e₄ =
      let k : n + 1 ≡ suc (entry_count m) = omega arith in
      e₄ ∙ ap (λ (x : ℕ). splice m₃ entry_count_at (le_bytes 1 x)) k
      ∙ ap (λ (x : List ℕ). splice x entry_count_at (le_bytes 1 (suc (entry_count m)))) (e₃ ∙ ap (λ (x : List ℕ). splice x (at + unique_id_max) (le_bytes 1 node)) (e₂ ∙ ap (λ (x : List ℕ). splice x at u) (apart e₁)))

pub returns : goal.returns
returns c =
    let a = c.args in
    stored a.state.now a.p a.n a.node a.u.now c.up.new.s c.copy_at.new.dst c.put_at.new.s c.put_at-2.new.s c.requires.u_len.1
    c.up.ensures c.copy_at.ensures c.put_at.ensures c.put_at-2.ensures

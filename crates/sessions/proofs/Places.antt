-- The blocks that a place has, as the code reads them.
use mathlib.Core.Path.{◌≡◌, sym, ap, subst, ◌∙◌}
use mathlib.Core.List.{List, [], ◌∷◌}
use Prim.Native.Nat.{ℕ, ◌+◌, ◌*◌, ◌≤◌, ◌<◌}
use native.Mathlib.Omega.{arith}
use borrow.Author.Tests.{eq-eqb}
use lib.ListN.{get_or}
use Rattle.bits.specs.Little.{le_bytes}
use Rattle.bits.specs.Order.{Octets}
use Rattle.bits.specs.Part.{span, splice}
use Rattle.blocks.specs.Stores.{store_all}
use Rattle.blocks.specs.inside.Bit.{including_all}
use Rattle.rules.specs.Blocks.{need, blocks_in}
use Rattle.rules.specs.Limits.{sessions_max, gathered_max, blocks_each}
use Rattle.rules.specs.Table.{empty}
use Rattle.session.specs.declared.Session.{Session}
use Rattle.sessions.specs.inside.Place.{code_stores}
use Rattle.state.proofs.Held.{count-le, table-held, small}
use Rattle.state.proofs.Table.{place_of}
use Rattle.state.specs.Layout.{free_at, stream_keys_at, block_lists_at, free_of, key_at, count_at, blocks_of, place_at, places_of}
use Rattle.state.specs.Place.{free_store, key_store}
use Rattle.state.specs.inside.Ready.{Ready, Small}

pub given-none : (m : List ℕ) (i : ℕ) → i < sessions_max → key_at m i ≡ 0 → including_all (free_of m) [] ≡ including_all (free_of m) (blocks_in (get_or (places_of m) i empty))
unfolding place_at
given-none m i h z = ap (including_all (free_of m)) (sym (ap blocks_in (place_of m i h ∙ none)))
  where
    none : place_at m i ≡ empty
    none = rw (eq-eqb (key_at m i) 0 z)

module _ (m : List ℕ) (r : Ready m) (bytes : Octets m) (i : ℕ) (in_table : i < sessions_max) (some : key_at m i ≡ 0 → ⊥) (len : ℕ) (is : len ≡ count_at m i) where
  pub count_of : len ≤ gathered_max
  count_of = omega (arith, is, count-le m r bytes i in_table some)

  module _ (n : ℕ) (e : n ≡ need len) where
    listed : span m (block_lists_at + i * blocks_each) n ≡ blocks_of m i
    unfolding blocks_of
    listed = ap (span m (block_lists_at + i * blocks_each)) (e ∙ ap need is)

    pub listed_small : (n ≤ blocks_each) × Small (span m (block_lists_at + i * blocks_each) n)
    listed_small = (omega (arith, e, count_of), subst Small (sym listed) (small m r bytes i in_table some))

    pub given-some : including_all (free_of m) (span m (block_lists_at + i * blocks_each) n) ≡ including_all (free_of m) (blocks_in (get_or (places_of m) i empty))
    given-some = ap (including_all (free_of m)) (listed ∙ sym (ap blocks_in (table-held m r bytes i in_table some)))

-- the stores of `wait`, one after the other
pub waits : (m m₁ m₂ m₃ : List ℕ) (i k : ℕ) (c : Session) (f : ℕ) → f ≡ including_all (free_of m) (blocks_in (get_or (places_of m) i empty))
    → m₁ ≡ splice m free_at (le_bytes 8 f) → m₂ ≡ splice m₁ (stream_keys_at + i * 4) (le_bytes 4 k) → m₃ ≡ store_all m₂ (code_stores i c)
    → m₃ ≡ store_all m (free_store (including_all (free_of m) (blocks_in (get_or (places_of m) i empty))) ∷ key_store i k ∷ code_stores i c)
unfolding store_all
waits m m₁ m₂ m₃ i k c f ef e₁ e₂ e₃ =
    e₃ ∙ ap (λ (x : List ℕ). store_all x (code_stores i c)) (e₂ ∙ ap (λ (x : List ℕ). splice x (stream_keys_at + i * 4) (le_bytes 4 k)) (e₁ ∙ ap (λ (y : ℕ). splice m free_at (le_bytes 8 y)) ef))

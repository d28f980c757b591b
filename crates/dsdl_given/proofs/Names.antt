-- Laws of names among names, as loops use them.
use mathlib.Core.Path.{◌≡◌}
use mathlib.Core.Bool.{Bool, false, ◌||◌}
use mathlib.Core.List.{List, map}
use Prim.Native.Nat.{ℕ, ◌+◌, ◌-◌, ◌≤◌, ◌<◌}
use Rattle.bits.specs.Tabulate.{tabulate}
use Rattle.dsdl_text.specs.Text.{same}
use Rattle.dsdl.specs.Definition.{is_among}
use Rattle.dsdl_given.specs.Given.{Definition, name_twice}
use Rattle.dsdl_given.proofs.Turns.{tab-turn, tab-end}

abbrev names : List Definition → List (List ℕ)
names ds = map (λ (d : Definition). d.name) ds

module _ (f : ℕ → Definition) (i n : ℕ) where
  pub among-turn : (x : List ℕ) (b : Bool) → i < n → same x (f i).name ≡ b
      → is_among x (names (tabulate f i (n - i))) ≡ b || is_among x (names (tabulate f (i + 1) (n - (i + 1))))
  unfolding is_among
  among-turn x b h e = rw (tab-turn f i n h, e)

  pub among_none : (x : List ℕ) → n ≤ i → is_among x (names (tabulate f i (n - i))) ≡ false
  unfolding is_among
  among_none x h = rw (tab-end f i n h)

  pub twice-turn : (b : Bool) → i < n → is_among (f i).name (names (tabulate f (i + 1) (n - (i + 1)))) ≡ b
      → name_twice (tabulate f i (n - i)) ≡ b || name_twice (tabulate f (i + 1) (n - (i + 1)))
  unfolding name_twice
  twice-turn b h e = rw (tab-turn f i n h, e)

  pub twice-none : n ≤ i → name_twice (tabulate f i (n - i)) ≡ false
  unfolding name_twice
  twice-none h = rw (tab-end f i n h)

-- Laws of `oversized`, of lengths in bytes.
use mathlib.Core.Path.{◌≡◌, sym, ap, ◌∙◌}
use mathlib.Core.Bool.{true, false}
use mathlib.Core.List.{List}
use Prim.Native.Nat.{ℕ, ◌*◌, ◌/◌, ◌≤◌, ◌<◌}
use borrow.Author.Tests.{ltb-false, lt-ltb, le-ltb}
use lib.Dec.{ltb}
use lib.ListN.{length}
use Rattle.std.proofs.lemmas.Bool.{or_parts}
use Rattle.dsdl_given.specs.Given.{definitions, definition_max, length_at, lengths_in, name_twice, too_long, oversized}
use Rattle.dsdl_given.specs.inside.Places.{given, Bounds, Inside}
use Rattle.dsdl_given.proofs.Lengths.{counted}
use Rattle.dsdl_given.proofs.Located.{placed, inside}

module _ (source lengths : List ℕ) where
  -- as many definitions as there are two lengths
  abbrev pub count : ℕ
  count = length lengths / 8

  few : ltb definition_max (length (definitions source (lengths_in lengths))) ≡ ltb definition_max count
  few = ap (ltb definition_max) (counted (length_at lengths) count source)

  pub many : definition_max < count → true ≡ oversized source (lengths_in lengths)
  unfolding oversized
  many h = rw (few, lt-ltb definition_max count h)

  module _ (h : count ≤ definition_max) where
    pub long : too_long (length source) (lengths_in lengths) ≡ true → true ≡ oversized source (lengths_in lengths)
    unfolding oversized
    long e = rw (few, le-ltb definition_max count h, e)

    pub by_names : too_long (length source) (lengths_in lengths) ≡ false → (bounds : List ℕ) → Bounds (length_at lengths) bounds (count * 2)
        → name_twice (given source bounds count) ≡ oversized source (lengths_in lengths)
    unfolding oversized
    by_names e bounds b = rw (few, le-ltb definition_max count h, e) (ap name_twice (sym (placed lengths bounds count b source)))

  -- if 43 does not answer
  module _ (fine : oversized source (lengths_in lengths) ≡ false) where
    pub at-most : count ≤ definition_max
    unfolding oversized
    at-most = ltb-false definition_max count (sym few ∙ (or_parts _ _ fine).0)

    pub no-twice : (bounds : List ℕ) → Bounds (length_at lengths) bounds (count * 2) → name_twice (given source bounds count) ≡ false
    unfolding oversized
    no-twice bounds b =
        ap name_twice (sym (placed lengths bounds count b source))
        ∙ (or_parts _ _ (or_parts _ _ fine).1).1

    pub all-kept : (bounds : List ℕ) → Bounds (length_at lengths) bounds (count * 2) → Inside source bounds count
    unfolding oversized
    all-kept bounds b =
        inside lengths bounds count b source at-most (or_parts _ _ (or_parts _ _ fine).1).0

-- `sound::place_fits` meets its contract, case by case.
use mathlib.Core.Path.{◌≡◌, sym, ◌∙◌}
use mathlib.Core.Bool.{true, false}
use mathlib.Core.List.{List}
use Prim.Native.Nat.{ℕ}
use borrow.Author.Tests.{eq-eqb, ne_eqb}
use lib.Dec.{ltb}
use Rattle.id_map.specs.Layout.{key_at, next_at, topic_of_key}
use Rattle.id_map.specs.inside.Sound.{empty_or_fits}
use Rattle.rules.specs.Map.{topic_fits}
use Rattle.id_map.proofs.sound.place_fits.Goals as goal

module _ (m : List ℕ) (i k : ℕ) (is : k ≡ key_at m i) where
  unheld : k ≡ 0 → true ≡ empty_or_fits m i
  unfolding empty_or_fits
  unheld z = rw (← is, eq-eqb k 0 z)

  module _ (z : k ≡ 0 → ⊥) where
    no-topic : topic_fits (topic_of_key k) ≡ false → false ≡ empty_or_fits m i
    unfolding empty_or_fits
    no-topic s = rw (← is, ne_eqb k 0 z, s)

    of-topic : topic_fits (topic_of_key k) ≡ true → ltb (next_at m i) 32 ≡ empty_or_fits m i
    unfolding empty_or_fits
    of-topic s = rw (← is, ne_eqb k 0 z, s)

pub returns-then-k-eq0 : goal.returns-then-k-eq0
returns-then-k-eq0 c = unheld c.args.map.now c.args.i c.args.k c.requires.1 c.if-k-eq0.true

pub returns-then-key_fits : goal.returns-then-key_fits
unfolding next_at
returns-then-key_fits c =
    of-topic c.args.map.now c.args.i c.args.k c.requires.1 c.if-k-eq0.false (sym c.key_fits.ensures ∙ c.if-key_fits.true)

pub returns : goal.returns
returns c =
    no-topic c.args.map.now c.args.i c.args.k c.requires.1 c.if-k-eq0.false (sym c.key_fits.ensures ∙ c.if-key_fits.false)

-- The blocks of one place, claimed.
use mathlib.Core.Path.{◌≡◌, refl, sym, ap, ap₂, ◌∙◌}
use mathlib.Core.Bool.{Bool, true, false, ◌&&◌, and-false}
use mathlib.Core.List.{List, []}
use mathlib.Core.Option.{Option, none, some}
use Prim.Native.Nat.{ℕ, ◌+◌, ◌*◌, ◌≤◌, ◌<◌}
use native.Mathlib.Omega.{arith}
use borrow.Author.Tests.{eq-eqb, ne_eqb, leb-true}
use lib.Dec.{eqb, leb}
use Rattle.bits.specs.Part.{span}
use Rattle.bits.specs.Tabulate.{tabulate}
use Rattle.frame.specs.Key.{stream_of_key}
use Rattle.rules.specs.Blocks.{need, blocks_in, used}
use Rattle.rules.specs.Limits.{sessions_max, gathered_max, blocks_each}
use Rattle.rules.specs.Sound.{stream_fits}
use Rattle.rules.specs.Tests.{pick}
use Rattle.std.specs.Prelude.{None, Some}
use Rattle.sessions.specs.inside.Sound.{control_fits, empty_or_fits, claimed, told, shares}
use Rattle.state.proofs.Bools.{and_left}
use Rattle.state.specs.Layout.{block_lists_at, free_of, key_at, count_at, blocks_of, place_at, places_of}
use Rattle.sessions.proofs.Claims.{told-fault, told_blocks, seen-fault, seen_end}

-- the session in place i
module _ (m : List ℕ) (i seen : ℕ) where
  pub unfit-claimed : control_fits m i ≡ false → None ≡ told (pick (control_fits m i) (claimed seen (blocks_of m i)) none)
  unfit-claimed f = ap (λ (b : Bool). told (pick b (claimed seen (blocks_of m i)) none)) (sym f)

  module _ (n : ℕ) (e : n ≡ count_at m i) where
    pub idle-claimed : n ≡ 0 → control_fits m i ≡ true → Some seen ≡ told (pick (control_fits m i) (claimed seen (blocks_of m i)) none)
    unfolding claimed blocks_of
    idle-claimed z f =
        let d : need (count_at m i) ≡ 0 = omega (arith, e, z) in
        sym (ap₂ (λ (b : Bool) (l : List ℕ). told (pick b (claimed seen l) none)) f (ap (span m (block_lists_at + i * blocks_each)) d))

    pub some-claimed : control_fits m i ≡ true → (j : ℕ) → j ≡ need n
        → told (claimed seen (span m (block_lists_at + i * blocks_each) j)) ≡ told (pick (control_fits m i) (claimed seen (blocks_of m i)) none)
    unfolding blocks_of
    some-claimed f j d =
        sym (ap₂ (λ (b : Bool) (l : List ℕ). told (pick b (claimed seen l) none)) f (ap (span m (block_lists_at + i * blocks_each)) (sym (d ∙ ap need e))))

pub few-claimed : (n : ℕ) (b : Bool) → (leb n gathered_max && b) ≡ true → n ≤ gathered_max
few-claimed n b f = leb-true n gathered_max (and_left (leb n gathered_max) b f)

-- place i
module _ (m : List ℕ) (i k seen : ℕ) (is : k ≡ key_at m i) where
  pub none-claimed : k ≡ 0 → Some seen ≡ told (pick (empty_or_fits m i) (claimed seen (blocks_in (place_at m i))) none)
  unfolding empty_or_fits place_at claimed
  none-claimed z = rw (eq-eqb (key_at m i) 0 (sym is ∙ z))

  module _ (some : k ≡ 0 → ⊥) where
    pub no_stream : stream_fits (stream_of_key k) ≡ false → None ≡ told (pick (empty_or_fits m i) (claimed seen (blocks_in (place_at m i))) none)
    unfolding empty_or_fits
    no_stream s = rw (← is, ne_eqb k 0 some, s)

    pub in-stream : stream_fits (stream_of_key k) ≡ true
        → told (pick (control_fits m i) (claimed seen (blocks_of m i)) none) ≡ told (pick (empty_or_fits m i) (claimed seen (blocks_in (place_at m i))) none)
    unfolding empty_or_fits place_at
    in-stream s = rw (← is, ne_eqb k 0 some, s)

-- both tests of a place passed, or one of them not
pub both-passed : (b : Bool) (o : Option ℕ) (x : ℕ) → Some x ≡ told (pick b o none) → (b ≡ true) × (o ≡ some x)
both-passed true o x e = (refl, told_blocks o x e)
both-passed false o x e = let z = told_blocks none x e in let y : ◌≡◌ {A = ℕ} 0 1 = cc in absurd (omega arith)

-- ── all places ──

module _ (m : List ℕ) where
  pub no-share : (x : Bool) → claimed (free_of m) (used (places_of m)) ≡ none → false ≡ (x && shares m)
  unfolding shares
  no-share x e = rw e (sym (and-false x))

  pub all-shared : (x : Bool) (seen : ℕ) → claimed (free_of m) (used (places_of m)) ≡ some seen → true ≡ x → eqb seen 18446744073709551615 ≡ (x && shares m)
  unfolding shares
  all-shared x seen e t = rw e (ap (λ (b : Bool). b && eqb seen 18446744073709551615) t)

  empty-blocks : (j : ℕ) → key_at m j ≡ 0 → blocks_in (place_at m j) ≡ []
  unfolding place_at
  empty-blocks j z = rw (eq-eqb (key_at m j) 0 z)

  fault-share : (x : Bool) (i s : ℕ) → i < sessions_max → claimed (free_of m) (used (tabulate (place_at m) 0 i)) ≡ some s → None ≡ told (claimed s (blocks_in (place_at m i)))
      → false ≡ (x && shares m)
  unfolding places_of
  fault-share x i s h e f = no-share x (seen-fault (place_at m) (free_of m) sessions_max i s h e (told-fault (claimed s (blocks_in (place_at m i))) f))

  -- where place i is at fault, by its fields or by its blocks
  pub fault-place : (x : Bool) (i s : ℕ) → i < sessions_max → claimed (free_of m) (used (tabulate (place_at m) 0 i)) ≡ some s
      → None ≡ told (pick (empty_or_fits m i) (claimed s (blocks_in (place_at m i))) none) → (empty_or_fits m i ≡ false → false ≡ x) → false ≡ (x && shares m)
  fault-place x i s h e f u = go (empty_or_fits m i) refl f
    where
      go : (b : Bool) → empty_or_fits m i ≡ b → None ≡ told (pick b (claimed s (blocks_in (place_at m i))) none) → false ≡ (x && shares m)
      go true d g = fault-share x i s h e g
      go false d g = ap (λ (b : Bool). b && shares m) (u d)

  pub end-share : (x : Bool) (i s : ℕ) → i ≤ sessions_max → ((j : ℕ) → i ≤ j → j < sessions_max → key_at m j ≡ 0) → claimed (free_of m) (used (tabulate (place_at m) 0 i)) ≡ some s → true ≡ x
      → eqb s 18446744073709551615 ≡ (x && shares m)
  unfolding places_of
  end-share x i s h k e t = all-shared x s (seen_end (place_at m) (free_of m) sessions_max i s h (λ j a b. empty-blocks j (k j a b)) e) t

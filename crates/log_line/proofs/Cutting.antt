-- Cutting an input into lines.
use mathlib.Core.Path.{◌≡◌, refl}
use mathlib.Core.Bool.{Bool, true, false}
use mathlib.Core.List.{List, [], ◌∷◌, ◌++◌}
use Prim.Native.Nat.{ℕ, zero, suc, ◌+◌, ◌<◌}
use native.Mathlib.Omega.{arith}
use lib.Dec.{eqb}
use lib.ListN.{length, take, drop}
use Rattle.rules.specs.Tests.{pick}
use Rattle.digits.specs.Find.{before}
use Rattle.log_line.specs.Lines.{Cut, ahead, cut}

abbrev pub cut_of : List (List ℕ) → List ℕ → Cut
cut_of ls r = record { whole = ls; rest = r }

-- ── at the first line feed ──

-- no line feed: all is the rest
pub cut-none : (s : List ℕ) → before 10 s ≡ length s → cut s ≡ cut_of [] s
unfolding cut before ahead
cut-none [] h = refl
cut-none (b ∷ bs) h = go (eqb b 10) refl h (cut-none bs) where
  go : (t : Bool) → eqb b 10 ≡ t → pick t 0 (suc (before 10 bs)) ≡ suc (length bs) → (before 10 bs ≡ length bs → cut bs ≡ cut_of [] bs)
      → pick t (cut_of ((b ∷ []) ∷ (cut bs).whole) (cut bs).rest) (ahead b (cut bs).whole (cut bs).rest) ≡ cut_of [] (b ∷ bs)
  go true q e ih = absurd (omega arith)
  go false q e ih = rw (ih (omega arith))

-- a line, and the lines after it
pub cut_line : (s : List ℕ) → before 10 s < length s
    → cut s ≡ cut_of (take (before 10 s + 1) s ∷ (cut (drop (before 10 s + 1) s)).whole) (cut (drop (before 10 s + 1) s)).rest
unfolding cut before ahead
cut_line [] h = absurd (omega arith)
cut_line (b ∷ bs) h = go (eqb b 10) refl h (cut_line bs) where
  go : (t : Bool) → eqb b 10 ≡ t → pick t 0 (suc (before 10 bs)) < suc (length bs)
      → (before 10 bs < length bs
      → cut bs ≡ cut_of (take (before 10 bs + 1) bs ∷ (cut (drop (before 10 bs + 1) bs)).whole) (cut (drop (before 10 bs + 1) bs)).rest)
      → pick t (cut_of ((b ∷ []) ∷ (cut bs).whole) (cut bs).rest) (ahead b (cut bs).whole (cut bs).rest)
      ≡ cut_of (take (pick t 0 (suc (before 10 bs)) + 1) (b ∷ bs) ∷ (cut (drop (pick t 0 (suc (before 10 bs)) + 1) (b ∷ bs))).whole)
      (cut (drop (pick t 0 (suc (before 10 bs)) + 1) (b ∷ bs))).rest
  go true q e ih = refl
  go false q e ih =
      let k : suc (before 10 bs) + 1 ≡ suc (before 10 bs + 1) = omega arith in
      rw (k, ih (omega arith))

-- ── one input after another ──

-- lines in front
abbrev pub after : List (List ℕ) → Cut → Cut
after ls c = cut_of (ls ++ c.whole) c.rest

pub cut-append : (s t : List ℕ) → cut (s ++ t) ≡ after (cut s).whole (cut ((cut s).rest ++ t))
unfolding cut ahead
cut-append [] t = refl
cut-append (b ∷ bs) t = go (eqb b 10) refl (cut bs) (cut-append bs t) where
  turn : (ls : List (List ℕ)) (r : List ℕ) → eqb b 10 ≡ false
      → ahead b (ls ++ (cut (r ++ t)).whole) (cut (r ++ t)).rest ≡ after (ahead b ls r).whole (cut ((ahead b ls r).rest ++ t))
  turn [] r n = rw n
  turn (l ∷ ls) r n = refl

  go : (x : Bool) → eqb b 10 ≡ x → (c : Cut) → cut (bs ++ t) ≡ after c.whole (cut (c.rest ++ t))
      → pick x (cut_of ((b ∷ []) ∷ (cut (bs ++ t)).whole) (cut (bs ++ t)).rest) (ahead b (cut (bs ++ t)).whole (cut (bs ++ t)).rest)
      ≡ after (pick x (cut_of ((b ∷ []) ∷ c.whole) c.rest) (ahead b c.whole c.rest)).whole
      (cut ((pick x (cut_of ((b ∷ []) ∷ c.whole) c.rest) (ahead b c.whole c.rest)).rest ++ t))
  go true q c e = rw e
  go false q c e = rw e (turn c.whole c.rest q)

-- ── what is unfinished ──

-- no line feed in it
abbrev pub Plain : List ℕ → Type 0
Plain [] = Unit {0}
Plain (b ∷ bs) = (eqb b 10 ≡ false) × Plain bs

pub plain-rest : (s : List ℕ) → Plain (cut s).rest
unfolding cut ahead
plain-rest [] = tt
plain-rest (b ∷ bs) = go (eqb b 10) refl (cut bs) (plain-rest bs) where
  turn : (ls : List (List ℕ)) (r : List ℕ) → eqb b 10 ≡ false → Plain r → Plain (ahead b ls r).rest
  turn [] r n h = (n, h)
  turn (l ∷ ls) r n h = h

  go : (x : Bool) → eqb b 10 ≡ x → (c : Cut) → Plain c.rest
      → Plain (pick x (cut_of ((b ∷ []) ∷ c.whole) c.rest) (ahead b c.whole c.rest)).rest
  go true q c h = h
  go false q c h = turn c.whole c.rest q h

pub plain-take : (n : ℕ) (u : List ℕ) → Plain u → Plain (take n u)
plain-take zero u h = tt
plain-take (suc n) [] h = tt
plain-take (suc n) (b ∷ bs) h = (h.0, plain-take n bs h.1)

-- an unfinished line in front of what follows it
unfoldable pub onto : List ℕ → List (List ℕ) → List ℕ → Cut
onto u [] r = cut_of [] (u ++ r)
onto u (l ∷ ls) r = cut_of ((u ++ l) ∷ ls) r

pub cut-onto : (u s : List ℕ) → Plain u → cut (u ++ s) ≡ onto u (cut s).whole (cut s).rest
unfolding cut ahead onto
cut-onto [] s h = none (cut s).whole (cut s).rest where
  none : (ls : List (List ℕ)) (r : List ℕ) → cut_of ls r ≡ onto [] ls r
  none [] r = refl
  none (l ∷ ls) r = refl
cut-onto (b ∷ bs) s h = rw (h.0, cut-onto bs s h.1) (one (cut s).whole (cut s).rest) where
  one : (ls : List (List ℕ)) (r : List ℕ) → ahead b (onto bs ls r).whole (onto bs ls r).rest ≡ onto (b ∷ bs) ls r
  one [] r = refl
  one (l ∷ ls) r = refl

pub cut-plain : (u : List ℕ) → Plain u → cut u ≡ cut_of [] u
unfolding cut ahead
cut-plain [] h = refl
cut-plain (b ∷ bs) h = rw (h.0, cut-plain bs h.1)

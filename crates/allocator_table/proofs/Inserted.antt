-- A table with one entry more.
use mathlib.Core.Path.{◌≡◌, refl, sym, ap, ◌∙◌}
use mathlib.Core.Bool.{Bool, true, false, false≢true, not, ◌&&◌, ◌||◌}
use mathlib.Core.List.{List, [], ◌∷◌}
use mathlib.Core.Option.{Option, none, some}
use Prim.Native.Nat.{ℕ, ◌≤◌, ◌<◌}
use native.Mathlib.Omega.{arith}
use borrow.Author.Tests.{eqb-true, eqb-false, eq-eqb, ne_eqb, ltb-true, ltb-false, lt-ltb}
use lib.Dec.{eqb, ltb}
use Rattle.rules.specs.Tests.{pick}
use Rattle.allocator_table.specs.Table.{Entry, holds, node_of, place_for, insert, is_givable, below, fits_before, sound}
use Rattle.allocator_table.proofs.Soundness.{first_fits, rest-sound, node-once, unique-below}

module _ (e f : Entry) (t : List Entry) where
  later : ltb f.unique e.unique ≡ true → insert e (f ∷ t) ≡ f ∷ insert e t
  unfolding insert place_for
  later h = rw h

  here : ltb f.unique e.unique ≡ false → insert e (f ∷ t) ≡ e ∷ (f ∷ t)
  unfolding insert place_for
  here h = rw h

-- where an entry goes: in front of one, or behind it
data Goes (e f : Entry) (t : List Entry) : Type 0 where
  behind : f.unique < e.unique → insert e (f ∷ t) ≡ f ∷ insert e t → Goes e f t
  before : e.unique ≤ f.unique → insert e (f ∷ t) ≡ e ∷ (f ∷ t) → Goes e f t

goes : (e f : Entry) (t : List Entry) → Goes e f t
goes e f t = go (ltb f.unique e.unique) refl where
  go : (b : Bool) → ltb f.unique e.unique ≡ b → Goes e f t
  go true h = behind (ltb-true f.unique e.unique h) (later e f t h)
  go false h = before (ltb-false f.unique e.unique h) (here e f t h)

-- ── what it has ──

swap : (a b c : Bool) → (a || (b || c)) ≡ (b || (a || c))
swap true true c = refl
swap true false c = refl
swap false b c = refl

pub held-inserted : (e : Entry) (x : ℕ) (t : List Entry) → holds x (insert e t) ≡ (eqb e.node x || holds x t)
unfolding holds insert place_for
held-inserted e x [] = refl
held-inserted e x (f ∷ t) = go (held-inserted e x t) (goes e f t) where
  go : holds x (insert e t) ≡ (eqb e.node x || holds x t) → Goes e f t → holds x (insert e (f ∷ t)) ≡ (eqb e.node x || (eqb f.node x || holds x t))
  go ih (behind h q) = ap (holds x) q ∙ ap (λ (b : Bool). eqb f.node x || b) ih ∙ swap (eqb f.node x) (eqb e.node x) (holds x t)
  go ih (before h q) = ap (holds x) q

-- a new unique ID is found, and every other one as before
pub found-inserted : (e : Entry) (t : List Entry) → node_of e.unique t ≡ none → node_of e.unique (insert e t) ≡ some e.node
unfolding node_of insert place_for
found-inserted e [] n = rw (eq-eqb e.unique e.unique refl)
found-inserted e (f ∷ t) n = go (found-inserted e t) (goes e f t) where
  miss : (b : Bool) → pick b (some f.node) (node_of e.unique t) ≡ none → node_of e.unique t ≡ none
  miss true k = absurd (let z : ◌≡◌ {A = ℕ} 0 1 = cc in omega arith)
  miss false k = k

  go : (node_of e.unique t ≡ none → node_of e.unique (insert e t) ≡ some e.node) → Goes e f t → node_of e.unique (insert e (f ∷ t)) ≡ some e.node
  go ih (behind h q) = ap (node_of e.unique) q ∙ rw (ne_eqb f.unique e.unique (λ w. omega arith)) (ih (miss (eqb f.unique e.unique) n))
  go ih (before h q) = ap (node_of e.unique) q ∙ rw (eq-eqb e.unique e.unique refl)

pub others-inserted : (e : Entry) (u : ℕ) (t : List Entry) → (e.unique ≡ u → ⊥) → node_of u (insert e t) ≡ node_of u t
unfolding node_of insert place_for
others-inserted e u [] o = rw (ne_eqb e.unique u o)
others-inserted e u (f ∷ t) o = go (others-inserted e u t o) (goes e f t) where
  go : node_of u (insert e t) ≡ node_of u t → Goes e f t → node_of u (insert e (f ∷ t)) ≡ pick (eqb f.unique u) (some f.node) (node_of u t)
  go ih (behind h q) = ap (node_of u) q ∙ ap (λ (y : Option ℕ). pick (eqb f.unique u) (some f.node) y) ih
  go ih (before h q) = ap (node_of u) q ∙ rw (ne_eqb e.unique u o)

-- so what was found is found again
pub kept-inserted : (e : Entry) (t : List Entry) (u n : ℕ) → node_of e.unique t ≡ none → node_of u t ≡ some n → node_of u (insert e t) ≡ some n
kept-inserted e t u n new k = go (eqb e.unique u) refl where
  go : (b : Bool) → eqb e.unique u ≡ b → node_of u (insert e t) ≡ some n
  go true q = absurd (let w = eqb-true e.unique u q in let x : node_of u t ≡ none = ap (λ (v : ℕ). node_of v t) (sym w) ∙ new in let z : ◌≡◌ {A = ℕ} 0 1 = cc in omega arith)
  go false q = others-inserted e u t (eqb-false e.unique u q) ∙ k

-- ── it has no fault ──

below-inserted : (u : ℕ) (e : Entry) (t : List Entry) → u < e.unique → below u t ≡ true → below u (insert e t) ≡ true
unfolding below insert place_for
below-inserted u e [] h k = lt-ltb u e.unique h
below-inserted u e (f ∷ t) h k = go (goes e f t) where
  go : Goes e f t → below u (insert e (f ∷ t)) ≡ true
  go (behind l q) = ap (below u) q ∙ k
  go (before l q) = ap (below u) q ∙ lt-ltb u e.unique h

both : (f : Entry) (x : List Entry) → fits_before f x ≡ true → sound x ≡ true → sound (f ∷ x) ≡ true
unfolding sound
both f x a b = rw (a, b)

module _ (e : Entry) (g : is_givable e.node ≡ true) where
  placed : (t : List Entry) → holds e.node t ≡ false → below e.unique t ≡ true → sound t ≡ true → sound (e ∷ t) ≡ true
  unfolding sound fits_before
  placed t h b s = rw (g, h, b, s)

  -- an entry that fits before some fits before these and another
  still-fits : (f : Entry) (t : List Entry) → fits_before f t ≡ true → f.unique < e.unique → (e.node ≡ f.node → ⊥) → fits_before f (insert e t) ≡ true
  unfolding fits_before
  still-fits f t k l d = rw (held-inserted e f.node t, ne_eqb e.node f.node d, below-inserted f.unique e t l (unique-below f t k)) (givable (is_givable f.node) (node-once f t k) k) where
    givable : (b : Bool) → holds f.node t ≡ false → (b && (not (holds f.node t) && below f.unique t)) ≡ true → (b && (not (holds f.node t) && true)) ≡ true
    givable true h w = rw h
    givable false h w = w

  pub sound-inserted : (t : List Entry) → sound t ≡ true → node_of e.unique t ≡ none → holds e.node t ≡ false → sound (insert e t) ≡ true
  unfolding node_of holds insert place_for below
  sound-inserted [] s new h = placed [] h refl s
  sound-inserted (f ∷ t) s new h = go (sound-inserted t (rest-sound f t s)) (goes e f t) (eqb f.unique e.unique) refl new (eqb f.node e.node) refl h where
    go : (node_of e.unique t ≡ none → holds e.node t ≡ false → sound (insert e t) ≡ true) → Goes e f t
        → (a : Bool) → eqb f.unique e.unique ≡ a → pick a (some f.node) (node_of e.unique t) ≡ none
        → (b : Bool) → eqb f.node e.node ≡ b → (b || holds e.node t) ≡ false → sound (insert e (f ∷ t)) ≡ true
    go ih w true p k b q l = absurd (let z : ◌≡◌ {A = ℕ} 0 1 = cc in omega arith)
    go ih w false p k true q l = absurd (false≢true (sym l))
    go ih (behind o r) false p k false q l =
        ap sound r ∙ both f (insert e t) (still-fits f t (first_fits f t s) o (λ z. eqb-false f.node e.node q (sym z))) (ih k l)
    go ih (before o r) false p k false q l =
        let d : e.unique < f.unique = omega (arith, eqb-false f.unique e.unique p) in
        ap sound r ∙ placed (f ∷ t) (rw (q, l)) (lt-ltb e.unique f.unique d) s

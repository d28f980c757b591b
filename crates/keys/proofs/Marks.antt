-- A mark set for every key passed shows which may be there a second time.
use mathlib.Core.Path.{◌≡◌, refl, sym, ap, subst, ◌∙◌}
use mathlib.Core.Bool.{Bool, true, false}
use mathlib.Core.List.{List}
use Prim.Native.Nat.{ℕ, suc, ◌<◌}
use native.Mathlib.Omega.{arith}
use borrow.Author.Tests.{eqb-true, eqb-false, ltb-true, ltb-false}
use lib.Dec.{eqb, ltb}
use lib.ListN.{length, get_or, set}
use lib.Seq.{get_or-set_same, get_or-set_other}
use Rattle.keys.specs.inside.Keys.{mark_at}
use Rattle.keys.proofs.Distinct.{First, FirstTo}

module _ (key : ℕ → ℕ) where
  -- every key before place i has left its mark
  abbrev pub Marked : ℕ → List ℕ → Type 0
  Marked i marks = (a : ℕ) → a < i → get_or marks (mark_at (key a)) 0 ≡ 1

  pub unmarked : (i : ℕ) (marks : List ℕ) → Marked i marks → (at : ℕ) → at ≡ mark_at (key i) → eqb (get_or marks at 0) 0 ≡ true → First key i
  unmarked i marks h at e t a l q =
      let z : ◌≡◌ {A = ℕ} 0 1 = sym (eqb-true (get_or marks at 0) 0 t) ∙ ap (λ j. get_or marks j 0) (e ∙ ap mark_at (sym q)) ∙ h a l in
      omega arith

  pub mark : (i : ℕ) (marks : List ℕ) → mark_at (key i) < length marks → Marked i marks → Marked (suc i) (set marks (mark_at (key i)) 1)
  mark i marks n h a l = go (eqb (mark_at (key a)) (mark_at (key i))) refl where
    go : (b : Bool) → eqb (mark_at (key a)) (mark_at (key i)) ≡ b → get_or (set marks (mark_at (key i)) 1) (mark_at (key a)) 0 ≡ 1
    go true e = rw (eqb-true (mark_at (key a)) (mark_at (key i)) e) (get_or-set_same marks (mark_at (key i)) 1 0 n)
    go false e =
        let d = eqb-false (mark_at (key a)) (mark_at (key i)) e in
        get_or-set_other marks (mark_at (key i)) (mark_at (key a)) 1 0 d ∙ h a (before (ltb a i) refl d)
      where
        before : (b : Bool) → ltb a i ≡ b → (mark_at (key a) ≡ mark_at (key i) → ⊥) → a < i
        before true q d = ltb-true a i q
        before false q d = absurd (d (ap (λ j. mark_at (key j)) (let w = ltb-false a i q in omega arith)))

  -- one place more, each in use the first of its key
  pub first_step : (i : ℕ) → FirstTo key i → ((key i ≡ 0 → ⊥) → First key i) → FirstTo key (suc i)
  first_step i g own a h = go (ltb a i) refl where
    go : (b : Bool) → ltb a i ≡ b → (key a ≡ 0 → ⊥) → First key a
    go true e = g a (ltb-true a i e)
    go false e = let q : i ≡ a = omega (arith, ltb-false a i e) in subst (λ j. (key j ≡ 0 → ⊥) → First key j) q own

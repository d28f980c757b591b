-- Laws of values by name, and of 41.
use mathlib.Core.Path.{◌≡◌, refl, sym, ap₂, ◌∙◌}
use mathlib.Core.Bool.{Bool, true, false, not, cond, ◌&&◌, ◌||◌}
use mathlib.Core.List.{List, [], ◌∷◌, map}
use Prim.Native.Nat.{ℕ, zero, suc, ◌+◌, ◌≤◌, ◌<◌}
use native.Mathlib.Nat.{zero-add}
use native.Mathlib.Omega.{arith}
use lib.Dec.{eqb}
use borrow.Author.Tests.{eqb-true}
use lib.ListN.{get_or}
use Rattle.std.proofs.lemmas.Bool.{true≢false, and_parts, or_parts}
use Rattle.bits.specs.Tabulate.{tabulate, every}
use Rattle.dsdl_text.specs.Text.{same}
use Rattle.dsdl.specs.Definition.{is_among}
use Rattle.dsdl_given.specs.Given.{Definition, name_twice, is_service_of}
use Rattle.dsdl_nesting.specs.Nesting.{is_given, every_name, every_one, find}
use Rattle.dsdl_nesting.specs.inside.Kept.{index_of, Kept}

abbrev names : List Definition → List (List ℕ)
names ds = map (λ (d : Definition). d.name) ds

or-none : (a : Bool) → a ≡ (true && a) || false
or-none true = refl
or-none false = refl

same_true : (a b : List ℕ) → same a b ≡ true → a ≡ b
unfolding same
same_true [] [] e = refl
same_true [] (y ∷ ys) e = absurd (true≢false (sym e))
same_true (x ∷ xs) [] e = absurd (true≢false (sym e))
same_true (x ∷ xs) (y ∷ ys) e =
    let p = and_parts (eqb x y) (same xs ys) e in
    ap₂ (λ (c : ℕ) (cs : List ℕ). c ∷ cs) (eqb-true x y p.0) (same_true xs ys p.1)

-- a name that no definition has is not given
unnamed : (ds : List Definition) (x : List ℕ) → is_among x (names ds) ≡ false → is_given ds x ≡ false
unfolding is_among is_given
unnamed [] x e = refl
unnamed (d ∷ ds) x e = let p = or_parts (same x d.name) (is_among x (names ds)) e in rw (p.0, unnamed ds x p.1)

pub given-named : (ds : List Definition) (x : List ℕ) → is_given ds x ≡ true → is_among x (names ds) ≡ false → ⊥
given-named ds x g e = true≢false (sym g ∙ unnamed ds x e)

-- ── a list by its index ──

pub every-same : (f g : ℕ → Bool) (n j : ℕ) → ((i : ℕ) → j ≤ i → i < j + n → f i ≡ g i) → every f j n ≡ every g j n
unfolding every
every-same f g zero j e = refl
every-same f g (suc n) j e = ap₂ ◌&&◌ (e j (omega arith) (omega arith)) (every-same f g n (suc j) (λ i l h. e i (omega arith) (omega arith)))

pub every-definition : (p : Definition → Bool) (d : ℕ → Definition) (n j : ℕ) → every (λ (i : ℕ). p (d i)) j n ≡ every_one p (tabulate d j n)
unfolding every every_one tabulate
every-definition p d zero j = refl
every-definition p d (suc n) j = rw (every-definition p d n (suc j))

pub every-name : (p q : List ℕ → Bool) → ((x : List ℕ) → p x ≡ q x) → (xs : List (List ℕ)) → every_name p xs ≡ every_name q xs
unfolding every_name
every-name p q e [] = refl
every-name p q e (x ∷ xs) = rw (e x, every-name p q e xs)

-- ── the value of a name ──

module _ {A : Type 0} (z : A) (vs : List A) (d : ℕ → Definition) (f : Definition → A) (x : List ℕ) where
  look : (m j : ℕ) → ((i : ℕ) → j ≤ i → i < j + m → get_or vs i z ≡ f (d i))
      → (is_among x (names (tabulate d j m)) ≡ false → get_or vs (j + m) z ≡ f (record { name = x; text = [] }))
      → get_or vs (j + index_of (tabulate d j m) x) z ≡ f (find (tabulate d j m) x)
  unfolding tabulate index_of find is_among
  look zero j at other = other refl
  look (suc m) j at other = go (same x (d j).name) refl (λ o. look m (suc j) (λ i l h. at i (omega arith) (omega arith)) o) where
    go : (b : Bool) → same x (d j).name ≡ b
        → ((is_among x (names (tabulate d (suc j) m)) ≡ false → get_or vs (suc j + m) z ≡ f (record { name = x; text = [] }))
        → get_or vs (suc j + index_of (tabulate d (suc j) m) x) z ≡ f (find (tabulate d (suc j) m) x))
        → get_or vs (j + cond b 0 (suc (index_of (tabulate d (suc j) m) x))) z ≡ f (cond b (d j) (find (tabulate d (suc j) m) x))
    go true e ih = let q : j + 0 ≡ j = omega arith in rw q (at j (omega arith) (omega arith))
    go false e ih =
        let q : j + suc (index_of (tabulate d (suc j) m) x) ≡ suc j + index_of (tabulate d (suc j) m) x = omega arith in
        let r : j + suc m ≡ suc j + m = omega arith in
        rw q (ih (λ a. rw r at (other (ap₂ ◌||◌ e a))))

  pub look_up : (n : ℕ) → ((i : ℕ) → i < n → get_or vs i z ≡ f (d i))
      → (is_among x (names (tabulate d 0 n)) ≡ false → get_or vs n z ≡ f (record { name = x; text = [] }))
      → get_or vs (index_of (tabulate d 0 n) x) z ≡ f (find (tabulate d 0 n) x)
  look_up n at other =
      rw zero-add at (look n 0 (λ i l h. at i (omega arith)) (λ e. rw (zero-add n) (other e)))

-- ── 41 ──

module _ (vs : List Bool) (d : ℕ → Definition) (x : List ℕ) where
  look-given : (m j : ℕ) → ((i : ℕ) → j ≤ i → i < j + m → get_or vs i false ≡ not (is_service_of (d i))) → get_or vs (j + m) false ≡ false
      → name_twice (tabulate d j m) ≡ false → get_or vs (j + index_of (tabulate d j m) x) false ≡ is_given (tabulate d j m) x
  unfolding tabulate index_of is_given name_twice
  look-given zero j at other t = other
  look-given (suc m) j at other t = go (same x (d j).name) refl (look-given m (suc j) (λ i l h. at i (omega arith) (omega arith)) (rw next at other) (or_parts (is_among (d j).name (names (tabulate d (suc j) m))) (name_twice (tabulate d (suc j) m)) t).1) where
    next : j + suc m ≡ suc j + m
    next = omega arith

    go : (b : Bool) → same x (d j).name ≡ b
        → get_or vs (suc j + index_of (tabulate d (suc j) m) x) false ≡ is_given (tabulate d (suc j) m) x
        → get_or vs (j + cond b 0 (suc (index_of (tabulate d (suc j) m) x))) false ≡ (b && not (is_service_of (d j))) || is_given (tabulate d (suc j) m) x
    go true e ih =
        let q : j + 0 ≡ j = omega arith in
        let u : is_given (tabulate d (suc j) m) x ≡ false = unnamed (tabulate d (suc j) m) x (rw (same_true x (d j).name e) (or_parts (is_among (d j).name (names (tabulate d (suc j) m))) (name_twice (tabulate d (suc j) m)) t).0) in
        rw (q, u) (at j (omega arith) (omega arith) ∙ or-none (not (is_service_of (d j))))
    go false e ih =
        let q : j + suc (index_of (tabulate d (suc j) m) x) ≡ suc j + index_of (tabulate d (suc j) m) x = omega arith in
        rw q ih

  pub given-at : (n : ℕ) → n < 9 → Kept false (λ (i : ℕ). not (is_service_of (d i))) false n n vs → name_twice (tabulate d 0 n) ≡ false
      → get_or vs (index_of (tabulate d 0 n) x) false ≡ is_given (tabulate d 0 n) x
  given-at n h k t = rw zero-add at (look-given n 0 (λ i l m. k.at i (omega arith)) (rw (zero-add n) k.behind) t)

-- Texts whose characters are all of a class, and words made of characters above `#`.
use mathlib.Core.Path.{◌≡◌, refl, sym, ap, ◌∙◌}
use mathlib.Core.Bool.{Bool, true, false, cond, ◌&&◌, ◌||◌, false≢true}
use mathlib.Core.List.{List, [], ◌∷◌, ◌++◌}
use mathlib.Core.Logic.{◌⊎◌, inl, inr, ⊎_elim}
use Prim.Native.Nat.{ℕ, suc, ◌≤◌}
use native.Mathlib.Omega.{arith}
use lib.Dec.{leb, eqb, eqb-zero-suc, eqb-suc-suc}
use borrow.Author.Tests.{eqb-true, ne_eqb, leb-true}
use lib.ListN.{length, take, drop}
use lib.Seq.{take_at, drop_at}
use Rattle.dsdl_text.specs.declared.class.Class.{Class}
use Rattle.dsdl_text.specs.declared.class.Class.TheVariants.{Inline, Bare, Visible, Naming, Undotted, Unbracketed}
use Rattle.dsdl_text.specs.Text.{same}
use Rattle.dsdl_text.specs.Class.{is_in, run, all}

-- ── tests ──

pub no : {A : Type 0} → false ≡ true → A
no e = absurd (false≢true e)

pub and_left : (a b : Bool) → (a && b) ≡ true → a ≡ true
and_left true b e = refl
and_left false b e = e

pub and_right : (a b : Bool) → (a && b) ≡ true → b ≡ true
and_right true b e = e
and_right false b e = no e

pub or-true : (a b : Bool) → (a || b) ≡ true → (a ≡ true) ⊎ (b ≡ true)
or-true true b e = inl refl
or-true false b e = inr e

pub decided : (b : Bool) → (b ≡ true) ⊎ (b ≡ false)
decided true = inl refl
decided false = inr refl

-- ── all of a class ──

abbrev pub Each : Class → List ℕ → Type 0
Each k [] = Unit
Each k (c ∷ cs) = (is_in k c ≡ true) × Each k cs

pub each_append : (k : Class) (a b : List ℕ) → Each k a → Each k b → Each k (a ++ b)
each_append k [] b p q = q
each_append k (c ∷ a) b p q = (p.0, each_append k a b p.1 q)

pub all_cons : (k : Class) (c : ℕ) (cs : List ℕ) → all k (c ∷ cs) ≡ (is_in k c && all k cs)
unfolding run
all_cons k c cs = go (is_in k c) where
  go : (b : Bool) → eqb (cond b (suc (run k cs)) 0) (suc (length cs)) ≡ (b && eqb (run k cs) (length cs))
  go true = eqb-suc-suc (run k cs) (length cs)
  go false = eqb-zero-suc (length cs)

pub each : (k : Class) (l : List ℕ) → all k l ≡ true → Each k l
each k [] e = tt
each k (c ∷ cs) e =
    let q = sym (all_cons k c cs) ∙ e in
    (and_left (is_in k c) (all k cs) q, each k cs (and_right (is_in k c) (all k cs) q))

pub each_all : (k : Class) (l : List ℕ) → Each k l → all k l ≡ true
unfolding run
each_all k [] p = refl
each_all k (c ∷ cs) p = all_cons k c cs ∙ rw p.0 (each_all k cs p.1)

-- a run over them, up to a character of another class
module _ (k : Class) (w r : List ℕ) (p : Each k w) (z : run k r ≡ 0) where
  pub run-over : length w ≡ run k (w ++ r)
  unfolding run
  run-over = go w p where
    go : (v : List ℕ) → Each k v → length v ≡ run k (v ++ r)
    go [] q = sym z
    go (c ∷ cs) q = rw q.0 (ap suc (go cs q.1))

  pub taken : take (run k (w ++ r)) (w ++ r) ≡ w
  taken = take_at w r (run k (w ++ r)) run-over

  pub dropped : drop (run k (w ++ r)) (w ++ r) ≡ r
  dropped = drop_at w r (run k (w ++ r)) run-over

-- ── words ──

abbrev pub Solid : List ℕ → Type 0
Solid [] = Unit
Solid (c ∷ cs) = (36 ≤ c) × Solid cs

pub solid-append : (a b : List ℕ) → Solid a → Solid b → Solid (a ++ b)
solid-append [] b p q = q
solid-append (c ∷ a) b p q = (p.0, solid-append a b p.1 q)

pub visible : (c : ℕ) → 36 ≤ c → is_in Visible c ≡ true
unfolding is_in
visible c h = rw (ne_eqb c 32 (λ e. omega arith), ne_eqb c 9 (λ e. omega arith))

pub bare-char : (c : ℕ) → 36 ≤ c → is_in Bare c ≡ true
unfolding is_in
bare-char c h = rw (ne_eqb c 35 (λ e. omega arith))

pub inline : (c : ℕ) → 36 ≤ c → is_in Inline c ≡ true
unfolding is_in
inline c h = rw (ne_eqb c 10 (λ e. omega arith), ne_eqb c 13 (λ e. omega arith))

pub solid-each : (k : Class) → ((c : ℕ) → 36 ≤ c → is_in k c ≡ true) → (l : List ℕ) → Solid l → Each k l
solid-each k f [] p = tt
solid-each k f (c ∷ cs) p = (f c p.0, solid-each k f cs p.1)

-- ── names ──

-- a character from `0` on that is no bracket
pub record InName (c : ℕ) : Type 0 where
  pub low : 48 ≤ c
  pub bracket : c ≡ 91 → ⊥

pub naming : (c : ℕ) → is_in Naming c ≡ true → InName c
unfolding is_in
naming c e = ⊎_elim letter other (or-true _ _ e) where
  ranged : (a b : ℕ) → (leb a c && leb c b) ≡ true → (a ≤ c) × (c ≤ b)
  ranged a b q = (leb-true a c (and_left (leb a c) (leb c b) q), leb-true c b (and_right (leb a c) (leb c b) q))

  letter : ((leb 65 c && leb c 90) || (leb 97 c && leb c 122)) ≡ true → InName c
  letter q =
      ⊎_elim (λ u. let r = ranged 65 90 u in record { low = omega arith; bracket = λ z. omega arith })
      (λ u. let r = ranged 97 122 u in record { low = omega arith; bracket = λ z. omega arith }) (or-true _ _ q)

  other : ((leb 48 c && leb c 57) || eqb c 95) ≡ true → InName c
  other q =
      ⊎_elim (λ u. let r = ranged 48 57 u in record { low = omega arith; bracket = λ z. omega arith })
      (λ u. let r = eqb-true c 95 u in record { low = omega arith; bracket = λ z. omega arith }) (or-true _ _ q)

module _ (l : List ℕ) where
  pub naming-solid : Each Naming l → Solid l
  naming-solid p = go l p where
    go : (m : List ℕ) → Each Naming m → Solid m
    go [] q = tt
    go (c ∷ cs) q = let n = naming c q.0 in (omega arith, go cs q.1)

  pub naming-unbracketed : Each Naming l → Each Unbracketed l
  unfolding is_in
  naming-unbracketed p = go l p where
    go : (m : List ℕ) → Each Naming m → Each Unbracketed m
    go [] q = tt
    go (c ∷ cs) q = let n = naming c q.0 in (rw (ne_eqb c 91 n.bracket), go cs q.1)

  pub naming-undotted : Each Naming l → Each Undotted l
  unfolding is_in
  naming-undotted p = go l p where
    go : (m : List ℕ) → Each Naming m → Each Undotted m
    go [] q = tt
    go (c ∷ cs) q = let n = naming c q.0 in (rw (ne_eqb c 46 (λ z. omega arith)), go cs q.1)

-- texts that are the same are equal
pub same-equal : (a b : List ℕ) → same a b ≡ true → a ≡ b
unfolding same
same-equal [] [] e = refl
same-equal [] (y ∷ ys) e = no e
same-equal (x ∷ xs) [] e = no e
same-equal (x ∷ xs) (y ∷ ys) e =
    let p = eqb-true x y (and_left (eqb x y) (same xs ys) e) in
    let q = same-equal xs ys (and_right (eqb x y) (same xs ys) e) in
    ap (λ (c : ℕ). c ∷ xs) p ∙ ap (λ (l : List ℕ). y ∷ l) q

-- Dotted names, and the namespace of a full name.
use mathlib.Core.Path.{◌≡◌, refl, sym, ap, ◌∙◌}
use mathlib.Core.Bool.{Bool, true, false, not, cond, ◌&&◌}
use mathlib.Core.List.{List, [], ◌∷◌, ◌++◌}
use mathlib.Core.Logic.{⊎_elim}
use Prim.Native.Nat.{ℕ, suc, ◌+◌, ◌≤◌}
use native.Mathlib.Omega.{arith}
use lib.Dec.{leb, eqb}
use borrow.Author.Tests.{eqb-true, ne_eqb, not-true, not-false}
use lib.ListN.{length, take, length-append}
use lib.Seq.{take_at, append_snoc}
use Rattle.dsdl_text.specs.declared.class.Class.TheVariants.{Undotted, Unbracketed}
use Rattle.dsdl_text.specs.Class.{is_in, run, all}
use Rattle.dsdl_text.specs.Names.{goes_on, dotted_from, is_dotted, has_dot, name_max, is_full_name, last_dot, space_of, full_name}
use Rattle.dsdl_laws.proofs.Characters.{no, and_left, and_right, or-true, decided, Each, all_cons, Solid, naming}

-- ── where a dot is ──

pub dot-here : (p r : List ℕ) → has_dot (p ++ (46 ∷ r)) ≡ true
unfolding is_in
dot-here p r = ap not (go p) where
  go : (q : List ℕ) → all Undotted (q ++ (46 ∷ r)) ≡ false
  go [] = all_cons Undotted 46 r
  go (c ∷ q) = all_cons Undotted c (q ++ (46 ∷ r)) ∙ stays (is_in Undotted c) (go q) where
    stays : (b : Bool) → all Undotted (q ++ (46 ∷ r)) ≡ false → (b && all Undotted (q ++ (46 ∷ r))) ≡ false
    stays true e = e
    stays false e = refl

none : (i end : ℕ) (l : List ℕ) → has_dot l ≡ false → last_dot i end l ≡ end
unfolding last_dot is_in
none i end [] e = refl
none i end (c ∷ cs) e = go (eqb c 46) (sym (all_cons Undotted c cs) ∙ not-false (all Undotted (c ∷ cs)) e) (none (suc i) end cs) where
  go : (b : Bool) → (not b && all Undotted cs) ≡ true → (has_dot cs ≡ false → last_dot (suc i) end cs ≡ end)
      → last_dot (suc i) (cond b (suc i) end) cs ≡ end
  go true q ih = no q
  go false q ih = ih (ap not q)

-- a text with a dot, cut at its last
pub record Cut (l : List ℕ) : Type 0 where
  pub front : List ℕ
  pub back : List ℕ
  pub whole : l ≡ front ++ (46 ∷ back)
  pub place : (i end : ℕ) → last_dot i end l ≡ i + suc (length front)

cut : (l : List ℕ) → has_dot l ≡ true → Cut l
unfolding last_dot run is_in
cut [] e = no e
cut (c ∷ cs) e = ⊎_elim (λ h. later (cut cs h)) here (decided (has_dot cs)) where
  later : Cut cs → Cut (c ∷ cs)
  later k =
      record {
        front = c ∷ k.front;
        back = k.back;
        whole = ap (λ (m : List ℕ). c ∷ m) k.whole;
        place = λ i end. k.place (suc i) (cond (eqb c 46) (suc i) end) ∙ omega arith;
      }

  found : (b : Bool) → all Undotted cs ≡ true → (not b && all Undotted cs) ≡ false → b ≡ true
  found true u v = refl
  found false u v = no (sym v ∙ u)

  here : has_dot cs ≡ false → Cut (c ∷ cs)
  here h =
      let a = not-false (all Undotted cs) h in
      let f : eqb c 46 ≡ true = found (eqb c 46) a (sym (all_cons Undotted c cs) ∙ not-true (all Undotted (c ∷ cs)) e) in
      record {
        front = [];
        back = cs;
        whole = ap (λ (x : ℕ). x ∷ cs) (eqb-true c 46 f);
        place = λ i end. rw f (none (suc i) (suc i) cs h ∙ omega arith);
      }

-- ── dotted names ──

in-dotted : (b : Bool) (c : ℕ) → goes_on b c ≡ true → (36 ≤ c) × (c ≡ 91 → ⊥)
unfolding is_in
in-dotted true c e = let n = naming c (rw e) in (omega arith, n.bracket)
in-dotted false c e =
    ⊎_elim (λ u. let n = naming c u in (omega arith, n.bracket)) (λ u. let z = eqb-true c 46 u in (omega arith, λ y. omega arith)) (or-true _ _ e)

pub dotted-solid : (b : Bool) (l : List ℕ) → dotted_from b l ≡ true → Solid l
unfolding dotted_from
dotted-solid b [] e = tt
dotted-solid b (c ∷ cs) e =
    let n = in-dotted b c (and_left (goes_on b c) (dotted_from (eqb c 46) cs) e) in
    (n.0, dotted-solid (eqb c 46) cs (and_right (goes_on b c) (dotted_from (eqb c 46) cs) e))

pub dotted-unbracketed : (b : Bool) (l : List ℕ) → dotted_from b l ≡ true → Each Unbracketed l
unfolding dotted_from is_in
dotted-unbracketed b [] e = tt
dotted-unbracketed b (c ∷ cs) e =
    let n = in-dotted b c (and_left (goes_on b c) (dotted_from (eqb c 46) cs) e) in
    (rw (ne_eqb c 91 n.1), dotted-unbracketed (eqb c 46) cs (and_right (goes_on b c) (dotted_from (eqb c 46) cs) e))

-- ── namespaces ──

-- what a short name may come behind
pub record Space (space : List ℕ) : Type 0 where
  pub joins : (b : List ℕ) → is_dotted b ≡ true → is_dotted (space ++ b) ≡ true
  pub dot : (b : List ℕ) → has_dot (space ++ b) ≡ true

joined : (s : Bool) (p q b : List ℕ) → dotted_from s (p ++ (46 ∷ q)) ≡ true → is_dotted b ≡ true → dotted_from s (p ++ (46 ∷ b)) ≡ true
unfolding dotted_from
joined s [] q b e h = rw (and_left (goes_on s 46) (dotted_from (eqb 46 46) q) e) h
joined s (c ∷ p) q b e h =
    rw (and_left (goes_on s c) (dotted_from (eqb c 46) (p ++ (46 ∷ q))) e)
    (joined (eqb c 46) p q b (and_right (goes_on s c) (dotted_from (eqb c 46) (p ++ (46 ∷ q))) e) h)

module _ (name : List ℕ) (e : is_full_name name ≡ true) where
  pub is-dotted : is_dotted name ≡ true
  is-dotted = and_left (is_dotted name) (has_dot name && leb (length name) name_max) e

  at : Cut name
  at = cut name (and_left (has_dot name) (leb (length name) name_max) (and_right (is_dotted name) (has_dot name && leb (length name) name_max) e))

  space : space_of name ≡ at.front ++ (46 ∷ [])
  space =
      let k = at in
      let n : length (k.front ++ (46 ∷ [])) ≡ last_dot 0 0 name = omega (arith, length-append k.front (46 ∷ []), k.place 0 0) in
      ap (take (last_dot 0 0 name)) (k.whole ∙ sym (append_snoc k.front 46 k.back))
      ∙ take_at (k.front ++ (46 ∷ [])) k.back (last_dot 0 0 name) n

  pub space-of : Space (space_of name)
  space-of =
      record {
        joins =
            λ b h. ap (λ (s : List ℕ). is_dotted (s ++ b)) space ∙ (ap is_dotted (append_snoc at.front 46 b)
            ∙ joined true at.front at.back b (ap is_dotted (sym at.whole) ∙ is-dotted) h);
        dot = λ b. ap (λ (s : List ℕ). has_dot (s ++ b)) space ∙ (ap has_dot (append_snoc at.front 46 b) ∙ dot-here at.front b);
      }

pub full-name : (space b : List ℕ) → Space space → is_dotted b ≡ true → (is_dotted (full_name space b) ≡ true) × (has_dot (full_name space b) ≡ true)
full-name space b s h = go (has_dot b) refl where
  go : (d : Bool) → has_dot b ≡ d → (is_dotted (cond d b (space ++ b)) ≡ true) × (has_dot (cond d b (space ++ b)) ≡ true)
  go true p = (h, p)
  go false p = (s.joins b h, s.dot b)

-- Equal forms have equal signatures.
use mathlib.Core.Path.{◌≡◌, refl, sym, ap, subst, ◌∙◌}
use mathlib.Core.Bool.{Bool, true, false, cond, ◌||◌}
use mathlib.Core.List.{List, [], ◌∷◌, map}
use mathlib.Core.Logic.{⊎_elim}
use Prim.Native.Nat.{ℕ, zero, suc}
use native.Mathlib.Omega.{arith}
use borrow.Author.Tests.{eq-eqb}
use lib.ListN.{length, get_or, drop}
use Rattle.checksum.specs.Signature.{hash_from, extended}
use Rattle.dsdl_text.specs.Text.{same}
use Rattle.dsdl_text.specs.Lines.{lines}
use Rattle.dsdl_text.specs.Names.{space_of}
use Rattle.dsdl.specs.Definition.{lines_of, is_among}
use Rattle.dsdl_given.specs.Given.{Definition, form, nested_of}
use Rattle.dsdl_nesting.specs.Nesting.{every_name, every_one, find, chain_max, within}
use Rattle.dsdl_nesting.specs.Signature.{extended_by, signature_within, signature}
use Rattle.dsdl_laws.specs.Laws.{is_named}
use Rattle.dsdl_laws.proofs.Characters.{no, and_left, and_right, or-true, same-equal}
use Rattle.dsdl_laws.proofs.Dots.{space-of}
use Rattle.dsdl_laws.proofs.Rows.{form-lines, nested_rows, nested-rows, lines-read}

-- ── the name and the nested types, by the lines of the form ──

module _ (d : Definition) (n : is_named d ≡ true) where
  name_in : get_or (lines (form d)) 0 [] ≡ d.name
  name_in = ap (λ (l : List (List ℕ)). get_or l 0 []) (form-lines d.name d.text n)

  nested-in : nested_rows (drop 1 (lines (form d))) ≡ nested_of d
  nested-in =
      ap (λ (l : List (List ℕ)). nested_rows (drop 1 l)) (form-lines d.name d.text n)
      ∙ sym (nested-rows (space_of d.name) (lines_of d.text) (space-of d.name n) (lines-read (lines d.text)))

module _ (d e : Definition) (n : is_named d ≡ true) (m : is_named e ≡ true) (q : form d ≡ form e) where
  pub same_name : d.name ≡ e.name
  same_name = sym (name_in d n) ∙ (ap (λ (l : List ℕ). get_or (lines l) 0 []) q ∙ name_in e m)

  pub same-nested : nested_of d ≡ nested_of e
  same-nested = sym (nested-in d n) ∙ (ap (λ (l : List ℕ). nested_rows (drop 1 (lines l))) q ∙ nested-in e m)

-- ── signatures ──

same-itself : (l : List ℕ) → same l l ≡ true
unfolding same
same-itself [] = refl
same-itself (c ∷ cs) = rw (eq-eqb c c refl) (same-itself cs)

among : (p : List ℕ → Bool) (xs : List (List ℕ)) (x : List ℕ) → every_name p xs ≡ true → is_among x xs ≡ true → p x ≡ true
unfolding every_name is_among
among p [] x e a = no a
among p (y ∷ ys) x e a =
    ⊎_elim (λ s. ap p (same-equal x y s) ∙ and_left (p y) (every_name p ys) e) (among p ys x (and_right (p y) (every_name p ys) e))
    (or-true (same x y) (is_among x ys) a)

extended-alike : (f g : List ℕ → ℕ) (h : ℕ) (xs : List (List ℕ)) → ((x : List ℕ) → is_among x xs ≡ true → f x ≡ g x)
    → extended_by f h xs ≡ extended_by g h xs
unfolding extended_by is_among
extended-alike f g h [] e = refl
extended-alike f g h (x ∷ xs) e =
    ap (λ (k : ℕ). extended_by f (extended h k) xs) (e x (rw (same-itself x)))
    ∙ extended-alike f g (extended h (g x)) xs (λ y a. e y (later (same y x) (is_among y xs) a)) where
      later : (b c : Bool) → c ≡ true → (b || c) ≡ true
      later true c a = refl
      later false c a = a

-- a longer chain changes nothing where there is none
longer : (k : ℕ) (ds : List Definition) (d : Definition) → within k ds d ≡ true → signature_within k ds d ≡ signature_within (suc k) ds d
unfolding within signature_within
longer zero ds d e = no e
longer (suc k) ds d e =
    extended-alike (λ (x : List ℕ). signature_within k ds (find ds x)) (λ (x : List ℕ). signature_within (suc k) ds (find ds x))
    (hash_from 0 (form d)) (nested_of d)
    (λ x a. longer k ds (find ds x) (among (λ (y : List ℕ). within k ds (find ds y)) (nested_of d) x e a))

module _ (k : ℕ) (ds es : List Definition) (d e : Definition) where
  -- one more definition in the chain
  step : form d ≡ form e → nested_of d ≡ nested_of e
      → ((x : List ℕ) → is_among x (nested_of d) ≡ true → signature_within k ds (find ds x) ≡ signature_within k es (find es x))
      → signature_within (suc k) ds d ≡ signature_within (suc k) es e
  unfolding signature_within
  step f n s =
      extended-alike (λ (x : List ℕ). signature_within k ds (find ds x)) (λ (x : List ℕ). signature_within k es (find es x))
      (hash_from 0 (form d)) (nested_of d) s
      ∙ (ap (λ (t : List ℕ). extended_by (λ (x : List ℕ). signature_within k es (find es x)) (hash_from 0 t) (nested_of d)) f
      ∙ ap (extended_by (λ (x : List ℕ). signature_within k es (find es x)) (hash_from 0 (form e))) n)

pub one_signature : (ds es : List Definition) (d e : Definition) → is_named d ≡ true → is_named e ≡ true → form d ≡ form e
    → within chain_max ds d ≡ true → within chain_max es e ≡ true
    → ((x : List ℕ) → is_among x (nested_of d) ≡ true → signature ds (find ds x) ≡ signature es (find es x))
    → signature ds d ≡ signature es e
unfolding within
one_signature ds es d e n m f u v s =
    let q = same-nested d e n m f in
    step 3 ds es d e f q
    (λ x a. longer 3 ds (find ds x) (among (λ (y : List ℕ). within 3 ds (find ds y)) (nested_of d) x u a)
    ∙ (s x a ∙ sym (longer 3 es (find es x) (among (λ (y : List ℕ). within 3 es (find es y)) (nested_of e) x v
    (subst (λ (l : List (List ℕ)). is_among x l ≡ true) q a)))))

-- ── all definitions of a call ──

abbrev Named : List Definition → Type 0
Named ds = every_one is_named ds ≡ true

abbrev Alike : Definition → Definition → Type 0
Alike d e = (form d ≡ form e) × (nested_of d ≡ nested_of e)

module _ (d e : Definition) (ds es : List Definition) (n : Named (d ∷ ds)) (m : Named (e ∷ es)) (q : map form (d ∷ ds) ≡ map form (e ∷ es)) where
  named : is_named d ≡ true
  unfolding every_one
  named = and_left (is_named d) (every_one is_named ds) n

  named' : is_named e ≡ true
  unfolding every_one
  named' = and_left (is_named e) (every_one is_named es) m

  others : Named ds
  unfolding every_one
  others = and_right (is_named d) (every_one is_named ds) n

  others' : Named es
  unfolding every_one
  others' = and_right (is_named e) (every_one is_named es) m

  firsts : form d ≡ form e
  firsts = ap (λ (l : List (List ℕ)). get_or l 0 []) q

  rests : map form ds ≡ map form es
  rests = ap (λ (l : List (List ℕ)). drop 1 l) q

found_alike : (ds es : List Definition) → Named ds → Named es → map form ds ≡ map form es → (x : List ℕ) → Alike (find ds x) (find es x)
unfolding find
found_alike [] [] n m q x = (refl, refl)
found_alike [] (e ∷ es) n m q x = let z = ap length q in absurd (omega arith)
found_alike (d ∷ ds) [] n m q x = let z = ap length q in absurd (omega arith)
found_alike (d ∷ ds) (e ∷ es) n m q x =
    let f = firsts d e ds es n m q in
    let a = named d e ds es n m q in
    let b = named' d e ds es n m q in
    go (same x d.name) (same x e.name) (ap (same x) (same_name d e a b f)) (f, same-nested d e a b f)
    (found_alike ds es (others d e ds es n m q) (others' d e ds es n m q) (rests d e ds es n m q) x) where
      go : (a b : Bool) → a ≡ b → Alike d e → Alike (find ds x) (find es x) → Alike (cond a d (find ds x)) (cond b e (find es x))
      go true true p h t = h
      go true false p h t = no (sym p)
      go false true p h t = no p
      go false false p h t = t

module _ (ds es : List Definition) (n : Named ds) (m : Named es) (q : map form ds ≡ map form es) where
  by_name : (k : ℕ) (x : List ℕ) → signature_within k ds (find ds x) ≡ signature_within k es (find es x)
  unfolding signature_within
  by_name zero x = refl
  by_name (suc k) x =
      let a = found_alike ds es n m q x in
      step k ds es (find ds x) (find es x) a.0 a.1 (λ y h. by_name k y)

  one_by_one : (cs bs : List Definition) → Named cs → Named bs → map form cs ≡ map form bs → map (signature ds) cs ≡ map (signature es) bs
  one_by_one [] [] u v e = refl
  one_by_one [] (b ∷ bs) u v e = let z = ap length e in absurd (omega arith)
  one_by_one (a ∷ cs) [] u v e = let z = ap length e in absurd (omega arith)
  one_by_one (a ∷ cs) (b ∷ bs) u v e =
      let f = firsts a b cs bs u v e in
      let t = same-nested a b (named a b cs bs u v e) (named' a b cs bs u v e) f in
      ap (λ (k : ℕ). k ∷ map (signature ds) cs) (step 3 ds es a b f t (λ x h. by_name 3 x))
      ∙ ap (λ (l : List ℕ). signature es b ∷ l) (one_by_one cs bs (others a b cs bs u v e) (others' a b cs bs u v e) (rests a b cs bs u v e))

  pub all-signatures : map (signature ds) ds ≡ map (signature es) es
  all-signatures = one_by_one ds es n m q

-- The lines of a text, by their places in it.
use mathlib.Core.Path.{◌≡◌, refl, sym, ap, ◌∙◌}
use mathlib.Core.Bool.{Bool, true, false, not, cond, ◌&&◌, ◌||◌}
use mathlib.Core.List.{List, [], ◌∷◌}
use Prim.Native.Nat.{ℕ, suc, ◌+◌, ◌-◌, ◌≤◌, ◌<◌}
use native.Mathlib.Numerals.{add-one}
use native.Mathlib.Omega.{arith}
use lib.Dec.{eqb}
use borrow.Author.Tests.{eqb-true}
use lib.ListN.{length, get_or, take, drop, length-drop, drop_of_length-le}
use lib.Seq.{drop-cons, drop-drop, get_or-drop}
use Rattle.bits.specs.Part.{span}
use Rattle.dsdl_text.proofs.Parts.{rest}
use Rattle.dsdl_text.proofs.Runs.{short}
use Rattle.dsdl_text.specs.declared.class.Class.TheVariants.{Inline}
use Rattle.dsdl_text.specs.Class.{is_in, run}
use Rattle.dsdl_text.specs.Lines.{on_first, lines_after, lines}
use Rattle.dsdl_text.specs.inside.Lines.{end_of, after_end}

-- the lines behind a line's end
abbrev behind : List ℕ → List (List ℕ)
behind [] = []
behind (c ∷ cs) = lines_after (eqb c 13) cs

-- no carriage return is inside a line
inline-other : (c : ℕ) → is_in Inline c ≡ true → eqb c 13 ≡ false
unfolding is_in
inline-other c e = go (eqb c 10) (eqb c 13) e where
  go : (a b : Bool) → not (a || b) ≡ true → b ≡ false
  go true true q = let z : ◌≡◌ {A = ℕ} 0 1 = cc in absurd (omega arith)
  go true false q = refl
  go false true q = let z : ◌≡◌ {A = ℕ} 0 1 = cc in absurd (omega arith)
  go false false q = refl

split : (t : List ℕ) → lines t ≡ take (run Inline t) t ∷ behind (drop (run Inline t) t)
unfolding lines_after run
split [] = refl
split (c ∷ cs) = go (is_in Inline c) refl (split cs) where
  go : (b : Bool) → is_in Inline c ≡ b → lines cs ≡ take (run Inline cs) cs ∷ behind (drop (run Inline cs) cs)
      → cond b (on_first c (lines_after (eqb c 13) cs)) ([] ∷ lines_after (eqb c 13) cs)
      ≡ take (cond b (suc (run Inline cs)) 0) (c ∷ cs) ∷ behind (drop (cond b (suc (run Inline cs)) 0) (c ∷ cs))
  go true p ih = rw (inline-other c p, ih)
  go false p ih = refl

-- a line feed behind a carriage return is part of the same end
after-return : (t : List ℕ) → lines_after true t ≡ cond (eqb (get_or t 0 0) 10) (lines (drop 1 t)) (lines t)
unfolding lines_after
after-return [] = refl
after-return (c ∷ cs) = go (eqb c 10) refl where
  go : (b : Bool) → eqb c 10 ≡ b
      → cond b (lines_after (eqb c 13) cs) (cond (is_in Inline c) (on_first c (lines_after (eqb c 13) cs)) ([] ∷ lines_after (eqb c 13) cs))
      ≡ cond b (lines_after false cs) (cond (is_in Inline c) (on_first c (lines_after (eqb c 13) cs)) ([] ∷ lines_after (eqb c 13) cs))
  go true p = let e = eqb-true c 10 p in rw e
  go false p = refl

next-lines : (t : List ℕ) (e : ℕ) → e < length t → behind (drop e t) ≡ lines (drop (after_end t e) t)
unfolding after_end
next-lines t e h = rw (drop-cons t e 0) (go (eqb (get_or t e 0) 13) (eqb (get_or t (e + 1) 0) 10) refl) where
  turned : lines_after true (drop (suc e) t) ≡ cond (eqb (get_or (drop (suc e) t) 0 0) 10) (lines (drop 1 (drop (suc e) t))) (lines (drop (suc e) t))
  turned = after-return (drop (suc e) t)

  one : suc e + 0 ≡ e + 1
  one = omega arith

  two : suc e + 1 ≡ e + 2
  two = omega arith

  place : get_or (drop (suc e) t) 0 0 ≡ get_or t (e + 1) 0
  place = get_or-drop (suc e) t 0 0 ∙ ap (λ (k : ℕ). get_or t k 0) one

  go : (a b : Bool) → eqb (get_or t (e + 1) 0) 10 ≡ b
      → lines_after a (drop (suc e) t) ≡ lines (drop (cond (a && b) (e + 2) (e + 1)) t)
  go false b q = rw add-one
  go true true q =
      turned ∙ (ap (λ (c : Bool). cond c (lines (drop 1 (drop (suc e) t))) (lines (drop (suc e) t))) (ap (λ (n : ℕ). eqb n 10) place ∙ q)
      ∙ ap lines (drop-drop 1 (suc e) t ∙ ap (λ (k : ℕ). drop k t) two))
  go true false q =
      turned ∙ (ap (λ (c : Bool). cond c (lines (drop 1 (drop (suc e) t))) (lines (drop (suc e) t))) (ap (λ (n : ℕ). eqb n 10) place ∙ q)
      ∙ ap (λ (k : ℕ). lines (drop k t)) (sym (add-one e)))

module _ (t : List ℕ) (at : ℕ) where
  length-of : run Inline (drop at t) ≡ end_of t at - at
  length-of = omega arith

  cut : lines (drop at t) ≡ span t at (end_of t at - at) ∷ behind (drop (end_of t at) t)
  cut =
      split (drop at t) ∙ (ap (λ (k : ℕ). take k (drop at t) ∷ behind (drop (run Inline (drop at t)) (drop at t))) length-of
      ∙ ap (λ (l : List ℕ). span t at (end_of t at - at) ∷ behind l) (drop-drop (run Inline (drop at t)) at t))

  pub next-line : end_of t at < length t → lines (drop at t) ≡ span t at (end_of t at - at) ∷ lines (drop (after_end t (end_of t at)) t)
  next-line h = cut ∙ ap (λ (l : List (List ℕ)). span t at (end_of t at - at) ∷ l) (next-lines t (end_of t at) h)

  pub last_line : length t ≤ end_of t at → lines (drop at t) ≡ span t at (end_of t at - at) ∷ []
  last_line h = cut ∙ ap (λ (l : List ℕ). span t at (end_of t at - at) ∷ behind l) (drop_of_length-le t h)

  -- a run over what is left of the text
  pub ends : (n : ℕ) → at ≤ length t → n ≡ run Inline (take (length t - at) (drop at t)) → (at + n ≡ end_of t at) × ((at ≤ at + n) × (at + n ≤ length t))
  ends n h e =
      let r : n ≡ run Inline (drop at t) = e ∙ ap (run Inline) (rest at t) in
      let l = short Inline (drop at t) in
      let d = length-drop at t in
      (omega arith, (omega arith, omega arith))

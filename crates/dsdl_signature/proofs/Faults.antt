-- Laws of `verdict` and `fault_from`, as code goes through them.
use mathlib.Core.Path.{◌≡◌, refl, sym, ap, ◌∙◌}
use mathlib.Core.Bool.{Bool, true, false, ◌&&◌}
use mathlib.Core.List.{List}
use mathlib.Core.Option.{Option, none, some}
use Prim.Native.Nat.{ℕ, zero, suc, ◌+◌, ◌-◌, ◌≤◌, ◌<◌}
use native.Mathlib.Nat.{sub-zero}
use native.Mathlib.Numerals.{add-one}
use native.Mathlib.Omega.{arith}
use borrow.Author.Tests.{ltb-true, ltb-false, leb-true, lt-ltb, le-ltb}
use lib.Dec.{ltb, leb}
use lib.ListN.{length}
use Rattle.bits.specs.Tabulate.{tabulate}
use Rattle.dsdl_text.specs.Names.{is_dotted, has_dot, name_max, is_full_name}
use Rattle.dsdl.specs.Definition.{fault_in, Verdict, good, faulty, verdict}
use Rattle.dsdl_given.specs.Given.{Definition, fault_from}
use Rattle.dsdl_given.specs.inside.Places.{definition_at, given}
use Rattle.dsdl_signature.specs.inside.Written.{Named}
use Rattle.dsdl_given.proofs.Turns.{tab-turn, tab-end}

module _ (name text : List ℕ) where
  pub bad-name : is_full_name name ≡ false → faulty 0 ≡ verdict name text
  unfolding verdict
  bad-name e = rw e

  module _ (named : is_full_name name ≡ true) (n : ℕ) (e : n ≡ fault_in text) where
    pub at-line : 0 < n → faulty n ≡ verdict name text
    unfolding verdict
    at-line h = let t = lt-ltb 0 (fault_in text) (omega arith) in rw (named, t, e)

    pub fine : n ≤ 0 → good ≡ verdict name text
    unfolding verdict
    fine h = let t = le-ltb 0 (fault_in text) (omega arith) in rw (named, t)

module _ (f : ℕ → Definition) (i n : ℕ) where
  pub passes : i < n → good ≡ verdict (f i).name (f i).text
      → fault_from (i + 1) (tabulate f i (n - i)) ≡ fault_from (i + 1 + 1) (tabulate f (i + 1) (n - (i + 1)))
  unfolding fault_from
  passes h e = rw (tab-turn f i n h, fault_from, ← e, add-one (i + 1))

  pub stops : (line : ℕ) → i < n → faulty line ≡ verdict (f i).name (f i).text → some (i + 1, line) ≡ fault_from (i + 1) (tabulate f i (n - i))
  unfolding fault_from
  stops line h e = rw (tab-turn f i n h, fault_from, ← e)

  pub ends : n ≤ i → none ≡ fault_from (i + 1) (tabulate f i (n - i))
  unfolding fault_from
  ends h = rw (tab-end f i n h)

-- ── names where there is no fault ──

short-name : (a b : Bool) (n : ℕ) → a && (b && leb n name_max) ≡ true → n ≤ name_max
short-name true true n e = leb-true n name_max e
short-name true false n e = cc
short-name false b n e = cc

good-name : (name text : List ℕ) → good ≡ verdict name text → length name ≤ name_max
good-name name text e = go (is_full_name name) refl where
  go : (b : Bool) → is_full_name name ≡ b → length name ≤ name_max
  go true q = short-name (is_dotted name) (has_dot name) (length name) q
  go false q =
      let w : good ≡ faulty 0 = e ∙ sym (bad-name name text q) in
      cc

named-from : (f : ℕ → Definition) (n m i : ℕ) → i + m ≡ n → fault_from (i + 1) (tabulate f i (n - i)) ≡ none → (j : ℕ) → i ≤ j → j < n → length (f j).name ≤ name_max
named-from f n zero i e h j a b = absurd (omega arith)
named-from f n (suc m) i e h j a b = go (λ t. named-from f n m (i + 1) (omega arith) t j) (verdict (f i).name (f i).text) refl where
  inside : i < n
  inside = omega arith

  here : good ≡ verdict (f i).name (f i).text → (b : Bool) → ltb i j ≡ b → (i + 1 ≤ j → length (f j).name ≤ name_max) → length (f j).name ≤ name_max
  here v true q later = later (omega (arith, ltb-true i j q))
  here v false q later = let k : i ≡ j = omega (arith, ltb-false i j q) in rw k at (good-name (f i).name (f i).text v)

  go : (fault_from (i + 1 + 1) (tabulate f (i + 1) (n - (i + 1))) ≡ none → i + 1 ≤ j → j < n → length (f j).name ≤ name_max)
      → (v : Verdict) → v ≡ verdict (f i).name (f i).text → length (f j).name ≤ name_max
  go later good q = here q (ltb i j) refl (λ l. later (sym (passes f i n inside q) ∙ h) l b)
  go later (faulty line) q =
      let w : ◌≡◌ {A = Option (ℕ × ℕ)} (some (i + 1, line)) none = stops f i n line inside q ∙ h in
      cc

-- the names of definitions without a fault are not too long
pub named : (source bounds : List ℕ) (n : ℕ) → fault_from 1 (given source bounds n) ≡ none → Named source bounds n
named source bounds n e i h =
    named-from (definition_at source bounds) n n 0 (omega arith) (ap (λ (k : ℕ). fault_from 1 (given source bounds k)) (sub-zero n) ∙ e) i (omega arith) h

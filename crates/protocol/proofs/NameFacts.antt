-- A name's content, letter by letter.
use mathlib.Core.Path.{◌≡◌, sym, ap, ◌∙◌}
use mathlib.Core.Bool.{true, false}
use mathlib.Core.List.{List, []}
use Prim.Native.Nat.{ℕ, suc, ◌+◌, ◌<◌}
use native.Mathlib.Numerals.{add-one}
use native.Mathlib.Omega.{arith}
use borrow.Author.Tests.{lt-ltb, le-ltb}
use lib.ListN.{length, drop, get_or}
use lib.Seq.{drop-cons, drop-length}
use Rattle.protocol.specs.Name.{is_letter, all_letters, is_name}

pub empty : (s : List ℕ) → length s ≡ 0 → false ≡ is_name s
unfolding is_name
empty s e = rw (le-ltb 0 (length s) (omega arith))

module _ (s : List ℕ) (i : ℕ) (l : i < length s) (e : all_letters (drop i s) ≡ all_letters s) where
  pub bad : is_letter (get_or s i 0) ≡ false → false ≡ is_name s
  unfolding is_name all_letters
  bad b = rw (← e, lt-ltb 0 (length s) (omega arith), drop-cons s i 0 l, b)

  pub next : is_letter (get_or s i 0) ≡ true → all_letters (drop (i + 1) s) ≡ all_letters s
  unfolding all_letters
  next b = let d : all_letters (drop i s) ≡ all_letters (drop (suc i) s) = rw (drop-cons s i 0 l, b) in rw add-one (sym d ∙ e)

pub all : (s : List ℕ) (i : ℕ) → 0 < length s → i ≡ length s → all_letters (drop i s) ≡ all_letters s → true ≡ is_name s
unfolding is_name all_letters
all s i p n e =
    let d : drop i s ≡ [] = ap (λ (k : ℕ). drop k s) n ∙ drop-length s in
    rw (← e, d, lt-ltb 0 (length s) p)

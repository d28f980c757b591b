-- For RULES 12.2 and 12.4: the place of a character in text.
use Rattle.std.specs.Prelude.{List, [], ◌∷◌, ℕ, suc, eqb}
use Rattle.rules.specs.Tests.{pick}

-- how many characters come before the first c; all of them, if there is none
unfoldable pub before : ℕ → List ℕ → ℕ
before c [] = 0
before c (x ∷ xs) = pick (eqb x c) 0 (suc (before c xs))

-- Parts of a list (for RULES 9.9 and the layouts of 5.2 and 8.4): the part at a place, and a list with a part replaced.
use Rattle.std.specs.Prelude.{List, ◌++◌, ℕ, ◌+◌, length, take, drop}

-- the n elements from `at` on
abbrev pub span : {A : Type 0} → List A → ℕ → ℕ → List A
span m at n = take n (drop at m)

-- m with ys in the place of its elements from `at` on
abbrev pub splice : {A : Type 0} → List A → ℕ → List A → List A
splice m at ys = take at m ++ (ys ++ drop (at + length ys) m)

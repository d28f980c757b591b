-- RULES 17.1: lines by their places in a text.
use Rattle.std.specs.Prelude.{cond, ◌&&◌, List, ℕ, ◌+◌, eqb, get_or, drop}
use Rattle.dsdl_text.specs.declared.class.Class.TheVariants.{Inline}
use Rattle.dsdl_text.specs.Class.{run}

-- where the line ends that begins at `at`
abbrev pub end_of : List ℕ → ℕ → ℕ
end_of t at = at + run Inline (drop at t)

-- where the next line begins, behind a line's end at `at`
unfoldable pub after_end : List ℕ → ℕ → ℕ
after_end t at = cond (eqb (get_or t at 0) 13 && eqb (get_or t (at + 1) 0) 10) (at + 2) (at + 1)

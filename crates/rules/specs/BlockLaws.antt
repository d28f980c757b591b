-- RULES 4.12: what follows from the rules of the blocks.
use Rattle.std.specs.Prelude.{◌≡◌, true, List, [], map, ℕ, zero, suc, ◌+◌, ◌≤◌, ◌<◌, eqb, length, get_or, set}
use Rattle.std.proofs.Math.Option.{none, some}
use Rattle.rules.specs.Answer.{no_block}
use Rattle.rules.specs.Blocks.{used, times, free_block, cleared}
use Rattle.rules.specs.Check.{Reception}
use Rattle.rules.specs.Limits.{blocks_max}
use Rattle.rules.specs.Reception.{step, after}
use Rattle.rules.specs.Setup.{Setup}
use Rattle.rules.specs.Sound.{sound}
use Rattle.rules.specs.Table.{Place, empty, held, Places}
use Rattle.rules.specs.Tests.{pick}

-- how many of n numbers from b on are not in a list
unfoldable pub absent : ℕ → ℕ → List ℕ → ℕ
absent zero b l = 0
absent (suc n) b l = pick (eqb (times b l) 0) (suc (absent n (suc b) l)) (absent n (suc b) l)

-- how many blocks are free
abbrev pub free : Places → ℕ
free ps = absent blocks_max 0 (used ps)

-- no block is lost or shared
pub record Accounted (ps : Places) : Type 0 where
  pub once : (b : ℕ) → times b (used ps) ≤ 1
  pub others : (b : ℕ) → blocks_max ≤ b → times b (used ps) ≡ 0
  pub count : free ps + length (used ps) ≡ blocks_max

-- a place without the numbers of its blocks
abbrev pub bare : Place → Place
bare empty = empty
bare (held d s bs) = held d s []

-- two tables differ in one place at most
pub record OnePlace (ps qs : Places) : Type 0 where
  pub place : ℕ
  pub is : qs ≡ set ps place (get_or qs place empty)

pub record BlockLaws : Type 0 where
  -- the lowest free block is one of the 64 and in no session, and each one below it is in a session
  pub lowest : (ps : Places) (b : ℕ) → free_block ps ≡ some b → (b < blocks_max) × (times b (used ps) ≡ 0) × ((c : ℕ) → c < b → 0 < times c (used ps))
  -- where none is free, each of the 64 is in a session
  pub spent : (ps : Places) → free_block ps ≡ none → (c : ℕ) → c < blocks_max → 0 < times c (used ps)
  -- where none is free even then, no old session had bytes in hand, so that none was emptied
  pub untouched : (t : ℕ) (ps : Places) → sound ps ≡ true → free_block (cleared t ps) ≡ none → cleared t ps ≡ ps
  -- 26 changes the frame's own place alone
  pub refusal : (u : Setup) (ps : Places) (r : Reception) → sound ps ≡ true → (step u ps r).answer ≡ no_block → OnePlace ps (step u ps r).places
  -- after any list of receptions
  pub kept : (u : Setup) (ps : Places) (l : List Reception) → sound ps ≡ true → Accounted (after u ps l)
  -- which blocks a session has is of no effect
  pub numbers : (u : Setup) (ps qs : Places) (r : Reception) → sound ps ≡ true → sound qs ≡ true → map bare ps ≡ map bare qs
      → ((step u ps r).answer ≡ (step u qs r).answer) × (map bare (step u ps r).places ≡ map bare (step u qs r).places)

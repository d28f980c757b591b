-- RULES 12.4, with the input in blocks: what one block gives, what is left at the end, and the law that the output does not depend on the cuts.
use Rattle.std.specs.Prelude.{◌≡◌, List, [], ◌∷◌, ◌++◌, ℕ, take}
use Rattle.log_replay.specs.declared.Counts.{Counts}
use Rattle.log_line.specs.Lines.{cut, last_line}
use Rattle.log_feed.specs.Log.{heading, replay, closed, begun, zero, log_of}

-- the text for the lines that are whole, the receiver's state and the counts after them, and what is kept of the unfinished line: 48 bytes are
-- enough, since no line of that many is well formed
pub record Feed : Type 0 where
  pub text : List ℕ
  pub state : List ℕ
  pub counts : Counts
  pub kept : List ℕ

-- of what was kept and the block after it
abbrev pub feed : List ℕ → Counts → List ℕ → Feed
feed m c p =
    record {
      text = (replay m c (cut p).whole).text;
      state = (replay m c (cut p).whole).state;
      counts = (replay m c (cut p).whole).counts;
      kept = take 48 (cut p).rest;
    }

-- the unfinished line, and the count
abbrev pub finish : List ℕ → Counts → List ℕ → List ℕ
finish m c kept = closed (replay m c (last_line kept))

-- ── all blocks ──

unfoldable pub feed_all : List ℕ → Counts → List ℕ → List (List ℕ) → List ℕ
feed_all m c kept [] = finish m c kept
feed_all m c kept (b ∷ bs) =
    (feed m c (kept ++ b)).text ++ feed_all (feed m c (kept ++ b)).state (feed m c (kept ++ b)).counts (feed m c (kept ++ b)).kept bs

unfoldable pub concat : List (List ℕ) → List ℕ
concat [] = []
concat (b ∷ bs) = b ++ concat bs

abbrev pub BlockLaw : Type 0
BlockLaw = (blocks : List (List ℕ)) → heading ++ feed_all begun zero [] blocks ≡ log_of (concat blocks)

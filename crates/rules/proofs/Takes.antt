-- A frame that is taken is answered 0, 1, 11 or 12.
use mathlib.Core.Bool.{Bool, true, false}
use mathlib.Core.List.{List, ◌++◌}
use Prim.Native.Nat.{ℕ}
use lib.Dec.{ltb}
use lib.ListN.{length}
use Rattle.rules.specs.Answer.{Answer, taken, handed, long, differs}
use Rattle.rules.specs.Check.{Parsed}
use Rattle.rules.specs.Frame.{Stream}
use Rattle.rules.specs.Limits.{gathered_max}
use Rattle.rules.specs.Session.{Session, sum_ok, closing, take_end, take_long, takes}

pub data Takes : Answer → Type 0 where
  unfinished : Takes taken
  whole : {p : List ℕ} {d : Stream} {priority t : ℕ} → Takes (handed p d priority t)
  too_long : Takes long
  bad_sum : Takes differs

module _ (v : Parsed) where
  closing-takes : (start ok : Bool) (all : List ℕ) → Takes (closing start ok all v)
  unfolding closing
  closing-takes true ok all = whole
  closing-takes false true all = whole
  closing-takes false false all = bad_sum

  end-takes : (last : Bool) (s : Session) (all : List ℕ) → Takes (take_end last s v all).answer
  unfolding take_end
  end-takes false s all = unfinished
  end-takes true s all = closing-takes v.start (sum_ok v.signature all) all

  long-takes : (b : Bool) (s : Session) (all : List ℕ) → Takes (take_long b s v all).answer
  unfolding take_long
  long-takes true s all = too_long
  long-takes false s all = end-takes v.last s all

  pub takes-answer : (s : Session) → Takes (takes s v).answer
  unfolding takes
  takes-answer s = let all = s.gathered ++ v.payload in long-takes (ltb gathered_max (length all)) s all

-- The frames of a payload have data bytes below 256.
use mathlib.Core.Bool.{Bool, true, false, not}
use mathlib.Core.List.{List, [], ◌∷◌}
use Prim.Native.Nat.{ℕ, zero, suc, ◌<◌}
use native.Mathlib.Omega.{arith}
use lib.Dec.{leb}
use lib.ListN.{length, take, drop}
use Rattle.bits.specs.Order.{Octets}
use Rattle.bits.proofs.Octets.{octets-take, octets-drop, octets-append}
use Rattle.rules.specs.Condition3.{All}
use Rattle.rules.specs.Sent.{tail_byte, framed, pieces, carrying, with_sum, carried, sent}
use Rattle.rules.specs.Tests.{pick}
use Rattle.rules.proofs.Frames.{fulls}
use Rattle.rules.proofs.Ids.{flag-le}
use Rattle.judge_rules.specs.Good.{stamped}
use Rattle.judge_rules.specs.Laws.{Bytes}
use Rattle.judge_rules.proofs.Completion.{sum_lt}

framed-octets : (s l g : Bool) (t : ℕ) (xs : List ℕ) → t < 32 → Octets xs → Octets (framed xs (tail_byte s l g t))
framed-octets s l g t xs h o = octets-append xs (tail_byte s l g t ∷ []) o (omega (arith, flag-le s, flag-le l, flag-le g), tt)

pieces-octets : (n : ℕ) (s g : Bool) (t : ℕ) (xs : List ℕ) → t < 32 → Octets xs → All Octets (pieces n s g t xs)
unfolding pieces
pieces-octets zero s g t xs h o = (framed-octets s true g t xs h o, tt)
pieces-octets (suc n) s g t xs h o = (
  framed-octets s false g t (take 7 xs) h (octets-take 7 xs o),
  pieces-octets n false (not g) t (drop 7 xs) h (octets-drop 7 xs o),
)

carried-octets : (signature : ℕ) (p : List ℕ) → Octets p → Octets (carried signature p)
unfolding carried
carried-octets signature p o = go (leb (length p) 7)
  where
    go : (b : Bool) → Octets (pick b p (with_sum signature p))
    go true = o
    go false = let h = sum_lt signature p in (omega arith, (omega arith, o))

stamped-bytes : (id : ℕ) (l : List (List ℕ)) (ts : List ℕ) → All Octets l → Bytes (stamped id l ts)
unfolding stamped
stamped-bytes id [] ts h = tt
stamped-bytes id (c ∷ l) [] h = tt
stamped-bytes id (c ∷ l) (t ∷ ts) h = (h.0, stamped-bytes id l ts h.1)

pub sent-bytes : (signature t : ℕ) (p : List ℕ) → t < 32 → Octets p → (id : ℕ) (ts : List ℕ) → Bytes (stamped id (sent signature t p) ts)
unfolding sent carrying
sent-bytes signature t p h o id ts =
    stamped-bytes id (sent signature t p) ts (pieces-octets (fulls (carried signature p)) true false t (carried signature p) h (carried-octets signature p o))

-- RULES 4.1 to 4.3, 4.9, 4.11 and 4.12: one reception on the whole table, and lists of receptions.
use Rattle.std.specs.Prelude.{Bool, true, false, List, [], ◌∷◌, ◌++◌, ℕ, get_or, set}
use Rattle.std.proofs.Math.Option.{Option, none, some}
use Rattle.rules.specs.Answer.{Answer, handed, refused, full, passed, no_transfer, no_block}
use Rattle.rules.specs.Blocks.{keeps, blocks_in, free_block, cleared, asks}
use Rattle.rules.specs.Check.{Reception, Parsed, parsed, check}
use Rattle.rules.specs.Frame.{Stream, is_anonymous}
use Rattle.rules.specs.Session.{Session, Out, closed, since_of, met, fresh, proceed}
use Rattle.rules.specs.Setup.{Setup}
use Rattle.rules.specs.Table.{Place, empty, held, Places, seek, holds, place_for}

-- the answer and the table after
pub record Step : Type 0 where
  pub answer : Answer
  pub places : Places

-- RULES 4.12: a session keeps just as many blocks as its bytes need
abbrev pub store : Places → ℕ → Stream → List ℕ → Out → Step
store ps i d bs o = record { answer = o.answer; places = set ps i (held d o.session (keeps o.session bs)) }

-- RULES 4.12: without a block the answer is 26, and the session ends as under 11
unfoldable pub step_block : Option ℕ → Places → ℕ → Session → List ℕ → Parsed → Step
step_block none ps i s bs v = store ps i v.stream bs (record { answer = no_block; session = closed s (since_of s v) })
step_block (some b) ps i s bs v = store ps i v.stream (bs ++ (b ∷ [])) (proceed s v)

-- with one block more, where the frame asks for it
unfoldable pub step_ask : Bool → Places → ℕ → Session → List ℕ → Parsed → Step
step_ask false ps i s bs v = store ps i v.stream bs (proceed s v)
step_ask true ps i s bs v = step_block (free_block (cleared v.time ps)) (cleared v.time ps) i s bs v

-- The session that the frame meets is put at its place first: what a restarted or replaced session had is free before a block is looked for.
unfoldable pub step_at : Places → ℕ → Session → List ℕ → Parsed → Step
step_at ps i s bs v = step_ask (asks s bs v) (set ps i (held v.stream s bs)) i s bs v

-- RULES 4.3: without a place the answer is 9, and nothing changes
unfoldable pub step_new : Option ℕ → Places → Parsed → Step
step_new none ps v = record { answer = full; places = ps }
step_new (some i) ps v = step_at ps i (fresh v) [] v

-- RULES 4.3: only a start makes a session
unfoldable pub step_start : Bool → Places → Parsed → Step
step_start false ps v = record { answer = passed no_transfer; places = ps }
step_start true ps v = step_new (place_for v.time ps) ps v

abbrev pub session_in : Place → Parsed → Session
session_in empty v = fresh v
session_in (held e s bs) v = s

-- RULES 4.5: a restart leaves nothing in hand, so that no block is kept
abbrev pub step_held : Places → ℕ → Place → Parsed → Step
step_held ps i p v = step_at ps i (met (session_in p v) v) (keeps (met (session_in p v) v) (blocks_in p)) v

unfoldable pub step_seek : Option ℕ → Places → Parsed → Step
step_seek (some i) ps v = step_held ps i (get_or ps i empty) v
step_seek none ps v = step_start v.start ps v

-- RULES 4.2: an anonymous frame is handed out at once, with no session
unfoldable pub step_anonymous : Bool → Places → Parsed → Step
step_anonymous true ps v = record { answer = handed v.payload v.stream v.priority v.transfer; places = ps }
step_anonymous false ps v = step_seek (seek (holds v.stream) ps) ps v

unfoldable pub step_checked : Option ℕ → Bool → Places → Parsed → Step
step_checked (some n) a ps v = record { answer = refused n; places = ps }
step_checked none a ps v = step_anonymous a ps v

unfoldable pub step : Setup → Places → Reception → Step
step u ps r = step_checked (check u r) (is_anonymous r.arrival.frame.id) ps (parsed u r.arrival)

-- RULES 4.11: the table after a list, and the answers to all of it
unfoldable pub after : Setup → Places → List Reception → Places
after u ps [] = ps
after u ps (r ∷ rs) = after u (step u ps r).places rs

unfoldable pub run : Setup → Places → List Reception → List Answer
run u ps [] = []
run u ps (r ∷ rs) = (step u ps r).answer ∷ run u (step u ps r).places rs

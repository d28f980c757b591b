-- RULES 4.6: why a frame is passed over. RULES 4.8: what a frame that ends a transfer gives, the answer and the output buffer.
use Rattle.std.specs.Prelude.{◌≡◌, true, false, List, [], ℕ}
use Rattle.std.proofs.Math.Option.{Option, none, some}
use Rattle.answers.specs.Reception.{told_reason, told, out_after}
use Rattle.bits.specs.Part.{splice}
use Rattle.rules.specs.Answer as rules
use Rattle.rules.specs.Session.{closing, sum_ok, over}
use Rattle.rules.specs.Tests.{is_none}
use Rattle.session.specs.inside.Session.{stream_of, parsed_of, bare}
use Rattle.answers.specs.declared.Answer.{Answer}
use Rattle.answers.specs.declared.Reason.{Reason}
use Rattle.session.specs.declared.Incoming.{Incoming}
use Rattle.session.specs.declared.Session.{Session}

-- the reason as the code tells it
abbrev pub why : Option rules.Reason → Option Reason
why none = none
why (some r) = some (told_reason r)

-- A frame that is passed over. It passed check 5, and the session has no fault: so the toggles of a start and of a session with nothing in hand are 0.
pub record Passes (c : Session) (h : Incoming) : Type 0 where
  pub over : is_none (over (bare c) (parsed_of h [])) ≡ false
  pub start : h.head.start ≡ true → h.head.toggle ≡ false
  pub toggle : c.len ≡ 0 → c.toggle ≡ false

-- the payload p is handed out under the head h
pub record HandsOut (h : Incoming) (p : List ℕ) (r : Answer) (before after : List ℕ) : Type 0 where
  pub answer : r ≡ told (rules.handed p (stream_of h) h.head.priority h.head.transfer)
  pub out : after ≡ splice before 0 p

-- the transfer with the bytes `all` in hand ends
pub record Closes (h : Incoming) (all : List ℕ) (r : Answer) (before after : List ℕ) : Type 0 where
  pub answer : r ≡ told (closing h.head.start (sum_ok h.signature all) all (parsed_of h []))
  pub out : after ≡ out_after (closing h.head.start (sum_ok h.signature all) all (parsed_of h [])) before

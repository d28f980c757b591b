-- RULES 4.3 to 4.8: the code's session and incoming frame, as the rules see them.
use Rattle.std.specs.Prelude.{List, ◌++◌, Bool, false, not, ℕ, ◌+◌, length, replicate}
use Rattle.frame.specs.inside.Head as frame
use Rattle.rules.specs.Check.{Parsed}
use Rattle.rules.specs.Frame.{Stream}
use Rattle.rules.specs.Session as rules
use Rattle.rules.specs.Tests.{pick}
use Rattle.session.specs.declared.Incoming.{Incoming}
use Rattle.session.specs.declared.Session.{Session}

abbrev pub stream_of : Incoming → Stream
stream_of h = frame.stream_of h.head

-- a frame and the payload beside it
unfoldable pub parsed_of : Incoming → List ℕ → Parsed
parsed_of h p =
    record {
      stream = stream_of h;
      signature = h.signature;
      priority = h.head.priority;
      start = h.head.start;
      last = h.head.end;
      toggle = h.head.toggle;
      transfer = h.head.transfer;
      payload = p;
      time = h.time;
      interface = h.interface;
    }

-- RULES 4.7: a frame's bytes added and the toggle turned, and the time set by a start
abbrev pub added : rules.Session → Bool → ℕ → List ℕ → rules.Session
added s start time p =
    record { expected = s.expected; gathered = s.gathered ++ p; toggle = not s.toggle; since = pick start time s.since; follows = s.follows }

-- nothing in hand
abbrev pub idle : ℕ → ℕ → ℕ → Session
idle expected time follows = record { expected = expected; toggle = false; time = time; follows = follows; len = 0 }

-- RULES 4.7: n bytes more in hand, the toggle turned, and the time set by a start
abbrev pub taken : Session → Bool → ℕ → ℕ → Session
taken s start time n =
    record { expected = s.expected; toggle = not s.toggle; time = pick start time s.time; follows = s.follows; len = s.len + n }

-- a session of the rules, by value
abbrev pub coded : rules.Session → Session
coded s = record { expected = s.expected; toggle = s.toggle; time = s.since; follows = s.follows; len = length s.gathered }

-- a session of the rules from one by value: of the bytes only their number counts in the tests
abbrev pub bare : Session → rules.Session
bare c = record { expected = c.expected; gathered = replicate c.len 0; toggle = c.toggle; since = c.time; follows = c.follows }

-- RULES 2.2 to 2.4: the code's head of a frame, as the rules see it.
use Rattle.std.specs.Prelude.{List, ℕ}
use Rattle.frame.specs.declared.head.Head.{Head}
use Rattle.rules.specs.Check.{Test, head_tests}
use Rattle.rules.specs.Frame as rules
use Rattle.rules.specs.Frame.{Stream, priority_of, is_start, is_end, toggle_of, transfer_of}

abbrev pub stream_of : Head → Stream
stream_of h = record { transfer_type = h.transfer_type; type = h.type_id; source = h.source; destination = h.destination }

-- of an ID and a tail byte
unfoldable pub head_of : ℕ → ℕ → Head
head_of id tail =
    record {
      transfer_type = (rules.stream_of id).transfer_type;
      type_id = (rules.stream_of id).type;
      source = (rules.stream_of id).source;
      destination = (rules.stream_of id).destination;
      priority = priority_of id;
      start = is_start tail;
      end = is_end tail;
      toggle = toggle_of tail;
      transfer = transfer_of tail;
    }

-- RULES 4.1: the checks 4 to 6 of a head and n data bytes
abbrev pub head_tests_of : ℕ → Head → ℕ → List Test
head_tests_of own h n = head_tests own (stream_of h) h.start h.end h.toggle n

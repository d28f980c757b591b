-- RULES 7.1 to 7.6: a send on a lent map. Its answer, the map after and the output buffer are those of the rules' step on the view.
use Rattle.std.specs.Prelude.{Bool, true, false, List, ℕ, length, Err}
use Rattle.answers.specs.Sending.{Sent, told}
use Rattle.answers.specs.declared.SendError.TheVariants.{Faulty}
use Rattle.bits.specs.Part.{splice}
use Rattle.id_map.specs.Layout.{map_of, written}
use Rattle.id_map.specs.Sound.{sound_map}
use Rattle.rules.specs.Sending.{Call, Step, send_step}
use Rattle.sender.specs.declared.Outgoing.{Outgoing}

abbrev pub call_of : Outgoing → List ℕ → Call
call_of c p =
    record {
      own = c.own;
      transfer_type = c.transfer_type;
      type = c.type_id;
      destination = c.destination;
      priority = c.priority;
      payload = p;
      signature = c.signature;
      time = c.time;
      transfer = c.transfer_id;
      discriminator = c.discriminator;
    }

pub record Result : Type 0 where
  pub answer : Sent
  pub map : List ℕ
  pub out : List ℕ

abbrev pub returned : Sent → List ℕ → List ℕ → Result
returned a m out = record { answer = a; map = m; out = out }

-- a step of the rules on the lent bytes: the records are at the front of the output, and the bytes past them stay
abbrev pub lent : List ℕ → List ℕ → Step → Result
lent m out s = returned (told s.answer) (written m 0 s.map) (splice out 0 s.records)

-- RULES 7.3: a map at fault answers 20, first of all
unfoldable pub sends_if : Bool → List ℕ → Call → List ℕ → Result
sends_if false m c out = returned (Err Faulty) m out
sends_if true m c out = lent m out (send_step c (map_of m) (length out))

unfoldable pub sends : List ℕ → Call → List ℕ → Result
sends m c out = sends_if (sound_map m) m c out

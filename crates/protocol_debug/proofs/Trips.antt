-- The return trips of KeyValue and LogMessage.
use mathlib.Core.Path.{refl}
use lib.Dec.{lit≤}
use Rattle.bits.specs.Width.{width_in, width_of}
use Rattle.shape.proofs.RoundTrip.{whole_same}
use Rattle.shape.proofs.Tails.{never-25}
use Rattle.shape.proofs.Trip.{trips}
use Rattle.protocol_debug.specs.Laws.{Laws, key_value_found, log_message_found}
use Rattle.protocol_debug.specs.KeyValue.{key_value, key_value_of}
use Rattle.protocol_debug.specs.LogMessage.{log_message, log_message_of}
use Rattle.protocol_debug.proofs.KeyValueFacts as key-values
use Rattle.protocol_debug.proofs.LogMessageFacts as log-messages

pub laws : Laws
unfolding width_of width_in
laws =
    record {
      key-values = trips key_value (lit≤ tt) key_value_of key_value_found key-values.only;
      log-messages = trips log_message (lit≤ tt) log_message_of log_message_found log-messages.only;
      whole-key-value = whole_same key_value tt;
      whole-log-message = whole_same log_message tt;
      never-25 = (never-25 key_value (refl, refl), never-25 log_message (refl, (refl, refl)));
    }

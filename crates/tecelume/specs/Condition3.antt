-- RULES 14.14 over result words (13.3): the receivers that calls of `tecelume_receive_word` make of lent bytes, and what a C program reads of each call.
use Rattle.std.specs.Prelude.{List, ℕ, take}
use Rattle.tecelume.specs.Entry.{Called, packed}
use Rattle.words.specs.Word.{number_in, length_in}
use Rattle.answers.specs.Reception.{told}
use Rattle.answers.specs.Word.{word_of}
use Rattle.guarantees.specs.Condition3.{Lent}
use Rattle.guarantees.specs.Received.{Typed}
use Rattle.guarantees.specs.Run.{Call, reception_of, result_of}
use Rattle.rules.specs.Answer as rules
use Rattle.rules.specs.Condition3.{Machine}
use Rattle.rules.specs.Setup.{Setup}

-- the word, and as many bytes at the front of the output buffer as it says
pub record WordReading : Type 0 where
  pub word : ℕ
  pub payload : List ℕ

abbrev pub word_reading : Called → WordReading
word_reading r = record { word = r.word; payload = take (length_in r.word) r.out }

-- what is to be read of an answer of the rules
abbrev pub word_reading_of : rules.Answer → WordReading
word_reading_of a = record { word = word_of (told a); payload = rules.handed_payload a }

abbrev pub word_bytes : Setup → Machine
word_bytes u =
    record {
      State = List ℕ;
      Call = Call;
      Answer = WordReading;
      reception = reception_of;
      answer = λ m c. word_reading (packed (result_of m c));
      after = λ m c. (packed (result_of m c)).state;
      number = λ r. number_in r.word;
      shows = word_reading_of;
      Past = Lent u;
      Typed = λ c. Typed c.arrival.frame;
    }

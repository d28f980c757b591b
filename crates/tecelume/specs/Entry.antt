-- RULES 13.3, 1.5: what a C entry gives, its number or word, and the lent buffers after.
use Rattle.std.specs.Prelude.{List, ℕ, ◌+◌, ◌*◌, ◌^◌}
use Rattle.answers.specs.Setup.{number_of}
use Rattle.answers.specs.Word.{word_of}
use Rattle.words.specs.Word.{many_word, sent_word, allocation_word, signatures_word, conversion_word}
use Rattle.allocator.specs.Allocate as allocate
use Rattle.allocator.specs.Setup as allocator
use Rattle.batch.specs.Many as many
use Rattle.dsdl_signature.specs.Call as signing
use Rattle.capture_convert.specs.Convert as convert
use Rattle.id_map.specs.Setup as map
use Rattle.receiver.specs.Receive as receive
use Rattle.sender.specs.Send as send
use Rattle.setup.specs.Setup as setup

-- 0.2.0
abbrev pub version : ℕ
version = 0 * 2 ^ 16 + (2 * 2 ^ 8 + 0)

-- of a setup: the number, and the lent state or map
pub record Numbered : Type 0 where
  pub number : ℕ
  pub state : List ℕ

-- the Rattle call's result, its outcome as a number
abbrev pub numbered : setup.Result → Numbered
numbered r = record { number = number_of r.answer; state = r.state }

abbrev pub numbered_map : map.Result → Numbered
numbered_map r = record { number = number_of r.answer; state = r.map }

abbrev pub numbered_allocator : allocator.SetUp → Numbered
numbered_allocator r = record { number = number_of r.answer; state = r.state }

-- of any other call: the result word, the lent state or map, and the output buffer
pub record Called : Type 0 where
  pub word : ℕ
  pub state : List ℕ
  pub out : List ℕ

abbrev pub entry : ℕ → List ℕ → List ℕ → Called
entry w m out = record { word = w; state = m; out = out }

-- the Rattle call's result, its answer as a word
abbrev pub packed : receive.Result → Called
packed r = entry (word_of r.answer) r.state r.out

-- of several receptions: the result words too
pub record CalledMany : Type 0 where
  pub word : ℕ
  pub state : List ℕ
  pub results : List ℕ
  pub out : List ℕ

abbrev pub packed_many : many.Called → CalledMany
packed_many r = record { word = many_word r.answer; state = r.state; results = r.results; out = r.out }

abbrev pub packed_send : send.Result → Called
packed_send r = entry (sent_word r.answer) r.map r.out

abbrev pub packed_allocation : allocate.Result → Called
packed_allocation r = entry (allocation_word r.answer) r.state r.out

-- of signatures: the result word, the output buffer and the records
pub record Signed : Type 0 where
  pub word : ℕ
  pub out : List ℕ
  pub records : List ℕ

abbrev pub signed : ℕ → List ℕ → List ℕ → Signed
signed w out records = record { word = w; out = out; records = records }

abbrev pub packed_signatures : signing.Result → Signed
packed_signatures r = signed (signatures_word r.answer) r.out r.records

-- of a conversion, which has no state
pub record Conversion : Type 0 where
  pub word : ℕ
  pub out : List ℕ

abbrev pub packed_conversion : convert.Result → Conversion
packed_conversion r = record { word = conversion_word r.answer; out = r.out }

-- RULES 13.3: the result words of the calls, and what C reads in each. That of a reception is defined in `answers`.
use Rattle.std.specs.Prelude.{◌≡◌, true, ◌||◌, List, ℕ, ◌+◌, ◌*◌, ◌/◌, ◌%◌, ◌^◌, ◌<◌, eqb}
use Rattle.bits.specs.Order.{Octets}
use Rattle.rules.specs.Frame.{Arrival}
use Rattle.receiver.specs.Receive.{received}
use Rattle.answers.specs.Reception.{number_of, transfer_in}
use Rattle.answers.specs.declared.Answer.{Answer}
use Rattle.answers.specs.Sending as sending
use Rattle.answers.specs.Word.{word_of, Fits}
use Rattle.allocator.specs.Answer as allocator
use Rattle.allocator.specs.Calls.{Call, result_of}
use Rattle.batch.specs.Answer as many
use Rattle.patch.specs.Answer as patch
use Rattle.patch.specs.Patch.{patches}
use Rattle.dsdl_signature.specs.Call as signing
use Rattle.capture_convert.specs.Answer as conversion
use Rattle.judge_capture.specs.Answer as judge
use Rattle.judge_capture.specs.Judge.{judges}
use Rattle.rules.specs.Range.{answered}

-- what C reads in a word: the number, and the length of the payload
abbrev pub number_in : ℕ → ℕ
number_in w = w % 2 ^ 8

abbrev pub length_in : ℕ → ℕ
length_in w = w / 2 ^ 8 % 2 ^ 10

-- RULES 13.3: so C reads the number and each value in its field
pub record ReadBack (w : ℕ) (a : Answer) : Type 0 where
  pub number : number_in w ≡ number_of a
  pub len : length_in w ≡ (transfer_in a).len
  pub transfer_type : w / 2 ^ 18 % 2 ^ 2 ≡ (transfer_in a).transfer_type
  pub type : w / 2 ^ 20 % 2 ^ 16 ≡ (transfer_in a).type_id
  pub source : w / 2 ^ 36 % 2 ^ 7 ≡ (transfer_in a).source
  pub destination : w / 2 ^ 43 % 2 ^ 7 ≡ (transfer_in a).destination
  pub priority : w / 2 ^ 50 % 2 ^ 5 ≡ (transfer_in a).priority
  pub transfer : w / 2 ^ 55 ≡ (transfer_in a).transfer

pub record WordLaws : Type 0 where
  -- RULES 4.10: the numbers that the rules give, and 20
  pub numbers : (m : List ℕ) (f : Arrival) (out : List ℕ) → (answered (number_of (received m f out).answer) || eqb (number_of (received m f out).answer) 20) ≡ true
  pub fits : (m : List ℕ) (f : Arrival) (out : List ℕ) → Fits (received m f out).answer
  pub back : (a : Answer) → Fits a → ReadBack (word_of a) a

-- ── the result word of several receptions (RULES 5.8): the number in bits 0 to 7, the records used up from bit 8 on ──

abbrev pub many_word : many.Progress → ℕ
many_word a = many.number_of a + many.used_in a * 2 ^ 8

-- C reads both
pub record ManyWordLaws : Type 0 where
  pub number : (a : many.Progress) → number_in (many_word a) ≡ many.number_of a
  pub used : (a : many.Progress) → many_word a / 2 ^ 8 ≡ many.used_in a

-- ── the result word of a send: the number in bits 0 to 7, the frames in 8 to 14, their transfer ID in 55 to 59 as that of a reception ──

abbrev pub sent_word : sending.Sent → ℕ
sent_word a = sending.number_of a + ((sending.dispatch_in a).frames * 2 ^ 8 + (sending.dispatch_in a).transfer * 2 ^ 55)

-- ── the result word of a correction: the number in bits 0 to 7, the checksum in 8 to 23 ──

abbrev pub patch_word : patch.Patched → ℕ
patch_word a = patch.number_of a + patch.checksum_in a * 2 ^ 8

-- C reads both
pub record PatchWordLaws : Type 0 where
  pub number : (c old new n : ℕ) → number_in (patch_word (patches c old new n)) ≡ patch.number_of (patches c old new n)
  pub checksum : (c old new n : ℕ) → c < 2 ^ 16 → patch_word (patches c old new n) / 2 ^ 8 % 2 ^ 16 ≡ patch.checksum_in (patches c old new n)

-- ── the result word of an allocator: the number in bits 0 to 7, the length of the reply in 8 to 12, where a reception has its length too ──

abbrev pub allocation_word : allocator.Answer → ℕ
allocation_word a = allocator.number_of a + allocator.length_in a * 2 ^ 8

-- C reads both
pub record AllocationWordLaws : Type 0 where
  pub number : (m : List ℕ) (c : Call) → number_in (allocation_word (result_of m c).answer) ≡ allocator.number_of (result_of m c).answer
  pub len : (m : List ℕ) (c : Call) → length_in (allocation_word (result_of m c).answer) ≡ allocator.length_in (result_of m c).answer

-- ── the result word of signatures: the number in bits 0 to 7; with 40 the definition in 8 to 11 and the line in 16 to 31 ──

abbrev pub signatures_word : signing.Answer → ℕ
signatures_word a = signing.number_of a + (signing.definition_in a * 2 ^ 8 + signing.line_in a * 2 ^ 16)

-- C reads all three
pub record SignaturesWordLaws : Type 0 where
  pub number : (source lengths out records : List ℕ) → let a = (signing.signatures source lengths out records).answer in number_in (signatures_word a) ≡ signing.number_of a
  pub definition : (source lengths out records : List ℕ) → let a = (signing.signatures source lengths out records).answer in signatures_word a / 2 ^ 8 % 2 ^ 4 ≡ signing.definition_in a
  pub line : (source lengths out records : List ℕ) → let a = (signing.signatures source lengths out records).answer in signatures_word a / 2 ^ 16 % 2 ^ 16 ≡ signing.line_in a

-- ── the result word of a conversion: the number in bits 0 to 7, the length from bit 8 on ──

abbrev pub conversion_word : conversion.Converted → ℕ
conversion_word a = conversion.number_of a + conversion.length_in a * 2 ^ 8

-- C reads both
pub record ConversionWordLaws : Type 0 where
  pub number : (a : conversion.Converted) → number_in (conversion_word a) ≡ conversion.number_of a
  pub len : (a : conversion.Converted) → conversion_word a / 2 ^ 8 ≡ conversion.length_in a

-- ── the result word of a verdict: the number in bits 0 to 7, the frame from bit 8 on ──

abbrev pub verdict_word : judge.Verdict → ℕ
verdict_word a = judge.number_of a + judge.frame_of a * 2 ^ 8

-- C reads both
pub record VerdictWordLaws : Type 0 where
  pub number : (s c : List ℕ) → Octets c → number_in (verdict_word (judges s c)) ≡ judge.number_of (judges s c)
  pub frame : (s c : List ℕ) → Octets c → verdict_word (judges s c) / 2 ^ 8 ≡ judge.frame_of (judges s c)

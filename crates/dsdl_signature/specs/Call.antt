-- RULES 17.12: the call.
use Rattle.std.specs.Prelude.{not, cond, Ok, Err, ◌||◌, List, [], ◌∷◌, ◌++◌, ℕ, ◌/◌, ltb, length}
use Rattle.std.proofs.Math.Option.{Option, none, some}
use Rattle.bits.specs.Little.{le_bytes}
use Rattle.bits.specs.Part.{splice}
use Rattle.std.specs.Prelude.{Result as Outcome}
use Rattle.dsdl_signature.specs.declared.answer.Refusal.{Refusal}
use Rattle.dsdl_signature.specs.declared.answer.Refusal.TheVariants.{Oversized, Faulty, Missing, Deep, Short}
use Rattle.dsdl_given.specs.Given.{Definition, definitions, lengths_in, oversized, fault_from, form}
use Rattle.dsdl_nesting.specs.Nesting.{all_given, all_within}
use Rattle.dsdl_nesting.specs.Signature.{signature}

-- the forms one after the other
unfoldable pub forms : List Definition → List ℕ
forms [] = []
forms (d ∷ ds) = form d ++ forms ds

-- a record: the length of a form, and a signature, low bytes first
abbrev pub record_of : ℕ → ℕ → List ℕ
record_of n s = le_bytes 4 n ++ le_bytes 8 s

abbrev pub record_size : ℕ
record_size = 12

-- one for each definition
unfoldable pub records_of : List Definition → List Definition → List ℕ
records_of all [] = []
records_of all (d ∷ ds) = record_of (length (form d)) (signature all d) ++ records_of all ds

-- done, or why not
abbrev pub Answer : Type 0
Answer = Outcome (Unit {0}) Refusal

-- the answer, and both buffers after it
pub record Result : Type 0 where
  pub answer : Answer
  pub out : List ℕ
  pub records : List ℕ

abbrev pub returned : Answer → List ℕ → List ℕ → Result
returned a out records = record { answer = a; out = out; records = records }

-- 41, 42, 8 and 0, where the definitions are in the grammar; `room` bytes for forms, and `places` records
abbrev pub ordered : List Definition → ℕ → ℕ → Answer
ordered ds room places =
    cond (not (all_given ds)) (Err Missing) (cond (not (all_within ds)) (Err Deep)
    (cond (ltb room (length (forms ds)) || ltb places (length ds)) (Err Short) (Ok tt)))

-- definition d is at fault at line l
abbrev pub faulty : ℕ → ℕ → Answer
faulty d l = Err (Faulty (record { definition = d; line = record { 0 = l } }))

abbrev pub or_faulty : Option (ℕ × ℕ) → Answer → Answer
or_faulty none a = a
or_faulty (some f) a = faulty f.0 f.1

abbrev pub answer_of : List ℕ → List ℕ → ℕ → ℕ → Answer
answer_of source lengths room places =
    cond (oversized source lengths) (Err Oversized)
    (or_faulty (fault_from 1 (definitions source lengths)) (ordered (definitions source lengths) room places))

-- only success writes
abbrev pub result_of : Answer → List Definition → List ℕ → List ℕ → Result
result_of (Ok done) ds out records = returned (Ok done) (splice out 0 (forms ds)) (splice records 0 (records_of ds ds))
result_of (Err e) ds out records = returned (Err e) out records

-- of a source, and of lengths as bytes; records are bytes, too
unfoldable pub signatures : List ℕ → List ℕ → List ℕ → List ℕ → Result
signatures source lengths out records =
    result_of (answer_of source (lengths_in lengths) (length out) (length records / record_size)) (definitions source (lengths_in lengths)) out records

-- the number of an answer
abbrev pub refusal_number : Refusal → ℕ
refusal_number Oversized = 43
refusal_number (Faulty f) = 40
refusal_number Missing = 41
refusal_number Deep = 42
refusal_number Short = 8

abbrev pub number_of : Answer → ℕ
number_of (Ok done) = 0
number_of (Err e) = refusal_number e

-- with 40: the definition and its line; 0 with any other
abbrev pub refused_definition : Refusal → ℕ
refused_definition Oversized = 0
refused_definition (Faulty f) = f.definition
refused_definition Missing = 0
refused_definition Deep = 0
refused_definition Short = 0

abbrev pub definition_in : Answer → ℕ
definition_in (Ok done) = 0
definition_in (Err e) = refused_definition e

abbrev pub refused_line : Refusal → ℕ
refused_line Oversized = 0
refused_line (Faulty f) = f.line.0
refused_line Missing = 0
refused_line Deep = 0
refused_line Short = 0

abbrev pub line_in : Answer → ℕ
line_in (Ok done) = 0
line_in (Err e) = refused_line e

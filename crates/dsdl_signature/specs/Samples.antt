-- RULES 17.10, 17.12: sample calls, as one list with one claim.
use Rattle.std.specs.Prelude.{◌≡◌, Ok, Err, List, [], ◌∷◌, ◌++◌, ℕ, length}
use Prim.Native.String.{String}
use Rattle.dsdl_text.specs.Text.{chars}
use Rattle.dsdl_signature.specs.declared.answer.Refusal.TheVariants.{Oversized, Missing, Deep, Short}
use Rattle.dsdl_given.specs.Given.{definitions}
use Rattle.dsdl_signature.specs.Call.{Answer, answer_of, faulty, record_of, records_of}

-- definitions, each a name and a text
pub data Set : Type 0 where
  end : Set
  given : String → String → Set → Set

unfoldable pub source_of : Set → List ℕ
source_of end = []
source_of (given name text s) = chars name ++ (chars text ++ source_of s)

unfoldable pub lengths_of : Set → List ℕ
lengths_of end = []
lengths_of (given name text s) = length (chars name) ∷ (length (chars text) ∷ lengths_of s)

-- with room for eight records
abbrev pub call : Set → ℕ → Answer
call s room = answer_of (source_of s) (lengths_of s) room 8

-- the records of a set
abbrev pub records_in : Set → List ℕ
records_in s = records_of (definitions (source_of s) (lengths_of s)) (definitions (source_of s) (lengths_of s))

pub record Samples : Type 0 where
  pub nothing : call end 0 ≡ Ok tt
  pub nests : call (given "a.T" "U x\na.b.V[2] y" (given "a.U" "uint8 x" (given "a.b.V" "bool x" end))) 200 ≡ Ok tt
  pub room : call (given "a.T" "void1" end) 8 ≡ Err Short
  pub enough : call (given "a.T" "void1" end) 9 ≡ Ok tt
  pub twice : call (given "a.T" "" (given "a.T" "?" end)) 200 ≡ Err Oversized
  pub second : call (given "a.T" "" (given "a.U" "\n?" end)) 200 ≡ faulty 2 2
  pub name : call (given "T" "" end) 200 ≡ faulty 1 0
  pub missing : call (given "a.T" "U x" end) 200 ≡ Err Missing
  pub service : call (given "a.T" "U x" (given "a.U" "---" end)) 200 ≡ Err Missing
  pub itself : call (given "a.T" "T x" end) 200 ≡ Err Deep
  pub circle : call (given "a.T" "U x" (given "a.U" "T x" end)) 200 ≡ Err Deep
  pub four : call (given "a.A" "B x" (given "a.B" "C x" (given "a.C" "D x" (given "a.D" "" end)))) 200 ≡ Ok tt
  pub five : call (given "a.A" "B x" (given "a.B" "C x" (given "a.C" "D x" (given "a.D" "E x" (given "a.E" "" end))))) 200 ≡ Err Deep
  -- the public numbers of RawCommand and LogMessage
  pub raw_command : records_in (given "uavcan.equipment.esc.RawCommand" "int14[<=20] cmd" end) ≡ record_of 57 0x217F5C87D7EC951D
  pub log_message :
      records_in (given "uavcan.protocol.debug.LogLevel" "uint3 value" (given "uavcan.protocol.debug.LogMessage" "LogLevel level\nuint8[<=31] source\nuint8[<=90] text" end))
      ≡ record_of 52 0x711BF141AF572346 ++ record_of 125 0xD654A48E0C049D75

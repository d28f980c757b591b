-- RULES 17.14: sample values, as one list with one claim.
use Rattle.std.specs.Prelude.{◌≡◌, Bool, true, ◌&&◌, List, [], ◌∷◌, ℕ, eqb}
use Prim.Native.String.{String}
use Rattle.dsdl_text.specs.Text.{chars, same}
use Rattle.dsdl.specs.Definition.{fault_in}
use Rattle.dsdl.specs.Form.{form_of}

-- a definition, and its form or its line at fault
pub data Sample : Type 0 where
  formed : String → String → String → Sample
  faulty : String → ℕ → Sample

abbrev pub is_right : Sample → Bool
is_right (formed name text form) = eqb (fault_in (chars text)) 0 && same (form_of (chars name) (chars text)) (chars form)
is_right (faulty text line) = eqb (fault_in (chars text)) line

unfoldable pub are_right : List Sample → Bool
are_right [] = true
are_right (s ∷ ss) = is_right s && are_right ss

unfoldable pub samples : List Sample
samples =
    formed "root.A" "#\n# A header comment.\n#\n   @union\nfloat16    foo\nfloat16 BAR = 12.34 # This is BAR\n  truncated   uint8 bar\nint32 FOO = - 42"
    "root.A\n@union\nsaturated float16 foo\ntruncated uint8 bar"
    ∷ formed "root.A"
    "B foobar\n  float16 foo\nfloat16 BAR = 12.34 # This is BAR\n---\ntruncated uint8 foo\nint32 BAR = -42\nroot.ns1.B baz"
    "root.A\nroot.B foobar\nsaturated float16 foo\n---\ntruncated uint8 foo\nroot.ns1.B baz"
    ∷ formed "a.T" "uint8[<9] x\r\nbool[0x10] y\rB[<=+3] z\nvoid7\nuint65 w" "a.T\nsaturated uint8[<=8] x\nsaturated bool[16] y\na.B[<=3] z\nvoid7\na.uint65 w"
    ∷ formed "a.T" "uint8 A = 255\nuint8 B = 1e2\nbool C = 1.0\nint8 D = - 128\nuint8 E = '\\x7f'\nfloat16 F = 65519.99\nuint8 G = ' ' #" "a.T"
    ∷ formed "a.T" "" "a.T"
    ∷ formed "a.T" "---" "a.T\n---"
    ∷ faulty "uint8 X = 256" 1
    ∷ faulty "\nuint8 X = 1.5" 2
    ∷ faulty "bool X = 2" 1
    ∷ faulty "int8 X = 128" 1
    ∷ faulty "uint8 X = -0" 1
    ∷ faulty "uint8 X = '#'" 1
    ∷ faulty "float16 X = 65520" 1
    ∷ faulty "\r\n\runion" 3
    ∷ faulty "uint8 X=1" 1
    ∷ faulty "saturated B x" 1
    ∷ faulty "void5 x" 1
    ∷ faulty "uint8 [3] x" 1
    ∷ faulty "uint8[0] x" 1
    ∷ faulty "uint8[<1] x" 1
    ∷ faulty "uint8[-3] x" 1
    ∷ faulty "uint8 9x" 1
    ∷ faulty "@union 1" 1
    ∷ faulty "# one field\n@union\nuint8 x\nuint8 X = 1\n---\nuint8 x" 2
    ∷ faulty "uint8 x\nuint8 x" 2
    ∷ faulty "uint8 x\n@union\nuint8 y" 2
    ∷ faulty "uint8 x\n---\nuint8 x\n---" 4
    ∷ []

pub record Samples : Type 0 where
  pub right : are_right samples ≡ true

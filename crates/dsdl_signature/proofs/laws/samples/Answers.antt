-- `laws::samples` meets its contract: by computing.
use mathlib.Core.Path.{refl}
use Rattle.dsdl_signature.specs.Samples.{source_of, lengths_of}
use Rattle.dsdl_given.specs.Given.{definitions, name_twice, too_long, oversized, fault_from}
use Rattle.dsdl_nesting.specs.Nesting.{is_given, every_name, every_one, find, within}
use Rattle.dsdl_signature.specs.Call.{forms, records_of}
use Rattle.dsdl_nesting.specs.Signature.{extended_by, signature_within}
use Rattle.checksum.specs.Signature.{hash_from, extended}
use Rattle.checksum.specs.Crc.{shift, shifts, crc_byte, crc_over}
use Rattle.bits.specs.Little.{le_bytes}
use lib.Bits.{bit_xor}
use Rattle.dsdl.specs.Definition.{fault_from as line_fault, is_among, verdict, is_service}
use Rattle.dsdl.specs.Form.{line_form, lines_form, nested_types}
use Rattle.dsdl_text.specs.Text.{same}
use Rattle.dsdl_text.specs.Class.{is_in, run}
use Rattle.dsdl_text.specs.Lines.{lines_after}
use Rattle.dsdl_text.specs.Names.{dotted_from, last_dot}
use Rattle.dsdl_number.specs.Integer.{value_from, base_of as integer_base}
use Rattle.dsdl_number.specs.Number.{is_floating, floating, quoted, initializer}
use Rattle.dsdl_type.specs.Base.{base_of}
use Rattle.dsdl_type.specs.Size.{items, size_form}
use Rattle.dsdl_type.specs.Constant.{holds}
use Rattle.dsdl_line.specs.Line.{shape_of}
use Rattle.digits.specs.Digits.{glyph, digits, count_in, count_of, decimal}
use Rattle.dsdl_signature.proofs.laws.samples.Goals as goal

pub returns : goal.returns
unfolding source_of lengths_of definitions name_twice too_long oversized fault_from is_given every_name every_one find within forms records_of extended_by signature_within hash_from extended shift shifts crc_byte crc_over le_bytes bit_xor line_fault is_among verdict is_service line_form lines_form nested_types same is_in run lines_after dotted_from last_dot value_from integer_base is_floating floating quoted initializer base_of items size_form holds shape_of glyph digits count_in count_of decimal
returns c = record { nothing = refl; nests = refl; room = refl; enough = refl; twice = refl; second = refl; name = refl; missing = refl; service = refl; itself = refl; circle = refl; four = refl; five = refl; raw_command = refl; log_message = refl }

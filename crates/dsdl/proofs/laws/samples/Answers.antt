-- `laws::samples` meets its contract: by computing.
use mathlib.Core.Path.{refl}
use Rattle.dsdl.specs.Samples.{samples, are_right}
use Rattle.dsdl.specs.Definition.{fault_from, is_among}
use Rattle.dsdl.specs.Form.{line_form, lines_form}
use Rattle.dsdl_text.specs.Text.{same}
use Rattle.dsdl_text.specs.Class.{is_in, run}
use Rattle.dsdl_text.specs.Lines.{lines_after}
use Rattle.dsdl_text.specs.Names.{dotted_from, last_dot}
use Rattle.dsdl_number.specs.Integer.{value_from, base_of as integer_base}
use Rattle.dsdl_number.specs.Number.{is_floating, floating, quoted, initializer}
use Rattle.dsdl_type.specs.Base.{base_of}
use Rattle.dsdl_type.specs.Size.{items, size_form}
use Rattle.dsdl_type.specs.Constant.{holds}
use Rattle.dsdl_line.specs.Line.{shape_of}
use Rattle.digits.specs.Digits.{glyph, digits, count_in, count_of, decimal}
use Rattle.dsdl.proofs.laws.samples.Goals as goal

pub returns : goal.returns
unfolding samples are_right fault_from is_among line_form lines_form same is_in run lines_after dotted_from last_dot value_from integer_base is_floating floating quoted initializer base_of items size_form holds shape_of glyph digits count_in count_of decimal
returns c = record { right = refl }

-- `get_node_info_response::write_numbers` meets its contract: the fields follow each other.
use Rattle.protocol.proofs.ResponseWriteFacts.{stored-numbers}
use Rattle.shape.proofs.CastFacts.{number-given}
use Rattle.protocol.proofs.get_node_info_response.write_numbers.Goals as goal

pub returns : goal.returns
returns c =
    let m = c.args.m in
    let v = m.software_version in
    let m₀ = c.args.out.now in
    let m₁ = c.write_front.new.out in
    let m₂ = c.write.new.s in
    let m₃ = c.write-2.new.s in
    let m₄ = c.write-3.new.s in
    let m₅ = c.write-4.new.s in
    let m₆ = c.write-5.new.s in
    let m₇ = c.write-6.new.s in
    let m₈ = c.write-7.new.s in
    stored-numbers m m₀ m₁ m₂ m₃ m₄ m₅ m₆ m₇ m₈ c.requires c.write_front.ensures
    (number-given m₁ m₂ 56 8 v.major (record { sfits = c.struct_told-1.given.0.1 }) c.write.ensures)
    (number-given m₂ m₃ 64 8 v.minor (record { sfits = c.struct_told-2-1.given.1.0.1 }) c.write-2.ensures)
    (number-given m₃ m₄ 72 8 v.optional_field_flags (record { sfits = c.struct_told-3-1.given.1.1.0.1 }) c.write-3.ensures)
    (number-given m₄ m₅ 80 32 v.vcs_commit (record { sfits = c.struct_told-4-1.given.1.1.1.0.1 }) c.write-4.ensures)
    c.write-5.ensures
    (number-given m₆ m₇ 176 8 m.hardware_version_major (record { sfits = c.struct_told-5-1.given.1.1.0.1 }) c.write-6.ensures)
    (number-given m₇ m₈ 184 8 m.hardware_version_minor (record { sfits = c.struct_told-6-1.given.1.1.1.0.1 }) c.write-7.ensures)

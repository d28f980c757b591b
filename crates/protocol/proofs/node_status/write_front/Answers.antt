-- `node_status::write_front` meets its contract: the fields follow each other.
use Rattle.protocol.proofs.NodeStatusFacts.{stored}
use native.Mathlib.Omega.{arith}
use Rattle.shape.proofs.CastFacts.{number-given}
use Rattle.protocol.proofs.node_status.write_front.Goals as goal

pub returns : goal.returns
returns c =
    let a = c.args in
    let m₀ = a.out.now in
    let m₁ = c.write.new.s in
    let m₂ = c.write-2.new.s in
    let m₃ = c.write-3.new.s in
    let m₄ = c.write-4.new.s in
    let m₅ = c.write-5.new.s in
    stored a.x m₀ m₁ m₂ m₃ m₄ m₅ (omega arith)
    (number-given m₀ m₁ 0 32 a.x.uptime_sec (record { sfits = c.struct_told-1.given.0.1 }) c.write.ensures)
    (number-given m₁ m₂ 32 2 a.x.health (record { sfits = c.struct_told-2-1.given.1.0.1 }) c.write-2.ensures)
    (number-given m₂ m₃ 34 3 a.x.mode (record { sfits = c.struct_told-3-1.given.1.1.0.1 }) c.write-3.ensures)
    c.write-4.ensures
    (number-given m₄ m₅ 40 16 a.x.vendor_specific_status_code (record { sfits = c.struct_told-4-1.given.1.1.1.1.0.1 }) c.write-5.ensures)

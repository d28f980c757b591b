-- `serve::confirm` meets its contract.
use mathlib.Core.Path.{ap, ◌∙◌}
use mathlib.Core.List.{List}
use Prim.Native.Nat.{ℕ}
use lib.IntN.{pos}
use lib.ListN.{length}
use Rattle.std.specs.Prelude.{Some, Ok}
use Rattle.shape.specs.Shape.{encoded}
use Rattle.protocol_dynamic_node_id.specs.Allocation.{allocation}
use Rattle.allocator_table.specs.Layout.{with_time, with_count}
use Rattle.allocator.specs.Allocate.{returned, performs}
use Rattle.allocator.proofs.Replies.{node-sent, refused-reply, wrote-reply}
use Rattle.allocator.proofs.serve.confirm.Goals as goal

pub returns-in_err-n : goal.returns-in_err-n
unfolding performs
returns-in_err-n c =
    let a = c.args in
    let r = c.from_residual in
    refused-reply a.state.now (with_time (with_count a.state.now 0) a.t) a.out.now c.encode.new.out
    (encoded allocation (pos a.node, (pos 0, a.g.now)) (length a.out.now)) c.in_err-n.field-0.0 (c.in_err-n.ensures ∙ node-sent a.node a.g.now a.out.now c.requires.1) r.result r.ensures.1

pub returns : goal.returns
unfolding performs
returns c =
    let a = c.args in
    let n = c.in_ok-n.n in
    let o = c.encode.new.out in
    ap (λ (x : List ℕ). returned (Ok (Some n)) x o) (c.time.ensures ∙ ap (λ (x : List ℕ). with_time x a.t) c.gathered_count.ensures)
    ∙ wrote-reply a.state.now (with_time (with_count a.state.now 0) a.t) a.out.now o
    (encoded allocation (pos a.node, (pos 0, a.g.now)) (length a.out.now)) n (c.in_ok-n.ensures ∙ node-sent a.node a.g.now a.out.now c.requires.1)

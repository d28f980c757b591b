-- `store::run` meets its contract: what is in front moves up, and the records go between.
use mathlib.Core.Path.{ap, ◌∙◌}
use Prim.Native.Nat.{ℕ}
use Rattle.queue.specs.Layout.{queued}
use Rattle.queue.specs.inside.Run.{behind}
use Rattle.queue.proofs.Bytes.{put_in}
use Rattle.queue.proofs.store.run.Goals as goal

pub returns : goal.returns
returns c =
    let a = c.args in
    put_in a.queue.now a.records.now a.n a.i a.e c.place-p.result c.requires.run c.place-p.ensures.0 c.requires.frame_record_in_bounds.0 c.requires.frame_record_in_bounds.1
    (c.place-p.ensures.1 ∙ ap (λ (x : ℕ). behind x (queued a.queue.now a.n)) c.id.ensures) c.up.new.s c.copy.new.queue c.up.ensures c.copy.ensures

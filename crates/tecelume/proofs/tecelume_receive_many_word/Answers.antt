-- `tecelume_receive_many_word` meets its contract: the proved call, its answer as a word.
use mathlib.Core.Path.{sym, ap, subst, ◌∙◌}
use Prim.Native.Nat.{ℕ, ◌≤◌}
use Rattle.tecelume.specs.Entry.{packed_many}
use Rattle.batch.proofs.Calls.{used-few}
use Rattle.batch.specs.Answer.{used_in}
use Rattle.batch.specs.Layout.{records_max}
use Rattle.batch.specs.Many.{Called}
use Rattle.tecelume.proofs.tecelume_receive_many_word.Goals as goal

pub of_progress-requires : goal.of_progress-requires
of_progress-requires c =
    let a = c.args in
    let few = used-few a.state.now a.records.now a.results.now a.out.now in
    subst (λ (x : Called). used_in x.answer ≤ records_max) (sym c.receive_many.ensures) few

pub returns : goal.returns
returns c =
    ap (λ (w : ℕ). record { word = w; state = c.receive_many.new.state; results = c.receive_many.new.results; out = c.receive_many.new.out })
    c.of_progress.ensures ∙ ap packed_many c.receive_many.ensures

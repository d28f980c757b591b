-- `tecelume_receive_word` meets its contract: the proved call, its answer as a word.
use mathlib.Core.Path.{sym, ap, subst, ◌∙◌}
use Prim.Native.Nat.{ℕ}
use Rattle.tecelume.specs.Entry.{entry, packed}
use Rattle.answers.specs.Word.{Fits}
use Rattle.batch.proofs.Fits.{received-fits}
use Rattle.receiver.specs.Receive.{Result, arrival_of}
use Rattle.tecelume.proofs.tecelume_receive_word.Goals as goal

pub of_answer-requires : goal.of_answer-requires
of_answer-requires c =
    let a = c.args in
    let fits = received-fits a.state.now (arrival_of a.id a.frame.now a.interface a.time) a.out.now in
    subst (λ (x : Result). Fits x.answer) (sym c.receive.ensures) fits

pub returns : goal.returns
returns c =
    ap (λ (w : ℕ). entry w c.receive.new.state c.receive.new.out) c.of_answer.ensures ∙ ap packed c.receive.ensures

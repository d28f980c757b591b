-- `tecelume_allocate_word` meets its contract: the proved call, its answer as a word.
use mathlib.Core.Path.{sym, ap, subst, ◌∙◌}
use Prim.Native.Nat.{ℕ}
use Rattle.allocator.specs.Allocate.{Result}
use Rattle.allocator.specs.Calls.{Call}
use Rattle.allocator.specs.Laws.{Range}
use Rattle.allocator.proofs.Ranges.{answers-in-range}
use Rattle.tecelume.specs.Entry.{entry, packed_allocation}
use Rattle.tecelume.proofs.tecelume_allocate_word.Goals as goal

pub of_allocation-requires : goal.of_allocation-requires
of_allocation-requires c =
    let a = c.args in
    let call : Call =
    record {
      request = record { reserved = record { own = a.own; low = a.marks_low; high = a.marks_high }; source = a.source; time = a.time };
      payload = a.payload.now;
      out = a.out.now;
    } in
    subst (λ (r : Result). Range r.answer) (sym c.allocate.ensures) (answers-in-range a.state.now call)

pub returns : goal.returns
returns c =
    ap (λ (w : ℕ). entry w c.allocate.new.state c.allocate.new.out) c.of_allocation.ensures ∙ ap packed_allocation c.allocate.ensures

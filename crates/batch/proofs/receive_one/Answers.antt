-- `receive_one` meets its contract: the frame of the record is received, and the state has no fault after it.
use mathlib.Core.Path.{◌≡◌, sym, ap, subst, ◌∙◌}
use mathlib.Core.Bool.{true}
use native.Mathlib.Omega.{arith}
use Prim.Native.Nat.{◌+◌, ◌*◌}
use Rattle.answers.specs.Word.{word_of, Fits}
use Rattle.batch.proofs.Fits.{received-fits}
use Rattle.batch.proofs.One.{tested, arrival-read, arrival-typed}
use Rattle.batch.specs.Layout.{arrival_at}
use Rattle.bits.proofs.Octets.{octets-all}
use Rattle.receiver.specs.Receive.{Result, returned, arriving, lent, received}
use Rattle.rules.specs.Frame.{Arrival}
use Rattle.rules.specs.Reception.{step}
use Rattle.state.specs.Layout.{setup_of, places_of}
use Rattle.state.specs.Sound.{sound_state}
use Rattle.batch.proofs.receive_one.Goals as goal
use Rattle.batch.proofs.receive_one.Goals.{After-receive_sound}

-- what is received is the frame of the record
gives : (c : After-receive_sound) → returned c.receive_sound.result c.receive_sound.new.state c.receive_sound.new.out ≡ received c.args.state.now (arrival_at c.args.records.now c.args.i) c.args.out.now
gives c =
    let m = c.args.state.now in
    let r = c.args.records.now in
    let o = c.args.out.now in
    c.receive_sound.ensures
    ∙ ap (λ (f : Arrival). lent m o (step (setup_of m) (places_of m) (arriving f o)))
    (arrival-read r c.args.i c.get_u32.result c.data_length.result c.get_u64.result
    c.get_u32.ensures c.data_length.ensures.0 c.get_u64.ensures)
    ∙ sym (tested m (arrival_at r c.args.i) o c.requires.0)

sound-after : (c : After-receive_sound) → sound_state c.receive_sound.new.state ≡ true
sound-after c =
    let r = c.args.records.now in
    ap (λ (x : Result). sound_state x.state) (gives c)
    ∙ (c.state_lasts.ensures c.args.state.now (arrival_at r c.args.i) c.args.out.now c.requires.0
    (octets-all c.args.state.now (λ k. omega (arith, c.slice_known-1.given k)))
    (arrival-typed r c.args.i (octets-all r (λ k. omega (arith, c.shared_slice_known-1.given k))) c.requires.1)).0

pub overflow_cast-records : goal.overflow_cast-records
overflow_cast-records c = omega (arith, c.shared_slice_known-3-1.given (c.args.i * 24 + 12))

pub of_answer-requires : goal.of_answer-requires
of_answer-requires c =
    let a = c.args in
    subst (λ (x : Result). Fits x.answer) (sym (gives (goal.at.of_answer-requires c).After-receive_sound)) (received-fits a.state.now (arrival_at a.records.now a.i) a.out.now)

pub returns : goal.returns
returns c =
    record {
      word = c.of_answer.ensures ∙ ap (λ (x : Result). word_of x.answer) (gives (goal.at.returns c).After-receive_sound);
      state = ap (λ (x : Result). x.state) (gives (goal.at.returns c).After-receive_sound);
      out = ap (λ (x : Result). x.out) (gives (goal.at.returns c).After-receive_sound);
      sound = sound-after (goal.at.returns c).After-receive_sound;
    }
